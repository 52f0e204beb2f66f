-- Expansion gives checked trees, in which only functions are given to symbols.
use Rattle.std.specs.Prelude.{◌≡◌, ℕ, zero, suc, true, List, [], ◌∷◌, ◌++◌, All}
use Rattle.std.proofs.Common.{refl, sym, subst}
use Rattle.std.proofs.lemmas.List.Elements.{All-nil, All-cons, All-weaker}
use Rattle.lisp_base.specs.declared.values.SymId.{SymId}
use Rattle.lisp_base.specs.declared.values.Val.{Val}
use Rattle.core_form.specs.Tree as tree
use Rattle.core_form.specs.Tree.{Core, Cores, cores_length, define, no_definition}
use Rattle.core_form.specs.Facts.{has_number}
use Rattle.core_form.specs.Checked as checked
use Rattle.core_form.specs.Checked.{is_checked}
use Rattle.core_form.specs.Lawful.{gives_function}
use Rattle.expansion.specs.declared.heads.Binary.{Binary}
use Rattle.expansion.specs.declared.heads.Many.{Many}
use Rattle.expansion.specs.declared.heads.Calling.{Calling}
use Rattle.expansion.specs.declared.heads.Target.{Target}
use Rattle.expansion.specs.declared.heads.Target.TheVariants.{Lexical, Global}
use Rattle.expansion.specs.declared.kind.ExpandKind.TheVariants.{TooNested}
use Rattle.expansion.specs.Scopes.{Scope, declared_in}
use Rattle.expansion.specs.Steps.{World, Step, inside, most_chain}
use Rattle.expansion.specs.Sketches.{Unary, Sketches, Sketch, form, leaf, one, two, choice, many, calling, bind, assign, function, functions, recursive, block, tagbody, within, leaf_node, unary_node, binary_node, many_node, calling_node, Function, Plan, instead, declared_around, makes}
use Rattle.expansion.specs.Forms.{plan_of}
use Rattle.expansion.specs.Expanding.{Inner, recursive_node, go_on, followed, planned, expand, make}
use Rattle.expansion_laws.specs.CheckedTrees.{Means, Holds, TreesAreChecked, SymbolsHaveFunctions}
use Rattle.expansion_laws.specs.Planned.{Planned}
use Rattle.expansion_laws.proofs.Giving.{given_has, weaker, anything, given_both, Has, then_has, after_has, skip_has, pure_has, look_has, refuse_has}
use Rattle.expansion_laws.proofs.Planning.{plan_derived}
use Rattle.expansion_laws.proofs.Among.{first_there, later_there, among_right}
use Rattle.expansion_laws.proofs.Holding.{holds_at, holds_declared}
use Rattle.expansion_laws.proofs.CheckedSketches.{sketches_length, IsRecursive, FineUnary, FineMany, FineCalling, Fine, FineAll, FineFunction, set_variable_fine}
use Rattle.expansion_laws.proofs.CheckedPlans.{FinePlan, planned_fine}
use Rattle.expansion_laws.proofs.CheckedNodes.{GoodCore, GoodLambda, leaf_good, unary_good, binary_good, choice_good, many_good, calling_good, function_good}
use Rattle.expansion_laws.proofs.CheckedParts.{MakesGood, GoodRow, each_good, binding_node_good, function_tree_good, functions_node_good, recursive_node_good, block_node_good, tagbody_node_good}

-- ---- the function that a definition gives to its name

recursive_node_gives : (levels : ℕ) (inner : Inner) (sc : Scope) (s : SymId) (f : Function) → Has (λ (e : Core). gives_function e ≡ true) (recursive_node levels inner sc s f)
unfolding recursive_node
recursive_node_gives levels inner sc s f =
    after_has (λ (e : Core). gives_function e ≡ true) _ _ (λ n. after_has (λ (e : Core). gives_function e ≡ true) _ _ (λ l.
    skip_has (λ (e : Core). gives_function e ≡ true) _ _ (pure_has (λ (e : Core). gives_function e ≡ true) (tree.Labels sc.place (define sc.place n s l no_definition) (tree.FunLocal sc.place n)) refl)))

abbrev GivesFunction : Sketch → Core → Type 0
GivesFunction x e = IsRecursive x → gives_function e ≡ true

-- nothing is said of any other sketch
not_recursive : (x : Sketch) → (IsRecursive x → ⊥) → (m : Step Core) → Has (GivesFunction x) m
not_recursive x other m w = weaker (λ (e : Core) (u : World). Unit {0}) (λ (e : Core) (u : World). GivesFunction x e) (m w) (anything (m w)) (λ e u _ is. absurd (other is))

recursive_gives : (fuel levels : ℕ) (sc : Scope) (x : Sketch) → Has (GivesFunction x) (make fuel levels sc x)
unfolding make expand
recursive_gives zero levels sc x = refuse_has (GivesFunction x) TooNested sc
recursive_gives (suc fuel) levels sc (form v) = not_recursive (form v) (λ h. h) _
recursive_gives (suc fuel) levels sc (leaf l) = not_recursive (leaf l) (λ h. h) _
recursive_gives (suc fuel) levels sc (one u x) = not_recursive (one u x) (λ h. h) _
recursive_gives (suc fuel) levels sc (two b x y) = not_recursive (two b x y) (λ h. h) _
recursive_gives (suc fuel) levels sc (choice x y z) = not_recursive (choice x y z) (λ h. h) _
recursive_gives (suc fuel) levels sc (many m xs) = not_recursive (many m xs) (λ h. h) _
recursive_gives (suc fuel) levels sc (calling c x xs) = not_recursive (calling c x xs) (λ h. h) _
recursive_gives (suc fuel) levels sc (bind bs x) = not_recursive (bind bs x) (λ h. h) _
recursive_gives (suc fuel) levels sc (assign s v) = not_recursive (assign s v) (λ h. h) _
recursive_gives (suc fuel) levels sc (function f) = not_recursive (function f) (λ h. h) _
recursive_gives (suc fuel) levels sc (functions reach vs x) = not_recursive (functions reach vs x) (λ h. h) _
recursive_gives (suc fuel) levels sc (recursive s f) = λ w. weaker (λ (e : Core) (u : World). gives_function e ≡ true) (λ (e : Core) (u : World). GivesFunction (recursive s f) e) (recursive_node levels (make fuel) sc s f w) (recursive_node_gives levels (make fuel) sc s f w) (λ e u h _. h)
recursive_gives (suc fuel) levels sc (block s x) = not_recursive (block s x) (λ h. h) _
recursive_gives (suc fuel) levels sc (tagbody vs) = not_recursive (tagbody vs) (λ h. h) _
recursive_gives (suc fuel) levels sc (within d x) = not_recursive (within d x) (λ h. h) _

-- ---- nodes

module _ (fuel : ℕ) (makes_good : MakesGood (make fuel)) (levels : ℕ) (sc : Scope) (round : checked.Scope) (holds : Holds sc round) where
  inner_good : (x : Sketch) → Fine round x → Has (GoodCore round) (make fuel (inside levels) sc x)
  inner_good x fine = makes_good (inside levels) sc round x holds fine

  one_good : (u : Unary) (x : Sketch) → FineUnary round u x → Fine round x → Has (GoodCore round) (make (suc fuel) levels sc (one u x))
  unfolding make expand
  one_good u x here fine =
      then_has (λ (e : Core). GoodCore round e × GivesFunction x e) (GoodCore round) _ _
      (skip_has (λ (e : Core). GoodCore round e × GivesFunction x e) _ _ (λ w. given_both (GoodCore round) (GivesFunction x) (make fuel (inside levels) sc x w) (inner_good x fine w) (recursive_gives fuel (inside levels) sc x w))) (λ e h.
      pure_has (GoodCore round) (unary_node u sc.place e) (unary_good round u x sc.place e here h.0 h.1))

  two_good : (b : Binary) (x y : Sketch) → Fine round x → Fine round y → Has (GoodCore round) (make (suc fuel) levels sc (two b x y))
  unfolding make expand
  two_good b x y h k =
      then_has (GoodCore round) (GoodCore round) _ _ (skip_has (GoodCore round) _ _ (inner_good x h)) (λ e g.
      then_has (GoodCore round) (GoodCore round) _ _ (inner_good y k) (λ f i.
      pure_has (GoodCore round) (binary_node b sc.place e f) (binary_good round b sc.place e f g i)))

  three_good : (x y z : Sketch) → Fine round x → Fine round y → Fine round z → Has (GoodCore round) (make (suc fuel) levels sc (choice x y z))
  unfolding make expand
  three_good x y z h k l =
      then_has (GoodCore round) (GoodCore round) _ _ (skip_has (GoodCore round) _ _ (inner_good x h)) (λ a f.
      then_has (GoodCore round) (GoodCore round) _ _ (inner_good y k) (λ b g.
      then_has (GoodCore round) (GoodCore round) _ _ (inner_good z l) (λ c i.
      pure_has (GoodCore round) (tree.If sc.place a b c) (choice_good round sc.place a b c f g i))))

  row_good : (m : Many) (xs : Sketches) → FineMany round m (sketches_length xs) → FineAll round xs → Has (GoodCore round) (make (suc fuel) levels sc (many m xs))
  unfolding make expand
  row_good m xs here fine =
      then_has (GoodRow round (sketches_length xs)) (GoodCore round) _ _ (skip_has (GoodRow round (sketches_length xs)) _ _ (each_good round (make fuel (inside levels) sc) inner_good xs fine)) (λ es h.
      pure_has (GoodCore round) (many_node m sc.place es) (many_good round m sc.place es (subst (λ (n : ℕ). FineMany round m n) (sym h.1) here) h.0))

  calls_good : (c : Calling) (x : Sketch) (xs : Sketches) → FineCalling c (sketches_length xs) → Fine round x → FineAll round xs → Has (GoodCore round) (make (suc fuel) levels sc (calling c x xs))
  unfolding make expand
  calls_good c x xs here fine each_fine =
      then_has (GoodCore round) (GoodCore round) _ _ (skip_has (GoodCore round) _ _ (inner_good x fine)) (λ e h.
      then_has (GoodRow round (sketches_length xs)) (GoodCore round) _ _ (each_good round (make fuel (inside levels) sc) inner_good xs each_fine) (λ es k.
      pure_has (GoodCore round) (calling_node c sc.place e es) (calling_good round c sc.place e es (subst (λ (n : ℕ). FineCalling c n) (sym k.1) here) h k.0)))

  function_node_good : (f : Function) → FineFunction round f → Has (GoodCore round) (make (suc fuel) levels sc (function f))
  unfolding make expand
  function_node_good f fine =
      then_has (GoodLambda round) (GoodCore round) _ _ (function_tree_good (make fuel) makes_good levels sc round f holds fine) (λ l h.
      pure_has (GoodCore round) (tree.Function sc.place l) (function_good round sc.place l h))

-- ---- all forms and sketches

-- what expands a form where so many more may follow one another gives checked trees
abbrev ExpandsGood : (ℕ → Scope → Val → Step Core) → Type 0
ExpandsGood expand = (chain : ℕ) (sc : Scope) (round : checked.Scope) (v : Val) → Holds sc round → Has (GoodCore round) (expand chain sc v)

go_on_good : (expand : ℕ → Scope → Val → Step Core) → ExpandsGood expand → (chain : ℕ) (sc own : Scope) (round : checked.Scope) (v : Val) → Holds own round → Has (GoodCore round) (go_on expand chain sc own v)
unfolding go_on
go_on_good expand good zero sc own round v holds = refuse_has (GoodCore round) TooNested sc
go_on_good expand good (suc chain) sc own round v holds = good chain own round v holds

followed_good : (expand : ℕ → Scope → Val → Step Core) (make : Scope → Sketch → Step Core) → ExpandsGood expand → ((sc : Scope) (round : checked.Scope) (x : Sketch) → Holds sc round → Fine round x → Has (GoodCore round) (make sc x)) → (chain : ℕ) (sc : Scope) (round : checked.Scope) (p : Plan) → Holds sc round → FinePlan round p → Has (GoodCore round) (followed expand make chain sc p)
unfolding followed
followed_good expand make good makes_good chain sc round (instead v) holds fine = go_on_good expand good chain sc sc round v holds
followed_good expand make good makes_good chain sc round (declared_around d v) holds fine = go_on_good expand good chain sc (declared_in d sc) round v (holds_declared d sc round holds)
followed_good expand make good makes_good chain sc round (makes x) holds fine = makes_good sc round x holds fine

plan_fine : (sc : Scope) (round : checked.Scope) (v : Val) → Holds sc round → Has (FinePlan round) (plan_of sc v)
plan_fine sc round v holds w = weaker (Planned sc w v) (λ (p : Plan) (u : World). FinePlan round p) (plan_of sc v w) (plan_derived sc w v) (λ p u by. planned_fine round sc holds w v p u by)

planned_good : (expand : ℕ → Scope → Val → Step Core) (make : Scope → Sketch → Step Core) → ExpandsGood expand → ((sc : Scope) (round : checked.Scope) (x : Sketch) → Holds sc round → Fine round x → Has (GoodCore round) (make sc x)) → (chain : ℕ) (sc : Scope) (round : checked.Scope) (v : Val) → Holds sc round → Has (GoodCore round) (planned expand make chain sc v)
unfolding planned
planned_good expand make good makes_good chain sc round v holds =
    then_has (FinePlan round) (GoodCore round) _ _ (plan_fine sc round v holds) (λ p fine. followed_good expand make good makes_good chain sc round p holds fine)

mutual
  unfolding expand make

  expand_good : (fuel levels : ℕ) → ExpandsGood (expand fuel levels)
  expand_good zero levels chain sc round v holds = refuse_has (GoodCore round) TooNested sc
  expand_good (suc fuel) levels chain sc round v holds =
      then_has (λ (own : Scope). Holds own round) (GoodCore round) _ _ (look_has (λ (own : Scope). Holds own round) _ (λ w. holds_at w.heap v sc round holds)) (λ own h.
      planned_good (expand fuel levels) (make fuel levels) (λ c s r x k. expand_good fuel levels c s r x k) (λ s r x k fine. make_good fuel levels s r x k fine) chain own round v h)

  make_good : (fuel : ℕ) → MakesGood (make fuel)
  make_good zero levels sc round x holds fine = refuse_has (GoodCore round) TooNested sc
  make_good (suc fuel) levels sc round (form v) holds fine = expand_good fuel levels most_chain sc round v holds
  make_good (suc fuel) levels sc round (leaf l) holds fine = skip_has (GoodCore round) _ _ (pure_has (GoodCore round) (leaf_node l sc.place) (leaf_good round l sc.place fine))
  make_good (suc fuel) levels sc round (one u x) holds fine = one_good fuel (λ n s r y h f. make_good fuel n s r y h f) levels sc round holds u x fine.0 fine.1
  make_good (suc fuel) levels sc round (two b x y) holds fine = two_good fuel (λ n s r z h f. make_good fuel n s r z h f) levels sc round holds b x y fine.0 fine.1
  make_good (suc fuel) levels sc round (choice x y z) holds fine = three_good fuel (λ n s r a h f. make_good fuel n s r a h f) levels sc round holds x y z fine.0 fine.1.0 fine.1.1
  make_good (suc fuel) levels sc round (many m xs) holds fine = row_good fuel (λ n s r y h f. make_good fuel n s r y h f) levels sc round holds m xs fine.0 fine.1
  make_good (suc fuel) levels sc round (calling c x xs) holds fine = calls_good fuel (λ n s r y h f. make_good fuel n s r y h f) levels sc round holds c x xs fine.0 fine.1.0 fine.1.1
  make_good (suc fuel) levels sc round (bind bs x) holds fine = binding_node_good (make fuel) (λ n s r y h f. make_good fuel n s r y h f) levels sc round bs x holds fine
  make_good (suc fuel) levels sc round (assign s v) holds fine =
      then_has (Fine round) (GoodCore round) _ _ (look_has (Fine round) _ (λ w. set_variable_fine round sc s v w holds)) (λ x f. make_good fuel levels sc round x holds f)
  make_good (suc fuel) levels sc round (function f) holds fine = function_node_good fuel (λ n s r y h k. make_good fuel n s r y h k) levels sc round holds f fine
  make_good (suc fuel) levels sc round (functions reach vs x) holds fine = functions_node_good (make fuel) (λ n s r y h f. make_good fuel n s r y h f) levels sc round reach vs x holds fine
  make_good (suc fuel) levels sc round (recursive s f) holds fine = recursive_node_good (make fuel) (λ n t r y h k. make_good fuel n t r y h k) levels sc round s f holds fine
  make_good (suc fuel) levels sc round (block s x) holds fine = block_node_good (make fuel) (λ n t r y h f. make_good fuel n t r y h f) levels sc round s x holds fine
  make_good (suc fuel) levels sc round (tagbody vs) holds fine = tagbody_node_good (make fuel) (λ n s r y h f. make_good fuel n s r y h f) levels sc round vs holds
  make_good (suc fuel) levels sc round (within d x) holds fine = make_good fuel levels (declared_in d sc) round x (holds_declared d sc round holds) fine

-- ---- the laws

pub trees_are_checked : TreesAreChecked
trees_are_checked fuel levels chain sc round v w after e holds is =
    (given_has (λ (t : Core) (u : World). GoodCore round t) (expand fuel levels chain sc v w) e after (expand_good fuel levels chain sc round v holds w) is).passed

-- the numbers that names mean in a scope
abbrev target_numbers : Target → List ℕ
target_numbers (Lexical n) = n ∷ []
target_numbers (Global s) = []

abbrev meant : List (SymId × Target) → List ℕ
meant [] = []
meant (p ∷ ps) = target_numbers p.1 ++ meant ps

abbrev numbered : {A : Type 0} → List (A × ℕ) → List ℕ
numbered [] = []
numbered (p ∷ ps) = p.1 ∷ numbered ps

target_there : (t : Target) (xs : List ℕ) → Means (target_numbers t ++ xs) t
target_there (Lexical n) xs = first_there n xs
target_there (Global s) xs = tt

means_more : (ys xs : List ℕ) (t : Target) → Means xs t → Means (ys ++ xs) t
means_more ys xs (Lexical n) h = among_right ys xs n h
means_more ys xs (Global s) h = tt

all_meant : (ps : List (SymId × Target)) → All (λ (p : SymId × Target). Means (meant ps) p.1) ps
all_meant [] = All-nil (λ (p : SymId × Target). Means [] p.1)
all_meant (p ∷ ps) =
    All-cons (λ (r : SymId × Target). Means (meant (p ∷ ps)) r.1) p ps (target_there p.1 (meant ps))
    (All-weaker (λ (r : SymId × Target). Means (meant ps) r.1) (λ (r : SymId × Target). Means (meant (p ∷ ps)) r.1) (λ r. means_more (target_numbers p.1) (meant ps) r.1) ps (all_meant ps))

all_numbered : {A : Type 0} (ps : List (A × ℕ)) → All (λ (p : A × ℕ). has_number p.1 (numbered ps) ≡ true) ps
all_numbered {A = A} [] = All-nil (λ (p : A × ℕ). has_number p.1 [] ≡ true)
all_numbered {A = A} (p ∷ ps) =
    All-cons (λ (r : A × ℕ). has_number r.1 (numbered (p ∷ ps)) ≡ true) p ps (first_there p.1 (numbered ps))
    (All-weaker (λ (r : A × ℕ). has_number r.1 (numbered ps) ≡ true) (λ (r : A × ℕ). has_number r.1 (numbered (p ∷ ps)) ≡ true) (λ r. later_there r.1 p.1 (numbered ps)) ps (all_numbered ps))

abbrev round_scope : Scope → checked.Scope
round_scope sc = record { variables = meant sc.variables; functions = numbered sc.functions; blocks = numbered sc.blocks; tags = numbered sc.tags }

round_holds : (sc : Scope) → Holds sc (round_scope sc)
round_holds sc = record { variables = all_meant sc.variables; functions = all_numbered sc.functions; blocks = all_numbered sc.blocks; tags = all_numbered sc.tags }

pub symbols_have_functions : SymbolsHaveFunctions
symbols_have_functions fuel levels chain sc v w after e is =
    (given_has (λ (t : Core) (u : World). GoodCore (round_scope sc) t) (expand fuel levels chain sc v w) e after (expand_good fuel levels chain sc (round_scope sc) v (round_holds sc) w) is).given
