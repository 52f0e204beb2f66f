-- Sketches whose trees are checked: the numbers that they use are bound round them, and operators have as many forms as they may.
use Rattle.std.specs.Prelude.{◌≡◌, ℕ, ◌+◌, true, nat_le, List, [], ◌∷◌, ◌++◌, length, Option, Some, None}
use Rattle.std.specs.Option.{option_map, option_and_then}
use Rattle.std.proofs.Common.{refl, ap, sym, subst, ◌∙◌}
use Rattle.std.proofs.Math.Numerals.{one-add}
use Rattle.lisp_base.specs.declared.primitives.Primitive.{Primitive as Operation}
use Rattle.lisp_base.specs.declared.values.SymId.{SymId}
use Rattle.lisp_base.specs.declared.values.Val.{Val}
use Rattle.lisp_base.specs.Spec.{Spec}
use Rattle.lisp_base.specs.Tables.{Table}
use Rattle.core_form.specs.Facts.{has_number}
use Rattle.core_form.specs.Checked as checked
use Rattle.core_form.specs.Checked.{operation_takes}
use Rattle.core_form.specs.Primitives.{most_values, most_arguments}
use Rattle.declarations.specs.Declarations.{Declared}
use Rattle.lambda_lists.specs.LambdaLists.{LambdaList, KeyForms}
use Rattle.expansion.specs.declared.heads.Leaf.{Leaf}
use Rattle.expansion.specs.declared.heads.Leaf.TheVariants.{Constant, LocalVariable, GlobalVariable, LocalFunction, GlobalFunction, GoTo}
use Rattle.expansion.specs.declared.heads.Many.{Many}
use Rattle.expansion.specs.declared.heads.Many.TheVariants.{Sequence, CallingLocal, CallingGlobal, Operating, GivingValues}
use Rattle.expansion.specs.declared.heads.Calling.{Calling}
use Rattle.expansion.specs.declared.heads.Calling.TheVariants.{Funcalling, Applying, CallingWithValues}
use Rattle.expansion.specs.declared.heads.Target.{Target}
use Rattle.expansion.specs.declared.heads.Target.TheVariants.{Lexical, Global}
use Rattle.expansion.specs.Scopes.{Scope, types_set, types_used, variable_at}
use Rattle.expansion.specs.Steps.{World}
use Rattle.expansion.specs.Sketches.{Unary, SettingLocal, SettingGlobal, SettingFunction, Testing, Checking, Returning, Sketch, form, leaf, one, two, choice, many, calling, bind, assign, function, functions, recursive, block, tagbody, within, Sketches, no_sketch, sketch, Function, function_of, sketches, forms, progn, body, primitive, checked as tested_for}
use Rattle.expansion.specs.Bindings.{Contents, let_sketch, let_in_order, nested, in_block, body_within, plain_function, keyed_function, parameter_names, names}
use Rattle.expansion.specs.Calls.{folded}
use Rattle.expansion.specs.Forms.{variable_in, reference, use_of, setting, proclaimed, set_target, set_variable, settings}
use Rattle.expansion_laws.specs.CheckedTrees.{Means, Holds}
use Rattle.expansion_laws.proofs.Among.{Wider}
use Rattle.expansion_laws.proofs.Holding.{OnFound, variable_known}

abbrev pub sketches_length : Sketches → ℕ
sketches_length no_sketch = 0
sketches_length (sketch x xs) = 1 + sketches_length xs

-- the sketch of the function that a definition gives to its name
abbrev pub IsRecursive : Sketch → Type 0
IsRecursive (form v) = ⊥
IsRecursive (leaf l) = ⊥
IsRecursive (one u x) = ⊥
IsRecursive (two b x y) = ⊥
IsRecursive (choice x y z) = ⊥
IsRecursive (many m xs) = ⊥
IsRecursive (calling c x xs) = ⊥
IsRecursive (bind bs x) = ⊥
IsRecursive (assign s v) = ⊥
IsRecursive (function f) = ⊥
IsRecursive (functions reach vs x) = ⊥
IsRecursive (recursive s f) = Unit {0}
IsRecursive (block s x) = ⊥
IsRecursive (tagbody vs) = ⊥
IsRecursive (within d x) = ⊥

abbrev pub FineLeaf : checked.Scope → Leaf → Type 0
FineLeaf round (Constant v) = Unit {0}
FineLeaf round (LocalVariable n) = has_number n round.variables ≡ true
FineLeaf round (GlobalVariable s) = Unit {0}
FineLeaf round (LocalFunction f) = has_number f round.functions ≡ true
FineLeaf round (GlobalFunction s) = Unit {0}
FineLeaf round (GoTo t) = has_number t round.tags ≡ true

abbrev pub FineUnary : checked.Scope → Unary → Sketch → Type 0
FineUnary round (SettingLocal n) x = has_number n round.variables ≡ true
FineUnary round (SettingGlobal s) x = Unit {0}
FineUnary round (SettingFunction s) x = IsRecursive x
FineUnary round (Testing t) x = Unit {0}
FineUnary round (Checking t) x = Unit {0}
FineUnary round (Returning b) x = has_number b round.blocks ≡ true

abbrev pub FineMany : checked.Scope → Many → ℕ → Type 0
FineMany round Sequence n = Unit {0}
FineMany round (CallingLocal f) n = (has_number f round.functions ≡ true) × (nat_le n most_arguments ≡ true)
FineMany round (CallingGlobal s) n = nat_le n most_arguments ≡ true
FineMany round (Operating q) n = operation_takes q n ≡ true
FineMany round GivingValues n = nat_le n most_values ≡ true

abbrev pub FineCalling : Calling → ℕ → Type 0
FineCalling Funcalling n = nat_le n most_arguments ≡ true
FineCalling Applying n = nat_le n most_arguments ≡ true
FineCalling CallingWithValues n = Unit {0}

abbrev mutual
  pub Fine : checked.Scope → Sketch → Type 0
  Fine round (form v) = Unit {0}
  Fine round (leaf l) = FineLeaf round l
  Fine round (one u x) = FineUnary round u x × Fine round x
  Fine round (two b x y) = Fine round x × Fine round y
  Fine round (choice x y z) = Fine round x × (Fine round y × Fine round z)
  Fine round (many m xs) = FineMany round m (sketches_length xs) × FineAll round xs
  Fine round (calling c x xs) = FineCalling c (sketches_length xs) × (Fine round x × FineAll round xs)
  Fine round (bind bs x) = Fine round x
  Fine round (assign s v) = Unit {0}
  Fine round (function f) = FineFunction round f
  Fine round (functions reach vs x) = Fine round x
  Fine round (recursive s f) = FineFunction round f
  Fine round (block s x) = Fine round x
  Fine round (tagbody vs) = Unit {0}
  Fine round (within d x) = Fine round x

  pub FineAll : checked.Scope → Sketches → Type 0
  FineAll round no_sketch = Unit {0}
  FineAll round (sketch x xs) = Fine round x × FineAll round xs

  pub FineFunction : checked.Scope → Function → Type 0
  FineFunction round (function_of required optionals rest x) = Fine round x

-- ---- with more bound round it

module _ (a b : checked.Scope) (wider : Wider a b) where
  leaf_wider : (l : Leaf) → FineLeaf a l → FineLeaf b l
  leaf_wider (Constant v) h = tt
  leaf_wider (LocalVariable n) h = wider.variables n h
  leaf_wider (GlobalVariable s) h = tt
  leaf_wider (LocalFunction f) h = wider.functions f h
  leaf_wider (GlobalFunction s) h = tt
  leaf_wider (GoTo t) h = wider.tags t h

  unary_wider : (u : Unary) (x : Sketch) → FineUnary a u x → FineUnary b u x
  unary_wider (SettingLocal n) x h = wider.variables n h
  unary_wider (SettingGlobal s) x h = tt
  unary_wider (SettingFunction s) x h = h
  unary_wider (Testing t) x h = tt
  unary_wider (Checking t) x h = tt
  unary_wider (Returning n) x h = wider.blocks n h

  many_wider : (m : Many) (n : ℕ) → FineMany a m n → FineMany b m n
  many_wider Sequence n h = tt
  many_wider (CallingLocal f) n h = (wider.functions f h.0, h.1)
  many_wider (CallingGlobal s) n h = h
  many_wider (Operating q) n h = h
  many_wider GivingValues n h = h

  mutual
    pub fine_wider : (x : Sketch) → Fine a x → Fine b x
    fine_wider (form v) h = tt
    fine_wider (leaf l) h = leaf_wider l h
    fine_wider (one u x) h = (unary_wider u x h.0, fine_wider x h.1)
    fine_wider (two c x y) h = (fine_wider x h.0, fine_wider y h.1)
    fine_wider (choice x y z) h = (fine_wider x h.0, (fine_wider y h.1.0, fine_wider z h.1.1))
    fine_wider (many m xs) h = (many_wider m (sketches_length xs) h.0, all_wider xs h.1)
    fine_wider (calling c x xs) h = (h.0, (fine_wider x h.1.0, all_wider xs h.1.1))
    fine_wider (bind bs x) h = fine_wider x h
    fine_wider (assign s v) h = tt
    fine_wider (function f) h = function_wider f h
    fine_wider (functions reach vs x) h = fine_wider x h
    fine_wider (recursive s f) h = function_wider f h
    fine_wider (block s x) h = fine_wider x h
    fine_wider (tagbody vs) h = tt
    fine_wider (within d x) h = fine_wider x h

    pub all_wider : (xs : Sketches) → FineAll a xs → FineAll b xs
    all_wider no_sketch h = tt
    all_wider (sketch x xs) h = (fine_wider x h.0, all_wider xs h.1)

    pub function_wider : (f : Function) → FineFunction a f → FineFunction b f
    function_wider (function_of required optionals rest x) h = fine_wider x h

-- ---- sketches that are often needed

pub forms_length : (vs : List Val) → sketches_length (sketches (forms vs)) ≡ length vs
forms_length [] = refl
forms_length (v ∷ vs) = ap (λ (n : ℕ). 1 + n) (forms_length vs) ∙ one-add (length vs)

module _ (round : checked.Scope) where
  pub forms_fine : (vs : List Val) → FineAll round (sketches (forms vs))
  forms_fine [] = tt
  forms_fine (v ∷ vs) = (tt, forms_fine vs)

  pub progn_fine : (xs : List Sketch) → FineAll round (sketches xs) → Fine round (progn xs)
  progn_fine [] h = tt
  progn_fine (x ∷ []) h = h.0
  progn_fine (x ∷ y ∷ xs) h = (tt, h)

  pub body_fine : (vs : List Val) → Fine round (body vs)
  body_fine vs = progn_fine (forms vs) (forms_fine vs)

  pub tested_fine : (ts : List Spec) (x : Sketch) → Fine round x → Fine round (tested_for ts x)
  tested_fine [] x h = h
  tested_fine (t ∷ ts) x h = tested_fine ts (one (Checking t) x) (tt, h)

  -- a primitive on forms
  pub primitive_fine : (o : Operation) (vs : List Val) → operation_takes o (length vs) ≡ true → Fine round (primitive o (forms vs))
  primitive_fine o vs h = (subst (λ (n : ℕ). operation_takes o n ≡ true) (sym (forms_length vs)) h, forms_fine vs)

  pub folded_fine : (o : Operation) (x : Sketch) (vs : List Val) → operation_takes o 2 ≡ true → Fine round x → Fine round (folded o x vs)
  folded_fine o x [] takes h = h
  folded_fine o x (v ∷ vs) takes h = folded_fine o (primitive o (x ∷ form v ∷ [])) vs takes (takes, (h, (tt, tt)))

  pub nested_fine : (d : Declared) (bs : List (SymId × Val)) (x : Sketch) → Fine round x → Fine round (nested d bs x)
  nested_fine d [] x h = h
  nested_fine d (p ∷ bs) x h = nested_fine d bs x h

  pub in_order_fine : (d : Declared) (bs : List (SymId × Val)) (x : Sketch) → Fine round x → Fine round (let_in_order d bs x)
  unfolding let_in_order
  in_order_fine d [] x h = h
  in_order_fine d (p ∷ bs) x h = nested_fine d (p ∷ bs) x h

  pub let_fine : (d : Declared) (bs : List (SymId × Val)) (x : Sketch) → Fine round x → Fine round (let_sketch d bs x)
  unfolding let_sketch
  let_fine d bs x h = h

  -- ---- functions

  in_block_fine : (name : Option SymId) (x : Sketch) → Fine round x → Fine round (in_block name x)
  in_block_fine None x h = h
  in_block_fine (Some s) x h = h

  within_fine : (bound : List SymId) (name : Option SymId) (c : Contents) → Fine round (body_within bound name c)
  within_fine bound name c = in_block_fine name (body c.forms) (body_fine c.forms)

  pub plain_fine : (l : LambdaList) (name : Option SymId) (c : Contents) → FineFunction round (plain_function l name c)
  unfolding plain_function
  plain_fine l name c =
      nested_fine c.declared l.auxiliary (body_within (parameter_names l l.rest ++ names l.auxiliary) name c) (within_fine (parameter_names l l.rest ++ names l.auxiliary) name c)

  pub keyed_fine : (l : LambdaList) (rest : SymId) (name : Option SymId) (c : Contents) (k : KeyForms) → FineFunction round (keyed_function l rest name c k)
  unfolding keyed_function
  keyed_fine l rest name c k =
      let bound : List SymId = parameter_names l (Some rest) ++ names (k.bindings ++ l.auxiliary) in
      (tt, (in_order_fine c.declared (k.bindings ++ l.auxiliary) (body_within bound name c) (within_fine bound name c), tt))

  -- ---- variables

  reference_fine : (t : Target) → Means round.variables t → Fine round (reference t)
  reference_fine (Lexical n) h = h
  reference_fine (Global s) h = tt

  pub use_fine : (sc : Scope) (t : Target) → Means round.variables t → Fine round (use_of sc t)
  use_fine sc t h = tested_fine (types_used sc t) (reference t) (reference_fine t h)

  setting_fine : (t : Target) (x : Sketch) → Means round.variables t → Fine round x → Fine round (setting t x)
  setting_fine (Lexical n) x m h = (m, h)
  setting_fine (Global s) x m h = (tt, h)

  pub set_fine : (sc : Scope) (t : Target) (s : SymId) (x : Sketch) (w : World) → Means round.variables t → Fine round x → Fine round (set_target sc t s x w)
  set_fine sc t s x w m h =
      setting_fine t (tested_for (proclaimed w.declaimed s ++ types_set sc t) x) m (tested_fine (proclaimed w.declaimed s ++ types_set sc t) x h)

  pub set_variable_fine : (sc : Scope) (s : SymId) (v : Val) (w : World) → Holds sc round → Fine round (set_variable sc s v w)
  unfolding set_variable
  set_variable_fine sc s v w holds = set_fine sc (variable_at sc s) s (form v) w (variable_known sc round holds s) tt

  setting_more : (e : Val) (s : Option SymId) (xs : Option (List Sketch)) → OnFound (λ (ys : List Sketch). FineAll round (sketches ys)) xs → OnFound (λ (ys : List Sketch). FineAll round (sketches ys)) (option_and_then (λ (t : SymId). option_map (λ (ys : List Sketch). assign t e ∷ ys) xs) s)
  setting_more e None xs h = tt
  setting_more e (Some s) None h = tt
  setting_more e (Some s) (Some xs) h = (tt, h)

  pub settings_fine : (table : Table) (vs : List Val) → OnFound (λ (ys : List Sketch). FineAll round (sketches ys)) (settings table vs)
  settings_fine table [] = tt
  settings_fine table (v ∷ []) = tt
  settings_fine table (v ∷ e ∷ vs) = setting_more e (variable_in table v) (settings table vs) (settings_fine table vs)
