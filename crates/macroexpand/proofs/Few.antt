-- No form that a file gives has more than 4,000 nodes.
use Rattle.std.proofs.Common.{◌≡◌, ◌∙◌, sym, subst, refl, ℕ, zero, suc, ◌≤◌, Bool, true, false, List, [], ◌∷◌, ◌++◌, map}
use Rattle.std.specs.Prelude.{◌||◌, nat_le, if◌then◌else◌}
use Rattle.std.specs.List.{All}
use Rattle.std.proofs.lemmas.List.Elements.{All-nil, All-push}
use Rattle.lisp_base.specs.declared.base_symbols.TheConstants as at
use Rattle.lisp_base.specs.declared.values.SymId.{SymId}
use Rattle.lisp_base.specs.declared.values.Val.{Val}
use Rattle.lisp_base.specs.Tables.{Object}
use Rattle.lisp_reader.specs.declared.forms.TopRead.{TopRead}
use Rattle.lisp_reader.specs.Building.{Stock}
use Rattle.core_form.specs.Tree.{Core, Top}
use Rattle.closed_copies.specs.Copies.{closed_copies}
use Rattle.program_size.specs.Mentions.{Function}
use Rattle.expansion.specs.declared.kind.ExpandKind.TheVariants as kind
use Rattle.expansion.specs.Scopes.{Scope}
use Rattle.expansion.specs.Steps.{World, Answer, gives, refused, Step, and_then, expect, pure, refuse, ◌>>=◌, most_nodes, most_levels, most_chain}
use Rattle.expansion.specs.Bindings.{is_among}
use Rattle.expansion.specs.Expanding.{tree_of, most_fuel}
use Rattle.expansion_laws.specs.Counts.{TreesAreCounted}
use Rattle.form_expander.specs.Stepping.{steps}
use Rattle.file_expansion.specs.Tops.{top_with, most_copies, if_few, counted_anew, top_tree, Pending, own_scope, Shape, progn, locally, other, shape_at, tree, parts_within, shaped, at_top, Expands, finished, stops, goes_on, too_large, one_more}
use Rattle.file_expansion.specs.Files.{Helper, helper, helper_name, helper_scope, is_reserved, helper_at, helper_of, helpers, file_form, Trees, prelude_refused, behind, Answers, unread, unexpanded, expanded}
use Rattle.macroexpand.proofs.Steps.{finish, tree_steps, tree_then, other_steps, top_steps}

abbrev pub IsFew : Top → Type 0
IsFew t = t.nodes ≤ 4000

-- ---- steps that give something

pub record Given {A B : Type 0} (a : Answer A) (f : A → Step B) (b : B) (after : World) : Type 0 where
  pub value : A
  pub world : World
  pub first : a ≡ gives value world
  pub last : f value world ≡ gives b after

pub given_by : {A B : Type 0} (a : Answer A) (f : A → Step B) (b : B) (after : World) → and_then a f ≡ gives b after → Given a f b after
given_by (gives x u) f b after is = record { value = x; world = u; first = refl; last = is }
given_by (refused k place) f b after is = absurd (cc)

same_value : {A : Type 0} (a b : A) (u w : World) → gives a u ≡ gives b w → a ≡ b
same_value a b u w is = cc

-- ---- one form

module _ (counted : TreesAreCounted) where
  core_few : (chain : ℕ) (sc : Scope) (v : Val) (w u : World) (e : Core) → tree_of chain sc v w ≡ gives e u → u.nodes ≤ 4000
  unfolding tree_of most_nodes
  core_few chain sc v w u e is = (counted most_fuel most_levels chain sc v w e u is).few

  few_if : (b : Bool) (sc : Scope) (s t : Top) (u after : World) → (if b then pure s else refuse kind.TooManyClosed sc) u ≡ gives t after → IsFew s → IsFew t
  unfolding pure refuse
  few_if true sc s t u after is few = subst IsFew (same_value s t u after is) few
  few_if false sc s t u after is few = absurd (cc)

  few_left : (sc : Scope) (s t : Top) (u after : World) → if_few sc s u ≡ gives t after → IsFew s → IsFew t
  unfolding if_few
  few_left sc s t u after is few = few_if (nat_le (closed_copies s.core) most_copies) sc s t u after is few

  pub tree_few : (chain : ℕ) (sc : Scope) (v : Val) (w after : World) (t : Top) → top_tree chain sc v w ≡ gives t after → IsFew t
  tree_few chain sc v w after t is =
      let made : Given (tree_of chain sc v (counted_anew w)) (finish sc) t after =
      given_by (tree_of chain sc v (counted_anew w)) (finish sc) t after (sym (tree_steps chain sc v w) ∙ is) in
      few_left sc (top_with sc.place made.value made.world.nodes) t made.world after made.last
      (core_few chain sc v (counted_anew w) made.world made.value made.first)

  no_tree : (sc inner : Scope) (own : Bool) (chain : ℕ) (vs : List Val) (w after : World) (t : Top) → parts_within sc inner own chain vs w ≡ gives (tree t) after → ⊥
  unfolding parts_within steps
  no_tree sc inner own zero vs w after t is = absurd (cc)
  no_tree sc inner own (suc chain) vs w after t is = absurd (cc)

  same_tree : (s t : Top) (u after : World) → gives (tree s) u ≡ gives (tree t) after → s ≡ t
  same_tree s t u after is = cc

  shape_few : (sc : Scope) (own : Bool) (chain : ℕ) (v : Val) (s : Shape) (w after : World) (t : Top) → shaped sc own chain v s w ≡ gives (tree t) after → IsFew t
  unfolding shaped
  shape_few sc own chain v (progn vs) w after t is = absurd (no_tree sc _ own chain vs w after t is)
  shape_few sc own chain v (locally c) w after t is = absurd (no_tree sc _ _ chain c.forms w after t is)
  shape_few sc own chain v other w after t is =
      let made : Given (top_tree chain sc v w) (tree_then sc own chain v w) (tree t) after =
      given_by (top_tree chain sc v w) (tree_then sc own chain v w) (tree t) after (sym (other_steps sc own chain v w) ∙ is) in
      subst IsFew (same_tree made.value t made.world after made.last) (tree_few chain sc v w made.world made.value made.first)

  top_few : (p : Pending) (w after : World) (t : Top) → at_top p w ≡ gives (tree t) after → IsFew t
  top_few p w after t is =
      let sc : Scope = own_scope p w in
      let made : Given (shape_at sc p.form w) (shaped sc p.has_policy p.chain p.form) (tree t) after =
      given_by (shape_at sc p.form w) (shaped sc p.has_policy p.chain p.form) (tree t) after (sym (top_steps p.scope p.has_policy p.chain p.form w) ∙ is) in
      shape_few sc p.has_policy p.chain p.form made.value made.world after t made.last

  -- ---- one form after another

  trees_few : (prelude : List Function) (w after : World) (ts us : List Top) (ps : List Pending) (answer : Answer (List Top)) → Expands prelude w ts ps answer →
      answer ≡ gives us after → All IsFew ts → All IsFew us
  trees_few prelude _ after _ us _ _ (finished w ts) is few = subst (All IsFew) (same_value ts us w after is) few
  trees_few prelude _ after _ us _ _ (stops w ts p ps k place e) is few = absurd (cc)
  trees_few prelude _ after _ us _ _ (goes_on w ts p ps qs u answer e on) is few = trees_few prelude u after ts us (qs ++ ps) answer on is few
  trees_few prelude _ after _ us _ _ (too_large w ts p ps t u e large) is few = absurd (cc)
  trees_few prelude _ after _ us _ _ (one_more w ts p ps t u answer e small on) is few =
      trees_few prelude u after (ts ++ t ∷ []) us ps answer on is (All-push IsFew ts t few (top_few p w u t e))

  -- ---- the prelude

  abbrev named : SymId → Top → Step Helper
  named s t = λ u. gives (helper s t) u

  helper_if : (b : Bool) (v : Val) (s : SymId) (h : Helper) (w after : World) →
      (if b then refuse kind.BadForm (helper_scope s) else (top_tree most_chain (helper_scope s) v >>= λ t. pure (helper s t))) w ≡ gives h after → IsFew h.form
  unfolding steps
  helper_if true v s h w after is = absurd (cc)
  helper_if false v s h w after is =
      let made : Given (top_tree most_chain (helper_scope s) v w) (named s) h after =
      given_by (top_tree most_chain (helper_scope s) v w) (named s) h after is in
      subst (λ (k : Helper). IsFew k.form) (same_value (helper s made.value) h made.world after made.last) (tree_few most_chain (helper_scope s) v w made.world made.value made.first)

  helper_left : (done : List Helper) (v : Val) (s : SymId) (h : Helper) (w after : World) → helper_at done v s w ≡ gives h after → IsFew h.form
  unfolding helper_at
  helper_left done v s h w after is = helper_if (is_among (map (λ k. k.name) done) s || is_reserved s) v s h w after is

  helper_few : (done : List Helper) (v : Val) (h : Helper) (w after : World) → helper_of done v w ≡ gives h after → IsFew h.form
  unfolding helper_of steps
  helper_few done v h w after is =
      let made : Given (expect (helper_scope at.DEFUN) (helper_name w.heap v) w) (helper_at done v) h after =
      given_by (expect (helper_scope at.DEFUN) (helper_name w.heap v) w) (helper_at done v) h after is in
      helper_left done v made.value h made.world after made.last

  abbrev AreFewHelpers : List Helper → Type 0
  AreFewHelpers hs = All (λ h. IsFew h.form) hs

  helpers_few : (forms : List TopRead) (done hs : List Helper) (w after : World) → helpers done forms w ≡ gives hs after → AreFewHelpers done → AreFewHelpers hs
  unfolding helpers steps
  helpers_few [] done hs w after is few = subst AreFewHelpers (same_value done hs w after is) few
  helpers_few (f ∷ fs) done hs w after is few =
      let made : Given (helper_of done f.form w) (λ h. helpers (done ++ h ∷ []) fs) hs after =
      given_by (helper_of done f.form w) (λ h. helpers (done ++ h ∷ []) fs) hs after is in
      helpers_few fs (done ++ made.value ∷ []) hs made.world after made.last
      (All-push (λ (h : Helper). IsFew h.form) done made.value few (helper_few done f.form made.value w made.world made.first))

  -- ---- the answer of a whole file

  pub record AreFew (x : Trees) : Type 0 where
    pub helpers : All (λ h. IsFew h.form) x.0
    pub trees : All IsFew x.1

  no_trees : (b : Bool) (heap : List Object) (forms : List TopRead) (x : Trees) (w : World) → prelude_refused heap forms b ≡ gives x w → ⊥
  no_trees true heap forms x w is = absurd (cc)
  no_trees false heap forms x w is = absurd (cc)

  behind_few : (prelude : List Function) (hs : List Helper) (ps : List Pending) (v w : World) (answer : Answer (List Top)) (x : Trees) → AreFewHelpers hs → Expands prelude v [] ps answer →
      behind hs answer ≡ gives x w → AreFew x
  behind_few prelude hs ps v w (gives ts u) x few on is =
      subst AreFew (same_value (hs, ts) x u w is)
      (record { helpers = few; trees = trees_few prelude v u [] ts ps (gives ts u) on refl (All-nil IsFew) })
  behind_few prelude hs ps v w (refused k place) x few on is = absurd (cc)

  pub answers_few : (forms : List TopRead) (before : Stock) (a : Answer Trees) (x : Trees) (w : World) → Answers forms before a → a ≡ gives x w → AreFew x
  answers_few forms before _ x w (unread r e) is = absurd (no_trees _ before.objects forms x w is)
  answers_few forms before _ x w (unexpanded read k place r e) is = absurd (no_trees _ before.objects forms x w is)
  answers_few forms before _ x w (expanded read hs u answer r e on) is =
      behind_few _ hs (map file_form forms) _ w answer x (helpers_few read.0 [] hs _ u e (All-nil (λ (h : Helper). IsFew h.form))) on is
