-- The forms at the top of a file: the parts of PROGN and LOCALLY there are forms at the top themselves (ANSI Common Lisp 3.2.3.1).
use Rattle.std.specs.Prelude.{◌≡◌, ℕ, zero, suc, ◌||◌, not, ◌==◌, ◌&&◌, nat_le, Bool, if◌then◌else◌, List, [], ◌∷◌, ◌++◌, map, Option, Some, None}
use Rattle.lisp_base.specs.declared.base_symbols.TheConstants as at
use Rattle.lisp_base.specs.declared.values.Place.{Place}
use Rattle.lisp_base.specs.declared.values.Val.{Val}
use Rattle.lisp_base.specs.Membership.{is_symbol_number}
use Rattle.lisp_base.specs.Sort.{number_of}
use Rattle.lisp_forms.specs.Conses.{cons_at, elements}
use Rattle.core_form.specs.Tree.{Core, Top}
use Rattle.closed_copies.specs.Copies.{closed_copies}
use Rattle.program_size.specs.Mentions.{Sized, Function}
use Rattle.program_size.specs.Sizes.{IsTooLarge}
use Rattle.declarations.specs.declared.policy.Policy.{Policy}
use Rattle.expansion.specs.declared.kind.ExpandKind.{ExpandKind}
use Rattle.expansion.specs.declared.kind.ExpandKind.TheVariants as kind
use Rattle.expansion.specs.Scopes.{Scope, at_form, declared_in, with_policy}
use Rattle.expansion.specs.Steps.{World, Answer, gives, refused, Step, ◌>>=◌, ◌>>◌, pure, refuse, expect, look, change}
use Rattle.expansion.specs.Bindings.{Contents, contents_of}
use Rattle.expansion.specs.Expanding.{tree_of}

-- ---- the tree of one form

abbrev pub top_with : Place → Core → ℕ → Top
top_with place e nodes = record { place = place; core = e; nodes = nodes }

-- a tree with the numbers of its nodes and of its closed copies
abbrev pub measured : Top → Sized
measured t = record { core = t.core; nodes = t.nodes; copies = closed_copies t.core }

-- how many closed copies a top-level form may have
unfoldable pub most_copies : ℕ
most_copies = 3000

unfoldable pub if_few : Scope → Top → Step Top
if_few sc t = if nat_le (closed_copies t.core) most_copies then pure t else refuse kind.TooManyClosed sc

-- variables, functions and nodes are counted in each top-level form anew
abbrev pub counted_anew : World → World
counted_anew w = record w { next = 1; functions = 0; nodes = 0 }

-- the tree of a form in its own scope, to which so many forms without a node may lead
unfoldable pub top_tree : (chain : ℕ) → Scope → Val → Step Top
top_tree chain sc v =
    change counted_anew >> tree_of chain sc v >>= λ e. look (λ w. top_with sc.place e w.nodes) >>= if_few sc

-- ---- one form at the top

-- A form at the top whose turn will come: the scope around it, whether a LOCALLY there states a policy of its own, and how many forms without
-- a node may still follow.
pub record Pending : Type 0 where
  pub scope : Scope
  pub has_policy : Bool
  pub chain : ℕ
  pub form : Val

abbrev pub pending : Scope → Bool → ℕ → Val → Pending
pending sc own chain v = record { scope = sc; has_policy = own; chain = chain; form = v }

-- the policy in force is that of the file so far, but within a LOCALLY that states another
abbrev pub scope_now : Pending → World → Scope
scope_now p w = if p.has_policy then p.scope else with_policy w.policy p.scope

abbrev pub own_scope : Pending → World → Scope
own_scope p w = at_form w.heap p.form (scope_now p w)

-- how a form at the top is read: the parts of a PROGN, the declarations and parts of a LOCALLY, or any other form
pub data Shape : Type 0 where
  progn : List Val → Shape
  locally : Contents → Shape
  other : Shape

unfoldable pub shape_by : Scope → Option (Val × Val) → Step Shape
shape_by sc None = pure other
shape_by sc (Some c) =
    if is_symbol_number (number_of at.PROGN) c.0
    then (look (λ w. elements w.heap c.1) >>= expect sc >>= λ vs. pure (progn vs))
    else (if is_symbol_number (number_of at.LOCALLY) c.0
    then (look (λ w. elements w.heap c.1) >>= expect sc >>= contents_of sc >>= λ x. pure (locally x))
    else pure other)

unfoldable pub shape_at : Scope → Val → Step Shape
shape_at sc v = look (λ w. cons_at w.heap v) >>= shape_by sc

-- what a form at the top gives: its tree, or forms at the top in its place
pub data AtTop : Type 0 where
  tree : Top → AtTop
  parts : List Pending → AtTop

-- parts within a scope, where more forms without a node may follow
unfoldable pub parts_within : Scope → Scope → Bool → (chain : ℕ) → List Val → Step AtTop
parts_within sc within own zero vs = refuse kind.TooNested sc
parts_within sc within own (suc chain) vs = pure (parts (map (pending within own chain) vs))

abbrev pub same_policy : Policy → Policy → Bool
same_policy a b = a.speed == b.speed && a.safety == b.safety

unfoldable pub shaped : Scope → Bool → (chain : ℕ) → Val → Shape → Step AtTop
shaped sc own chain v (progn vs) = parts_within sc sc own chain vs
shaped sc own chain v (locally c) =
    parts_within sc (declared_in c.declared sc) (own || not (same_policy c.declared.policy sc.policy)) chain c.forms
shaped sc own chain v other = top_tree chain sc v >>= λ t. pure (tree t)

unfoldable pub at_top : Pending → Step AtTop
at_top p = look (own_scope p) >>= λ sc. shape_at sc p.form >>= shaped sc p.has_policy p.chain p.form

-- ---- one form after another

-- The trees of pending forms, behind those so far, in a program with these functions of the prelude; or the first refusal.
pub data Expands (prelude : List Function) : World → List Top → List Pending → Answer (List Top) → Type 0 where
  finished : (w : World) (ts : List Top) → Expands prelude w ts [] (gives ts w)
  stops : (w : World) (ts : List Top) (p : Pending) (ps : List Pending) (k : ExpandKind) (place : Place)
      → at_top p w ≡ refused k place
      → Expands prelude w ts (p ∷ ps) (refused k place)
  goes_on : (w : World) (ts : List Top) (p : Pending) (ps qs : List Pending) (after : World) (answer : Answer (List Top))
      → at_top p w ≡ gives (parts qs) after → Expands prelude after ts (qs ++ ps) answer
      → Expands prelude w ts (p ∷ ps) answer
  too_large : (w : World) (ts : List Top) (p : Pending) (ps : List Pending) (t : Top) (after : World)
      → at_top p w ≡ gives (tree t) after → IsTooLarge after.heap prelude (map measured (ts ++ t ∷ []))
      → Expands prelude w ts (p ∷ ps) (refused kind.ProgramTooLarge t.place)
  one_more : (w : World) (ts : List Top) (p : Pending) (ps : List Pending) (t : Top) (after : World) (answer : Answer (List Top))
      → at_top p w ≡ gives (tree t) after → (IsTooLarge after.heap prelude (map measured (ts ++ t ∷ [])) → ⊥)
      → Expands prelude after (ts ++ t ∷ []) ps answer
      → Expands prelude w ts (p ∷ ps) answer
