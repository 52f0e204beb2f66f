-- Local functions: their names, and how they begin.
use Rattle.std.proofs.Common.{◌≡◌, refl, ap, sym, ◌∙◌, ℕ, suc, List, [], ◌∷◌, Option, Some, None, Bool, length}
use Rattle.std.specs.Prelude.{◌&&◌, not, if◌then◌else◌}
use Rattle.std.specs.Option.{option_and_then}
use Rattle.lisp_base.specs.declared.values.SymId.{SymId}
use Rattle.lisp_base.specs.declared.values.Val.{Val}
use Rattle.lisp_base.specs.Tables.{Object}
use Rattle.lisp_forms.specs.Conses.{cons_at}
use Rattle.core_form.specs.Tree.{Core}
use Rattle.expansion.specs.Operators.{is_reserved}
use Rattle.expansion.specs.Scopes.{Scope}
use Rattle.expansion.specs.Steps.{World, Answer, gives, refused, and_then, ◌>>=◌, ◌>>◌, look, begin, take_numbers, inside}
use Rattle.expansion.specs.declared.heads.Reach.{Reach}
use Rattle.expansion.specs.Sketches.{Sketch}
use Rattle.expansion.specs.Forms.{symbol_in}
use Rattle.expansion.specs.Expanding.{Inner, functions_node, functions_tree, with_definitions, with_named, definition_name}
use Rattle.form_expander.specs.Beginnings.{begin_numbers, begin_functions, names_of, named_by, with_names}

-- ---- the names of definitions

abbrev name_by : List Object → Val → Bool → Option SymId
name_by heap v fixed = option_and_then (λ p. option_and_then (λ s. if is_reserved s && not fixed then None else Some s) (symbol_in p.0)) (cons_at heap v)

same_name : (heap : List Object) (v : Val) (sc own : Scope) → own.is_fixed ≡ sc.is_fixed → definition_name own heap v ≡ definition_name sc heap v
same_name heap v sc own h = ap (name_by heap v) h

named_one : (found : Option SymId) (n : ℕ) (names : List (SymId × ℕ)) (own : Scope) → with_names (named_by found n names) own ≡ with_names names (with_named found n own)
named_one None n names own = refl
named_one (Some s) n names own = refl

named_fixed : (found : Option SymId) (n : ℕ) (own : Scope) → (with_named found n own).is_fixed ≡ own.is_fixed
named_fixed None n own = refl
named_fixed (Some s) n own = refl

pub definitions_named : (heap : List Object) (sc own : Scope) (n : ℕ) (vs : List Val) → own.is_fixed ≡ sc.is_fixed → with_definitions heap n vs own ≡ with_names (names_of sc heap n vs) own
definitions_named heap sc own n [] h = refl
definitions_named heap sc own n (v ∷ vs) h =
    let next = with_named (definition_name own heap v) n own in
    definitions_named heap sc next (suc n) vs (named_fixed (definition_name own heap v) n own ∙ h)
    ∙ (ap (λ (found : Option SymId). with_names (names_of sc heap (suc n) vs) (with_named found n own)) (same_name heap v sc own h)
    ∙ sym (named_one (definition_name sc heap v) n (names_of sc heap (suc n) vs) own))

-- ---- local functions

module _ (levels : ℕ) (inner : Inner) (sc : Scope) (w : World) where
  abbrev pub led_by : Reach → List Val → Sketch → Answer (ℕ × List (SymId × ℕ)) → Answer Core
  led_by reach vs x (gives p u) = functions_tree (inside levels) inner reach sc (with_names p.1 sc) p.0 vs x u
  led_by reach vs x (refused kind place) = refused kind place

  functions_by : (reach : Reach) (vs : List Val) (x : Sketch) (a : Answer ℕ) →
      and_then a (λ n. λ u. functions_tree (inside levels) inner reach sc (with_definitions u.heap n vs sc) n vs x u) ≡ led_by reach vs x (and_then a (λ n. λ u. gives (n, names_of sc u.heap n vs) u))
  functions_by reach vs x (gives n u) =
      ap (λ (own : Scope). functions_tree (inside levels) inner reach sc own n vs x u) (definitions_named u.heap sc sc n vs refl)
  functions_by reach vs x (refused kind place) = refl

  pub functions_begun : (reach : Reach) (vs : List Val) (x : Sketch) → functions_node levels inner sc reach vs x w ≡ led_by reach vs x (begin_functions levels sc vs w)
  unfolding functions_node begin_functions begin_numbers ◌>>=◌ ◌>>◌ look
  functions_begun reach vs x = functions_by reach vs x (and_then (begin 1 levels sc w) (λ _. take_numbers (length vs)))
