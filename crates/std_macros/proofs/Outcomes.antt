-- The outcome of a macro form, by its parts.
use Rattle.std.proofs.Common.{◌≡◌, ◌<◌, ◌≤◌, ◌+◌, ℕ, List, ◌∷◌, ◌++◌, append_assoc, Option, Some, None, Result, Ok, Err, length, map, drop, get_or, sym, ap, ◌∙◌}
use Rattle.std.proofs.lemmas.List.{drop_more, drop_all}
use Rattle.std.specs.Option.{option_map}
use Rattle.lisp_base.specs.declared.values.Val.{Val}
use Rattle.lisp_base.specs.declared.values.Place.{Place}
use Rattle.lisp_base.specs.Sort.{nil}
use Rattle.lisp_base.specs.Tables.{Table, Object}
use Rattle.lisp_forms.specs.declared.template.Template.{Template}
use Rattle.lisp_forms.specs.Growth.{Grows}
use Rattle.lisp_forms.specs.Conses.{place_at}
use Rattle.lisp_forms.specs.Trees.{Tree, tree_of}
use Rattle.lisp_forms.specs.Building.{built}
use Rattle.std_macros.specs.declared.macros.Macro.{Macro}
use Rattle.std_macros.specs.declared.expand.MacroFault.{MacroFault}
use Rattle.std_macros.specs.declared.expand.MacroFault.TheVariants.{BadForm, TooManySymbols, Memory}
use Rattle.std_macros.specs.declared.rule.Rule.{Rule}
use Rattle.std_macros.specs.Rules.{Expansion, expansion_of}
use Rattle.std_macros.specs.Expanding.{gives, bad, full, arguments_row, arguments_of, fresh_symbols, built_around, expanded, expanded_by, with_symbols, with_heap}

-- ---- the forms around a form

around_one : (symbols : List Val) (x : Tree) (xs : List Tree) (inner : Val × List Object) (v : Val) (after : List Object) → built symbols inner.0 x inner.1 ≡ (v, after) → built_around symbols (x ∷ xs) inner ≡ built_around symbols xs (v, after)
unfolding built_around
around_one symbols x xs inner v after is = ap (built_around symbols xs) is

pub around_more : (symbols : List Val) (xs : List Template) (i : ℕ) (item : Template) (form v : Val) (heap after : List Object) (whole : Val × List Object) → i < length xs → item ≡ get_or xs i item → built symbols form (tree_of item) heap ≡ (v, after) → built_around symbols (map tree_of (drop i xs)) (form, heap) ≡ whole → built_around symbols (map tree_of (drop (i + 1) xs)) (v, after) ≡ whole
around_more symbols xs i item form v heap after whole inside is made so_far =
    sym (around_one symbols (tree_of item) (map tree_of (drop (i + 1) xs)) (form, heap) v after made)
    ∙ (ap (λ (ts : List Template). built_around symbols (map tree_of ts) (form, heap)) (sym (drop_more xs i item inside ∙ ap (λ (x : Template). x ∷ drop (i + 1) xs) (sym is))) ∙ so_far)

pub around_all : (symbols : List Val) (xs : List Template) (i : ℕ) (form : Val) (heap : List Object) (whole : Val × List Object) → length xs ≤ i → built_around symbols (map tree_of (drop i xs)) (form, heap) ≡ whole → whole ≡ (form, heap)
unfolding built_around
around_all symbols xs i form heap whole past so_far =
    sym so_far ∙ ap (λ (ts : List Template). built_around symbols (map tree_of ts) (form, heap)) (drop_all i xs past)

-- ---- the three outcomes

abbrev place_in : Result Val MacroFault → Option Place
place_in (Ok v) = None
place_in (Err (BadForm place)) = place
place_in (Err TooManySymbols) = None
place_in (Err Memory) = None

module _ (name : Macro) (table : Table) (heap : List Object) (form : Val) where
  pub is_bad : None ≡ arguments_row name heap (arguments_of heap form) → expanded name table heap form ≡ bad (place_at heap form)
  unfolding expanded
  is_bad none = ap (λ (x : Option Expansion). expanded_by x (place_at heap form) table heap) (sym none)

  module _ (rule : Rule) (is : Some (expansion_of rule) ≡ arguments_row name heap (arguments_of heap form)) where
    pub is_full : fresh_symbols rule.fresh table ≡ None → expanded name table heap form ≡ full
    unfolding expanded
    is_full none =
        ap (λ (x : Option Expansion). expanded_by x (place_at heap form) table heap) (sym is)
        ∙ ap (with_symbols (expansion_of rule) heap) none

    pub is_given : (symbols : List Val) (after : Table) (v : Val) (new : List Object) → fresh_symbols rule.fresh table ≡ Some (symbols, after) → built_around symbols (expansion_of rule).around (built symbols nil (expansion_of rule).first heap) ≡ (v, new) → expanded name table heap form ≡ gives v after new
    unfolding expanded
    is_given symbols after v new made is_built =
        ap (λ (x : Option Expansion). expanded_by x (place_at heap form) table heap) (sym is)
        ∙ (ap (with_symbols (expansion_of rule) heap) made ∙ ap (with_heap after) is_built)

  -- as the code comes to them
  module _ (arguments : Val) (found : Option Rule) (here : arguments ≡ arguments_of heap form) (row : option_map expansion_of found ≡ arguments_row name heap arguments) where
    found_row : (o : Option Rule) → found ≡ o → option_map expansion_of o ≡ arguments_row name heap (arguments_of heap form)
    found_row o is = ap (option_map expansion_of) (sym is) ∙ (row ∙ ap (arguments_row name heap) here)

    pub bad_from : (p place : Option Place) → found ≡ None → p ≡ place_at heap form → ◌≡◌ {A = Result Val MacroFault} (Err (BadForm p)) (Err (BadForm place)) → expanded name table heap form ≡ bad place
    bad_from p place none at same = is_bad (found_row None none) ∙ ap bad (sym at ∙ ap place_in same)

    pub full_from : (rule : Rule) → found ≡ Some rule → fresh_symbols rule.fresh table ≡ None → expanded name table heap form ≡ full
    full_from rule is none = is_full rule (found_row (Some rule) is) none

    pub given_from : (rule : Rule) (symbols items : List Val) (after : Table) (v : Val) (new : List Object) → found ≡ Some rule → fresh_symbols rule.fresh table ≡ Some (items, after) → symbols ≡ items → built_around symbols (expansion_of rule).around (built symbols nil (expansion_of rule).first heap) ≡ (v, new) → expanded name table heap form ≡ gives v after new
    given_from rule symbols items after v new is made same is_built =
        is_given rule (found_row (Some rule) is) symbols after v new (made ∙ ap (λ (vs : List Val). Some (vs, after)) (sym same)) is_built

-- ---- heaps that hold what they held

pub grows_on : (xs ys zs : List Object) → Grows xs ys → Grows ys zs → Grows xs zs
grows_on xs ys zs (m, is) (n, js) = (m ++ n, js ∙ (ap (λ (l : List Object). l ++ n) is ∙ append_assoc xs m n))
