-- The shapes of what is begun, read off the stack.
use Rattle.std.proofs.Common.{◌≡◌, ◌<◌, List, [], ◌∷◌, fold, reverse, refl, sym, ap, ◌∙◌, not, Bool, ◌||◌, Some, get_or, length, arith}
use Rattle.std.proofs.lemmas.List.Sums.{fold_push}
use Rattle.std.proofs.lemmas.List.{reverse-append}
use Rattle.std.specs.List.{list_any}
use Rattle.lisp_reader.specs.declared.around.Around.{Around}
use Rattle.lisp_reader.specs.declared.level.Level.{Level as Kept}
use Rattle.lisp_reader.specs.Held.{level_of, levels_of}
use Rattle.lisp_reader.specs.Machine.{shape_of, shapes_of}
use Rattle.lisp_reader.specs.Reading.{inside, into, in_some_list, is_prefix, nearest}
use Rattle.lisp_reader.specs.Trees.{top}

pub inside_folded : (ls : List Kept) → fold (λ around level. into (shape_of (level_of level)) around) top (reverse ls) ≡ inside (shapes_of (levels_of ls))
inside_folded [] = refl
inside_folded (l ∷ ls) =
    ap (fold (λ (around : Around) (level : Kept). into (shape_of (level_of level)) around) top) (reverse-append (l ∷ []) ls)
    ∙ (fold_push (λ (around : Around) (level : Kept). into (shape_of (level_of level)) around) top (reverse ls) l
    ∙ ap (λ (a : Around). into (shape_of (level_of l)) a) (inside_folded ls))

pub some_list : (ls : List Kept) → list_any (λ level. not (is_prefix (shape_of (level_of level)))) ls ≡ in_some_list (shapes_of (levels_of ls))
some_list [] = refl
some_list (l ∷ ls) = ap (λ (b : Bool). not (is_prefix (shape_of (level_of l))) || b) (some_list ls)

pub nearest_first : (ls : List Kept) (l : Kept) → 0 < length ls → l ≡ get_or ls 0 l → nearest (shapes_of (levels_of ls)) ≡ Some (shape_of (level_of l))
nearest_first [] l h e = absurd (omega arith)
nearest_first (k ∷ ks) l h e = ap (λ (m : Kept). Some (shape_of (level_of m))) (sym e)
