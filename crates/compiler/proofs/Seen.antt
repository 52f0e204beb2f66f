-- A word in the image's memory looks as its value in the program does.
use Rattle.std.proofs.Common.{refl, sym, ap, ◌∙◌, arith}
use Rattle.std.proofs.lemmas.Bool.Decides.{nat_tests}
use Rattle.std.specs.Prelude.{◌≡◌, ℕ, zero, suc, ◌/◌, ◌%◌, ◌<◌, ◌==◌, Bool, true, false, if◌then◌else◌, List, slice_get}
use Rattle.lisp_base.specs.declared.values.Val.{Val}
use Rattle.lisp_base.specs.declared.values.Val.TheVariants.{Int, Char, Sym, Ref}
use Rattle.lisp_base.specs.Sort.{number_of}
use Rattle.lisp_base.specs.Seen.{Tree, Bad, Number, Letter}
use Rattle.core_form.specs.State.{Object, Symbol}
use Rattle.core_form.specs.Seen.{symbol_tree}
use Rattle.object_model.specs.Tags.{is_character}
use Rattle.object_model.specs.Words.{character_word}
use Rattle.compiler.specs.Words.{word_of_value, symbol_word}
use Rattle.compiler.specs.SeenWords.{tree_of_word}
use Rattle.compiler.specs.Meets.{SameSeen}
use Rattle.compiler.specs.Parts.{BeginsWithNames}
use Rattle.compiler.proofs.Calm.{Legal}
use Rattle.compiler.proofs.Tagged.{first_memory}

letter_by_tests : (x y : Bool) (n c : ℕ) (first last : Tree) → x ≡ false → y ≡ true → n ≡ c → is_character c ≡ true →
    (if x then first else (if y then (if is_character n then Letter n else Bad) else last)) ≡ Letter c
letter_by_tests x y n c first last hx hy e h =
    (ap (λ (b : Bool). if b then first else (if y then (if is_character n then Letter n else Bad) else last)) hx ∙
    ap (λ (b : Bool). if b then (if is_character n then Letter n else Bad) else last) hy) ∙
    (ap (λ (m : ℕ). if is_character m then Letter m else Bad) e ∙ ap (λ (b : Bool). if b then Letter c else Bad) h)

letter_seen : (c j : ℕ) → is_character c ≡ true → tree_of_word first_memory (suc j) (character_word c) ≡ Letter c
letter_seen c j h =
    letter_by_tests (character_word c % 4 == 0) (character_word c % 256 == 2) (character_word c / 256) c _ _
    (grind (arith, nat_tests)) (grind (arith, nat_tests)) (omega arith) h

symbol_seen : (symbols : List Symbol) → BeginsWithNames symbols → (n j : ℕ) → n < 2 → tree_of_word first_memory (suc j) (symbol_word n) ≡ symbol_tree (slice_get symbols n)
symbol_seen symbols names zero j h = sym (ap symbol_tree names.nil)
symbol_seen symbols names (suc zero) j h = sym (ap symbol_tree names.truth)
symbol_seen symbols names (suc (suc n)) j h = absurd (omega arith)

pub value_seen : (symbols : List Symbol) → BeginsWithNames symbols → (store : List Object) (v : Val) → Legal v → SameSeen first_memory (word_of_value v) symbols store v
value_seen symbols names store v l zero = refl
value_seen symbols names store (Int z) l (suc j) = ap Number (sym l)
value_seen symbols names store (Char c) l (suc j) = letter_seen c j l
value_seen symbols names store (Sym s) l (suc j) = symbol_seen symbols names (number_of s) j l
value_seen symbols names store (Ref o) l (suc j) = absurd l
