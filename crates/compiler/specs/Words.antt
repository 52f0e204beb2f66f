-- The words by which an image of the first path holds its values.
use Rattle.std.specs.Prelude.{ℕ, zero, suc}
use Rattle.lisp_base.specs.declared.values.Val.{Val}
use Rattle.lisp_base.specs.declared.values.Val.TheVariants.{Int, Char, Sym, Ref}
use Rattle.lisp_base.specs.Sort.{number_of}
use Rattle.object_model.specs.Words.{character_word}

-- pointers to the first objects of the statics: the cons of NIL, and the symbol object of T
abbrev pub nil_word : ℕ
nil_word = 0x20000003

abbrev pub truth_word : ℕ
truth_word = 0x2000003F

abbrev pub symbol_word : ℕ → ℕ
symbol_word zero = nil_word
symbol_word (suc n) = truth_word

-- an image of these forms holds NIL, T and characters alone
abbrev pub word_of_value : Val → ℕ
word_of_value (Int z) = 0
word_of_value (Char c) = character_word c
word_of_value (Sym s) = symbol_word (number_of s)
word_of_value (Ref o) = 0
