-- The input of a run: a list of characters, by their code points (ANSI Common Lisp 13.1.3; the code points are Unicode's scalar values).
use Rattle.std.specs.Prelude.{ℕ, nat_lt, nat_le, Bool, ◌||◌, ◌&&◌, IsTrue, List, [], ◌∷◌}

-- whether a number is a character's code point
abbrev pub is_character : ℕ → Bool
is_character c = nat_lt c 0xD800 || (nat_le 0xE000 c && nat_lt c 0x110000)

abbrev pub AreCharacters : List ℕ → Type 0
AreCharacters [] = Unit {0}
AreCharacters (c ∷ cs) = IsTrue (is_character c) × AreCharacters cs

-- No layer has a meaning on any other input.
pub record Input : Type 0 where
  pub letters : List ℕ
  pub are_characters : AreCharacters letters
