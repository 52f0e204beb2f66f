-- Laws of the words of a command line.
use Rattle.std.proofs.Common.{◌≡◌, ℕ, ◌+◌, ◌-◌, ◌*◌, ◌^◌, ◌<◌, ◌≤◌, List, [], ◌∷◌, length, take, drop, get_or, refl, ap, map, Some, None, Result, true, ◌&&◌, arith, ◌∙◌}
use Rattle.std.specs.Char.{is_ascii_digit}
use Rattle.std.specs.List.{fold, list_all}
use Rattle.std.specs.Option.{option_and_then}
use Rattle.std.specs.Result.{result_ok}
use Rattle.std.specs.Str.{all_ascii_digits}
use Rattle.std.specs.Str.Parse.{ParsesUnsigned}
use Rattle.std.proofs.lemmas.Bool.{and_parts, ltb-true, leb-true}
use Rattle.std.proofs.lemmas.List.{take_all}
use Rattle.std.proofs.lemmas.Str.Parse.{IsNumeralModel, FoldsDigits, numerals_by_fold, tells_all_ascii_digits, parse_gives, digits_value_short}
use Rattle.pyc_cli.specs.Order.{value_of, is_decimal, Given, with_option, with_options, shape_of, shaped, order_of}
use Rattle.pyc_cli.specs.declared.words.Shape.{Shape}

-- ---- numbers

pub digits_all : (bs : List ℕ) → list_all (λ byte. is_ascii_digit byte) bs ≡ all_ascii_digits bs
digits_all [] = refl
digits_all (b ∷ bs) = ap (λ rest. is_ascii_digit b && rest) (digits_all bs)

abbrev value_after : ℕ → List ℕ → ℕ
value_after n digits = fold (λ m digit. m * 10 + (digit - 48)) n digits

folds : FoldsDigits value_after
folds = record { empty = λ n. refl; more = λ n c cs is. refl }

is_model : IsNumeralModel (λ ds. all_ascii_digits ds ≡ true) value_of
is_model = numerals_by_fold _ tells_all_ascii_digits value_after folds

-- std's reading of a decimal gives its value
pub parsed : {E : Type 0} (bs : List ℕ) (r : Result ℕ E) → ParsesUnsigned 64 10 bs r → is_decimal bs ≡ true → result_ok r ≡ Some (value_of bs)
parsed bs r parses is =
    let some = and_parts _ _ is in
    let short = and_parts _ _ some.1 in
    let digits = and_parts _ _ short.1 in
    let small : value_of bs < 10 ^ 19 = digits_value_short is_model bs 19 digits.0 (leb-true _ _ short.0) in
    ap result_ok (parse_gives is_model 64 bs r parses digits.0 (ltb-true _ _ some.0) (omega (arith, small)))

-- ---- slices of words, of which each has its bytes

module _ {X : Type 0} (bytes : X → List ℕ) where
  -- a name and a number in front are an option, and the others follow
  pub options_go_on : (words : List X) (a b : X) (name number : List ℕ) (now after : Given) → 2 ≤ length words → a ≡ get_or words 0 a → b ≡ get_or words 1 b → name ≡ bytes a → number ≡ bytes b → Some after ≡ with_option name number now →
      with_options (map bytes (take (length words - 2) (drop 2 words))) after ≡ with_options (map bytes words) now
  options_go_on [] a b name number now after long a_is b_is name_is number_is gives = absurd (omega arith)
  options_go_on (x ∷ []) a b name number now after long a_is b_is name_is number_is gives = absurd (omega arith)
  options_go_on (x ∷ y ∷ words) a b name number now after long a_is b_is name_is number_is gives =
      let whole : take (length (x ∷ y ∷ words) - 2) words ≡ words = take_all _ words (omega arith) in
      let named : name ≡ bytes x = name_is ∙ ap bytes a_is in
      let numbered : number ≡ bytes y = number_is ∙ ap bytes b_is in
      ap (λ (ws : List X). with_options (map bytes ws) after) whole
      ∙ (ap (option_and_then (with_options (map bytes words))) gives
      ∙ (λ i. option_and_then (with_options (map bytes words)) (with_option (named i) (numbered i) now)))

  -- a name alone is no option
  pub options_end : (words : List X) (now : Given) → length words < 2 → (length words ≡ 0 → ⊥) → None ≡ with_options (map bytes words) now
  options_end [] now short some = absurd (some refl)
  options_end (x ∷ []) now short some = refl
  options_end (x ∷ y ∷ words) now short some = absurd (omega arith)

  -- the command in front is what the words after it are of
  pub command_in_front : (words : List X) (a : X) (word : List ℕ) (shape : Shape) → 1 ≤ length words → a ≡ get_or words 0 a → word ≡ bytes a → Some shape ≡ shape_of word →
      shaped shape (map bytes (take (length words - 1) (drop 1 words))) ≡ order_of (map bytes words)
  command_in_front [] a word shape some a_is word_is gives = absurd (omega arith)
  command_in_front (x ∷ words) a word shape some a_is word_is gives =
      let whole : take (length (x ∷ words) - 1) words ≡ words = take_all _ words (omega arith) in
      ap (λ (ws : List X). shaped shape (map bytes ws)) whole
      ∙ (ap (option_and_then (λ (s : Shape). shaped s (map bytes words))) gives
      ∙ ap (λ (w : List ℕ). option_and_then (λ (s : Shape). shaped s (map bytes words)) (shape_of w)) (word_is ∙ ap bytes a_is))
