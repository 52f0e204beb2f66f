-- When bytes are a text.
use Rattle.std.proofs.Common.{◌≡◌, ℕ, ◌≤◌, inl, inr, true, false, cond, leb, List, length, Some, None, refl}
use Rattle.std.specs.Str.{IsUtf8, is_utf8}
use Rattle.std.proofs.lemmas.Bool.{le-leb, and_from, and_right, cases_Bool}
use Rattle.std.proofs.lemmas.Str.{is_utf8-from_IsUtf8, IsUtf8-from_is_utf8}
use Rattle.debug_info.specs.Tables.{is_text}

pub text_yes : (bytes text : List ℕ) → length bytes ≤ 1048576 → text ≡ bytes → IsUtf8 bytes → Some text ≡ cond (is_text bytes) (Some bytes) None
text_yes bytes text short e utf8 =
    let right : is_text bytes ≡ true = and_from (leb (length bytes) 1048576) (is_utf8 bytes) (le-leb _ _ short) (is_utf8-from_IsUtf8 bytes utf8) in
    rw (right, e) refl

pub text_no : (bytes : List ℕ) → ¬ (IsUtf8 bytes) → None ≡ cond (is_text bytes) (Some bytes) None
text_no bytes bad =
    let wrong : is_utf8 bytes ≡ false = elim (cases_Bool (is_utf8 bytes)) [ inl good ↦ absurd (bad (IsUtf8-from_is_utf8 bytes good)) | inr wrong ↦ wrong ] in
    let none : is_text bytes ≡ false = and_right (leb (length bytes) 1048576) (is_utf8 bytes) wrong in
    rw none refl
