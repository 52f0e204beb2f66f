-- What holds of each row of a table.
use Rattle.std.proofs.Common.{◌≡◌, ℕ, zero, Result, suc, ◌^◌, ◌<◌, Bool, true, List, [], ◌∷◌, ◌++◌, length, get_or, ap, ◌∙◌, append_assoc, arith}
use Rattle.std.specs.Prelude.{IsTrue, OnOk, String}
use Rattle.std.proofs.lemmas.Result.{on_ok_weaker}
use Rattle.std.specs.Global.{Global}
use Rattle.std.specs.String.{string_bytes}
use Rattle.std.specs.List.{list_all}
use Rattle.std.specs.Str.{is_utf8}
use Rattle.std.proofs.lemmas.Bool.{and_parts, leb-true}
use Rattle.debug_info.specs.Tables.{is_text}
use Rattle.debug_info.specs.Texts.{bytes_of}

pub all_at : {X : Type 0} (p : X → Bool) (xs : List X) (i : ℕ) (d : X) → list_all p xs ≡ true → i < length xs → p (get_or xs i d) ≡ true
all_at p [] i d h lt = absurd (omega arith)
all_at p (x ∷ xs) zero d h lt = (and_parts (p x) (list_all p xs) h).0
all_at p (x ∷ xs) (suc i) d h lt = all_at p xs i d (and_parts (p x) (list_all p xs) h).1 (omega arith)

pub text_fits : (texts : List (String Global)) (i : ℕ) (d : String Global) → IsTrue (list_all is_text (bytes_of texts)) → i < length texts
    → length (string_bytes (get_or texts i d)) < 2 ^ 32
text_fits [] i d h lt = absurd (omega arith)
text_fits (t ∷ texts) zero d h lt =
    let own = (and_parts (is_text (string_bytes t)) (list_all is_text (bytes_of texts)) h).0 in
    let short = leb-true (length (string_bytes t)) 1048576 (and_parts _ (is_utf8 (string_bytes t)) own).0 in
    omega (arith, short)
text_fits (t ∷ texts) (suc i) d h lt =
    text_fits texts i d (and_parts (is_text (string_bytes t)) (list_all is_text (bytes_of texts)) h).1 (omega arith)

-- what stands at the end after some writes, if the last of them succeeds
pub append3 : {T E : Type 0} (r : Result T E) (o a b c x y z : List ℕ) → x ≡ o ++ a → y ≡ x ++ b → OnOk r (z ≡ y ++ c) → OnOk r (z ≡ o ++ (a ++ (b ++ c)))
append3 r o a b c x y z ex ey last =
    let joined : ((o ++ a) ++ b) ++ c ≡ o ++ (a ++ (b ++ c)) = simp append_assoc in
    on_ok_weaker r (λ e. e ∙ ap (λ (t : List ℕ). t ++ c) (ey ∙ ap (λ (t : List ℕ). t ++ b) ex) ∙ joined) last

pub append4 : {T E : Type 0} (r : Result T E) (o a b c d x y w z : List ℕ) → x ≡ o ++ a → y ≡ x ++ b → w ≡ y ++ c → OnOk r (z ≡ w ++ d) → OnOk r (z ≡ o ++ (a ++ (b ++ (c ++ d))))
append4 r o a b c d x y w z ex ey ew last =
    let joined : (((o ++ a) ++ b) ++ c) ++ d ≡ o ++ (a ++ (b ++ (c ++ d))) = simp append_assoc in
    on_ok_weaker r (λ e. e ∙ ap (λ (t : List ℕ). t ++ d) (ew ∙ ap (λ (t : List ℕ). t ++ c) (ey ∙ ap (λ (t : List ℕ). t ++ b) ex)) ∙ joined) last

pub append6 : {T E : Type 0} (r : Result T E) (o a b c d e f x1 x2 x3 x4 x5 z : List ℕ)
    → x1 ≡ o ++ a → x2 ≡ x1 ++ b → x3 ≡ x2 ++ c → x4 ≡ x3 ++ d → x5 ≡ x4 ++ e → OnOk r (z ≡ x5 ++ f)
    → OnOk r (z ≡ o ++ (a ++ (b ++ (c ++ (d ++ (e ++ f))))))
append6 r o a b c d e f x1 x2 x3 x4 x5 z e1 e2 e3 e4 e5 last =
    let joined : (((((o ++ a) ++ b) ++ c) ++ d) ++ e) ++ f ≡ o ++ (a ++ (b ++ (c ++ (d ++ (e ++ f))))) = simp append_assoc in
    let four = e4 ∙ ap (λ (t : List ℕ). t ++ d) (e3 ∙ ap (λ (t : List ℕ). t ++ c) (e2 ∙ ap (λ (t : List ℕ). t ++ b) e1)) in
    on_ok_weaker r (λ h. h ∙ ap (λ (t : List ℕ). t ++ f) (e5 ∙ ap (λ (t : List ℕ). t ++ e) four) ∙ joined) last
