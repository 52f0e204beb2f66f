-- A field that is read is the field that was written, and what was written is read again.
use Rattle.std.proofs.Common.{◌≡◌, ℕ, ◌+◌, ◌-◌, ◌^◌, ◌<◌, ◌≤◌, Bool, true, false, cond, ltb, List, ◌++◌, length, get_or, take, drop, Option, Some, None, Result, Ok, Err, refl, sym, ap, subst, ◌∙◌, append_assoc, arith, inl, inr, length-append, length-take}
use Rattle.std.specs.Int.{Width, w32, w64, byte_len, from_le_bytes, to_le_bytes}
use Rattle.std.proofs.lemmas.Bool.{cases_lt, ltb-false, le-ltb}
use Rattle.std.proofs.lemmas.List.{take_at, drop_at, take-append-drop, get_or-drop, get_or-take, get_or_past}
use Rattle.std.proofs.lemmas.Nat.{le_bytes_4, le_bytes_8, from_le_bytes-to_le_bytes_4, from_le_bytes-to_le_bytes_8}
use Rattle.image.specs.declared.fault.ImageKind.{ImageKind}
use Rattle.image.specs.declared.fault.ImageKind.TheVariants as kinds
use Rattle.image.specs.Fields.{Fault, ◌>>=◌, number, tested, field, part}

abbrev pub IsBytes : List ℕ → Type 0
IsBytes bytes = (i : ℕ) → get_or bytes i 0 < 256

pub IsBytes-drop : (n : ℕ) (bytes : List ℕ) → IsBytes bytes → IsBytes (drop n bytes)
IsBytes-drop n bytes h i = rw get_or-drop (h (n + i))

pub IsBytes-take : (n : ℕ) (bytes : List ℕ) → IsBytes bytes → IsBytes (take n bytes)
IsBytes-take n bytes h i =
    elim (cases_lt i n) [
      | inl lt ↦ rw (get_or-take n bytes i 0 lt) (h i)
      | inr le ↦ rw (get_or_past (take n bytes) i 0 (omega (arith, length-take n bytes))) (omega arith)
    ]

-- the value of a step that did not fail
pub bind_ok : {A B : Type 0} (r : Result A Fault) (f : A → Result B Fault) (y : B) → (r >>= f) ≡ Ok y → (x : A) × (r ≡ Ok x) × (f x ≡ Ok y)
bind_ok (Ok x) f y e = (x, refl, e)
bind_ok (Err d) f y e = absurd cc

-- tests that did not fail
pub guard_ok : {A : Type 0} (b : Bool) (d : Fault) (x y : A) → cond b (Err d) (Ok x) ≡ Ok y → (b ≡ false) × (x ≡ y)
guard_ok true d x y e = absurd cc
guard_ok false d x y e = (refl, cc)

pub passed_ok : {A : Type 0} (b : Bool) (d : Fault) (x y : A) → cond b (Ok x) (Err d) ≡ Ok y → (b ≡ true) × (x ≡ y)
passed_ok true d x y e = (refl, cc)
passed_ok false d x y e = absurd cc

pub guard_some : {A : Type 0} (b : Bool) (x y : A) → cond b None (Some x) ≡ Some y → (b ≡ false) × (x ≡ y)
guard_some true x y e = absurd cc
guard_some false x y e = (refl, cc)

abbrev done : {A : Type 0} → A → Result A Fault
done x = Ok x

pub ok_is : {A : Type 0} (x y : A) → done x ≡ done y → x ≡ y
ok_is x y e = cc

-- what a reader took from the front
pub record Takes (bytes text rest : List ℕ) : Type 0 where
  pub parts : bytes ≡ text ++ rest
  pub rest_fits : IsBytes rest

pub Takes-then : (a x b y c : List ℕ) → Takes a x b → Takes b y c → Takes a (x ++ y) c
Takes-then a x b y c p q = record { parts = p.parts ∙ ap (λ (t : List ℕ). x ++ t) q.parts ∙ sym (append_assoc x y c); rest_fits = q.rest_fits }

-- ---- numbers

pub record IsWide (w : Width) (limit : ℕ) : Type 0 where
  pub len : (n : ℕ) → length (to_le_bytes w n) ≡ byte_len w
  pub back : (bytes : List ℕ) → length bytes ≡ byte_len w → IsBytes bytes → to_le_bytes w (from_le_bytes w bytes) ≡ bytes
  pub again : (n : ℕ) → n < limit → from_le_bytes w (to_le_bytes w n) ≡ n
  pub below : (bytes : List ℕ) → IsBytes bytes → from_le_bytes w bytes < limit

pub wide32 : IsWide w32 (2 ^ 32)
wide32 = record {
  len = λ n. refl;
  back = λ bytes len fits. le_bytes_4 bytes _ len fits refl;
  again = λ n lt. from_le_bytes-to_le_bytes_4 n lt;
  below = λ bytes fits. omega (arith, fits 0, fits 1, fits 2, fits 3);
}

pub wide64 : IsWide w64 (2 ^ 64)
wide64 = record {
  len = λ n. refl;
  back = λ bytes len fits. le_bytes_8 bytes _ len fits refl;
  again = λ n lt. from_le_bytes-to_le_bytes_8 n lt;
  below = λ bytes fits. omega (arith, fits 0, fits 1, fits 2, fits 3, fits 4, fits 5, fits 6, fits 7);
}

pub number_takes : (w : Width) (limit : ℕ) (wide : IsWide w limit) (bytes : List ℕ) (x : ℕ × List ℕ) → IsBytes bytes → number w bytes ≡ Some x → Takes bytes (to_le_bytes w x.0) x.1 × (x.0 < limit)
number_takes w limit wide bytes x fits e =
    let g = guard_some (ltb (length bytes) (byte_len w)) (from_le_bytes w (take (byte_len w) bytes), drop (byte_len w) bytes) x e in
    let long : byte_len w ≤ length bytes = ltb-false _ _ g.0 in
    let n-is : from_le_bytes w (take (byte_len w) bytes) ≡ x.0 = ap (λ (p : ℕ × List ℕ). p.0) g.1 in
    let rest-is : drop (byte_len w) bytes ≡ x.1 = ap (λ (p : ℕ × List ℕ). p.1) g.1 in
    let front : to_le_bytes w x.0 ≡ take (byte_len w) bytes = rw (← n-is) (wide.back (take (byte_len w) bytes) (omega (arith, length-take (byte_len w) bytes)) (IsBytes-take (byte_len w) bytes fits)) in
    (record { parts = rw (front, ← rest-is) (sym (take-append-drop (byte_len w) bytes)); rest_fits = rw (← rest-is) (IsBytes-drop (byte_len w) bytes fits) }, rw (← n-is) (wide.below (take (byte_len w) bytes) (IsBytes-take (byte_len w) bytes fits)))

pub number_again : (w : Width) (limit : ℕ) (wide : IsWide w limit) (n : ℕ) (rest : List ℕ) → n < limit → number w (to_le_bytes w n ++ rest) ≡ Some (n, rest)
number_again w limit wide n rest lt =
    let len = wide.len n in
    let long : ltb (length (to_le_bytes w n ++ rest)) (byte_len w) ≡ false = le-ltb _ _ (omega (arith, length-append (to_le_bytes w n) rest)) in
    rw (long, take_at (to_le_bytes w n) rest (byte_len w) len, drop_at (to_le_bytes w n) rest (byte_len w) len, wide.again n lt) refl

-- ---- fields

tested_ok : (is_right : ℕ → Bool) (kind : ImageKind) (end : ℕ) (bytes : List ℕ) (o : Option (ℕ × List ℕ)) (x : ℕ × List ℕ) → tested is_right kind end bytes o ≡ Ok x → (o ≡ Some x) × (is_right x.0 ≡ true)
tested_ok is_right kind end bytes None x e = absurd cc
tested_ok is_right kind end bytes (Some n) x e =
    let g = passed_ok (is_right n.0) (record { offset = end - length bytes; kind = kind }) n x e in
    (ap (λ (p : ℕ × List ℕ). Some p) g.1, subst (λ (p : ℕ × List ℕ). is_right p.0 ≡ true) g.1 g.0)

pub record IsField (w : Width) (limit : ℕ) (is_right : ℕ → Bool) (bytes : List ℕ) (x : ℕ × List ℕ) : Type 0 where
  pub takes : Takes bytes (to_le_bytes w x.0) x.1
  pub below : x.0 < limit
  pub right : is_right x.0 ≡ true

pub field_takes : (w : Width) (limit : ℕ) (wide : IsWide w limit) (is_right : ℕ → Bool) (kind : ImageKind) (end : ℕ) (bytes : List ℕ) (x : ℕ × List ℕ)
    → IsBytes bytes → field w is_right kind end bytes ≡ Ok x → IsField w limit is_right bytes x
unfolding field
field_takes w limit wide is_right kind end bytes x fits e =
    let t = tested_ok is_right kind end bytes (number w bytes) x e in
    let n = number_takes w limit wide bytes x fits t.0 in
    record { takes = n.0; below = n.1; right = t.1 }

pub field_again : (w : Width) (limit : ℕ) (wide : IsWide w limit) (is_right : ℕ → Bool) (kind : ImageKind) (end n : ℕ) (rest : List ℕ)
    → n < limit → is_right n ≡ true → field w is_right kind end (to_le_bytes w n ++ rest) ≡ Ok (n, rest)
unfolding field
field_again w limit wide is_right kind end n rest lt right =
    ap (tested is_right kind end (to_le_bytes w n ++ rest)) (number_again w limit wide n rest lt) ∙ rw right refl

-- ---- parts

pub record IsPart (size : ℕ) (bytes : List ℕ) (x : List ℕ × List ℕ) : Type 0 where
  pub takes : Takes bytes x.0 x.1
  pub long : length x.0 ≡ size
  pub fits : IsBytes x.0

pub part_takes : (size end : ℕ) (bytes : List ℕ) (x : List ℕ × List ℕ) → IsBytes bytes → part size end bytes ≡ Ok x → IsPart size bytes x
unfolding part
part_takes size end bytes x fits e =
    let g = guard_ok (ltb (length bytes) size) (record { offset = end; kind = kinds.Short }) (take size bytes, drop size bytes) x e in
    let long : size ≤ length bytes = ltb-false _ _ g.0 in
    let whole : IsPart size bytes (take size bytes, drop size bytes) = record {
      takes = record { parts = sym (take-append-drop size bytes); rest_fits = IsBytes-drop size bytes fits };
      long = omega (arith, length-take size bytes);
      fits = IsBytes-take size bytes fits;
    } in
    subst (IsPart size bytes) g.1 whole

pub part_again : (size end : ℕ) (text rest : List ℕ) → length text ≡ size → part size end (text ++ rest) ≡ Ok (text, rest)
unfolding part
part_again size end text rest len =
    let long : ltb (length (text ++ rest)) size ≡ false = le-ltb _ _ (omega (arith, length-append text rest)) in
    rw (long, take_at text rest size len, drop_at text rest size len) refl

pub part_size : (size end : ℕ) (bytes : List ℕ) (x : List ℕ × List ℕ) → part size end bytes ≡ Ok x → length x.0 ≡ size
unfolding part
part_size size end bytes x e =
    let g = guard_ok (ltb (length bytes) size) (record { offset = end; kind = kinds.Short }) (take size bytes, drop size bytes) x e in
    let long : size ≤ length bytes = ltb-false _ _ g.0 in
    let len : length (take size bytes) ≡ size = omega (arith, length-take size bytes) in
    subst (λ (p : List ℕ × List ℕ). length p.0 ≡ size) g.1 len
