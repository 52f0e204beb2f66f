-- How long an image can be.
use Rattle.std.proofs.Common.{◌≡◌, ℕ, ◌+◌, ◌-◌, ◌%◌, ◌≤◌, Bool, true, false, cond, eqb, leb, ltb, ◌&&◌, List, length, take, drop, Option, Some, None, Result, Ok, Err, refl, ap, subst, arith, length-drop}
use Rattle.std.specs.Int.{Width, w32, w64, byte_len, from_le_bytes}
use Rattle.std.proofs.lemmas.Bool.{and_parts, eqb-true, leb-true, ltb-false}
use Rattle.debug_info.specs.Tables.{Tables}
use Rattle.image.specs.declared.fault.ImageKind.{ImageKind}
use Rattle.image.specs.declared.fault.ImageKind.TheVariants as kinds
use Rattle.image.specs.Content.{Content, content, magic_number}
use Rattle.image.specs.Fields.{Fault, ◌>>=◌, fault, number, tested, field, part}
use Rattle.image.specs.Format.{Header, header_of, parts_of, image_of, is_code_length, is_statics_length, is_entry}
use Rattle.image.specs.Rows.{debug_of}
use Rattle.pyc_cli.specs.Making.{IsImageOf}
use Rattle.pyc_cli.specs.Told.{image_asked}

bind_ok : {A B : Type 0} (r : Result A Fault) (f : A → Result B Fault) (y : B) → (r >>= f) ≡ Ok y → (x : A) × (r ≡ Ok x) × (f x ≡ Ok y)
bind_ok (Ok x) f y e = (x, refl, e)
bind_ok (Err d) f y e = absurd cc

guard_ok : {A : Type 0} (b : Bool) (d : Fault) (x y : A) → cond b (Err d) (Ok x) ≡ Ok y → (b ≡ false) × (x ≡ y)
guard_ok true d x y e = absurd cc
guard_ok false d x y e = (refl, cc)

passed_ok : {A : Type 0} (b : Bool) (d : Fault) (x y : A) → cond b (Ok x) (Err d) ≡ Ok y → (b ≡ true) × (x ≡ y)
passed_ok true d x y e = (refl, cc)
passed_ok false d x y e = absurd cc

guard_some : {A : Type 0} (b : Bool) (x y : A) → cond b None (Some x) ≡ Some y → (b ≡ false) × (x ≡ y)
guard_some true x y e = absurd cc
guard_some false x y e = (refl, cc)

tested_ok : (is_right : ℕ → Bool) (kind : ImageKind) (end : ℕ) (bytes : List ℕ) (o : Option (ℕ × List ℕ)) (x : ℕ × List ℕ) → tested is_right kind end bytes o ≡ Ok x → (o ≡ Some x) × (is_right x.0 ≡ true)
tested_ok is_right kind end bytes None x e = absurd cc
tested_ok is_right kind end bytes (Some n) x e =
    let g = passed_ok (is_right n.0) (record { offset = end - length bytes; kind = kind }) n x e in
    (ap (λ (p : ℕ × List ℕ). Some p) g.1, subst (λ (p : ℕ × List ℕ). is_right p.0 ≡ true) g.1 g.0)

-- a field that was read
field_is : (w : Width) (is_right : ℕ → Bool) (kind : ImageKind) (end : ℕ) (bytes : List ℕ) (x : ℕ × List ℕ) → field w is_right kind end bytes ≡ Ok x → (length bytes ≡ byte_len w + length x.1) × (is_right x.0 ≡ true)
unfolding field
field_is w is_right kind end bytes x e =
    let t = tested_ok is_right kind end bytes (number w bytes) x e in
    let g = guard_some (ltb (length bytes) (byte_len w)) (from_le_bytes w (take (byte_len w) bytes), drop (byte_len w) bytes) x t.0 in
    let long : byte_len w ≤ length bytes = ltb-false _ _ g.0 in
    let rest : length (drop (byte_len w) bytes) ≡ length x.1 = ap (λ (p : ℕ × List ℕ). length p.1) g.1 in
    let dropped = length-drop (byte_len w) bytes in
    (omega arith, t.1)

-- a part that was read
part_is : (size end : ℕ) (bytes : List ℕ) (x : List ℕ × List ℕ) → part size end bytes ≡ Ok x → length bytes ≡ size + length x.1
unfolding part
part_is size end bytes x e =
    let g = guard_ok (ltb (length bytes) size) (record { offset = end; kind = kinds.Short }) (take size bytes, drop size bytes) x e in
    let long : size ≤ length bytes = ltb-false _ _ g.0 in
    let rest : length (drop size bytes) ≡ length x.1 = ap (λ (p : List ℕ × List ℕ). length p.1) g.1 in
    let dropped = length-drop size bytes in
    omega arith

-- a header that was read
record HeaderIs (bytes : List ℕ) (x : Header × List ℕ) : Type 0 where
  whole : length bytes ≡ 40 + length x.1
  code : is_code_length x.0.code ≡ true
  statics : is_statics_length x.0.statics ≡ true
  debug : leb x.0.debug 268435456 ≡ true

abbrev header_from : ℕ → ℕ → ℕ → ℕ → Header
header_from code statics debug entry = record { code = code; statics = statics; debug = debug; entry = entry }

abbrev done : {A : Type 0} → A → Result A Fault
done x = Ok x

ok_is : {A : Type 0} (x y : A) → done x ≡ done y → x ≡ y
ok_is x y e = cc

header_is : (end : ℕ) (bytes : List ℕ) (x : Header × List ℕ) → header_of end bytes ≡ Ok x → HeaderIs bytes x
unfolding header_of
header_is end bytes x e =
    let is_magic : ℕ → Bool = λ n. eqb n magic_number in
    let is_version : ℕ → Bool = λ n. eqb n 1 in
    let is_debug : ℕ → Bool = λ n. leb n 268435456 in
    let f6 = λ (code statics debug entry : ℕ × List ℕ). Ok (header_from code.0 statics.0 debug.0 entry.0, entry.1) in
    let f5 = λ (code statics debug : ℕ × List ℕ). (field w64 (is_entry code.0) kinds.Entry end debug.1 >>= λ entry. f6 code statics debug entry) in
    let f4 = λ (code statics : ℕ × List ℕ). (field w64 is_debug kinds.DebugLength end statics.1 >>= λ debug. f5 code statics debug) in
    let f3 = λ (code : ℕ × List ℕ). (field w64 is_statics_length kinds.StaticsLength end code.1 >>= λ statics. f4 code statics) in
    let f2 = λ (version : ℕ × List ℕ). (field w64 is_code_length kinds.CodeLength end version.1 >>= λ code. f3 code) in
    let f1 = λ (magic : ℕ × List ℕ). (field w32 is_version kinds.Version end magic.1 >>= λ version. f2 version) in
    let a = bind_ok (field w32 is_magic kinds.Magic end bytes) f1 x e in
    let b = bind_ok (field w32 is_version kinds.Version end a.0.1) f2 x a.2 in
    let d = bind_ok (field w64 is_code_length kinds.CodeLength end b.0.1) f3 x b.2 in
    let g = bind_ok (field w64 is_statics_length kinds.StaticsLength end d.0.1) (f4 d.0) x d.2 in
    let h = bind_ok (field w64 is_debug kinds.DebugLength end g.0.1) (f5 d.0 g.0) x g.2 in
    let i = bind_ok (field w64 (is_entry d.0.0) kinds.Entry end h.0.1) (f6 d.0 g.0 h.0) x h.2 in
    let t1 = (field_is w32 is_magic kinds.Magic end bytes a.0 a.1).0 in
    let t2 = (field_is w32 is_version kinds.Version end a.0.1 b.0 b.1).0 in
    let t3 = field_is w64 is_code_length kinds.CodeLength end b.0.1 d.0 d.1 in
    let t4 = field_is w64 is_statics_length kinds.StaticsLength end d.0.1 g.0 g.1 in
    let t5 = field_is w64 is_debug kinds.DebugLength end g.0.1 h.0 h.1 in
    let t6 = (field_is w64 (is_entry d.0.0) kinds.Entry end h.0.1 i.0 i.1).0 in
    let c3 = t3.0 in
    let c4 = t4.0 in
    let c5 = t5.0 in
    let made : Header × List ℕ = (header_from d.0.0 g.0.0 h.0.0 i.0.0, i.0.1) in
    let is : HeaderIs bytes made = record { whole = omega arith; code = t3.1; statics = t4.1; debug = t5.1 } in
    subst (λ (y : Header × List ℕ). HeaderIs bytes y) (ok_is made x i.2) is

-- the parts behind a header
parts_is : (end : ℕ) (h : Header) (bytes : List ℕ) (i : Content) → parts_of end h bytes ≡ Ok i → length bytes ≡ h.code + (h.statics + h.debug)
unfolding parts_of
parts_is end h bytes i e =
    let f4 = λ (code statics debug : List ℕ × List ℕ) (tables : Tables). cond (eqb (length debug.1) 0) (Ok (content code.0 statics.0 tables h.entry)) (fault (end - length debug.1) kinds.Trailing) in
    let f3 = λ (code statics debug : List ℕ × List ℕ). (debug_of (end - length debug.1) debug.0 >>= λ tables. f4 code statics debug tables) in
    let f2 = λ (code statics : List ℕ × List ℕ). (part h.debug end statics.1 >>= λ debug. f3 code statics debug) in
    let f1 = λ (code : List ℕ × List ℕ). (part h.statics end code.1 >>= λ statics. f2 code statics) in
    let a = bind_ok (part h.code end bytes) f1 i e in
    let b = bind_ok (part h.statics end a.0.1) (f2 a.0) i a.2 in
    let d = bind_ok (part h.debug end b.0.1) (f3 a.0 b.0) i b.2 in
    let g = bind_ok (debug_of (end - length d.0.1) d.0.0) (f4 a.0 b.0 d.0) i d.2 in
    let k = passed_ok (eqb (length d.0.1) 0) (record { offset = end - length d.0.1; kind = kinds.Trailing }) (content a.0.0 b.0.0 g.0 h.entry) i g.2 in
    let t1 = part_is h.code end bytes a.0 a.1 in
    let t2 = part_is h.statics end a.0.1 b.0 b.1 in
    let t3 = part_is h.debug end b.0.1 d.0 d.1 in
    let last = eqb-true (length d.0.1) 0 k.0 in
    omega arith

-- an image is shorter than what is asked for
pub image_short : (bytes : List ℕ) (i : Content) → image_of bytes ≡ Ok i → length bytes ≤ image_asked
unfolding image_of image_asked
image_short bytes i e =
    let a = bind_ok (header_of (length bytes) bytes) (λ h. parts_of (length bytes) h.0 h.1) i e in
    let x = a.0 in
    let h = header_is (length bytes) bytes x a.1 in
    let whole = h.whole in
    let parts = parts_is (length bytes) x.0 x.1 i a.2 in
    let c = and_parts (eqb (x.0.code % 4) 0) (leb 4 x.0.code && leb x.0.code 134217728) h.code in
    let c2 = and_parts (leb 4 x.0.code) (leb x.0.code 134217728) c.1 in
    let s = and_parts (eqb (x.0.statics % 8) 0) (leb x.0.statics 67108864) h.statics in
    let code = leb-true x.0.code 134217728 c2.1 in
    let statics = leb-true x.0.statics 67108864 s.1 in
    let debug = leb-true x.0.debug 268435456 h.debug in
    omega arith

-- so is the image of a source
pub set_fits : (source image bytes : List ℕ) → bytes ≡ image → IsImageOf source image → length bytes ≤ image_asked
set_fits source image bytes same is =
    let short = image_short image is.content is.is_image in
    let lengths : length bytes ≡ length image = ap length same in
    omega arith
