-- The two laws: what is read is spelled so, and what is spelled so is read.
use Rattle.std.proofs.Common.{◌≡◌, ℕ, ◌+◌, ◌-◌, ◌%◌, ◌^◌, ◌<◌, ◌≤◌, Bool, true, cond, eqb, leb, ltb, ◌&&◌, List, [], ◌++◌, length, Ok, refl, sym, ap, subst, ◌∙◌, append_assoc, arith}
use Rattle.std.specs.Int.{w32, w64, to_le_bytes}
use Rattle.std.proofs.lemmas.Bool.{and_parts, and_from, eqb-true, eq-eqb, leb-true, le-leb, ltb-true, lt-ltb}
use Rattle.std.proofs.lemmas.List.{append-nil, nil_from_length}
use Rattle.debug_info.specs.Tables.{Tables, IsTables}
use Rattle.image.specs.declared.fault.ImageKind.TheVariants as kinds
use Rattle.image.specs.Content.{Content, content, IsImage, magic_number, debug_bytes, header_bytes, spelling}
use Rattle.image.specs.Fields.{◌>>=◌, fault, field, part}
use Rattle.image.specs.Rows.{debug_of}
use Rattle.image.specs.Format.{Header, header_of, parts_of, image_of, is_code_length, is_statics_length, is_entry}
use Rattle.image.proofs.FieldLaws.{IsBytes, bind_ok, passed_ok, ok_is, Takes, Takes-then, wide32, wide64, field_takes, field_again, part_takes, part_again}
use Rattle.image.proofs.TableLaws.{debug_takes, IsTables-from_read, debug_again}

-- the rules of a header
pub record IsHeader (h : Header) : Type 0 where
  pub code : is_code_length h.code ≡ true
  pub statics : is_statics_length h.statics ≡ true
  pub debug : leb h.debug 268435456 ≡ true
  pub entry : is_entry h.code h.entry ≡ true
  pub wide : h.entry < 2 ^ 64

abbrev pub bytes_of_header : Header → List ℕ
bytes_of_header h = header_bytes h.code h.statics h.debug h.entry

abbrev pub header_from : ℕ → ℕ → ℕ → ℕ → Header
header_from code statics debug entry = record { code = code; statics = statics; debug = debug; entry = entry }

pub header_takes : (end : ℕ) (bytes : List ℕ) (x : Header × List ℕ) → IsBytes bytes → header_of end bytes ≡ Ok x → Takes bytes (bytes_of_header x.0) x.1 × IsHeader x.0
unfolding header_of
header_takes end bytes x fits e =
    let is_magic : ℕ → Bool = λ n. eqb n magic_number in
    let is_version : ℕ → Bool = λ n. eqb n 1 in
    let is_debug : ℕ → Bool = λ n. leb n 268435456 in
    let f6 = λ (code statics debug entry : ℕ × List ℕ). Ok (header_from code.0 statics.0 debug.0 entry.0, entry.1) in
    let f5 = λ (code statics debug : ℕ × List ℕ). (field w64 (is_entry code.0) kinds.Entry end debug.1 >>= λ entry. f6 code statics debug entry) in
    let f4 = λ (code statics : ℕ × List ℕ). (field w64 is_debug kinds.DebugLength end statics.1 >>= λ debug. f5 code statics debug) in
    let f3 = λ (code : ℕ × List ℕ). (field w64 is_statics_length kinds.StaticsLength end code.1 >>= λ statics. f4 code statics) in
    let f2 = λ (version : ℕ × List ℕ). (field w64 is_code_length kinds.CodeLength end version.1 >>= λ code. f3 code) in
    let f1 = λ (magic : ℕ × List ℕ). (field w32 is_version kinds.Version end magic.1 >>= λ version. f2 version) in
    let a = bind_ok (field w32 is_magic kinds.Magic end bytes) f1 x e in
    let magic = a.0 in
    let b = bind_ok (field w32 is_version kinds.Version end magic.1) f2 x a.2 in
    let version = b.0 in
    let d = bind_ok (field w64 is_code_length kinds.CodeLength end version.1) f3 x b.2 in
    let code = d.0 in
    let g = bind_ok (field w64 is_statics_length kinds.StaticsLength end code.1) (f4 code) x d.2 in
    let statics = g.0 in
    let h = bind_ok (field w64 is_debug kinds.DebugLength end statics.1) (f5 code statics) x g.2 in
    let debug = h.0 in
    let i = bind_ok (field w64 (is_entry code.0) kinds.Entry end debug.1) (f6 code statics debug) x h.2 in
    let entry = i.0 in
    let t1 = field_takes w32 (2 ^ 32) wide32 is_magic kinds.Magic end bytes magic fits a.1 in
    let t2 = field_takes w32 (2 ^ 32) wide32 is_version kinds.Version end magic.1 version t1.takes.rest_fits b.1 in
    let t3 = field_takes w64 (2 ^ 64) wide64 is_code_length kinds.CodeLength end version.1 code t2.takes.rest_fits d.1 in
    let t4 = field_takes w64 (2 ^ 64) wide64 is_statics_length kinds.StaticsLength end code.1 statics t3.takes.rest_fits g.1 in
    let t5 = field_takes w64 (2 ^ 64) wide64 is_debug kinds.DebugLength end statics.1 debug t4.takes.rest_fits h.1 in
    let t6 = field_takes w64 (2 ^ 64) wide64 (is_entry code.0) kinds.Entry end debug.1 entry t5.takes.rest_fits i.1 in
    let b6 = to_le_bytes w64 entry.0 in
    let b5 = to_le_bytes w64 debug.0 ++ b6 in
    let b4 = to_le_bytes w64 statics.0 ++ b5 in
    let b3 = to_le_bytes w64 code.0 ++ b4 in
    let u5 = Takes-then statics.1 (to_le_bytes w64 debug.0) debug.1 b6 entry.1 t5.takes t6.takes in
    let u4 = Takes-then code.1 (to_le_bytes w64 statics.0) statics.1 b5 entry.1 t4.takes u5 in
    let u3 = Takes-then version.1 (to_le_bytes w64 code.0) code.1 b4 entry.1 t3.takes u4 in
    let u2 = Takes-then magic.1 (to_le_bytes w32 version.0) version.1 b3 entry.1 t2.takes u3 in
    let u1 = Takes-then bytes (to_le_bytes w32 magic.0) magic.1 (to_le_bytes w32 version.0 ++ b3) entry.1 t1.takes u2 in
    let magic-is : magic.0 ≡ magic_number = eqb-true magic.0 magic_number t1.right in
    let version-is : version.0 ≡ 1 = eqb-true version.0 1 t2.right in
    let v1 : Takes bytes (to_le_bytes w32 magic_number ++ (to_le_bytes w32 version.0 ++ b3)) entry.1
    = subst (λ (n : ℕ). Takes bytes (to_le_bytes w32 n ++ (to_le_bytes w32 version.0 ++ b3)) entry.1) magic-is u1 in
    let v2 : Takes bytes (to_le_bytes w32 magic_number ++ (to_le_bytes w32 1 ++ b3)) entry.1
    = subst (λ (n : ℕ). Takes bytes (to_le_bytes w32 magic_number ++ (to_le_bytes w32 n ++ b3)) entry.1) version-is v1 in
    let made : Header × List ℕ = (header_from code.0 statics.0 debug.0 entry.0, entry.1) in
    let right : IsHeader made.0 = record { code = t3.right; statics = t4.right; debug = t5.right; entry = t6.right; wide = t6.below } in
    subst (λ (y : Header × List ℕ). Takes bytes (bytes_of_header y.0) y.1 × IsHeader y.0) (ok_is made x i.2) (v2, right)

regroup6 : (a b c d e f rest : List ℕ) → (a ++ (b ++ (c ++ (d ++ (e ++ f))))) ++ rest ≡ a ++ (b ++ (c ++ (d ++ (e ++ (f ++ rest)))))
regroup6 a b c d e f rest = simp append_assoc

header_again : (end : ℕ) (h : Header) (rest : List ℕ) → IsHeader h → h.code < 2 ^ 64 → h.statics < 2 ^ 64 → h.debug < 2 ^ 64 → header_of end (bytes_of_header h ++ rest) ≡ Ok (h, rest)
unfolding header_of
header_again end h rest is code-lt statics-lt debug-lt =
    let is_magic : ℕ → Bool = λ n. eqb n magic_number in
    let is_version : ℕ → Bool = λ n. eqb n 1 in
    let is_debug : ℕ → Bool = λ n. leb n 268435456 in
    let m = to_le_bytes w32 magic_number in
    let v = to_le_bytes w32 1 in
    let c = to_le_bytes w64 h.code in
    let s = to_le_bytes w64 h.statics in
    let d = to_le_bytes w64 h.debug in
    let e = to_le_bytes w64 h.entry in
    let magic-lt : magic_number < 2 ^ 32 = omega arith in
    let one-lt : 1 < 2 ^ 32 = omega arith in
    ap (header_of end) (regroup6 m v c s d e rest)
    ∙ rw (
      field_again w32 (2 ^ 32) wide32 is_magic kinds.Magic end magic_number (v ++ (c ++ (s ++ (d ++ (e ++ rest))))) magic-lt refl,
      field_again w32 (2 ^ 32) wide32 is_version kinds.Version end 1 (c ++ (s ++ (d ++ (e ++ rest)))) one-lt refl,
      field_again w64 (2 ^ 64) wide64 is_code_length kinds.CodeLength end h.code (s ++ (d ++ (e ++ rest))) code-lt is.code,
      field_again w64 (2 ^ 64) wide64 is_statics_length kinds.StaticsLength end h.statics (d ++ (e ++ rest)) statics-lt is.statics,
      field_again w64 (2 ^ 64) wide64 is_debug kinds.DebugLength end h.debug (e ++ rest) debug-lt is.debug,
      field_again w64 (2 ^ 64) wide64 (is_entry h.code) kinds.Entry end h.entry rest is.wide is.entry,
    ) refl

-- what the parts behind a header are
record ArePieces (h : Header) (bytes : List ℕ) (i : Content) : Type 0 where
  code : length i.code ≡ h.code
  statics : length i.statics ≡ h.statics
  debug : length (debug_bytes i.debug) ≡ h.debug
  tables : IsTables i.debug
  entry : i.entry ≡ h.entry
  spelled : bytes ≡ i.code ++ (i.statics ++ debug_bytes i.debug)

parts_take : (end : ℕ) (h : Header) (bytes : List ℕ) (i : Content) → h.debug ≤ 268435456 → IsBytes bytes → parts_of end h bytes ≡ Ok i → ArePieces h bytes i
unfolding parts_of
parts_take end h bytes i small fits e =
    let f4 = λ (code statics debug : List ℕ × List ℕ) (tables : Tables). cond (eqb (length debug.1) 0) (Ok (content code.0 statics.0 tables h.entry)) (fault (end - length debug.1) kinds.Trailing) in
    let f3 = λ (code statics debug : List ℕ × List ℕ). (debug_of (end - length debug.1) debug.0 >>= λ tables. f4 code statics debug tables) in
    let f2 = λ (code statics : List ℕ × List ℕ). (part h.debug end statics.1 >>= λ debug. f3 code statics debug) in
    let f1 = λ (code : List ℕ × List ℕ). (part h.statics end code.1 >>= λ statics. f2 code statics) in
    let a = bind_ok (part h.code end bytes) f1 i e in
    let code = a.0 in
    let b = bind_ok (part h.statics end code.1) (f2 code) i a.2 in
    let statics = b.0 in
    let d = bind_ok (part h.debug end statics.1) (f3 code statics) i b.2 in
    let debug = d.0 in
    let g = bind_ok (debug_of (end - length debug.1) debug.0) (f4 code statics debug) i d.2 in
    let tables = g.0 in
    let k = passed_ok (eqb (length debug.1) 0) (record { offset = end - length debug.1; kind = kinds.Trailing }) (content code.0 statics.0 tables h.entry) i g.2 in
    let t1 = part_takes h.code end bytes code fits a.1 in
    let t2 = part_takes h.statics end code.1 statics t1.takes.rest_fits b.1 in
    let t3 = part_takes h.debug end statics.1 debug t2.takes.rest_fits d.1 in
    let read = debug_takes (end - length debug.1) debug.0 tables t3.fits g.1 in
    let short : length debug.0 ≤ 268435456 = omega (arith, t3.long, small) in
    let ended : debug.1 ≡ [] = nil_from_length debug.1 (eqb-true (length debug.1) 0 k.0) in
    let u2 = Takes-then code.1 statics.0 statics.1 debug.0 debug.1 t2.takes t3.takes in
    let u1 = Takes-then bytes code.0 code.1 (statics.0 ++ debug.0) debug.1 t1.takes u2 in
    let whole : bytes ≡ code.0 ++ (statics.0 ++ debug.0) = u1.parts ∙ ap (λ (r : List ℕ). (code.0 ++ (statics.0 ++ debug.0)) ++ r) ended ∙ append-nil (code.0 ++ (statics.0 ++ debug.0)) in
    let all : ArePieces h bytes (content code.0 statics.0 tables h.entry) = record {
      code = t1.long;
      statics = t2.long;
      debug = sym (ap length read.spelled) ∙ t3.long;
      tables = IsTables-from_read debug.0 tables short read;
      entry = refl;
      spelled = whole ∙ ap (λ (r : List ℕ). code.0 ++ (statics.0 ++ r)) read.spelled;
    } in
    subst (ArePieces h bytes) k.1 all

parts_again : (end : ℕ) (h : Header) (i : Content) → length i.code ≡ h.code → length i.statics ≡ h.statics → length (debug_bytes i.debug) ≡ h.debug → i.entry ≡ h.entry → IsTables i.debug
    → parts_of end h (i.code ++ (i.statics ++ debug_bytes i.debug)) ≡ Ok i
unfolding parts_of
parts_again end h i code statics debug entry tables =
    let d = debug_bytes i.debug in
    let last : part h.debug end d ≡ Ok (d, []) = ap (part h.debug end) (sym (append-nil d)) ∙ part_again h.debug end d [] debug in
    rw (part_again h.code end i.code (i.statics ++ d) code, part_again h.statics end i.statics d statics, last, debug_again (end - 0) i.debug tables)
    (ap (λ (n : ℕ). Ok (content i.code i.statics i.debug n)) (sym entry))

-- ---- the rules

IsImage-from_read : (h : Header) (bytes : List ℕ) (i : Content) → IsHeader h → ArePieces h bytes i → IsImage i
IsImage-from_read h bytes i is pieces =
    let c = and_parts (eqb (h.code % 4) 0) (leb 4 h.code && leb h.code 134217728) is.code in
    let c2 = and_parts (leb 4 h.code) (leb h.code 134217728) c.1 in
    let s = and_parts (eqb (h.statics % 8) 0) (leb h.statics 67108864) is.statics in
    let e = and_parts (eqb (h.entry % 4) 0) (leb 65536 h.entry && ltb h.entry (65536 + h.code)) is.entry in
    let e2 = and_parts (leb 65536 h.entry) (ltb h.entry (65536 + h.code)) e.1 in
    let code = pieces.code in
    let statics = pieces.statics in
    let entry = pieces.entry in
    let some = leb-true 4 h.code c2.0 in
    let limit = leb-true h.code 134217728 c2.1 in
    let statics_limit = leb-true h.statics 67108864 s.1 in
    let low = leb-true 65536 h.entry e2.0 in
    let high = ltb-true h.entry (65536 + h.code) e2.1 in
    record {
      code_whole = ap (λ (n : ℕ). n % 4) code ∙ eqb-true (h.code % 4) 0 c.0;
      code_some = omega (arith, code, some);
      code_limit = omega (arith, code, limit);
      statics_whole = ap (λ (n : ℕ). n % 8) statics ∙ eqb-true (h.statics % 8) 0 s.0;
      statics_limit = omega (arith, statics, statics_limit);
      debug = pieces.tables;
      entry_whole = ap (λ (n : ℕ). n % 4) entry ∙ eqb-true (h.entry % 4) 0 e.0;
      entry_low = omega (arith, entry, low);
      entry_high = omega (arith, entry, code, high);
    }

abbrev header_of_image : Content → Header
header_of_image i = header_from (length i.code) (length i.statics) (length (debug_bytes i.debug)) i.entry

IsHeader-from_image : (i : Content) → IsImage i → IsHeader (header_of_image i)
IsHeader-from_image i is =
    record {
      code = and_from _ _ (eq-eqb _ _ is.code_whole) (and_from _ _ (le-leb _ _ is.code_some) (le-leb _ _ is.code_limit));
      statics = and_from _ _ (eq-eqb _ _ is.statics_whole) (le-leb _ _ is.statics_limit);
      debug = le-leb _ _ is.debug.size;
      entry = and_from _ _ (eq-eqb _ _ is.entry_whole) (and_from _ _ (le-leb _ _ is.entry_low) (lt-ltb _ _ is.entry_high));
      wide = omega (arith, is.entry_high, is.code_limit);
    }

-- ---- the laws

pub record IsRead (bytes : List ℕ) (i : Content) : Type 0 where
  pub rules : IsImage i
  pub spelled : bytes ≡ spelling i

pub debug_length_fits : (end : ℕ) (bytes : List ℕ) (x : Header × List ℕ) → IsBytes bytes → header_of end bytes ≡ Ok x → x.0.debug ≤ 268435456
debug_length_fits end bytes x fits e = leb-true x.0.debug 268435456 (header_takes end bytes x fits e).1.debug

pub image_takes : (bytes : List ℕ) (i : Content) → IsBytes bytes → image_of bytes ≡ Ok i → IsRead bytes i
unfolding image_of spelling
image_takes bytes i fits e =
    let end = length bytes in
    let a = bind_ok (header_of end bytes) (λ h. parts_of end h.0 h.1) i e in
    let h = a.0 in
    let t = header_takes end bytes h fits a.1 in
    let small = leb-true h.0.debug 268435456 t.1.debug in
    let p = parts_take end h.0 h.1 i small t.0.rest_fits a.2 in
    let made : ℕ → ℕ → ℕ → ℕ → List ℕ = λ code statics debug entry. header_bytes code statics debug entry ++ (i.code ++ (i.statics ++ debug_bytes i.debug)) in
    record {
      rules = IsImage-from_read h.0 h.1 i t.1 p;
      spelled = t.0.parts ∙ ap (λ (r : List ℕ). bytes_of_header h.0 ++ r) p.spelled
          ∙ ap (λ (n : ℕ). made n h.0.statics h.0.debug h.0.entry) (sym p.code)
          ∙ ap (λ (n : ℕ). made (length i.code) n h.0.debug h.0.entry) (sym p.statics)
          ∙ ap (λ (n : ℕ). made (length i.code) (length i.statics) n h.0.entry) (sym p.debug)
          ∙ ap (λ (n : ℕ). made (length i.code) (length i.statics) (length (debug_bytes i.debug)) n) (sym p.entry);
    }

pub image_again : (i : Content) → IsImage i → image_of (spelling i) ≡ Ok i
unfolding image_of spelling
image_again i is =
    let h = header_of_image i in
    let rest = i.code ++ (i.statics ++ debug_bytes i.debug) in
    let end = length (bytes_of_header h ++ rest) in
    let first : header_of end (bytes_of_header h ++ rest) ≡ Ok (h, rest)
    = header_again end h rest (IsHeader-from_image i is) (omega (arith, is.code_limit)) (omega (arith, is.statics_limit)) (omega (arith, is.debug.size)) in
    rw first (parts_again end h i refl refl refl refl is.debug)
