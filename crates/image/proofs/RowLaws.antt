-- A row that is read is the row that was written, and what was written is read again.
use Rattle.std.proofs.Common.{◌≡◌, ℕ, zero, suc, ◌+◌, ◌*◌, ◌/◌, ◌%◌, ◌^◌, ◌<◌, ◌≤◌, Bool, true, false, ltb, leb, eqb, ◌&&◌, List, ◌++◌, length, take, drop, Option, Some, None, refl, sym, ap, subst, ◌∙◌, append_assoc, arith, inl, inr, length-append, length-take}
use Rattle.std.specs.Int.{w32, w64, to_le_bytes}
use Rattle.std.specs.Str.{is_utf8}
use Rattle.std.proofs.lemmas.Bool.{and_parts, leb-true, ltb-true, ltb-false, le-ltb, eqb-true, ne_eqb, cases_Bool}
use Rattle.std.proofs.lemmas.List.{take_at, drop_at, take-append-drop}
use Rattle.std.proofs.lemmas.Option.{cond_some, same_Some}
use Rattle.debug_info.specs.declared.rows.SitePlace.{SitePlace}
use Rattle.debug_info.specs.declared.rows.SitePlace.TheVariants.{File, Prelude}
use Rattle.debug_info.specs.declared.rows.SiteRow.{SiteRow}
use Rattle.debug_info.specs.declared.rows.FunRow.{FunRow}
use Rattle.debug_info.specs.declared.rows.VarRow.{VarRow}
use Rattle.debug_info.specs.declared.rows.Location.{Location}
use Rattle.debug_info.specs.declared.rows.LocationClass.{LocationClass}
use Rattle.debug_info.specs.declared.rows.LocationClass.TheVariants as classes
use Rattle.debug_info.specs.Spelling.{text_bytes, offset_of, tail_of, source_of, place_bytes, text_number, site_bytes, function_bytes, class_code, location_number, variable_bytes}
use Rattle.debug_info.specs.Tables.{is_above, is_text, is_place, is_optional_text, is_site, is_function, is_class, is_location, is_variable}
use Rattle.image.specs.Fields.{number}
use Rattle.image.specs.Rows.{◌>?=◌, kept, cut, text_row, place_of, optional_text, place_at, site_row, function_row, class_of, location_of, variable_row}
use Rattle.image.proofs.FieldLaws.{IsBytes, IsBytes-drop, guard_some, Takes, Takes-then, wide32, wide64, number_takes, number_again}

bind_some : {A B : Type 0} (o : Option A) (f : A → Option B) (y : B) → (o >?= f) ≡ Some y → (x : A) × (o ≡ Some x) × (f x ≡ Some y)
bind_some (Some x) f y e = (x, refl, e)
bind_some None f y e = absurd cc

kept_right : {X : Type 0} (is_right : Bool) (row : X) (rest : List ℕ) → is_right ≡ true → kept is_right row rest ≡ Some (row, rest)
kept_right is_right row rest right = rw right refl

-- a row that was read: what it took, and that it is right
pub record IsRow {X : Type 0} (spelled : X → List ℕ) (is_right : X → Bool) (bytes : List ℕ) (x : X × List ℕ) : Type 0 where
  pub takes : Takes bytes (spelled x.0) x.1
  pub right : is_right x.0 ≡ true

-- ---- texts

cut_takes : (size : ℕ) (bytes : List ℕ) (x : List ℕ × List ℕ) → IsBytes bytes → cut size bytes ≡ Some x → Takes bytes x.0 x.1 × (length x.0 ≡ size)
cut_takes size bytes x fits e =
    let g = guard_some (ltb (length bytes) size) (take size bytes, drop size bytes) x e in
    let long : size ≤ length bytes = ltb-false _ _ g.0 in
    let len : length (take size bytes) ≡ size = omega (arith, length-take size bytes) in
    let whole : Takes bytes (take size bytes) (drop size bytes) = record { parts = sym (take-append-drop size bytes); rest_fits = IsBytes-drop size bytes fits } in
    subst (λ (p : List ℕ × List ℕ). Takes bytes p.0 p.1 × (length p.0 ≡ size)) g.1 (whole, len)

cut_again : (text rest : List ℕ) → cut (length text) (text ++ rest) ≡ Some (text, rest)
cut_again text rest =
    let long : ltb (length (text ++ rest)) (length text) ≡ false = le-ltb _ _ (omega (arith, length-append text rest)) in
    rw (long, take_at text rest (length text) refl, drop_at text rest (length text) refl) refl

pub text_takes : (bytes : List ℕ) (x : List ℕ × List ℕ) → IsBytes bytes → text_row bytes ≡ Some x → IsRow text_bytes is_text bytes x
unfolding text_row
text_takes bytes x fits e =
    let a = bind_some (number w32 bytes) (λ size. (cut size.0 size.1 >?= λ text. kept (is_text text.0) text.0 text.1)) x e in
    let size = a.0 in
    let b = bind_some (cut size.0 size.1) (λ text. kept (is_text text.0) text.0 text.1) x a.2 in
    let text = b.0 in
    let g = cond_some (is_text text.0) (text.0, text.1) x b.2 in
    let t = number_takes w32 (2 ^ 32) wide32 bytes size fits a.1 in
    let u = cut_takes size.0 size.1 text t.0.rest_fits b.1 in
    let both = Takes-then bytes (to_le_bytes w32 size.0) size.1 text.0 text.1 t.0 u.0 in
    let whole : Takes bytes (text_bytes text.0) text.1 = subst (λ (k : ℕ). Takes bytes (to_le_bytes w32 k ++ text.0) text.1) (sym u.1) both in
    let made : IsRow text_bytes is_text bytes (text.0, text.1) = record { takes = whole; right = g.0 } in
    subst (IsRow text_bytes is_text bytes) g.1 made

pub text_again : (text rest : List ℕ) → is_text text ≡ true → text_row (text_bytes text ++ rest) ≡ Some (text, rest)
unfolding text_row
text_again text rest right =
    let short = leb-true (length text) 1048576 (and_parts (leb (length text) 1048576) (is_utf8 text) right).0 in
    let lt : length text < 2 ^ 32 = omega (arith, short) in
    rw (number_again w32 (2 ^ 32) wide32 (length text) (text ++ rest) lt, cut_again text rest, right) refl

-- ---- places

place_is : (source offset tail : ℕ) (p : SitePlace) → place_of source offset tail ≡ Some p → (offset ≡ offset_of p) × (tail ≡ tail_of p) × (source ≡ source_of p)
unfolding place_of
place_is zero offset tail p e =
    subst (λ (q : SitePlace). (offset ≡ offset_of q) × (tail ≡ tail_of q) × (zero ≡ source_of q)) (same_Some (File offset tail) p e) (refl, refl, refl)
place_is (suc zero) offset tail p e =
    let g = cond_some (eqb tail 0) (Prelude offset) p e in
    subst (λ (q : SitePlace). (offset ≡ offset_of q) × (tail ≡ tail_of q) × (suc zero ≡ source_of q)) g.1 (refl, eqb-true tail 0 g.0, refl)
place_is (suc (suc source)) offset tail p e = absurd cc

place_back : (p : SitePlace) → place_of (source_of p) (offset_of p) (tail_of p) ≡ Some p
unfolding place_of
place_back (File offset tail) = refl
place_back (Prelude text) = refl

place_takes : (bytes : List ℕ) (x : SitePlace × List ℕ) → IsBytes bytes → place_at bytes ≡ Some x → Takes bytes (place_bytes x.0) x.1
unfolding place_at
place_takes bytes x fits e =
    let a = bind_some (number w32 bytes) (λ offset. (number w32 offset.1 >?= λ tail. (number w32 tail.1 >?= λ source. (place_of source.0 offset.0 tail.0 >?= λ place. Some (place, source.1))))) x e in
    let offset = a.0 in
    let b = bind_some (number w32 offset.1) (λ tail. (number w32 tail.1 >?= λ source. (place_of source.0 offset.0 tail.0 >?= λ place. Some (place, source.1)))) x a.2 in
    let tail = b.0 in
    let d = bind_some (number w32 tail.1) (λ source. (place_of source.0 offset.0 tail.0 >?= λ place. Some (place, source.1))) x b.2 in
    let source = d.0 in
    let p = bind_some (place_of source.0 offset.0 tail.0) (λ place. Some (place, source.1)) x d.2 in
    let is = place_is source.0 offset.0 tail.0 p.0 p.1 in
    let t = number_takes w32 (2 ^ 32) wide32 bytes offset fits a.1 in
    let u = number_takes w32 (2 ^ 32) wide32 offset.1 tail t.0.rest_fits b.1 in
    let v = number_takes w32 (2 ^ 32) wide32 tail.1 source u.0.rest_fits d.1 in
    let uv = Takes-then offset.1 (to_le_bytes w32 tail.0) tail.1 (to_le_bytes w32 source.0) source.1 u.0 v.0 in
    let tuv = Takes-then bytes (to_le_bytes w32 offset.0) offset.1 (to_le_bytes w32 tail.0 ++ to_le_bytes w32 source.0) source.1 t.0 uv in
    let spelled : to_le_bytes w32 offset.0 ++ (to_le_bytes w32 tail.0 ++ to_le_bytes w32 source.0) ≡ place_bytes p.0
    = ap (λ (n : ℕ). to_le_bytes w32 n ++ (to_le_bytes w32 tail.0 ++ to_le_bytes w32 source.0)) is.0
    ∙ ap (λ (n : ℕ). to_le_bytes w32 (offset_of p.0) ++ (to_le_bytes w32 n ++ to_le_bytes w32 source.0)) is.1
    ∙ ap (λ (n : ℕ). to_le_bytes w32 (offset_of p.0) ++ (to_le_bytes w32 (tail_of p.0) ++ to_le_bytes w32 n)) is.2 in
    let whole : Takes bytes (place_bytes p.0) source.1 = subst (λ (s : List ℕ). Takes bytes s source.1) spelled tuv in
    let made : SitePlace × List ℕ = (p.0, source.1) in
    subst (λ (y : SitePlace × List ℕ). Takes bytes (place_bytes y.0) y.1) (same_Some made x p.2) whole

-- the numbers of a place fit 32 bits
pub record PlaceFits (p : SitePlace) : Type 0 where
  pub offset : offset_of p < 2 ^ 32
  pub tail : tail_of p < 2 ^ 32
  pub source : source_of p < 2 ^ 32

place_fits : (texts : ℕ) (p : SitePlace) → texts < 2 ^ 32 → is_place texts p ≡ true → PlaceFits p
place_fits texts (File offset tail) few right =
    let both = and_parts (ltb offset (2 ^ 32)) (ltb tail (2 ^ 32)) right in
    record { offset = ltb-true offset (2 ^ 32) both.0; tail = ltb-true tail (2 ^ 32) both.1; source = omega arith }
place_fits texts (Prelude text) few right =
    let lt = ltb-true text texts right in
    record { offset = omega (arith, lt); tail = omega arith; source = omega arith }

regroup3 : (a b c rest : List ℕ) → (a ++ (b ++ c)) ++ rest ≡ a ++ (b ++ (c ++ rest))
regroup3 a b c rest = simp append_assoc

regroup4 : (a b c d rest : List ℕ) → (a ++ (b ++ (c ++ d))) ++ rest ≡ a ++ (b ++ (c ++ (d ++ rest)))
regroup4 a b c d rest = simp append_assoc

place_again : (p : SitePlace) (rest : List ℕ) → PlaceFits p → place_at (place_bytes p ++ rest) ≡ Some (p, rest)
unfolding place_at
place_again p rest fits =
    let o = to_le_bytes w32 (offset_of p) in
    let t = to_le_bytes w32 (tail_of p) in
    let s = to_le_bytes w32 (source_of p) in
    ap place_at (regroup3 o t s rest)
    ∙ rw (number_again w32 (2 ^ 32) wide32 (offset_of p) (t ++ (s ++ rest)) fits.offset, number_again w32 (2 ^ 32) wide32 (tail_of p) (s ++ rest) fits.tail, number_again w32 (2 ^ 32) wide32 (source_of p) rest fits.source, place_back p) refl

-- ---- sites

text_number-back : (n : ℕ) → text_number (optional_text n) ≡ n
text_number-back n =
    elim (cases_Bool (eqb n 0xFFFFFFFF)) [
      | inl same ↦ rw same (sym (eqb-true n 0xFFFFFFFF same))
      | inr other ↦ rw other refl
    ]

optional_text-back : (texts : ℕ) (o : Option ℕ) → texts < 2 ^ 32 → is_optional_text texts o ≡ true → optional_text (text_number o) ≡ o
optional_text-back texts None few right = refl
optional_text-back texts (Some n) few right =
    let lt = ltb-true n texts right in
    let other : eqb n 0xFFFFFFFF ≡ false = ne_eqb n 0xFFFFFFFF (λ e. omega (arith, e, lt, few)) in
    rw other refl

text_number_fits : (texts : ℕ) (o : Option ℕ) → texts < 2 ^ 32 → is_optional_text texts o ≡ true → text_number o < 2 ^ 32
text_number_fits texts None few right = omega arith
text_number_fits texts (Some n) few right = let lt = ltb-true n texts right in omega (arith, lt, few)

-- a site that may stand behind an address
abbrev pub site_behind : ℕ → Option ℕ → SiteRow → Bool
site_behind texts before r = is_above before r.pc && is_site texts r

pub site_takes : (texts : ℕ) (before : Option ℕ) (bytes : List ℕ) (x : SiteRow × List ℕ) → IsBytes bytes → site_row texts before bytes ≡ Some x → IsRow site_bytes (site_behind texts before) bytes x
unfolding site_row
site_takes texts before bytes x fits e =
    let row_of : ℕ → SitePlace → ℕ → SiteRow = λ pc place text. record { pc = pc; place = place; text = optional_text text } in
    let last = λ (pc : ℕ × List ℕ) (place : SitePlace × List ℕ) (text : ℕ × List ℕ). kept (is_above before pc.0 && is_site texts (row_of pc.0 place.0 text.0)) (row_of pc.0 place.0 text.0) text.1 in
    let a = bind_some (number w64 bytes) (λ pc. (place_at pc.1 >?= λ place. (number w32 place.1 >?= λ text. last pc place text))) x e in
    let pc = a.0 in
    let b = bind_some (place_at pc.1) (λ place. (number w32 place.1 >?= λ text. last pc place text)) x a.2 in
    let place = b.0 in
    let d = bind_some (number w32 place.1) (λ text. last pc place text) x b.2 in
    let text = d.0 in
    let g = cond_some (is_above before pc.0 && is_site texts (row_of pc.0 place.0 text.0)) (row_of pc.0 place.0 text.0, text.1) x d.2 in
    let t = number_takes w64 (2 ^ 64) wide64 bytes pc fits a.1 in
    let u = place_takes pc.1 place t.0.rest_fits b.1 in
    let v = number_takes w32 (2 ^ 32) wide32 place.1 text u.rest_fits d.1 in
    let uv = Takes-then pc.1 (place_bytes place.0) place.1 (to_le_bytes w32 text.0) text.1 u v.0 in
    let tuv = Takes-then bytes (to_le_bytes w64 pc.0) pc.1 (place_bytes place.0 ++ to_le_bytes w32 text.0) text.1 t.0 uv in
    let whole : Takes bytes (site_bytes (row_of pc.0 place.0 text.0)) text.1
    = subst (λ (n : ℕ). Takes bytes (to_le_bytes w64 pc.0 ++ (place_bytes place.0 ++ to_le_bytes w32 n)) text.1) (sym (text_number-back text.0)) tuv in
    let made : IsRow site_bytes (site_behind texts before) bytes (row_of pc.0 place.0 text.0, text.1) = record { takes = whole; right = g.0 } in
    subst (IsRow site_bytes (site_behind texts before) bytes) g.1 made

pub site_again : (texts : ℕ) → texts < 2 ^ 32 → (before : Option ℕ) (r : SiteRow) (rest : List ℕ) → site_behind texts before r ≡ true → site_row texts before (site_bytes r ++ rest) ≡ Some (r, rest)
unfolding site_row
site_again texts few before r rest right =
    let own = (and_parts (is_above before r.pc) (is_site texts r) right).1 in
    let parts = and_parts (ltb r.pc (2 ^ 64)) (is_place texts r.place && is_optional_text texts r.text) own in
    let refs = and_parts (is_place texts r.place) (is_optional_text texts r.text) parts.1 in
    let pc = to_le_bytes w64 r.pc in
    let text = to_le_bytes w32 (text_number r.text) in
    ap (site_row texts before) (regroup3 pc (place_bytes r.place) text rest)
    ∙ rw (
      number_again w64 (2 ^ 64) wide64 r.pc (place_bytes r.place ++ (text ++ rest)) (ltb-true r.pc (2 ^ 64) parts.0),
      place_again r.place (text ++ rest) (place_fits texts r.place few refs.0),
      number_again w32 (2 ^ 32) wide32 (text_number r.text) rest (text_number_fits texts r.text few refs.1),
      optional_text-back texts r.text few refs.1,
      right,
    ) refl

-- ---- functions

-- a function that may stand behind an address
abbrev pub function_behind : ℕ → Option ℕ → FunRow → Bool
function_behind texts before r = is_above before r.start && is_function texts r

pub function_takes : (texts : ℕ) (before : Option ℕ) (bytes : List ℕ) (x : FunRow × List ℕ) → IsBytes bytes → function_row texts before bytes ≡ Some x → IsRow function_bytes (function_behind texts before) bytes x
unfolding function_row
function_takes texts before bytes x fits e =
    let row_of : ℕ → ℕ → ℕ → FunRow = λ start name words. record { start = start; name = name; words = words } in
    let last = λ (start name words : ℕ × List ℕ). kept (is_above before start.0 && is_function texts (row_of start.0 name.0 words.0)) (row_of start.0 name.0 words.0) words.1 in
    let a = bind_some (number w64 bytes) (λ start. (number w32 start.1 >?= λ name. (number w32 name.1 >?= λ words. last start name words))) x e in
    let start = a.0 in
    let b = bind_some (number w32 start.1) (λ name. (number w32 name.1 >?= λ words. last start name words)) x a.2 in
    let name = b.0 in
    let d = bind_some (number w32 name.1) (λ words. last start name words) x b.2 in
    let words = d.0 in
    let g = cond_some (is_above before start.0 && is_function texts (row_of start.0 name.0 words.0)) (row_of start.0 name.0 words.0, words.1) x d.2 in
    let t = number_takes w64 (2 ^ 64) wide64 bytes start fits a.1 in
    let u = number_takes w32 (2 ^ 32) wide32 start.1 name t.0.rest_fits b.1 in
    let v = number_takes w32 (2 ^ 32) wide32 name.1 words u.0.rest_fits d.1 in
    let uv = Takes-then start.1 (to_le_bytes w32 name.0) name.1 (to_le_bytes w32 words.0) words.1 u.0 v.0 in
    let tuv = Takes-then bytes (to_le_bytes w64 start.0) start.1 (to_le_bytes w32 name.0 ++ to_le_bytes w32 words.0) words.1 t.0 uv in
    let made : IsRow function_bytes (function_behind texts before) bytes (row_of start.0 name.0 words.0, words.1) = record { takes = tuv; right = g.0 } in
    subst (IsRow function_bytes (function_behind texts before) bytes) g.1 made

pub function_again : (texts : ℕ) → texts < 2 ^ 32 → (before : Option ℕ) (r : FunRow) (rest : List ℕ) → function_behind texts before r ≡ true → function_row texts before (function_bytes r ++ rest) ≡ Some (r, rest)
unfolding function_row
function_again texts few before r rest right =
    let own = (and_parts (is_above before r.start) (is_function texts r) right).1 in
    let parts = and_parts (ltb r.start (2 ^ 64)) (ltb r.name texts && ltb r.words (2 ^ 32)) own in
    let numbers = and_parts (ltb r.name texts) (ltb r.words (2 ^ 32)) parts.1 in
    let name-lt = ltb-true r.name texts numbers.0 in
    let start = to_le_bytes w64 r.start in
    let name = to_le_bytes w32 r.name in
    let words = to_le_bytes w32 r.words in
    ap (function_row texts before) (regroup3 start name words rest)
    ∙ rw (
      number_again w64 (2 ^ 64) wide64 r.start (name ++ (words ++ rest)) (ltb-true r.start (2 ^ 64) parts.0),
      number_again w32 (2 ^ 32) wide32 r.name (words ++ rest) (omega (arith, name-lt, few)),
      number_again w32 (2 ^ 32) wide32 r.words rest (ltb-true r.words (2 ^ 32) numbers.1),
      right,
    ) refl

-- ---- variables

class_code-back : (code : ℕ) → class_code (class_of code) ≡ code
unfolding class_of
class_code-back zero = refl
class_code-back (suc zero) = refl
class_code-back (suc (suc zero)) = refl
class_code-back (suc (suc (suc zero))) = refl
class_code-back (suc (suc (suc (suc zero)))) = refl
class_code-back (suc (suc (suc (suc (suc zero))))) = refl
class_code-back (suc (suc (suc (suc (suc (suc code)))))) = refl

other_code : (code : ℕ) → 6 ≤ code → class_of code ≡ classes.Other code
unfolding class_of
other_code zero le = absurd (omega arith)
other_code (suc zero) le = absurd (omega arith)
other_code (suc (suc zero)) le = absurd (omega arith)
other_code (suc (suc (suc zero))) le = absurd (omega arith)
other_code (suc (suc (suc (suc zero)))) le = absurd (omega arith)
other_code (suc (suc (suc (suc (suc zero))))) le = absurd (omega arith)
other_code (suc (suc (suc (suc (suc (suc code)))))) le = refl

class_of-back : (class : LocationClass) → is_class class ≡ true → class_of (class_code class) ≡ class
unfolding class_of
class_of-back classes.DescriptorRegister right = refl
class_of-back classes.WordRegister right = refl
class_of-back classes.CharacterRegister right = refl
class_of-back classes.ControlSlot right = refl
class_of-back classes.WordSlot right = refl
class_of-back classes.CharacterSlot right = refl
class_of-back (classes.Other code) right = other_code code (leb-true 6 code (and_parts (leb 6 code) (ltb code 256) right).0)

class_code_fits : (class : LocationClass) → is_class class ≡ true → class_code class < 256
class_code_fits classes.DescriptorRegister right = omega arith
class_code_fits classes.WordRegister right = omega arith
class_code_fits classes.CharacterRegister right = omega arith
class_code_fits classes.ControlSlot right = omega arith
class_code_fits classes.WordSlot right = omega arith
class_code_fits classes.CharacterSlot right = omega arith
class_code_fits (classes.Other code) right = ltb-true code 256 (and_parts (leb 6 code) (ltb code 256) right).1

location_number-back : (n : ℕ) → location_number (location_of n) ≡ n
location_number-back n = rw (class_code-back (n / 2 ^ 24)) (omega arith)

location_of-back : (l : Location) → is_location l ≡ true → location_of (location_number l) ≡ l
location_of-back l right =
    let both = and_parts (is_class l.class) (ltb l.number (2 ^ 24)) right in
    let small = ltb-true l.number (2 ^ 24) both.1 in
    let top : (class_code l.class * 2 ^ 24 + l.number) / 2 ^ 24 ≡ class_code l.class = omega (arith, small) in
    let low : (class_code l.class * 2 ^ 24 + l.number) % 2 ^ 24 ≡ l.number = omega (arith, small) in
    let made : ℕ → ℕ → Location = λ code number. record { class = class_of code; number = number } in
    ap (λ (code : ℕ). made code (location_number l % 2 ^ 24)) top ∙ ap (λ (number : ℕ). made (class_code l.class) number) low
    ∙ ap (λ (class : LocationClass). record { class = class; number = l.number }) (class_of-back l.class both.0)

location_fits : (l : Location) → is_location l ≡ true → location_number l < 2 ^ 32
location_fits l right =
    let both = and_parts (is_class l.class) (ltb l.number (2 ^ 24)) right in
    let small = ltb-true l.number (2 ^ 24) both.1 in
    let code = class_code_fits l.class both.0 in
    omega (arith, small, code)

pub variable_takes : (texts : ℕ) (bytes : List ℕ) (x : VarRow × List ℕ) → IsBytes bytes → variable_row texts bytes ≡ Some x → IsRow variable_bytes (is_variable texts) bytes x
unfolding variable_row
variable_takes texts bytes x fits e =
    let row_of : ℕ → ℕ → ℕ → ℕ → VarRow = λ from to name location. record { from = from; to = to; name = name; location = location_of location } in
    let last = λ (from to name location : ℕ × List ℕ). kept (is_variable texts (row_of from.0 to.0 name.0 location.0)) (row_of from.0 to.0 name.0 location.0) location.1 in
    let a = bind_some (number w64 bytes) (λ from. (number w64 from.1 >?= λ to. (number w32 to.1 >?= λ name. (number w32 name.1 >?= λ location. last from to name location)))) x e in
    let from = a.0 in
    let b = bind_some (number w64 from.1) (λ to. (number w32 to.1 >?= λ name. (number w32 name.1 >?= λ location. last from to name location))) x a.2 in
    let to = b.0 in
    let d = bind_some (number w32 to.1) (λ name. (number w32 name.1 >?= λ location. last from to name location)) x b.2 in
    let name = d.0 in
    let f = bind_some (number w32 name.1) (λ location. last from to name location) x d.2 in
    let location = f.0 in
    let g = cond_some (is_variable texts (row_of from.0 to.0 name.0 location.0)) (row_of from.0 to.0 name.0 location.0, location.1) x f.2 in
    let t = number_takes w64 (2 ^ 64) wide64 bytes from fits a.1 in
    let u = number_takes w64 (2 ^ 64) wide64 from.1 to t.0.rest_fits b.1 in
    let v = number_takes w32 (2 ^ 32) wide32 to.1 name u.0.rest_fits d.1 in
    let w = number_takes w32 (2 ^ 32) wide32 name.1 location v.0.rest_fits f.1 in
    let vw = Takes-then to.1 (to_le_bytes w32 name.0) name.1 (to_le_bytes w32 location.0) location.1 v.0 w.0 in
    let uvw = Takes-then from.1 (to_le_bytes w64 to.0) to.1 (to_le_bytes w32 name.0 ++ to_le_bytes w32 location.0) location.1 u.0 vw in
    let tuvw = Takes-then bytes (to_le_bytes w64 from.0) from.1 (to_le_bytes w64 to.0 ++ (to_le_bytes w32 name.0 ++ to_le_bytes w32 location.0)) location.1 t.0 uvw in
    let whole : Takes bytes (variable_bytes (row_of from.0 to.0 name.0 location.0)) location.1
    = subst (λ (n : ℕ). Takes bytes (to_le_bytes w64 from.0 ++ (to_le_bytes w64 to.0 ++ (to_le_bytes w32 name.0 ++ to_le_bytes w32 n))) location.1) (sym (location_number-back location.0)) tuvw in
    let made : IsRow variable_bytes (is_variable texts) bytes (row_of from.0 to.0 name.0 location.0, location.1) = record { takes = whole; right = g.0 } in
    subst (IsRow variable_bytes (is_variable texts) bytes) g.1 made

pub variable_again : (texts : ℕ) → texts < 2 ^ 32 → (r : VarRow) (rest : List ℕ) → is_variable texts r ≡ true → variable_row texts (variable_bytes r ++ rest) ≡ Some (r, rest)
unfolding variable_row
variable_again texts few r rest right =
    let p = and_parts (ltb r.from (2 ^ 64)) (ltb r.to (2 ^ 64) && (ltb r.name texts && is_location r.location)) right in
    let q = and_parts (ltb r.to (2 ^ 64)) (ltb r.name texts && is_location r.location) p.1 in
    let s = and_parts (ltb r.name texts) (is_location r.location) q.1 in
    let name-lt = ltb-true r.name texts s.0 in
    let from = to_le_bytes w64 r.from in
    let to = to_le_bytes w64 r.to in
    let name = to_le_bytes w32 r.name in
    let location = to_le_bytes w32 (location_number r.location) in
    let made : Location → VarRow = λ l. record { from = r.from; to = r.to; name = r.name; location = l } in
    ap (variable_row texts) (regroup4 from to name location rest)
    ∙ rw (
      number_again w64 (2 ^ 64) wide64 r.from (to ++ (name ++ (location ++ rest))) (ltb-true r.from (2 ^ 64) p.0),
      number_again w64 (2 ^ 64) wide64 r.to (name ++ (location ++ rest)) (ltb-true r.to (2 ^ 64) q.0),
      number_again w32 (2 ^ 32) wide32 r.name (location ++ rest) (omega (arith, name-lt, few)),
      number_again w32 (2 ^ 32) wide32 (location_number r.location) rest (location_fits r.location s.1),
    )
    (ap (λ (l : Location). kept (is_variable texts (made l)) (made l) rest) (location_of-back r.location s.1) ∙ kept_right (is_variable texts r) r rest right)
