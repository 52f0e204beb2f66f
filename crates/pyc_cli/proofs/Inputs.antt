-- What is told of an input, and what a run leaves of it and of out.
use Rattle.std.proofs.Common.{◌≡◌, ℕ, ◌+◌, ◌<◌, ◌≤◌, List, [], ◌++◌, length, drop, Option, None, Some, IfSome, Result, Ok, Err, true, false, refl, sym, ap, ◌∙◌, subst, arith}
use Rattle.std.specs.Prelude.{nat_lt, if◌then◌else◌, IsUtf8}
use Rattle.std.specs.Str.{is_utf8, chars}
use Rattle.std.specs.Str.Lossy.{utf8_valid_len}
use Rattle.std.proofs.Math.Seq.{drop-append_seam}
use Rattle.std.proofs.lemmas.List.{length-append}
use Rattle.std.proofs.lemmas.Str.{IsUtf8-from_is_utf8, is_utf8-from_IsUtf8}
use Rattle.std.proofs.lemmas.Bool.{false_from_ne_true}
use Rattle.image.specs.Content.{Content}
use Rattle.image.specs.declared.fault.ImageKind.{ImageKind}
use Rattle.image.specs.declared.fault.ImageFault.{ImageFault}
use Rattle.image.specs.declared.fault.ImageFault.TheVariants as faults
use Rattle.image.specs.Fields.{Fault, fault, Fails}
use Rattle.image.specs.Format.{image_of}
use Rattle.outside_io.specs.Causes.{Rose}
use Rattle.outside_io.specs.Views.{Fed, Sunk, gained, untaken}
use Rattle.pyc_cli.specs.Ending.{Close, told, read_fault, write_fault, memory, not_text, too_long, bad_image}
use Rattle.pyc_cli.specs.Moved.{Left, GainsFront, TakesFront, IsCut}
use Rattle.pyc_cli.specs.Order.{Limits}
use Rattle.pyc_cli.specs.Stages.{Runs, RunLeaves, image_close}
use Rattle.pyc_cli.specs.Told.{Told, stops, told_run, told_text, told_input, told_image, TellsInput, TellsBytes}
use Rattle.pyc_cli.specs.Work.{Writes}
use Rattle.pyc_cli.proofs.Growth.{append_none}
use Rattle.pyc_cli.proofs.Pieces.{gained_none, front_taken, cut_stays, cut_front}

-- an input that a source may have, where this is what it tells
abbrev pub some_input : Option (List ℕ) → List ℕ
some_input None = []
some_input (Some left) = left

pub known : (left : Option (List ℕ)) → IfSome left (λ l. l ≡ some_input left)
known None = tt
known (Some left) = refl

pub left_stays : (left : Option (List ℕ)) → Left left left (some_input left)
left_stays None = tt
left_stays (Some left) = refl

-- nothing gained is a front of any text
pub front_none : (held : Option (List ℕ)) (text : List ℕ) → GainsFront held held text
front_none held text = record { front = []; rest = text; text_is = refl; held = gained_none held }

-- ---- what is told of a text

text_is : (limits : Limits) (image : Content) (input : List ℕ) → is_utf8 input ≡ true → told_text limits image input ≡ told_run limits image (chars input)
text_is limits image input h = rw h refl

text_is_not : (limits : Limits) (image : Content) (input : List ℕ) → is_utf8 input ≡ false → told_text limits image input ≡ record (stops (not_text (utf8_valid_len input)) []) { takes = true }
text_is_not limits image input h = rw h refl

text_takes : (limits : Limits) (image : Content) (input : List ℕ) → (told_text limits image input).takes ≡ true
text_takes limits image input =
    elim (is_utf8 input) as (λ b. (if b then told_run limits image (chars input) else record (stops (not_text (utf8_valid_len input)) []) { takes = true }).takes ≡ true) [ true ↦ refl | false ↦ refl ]

text_left : (limits : Limits) (image : Content) (input : List ℕ) → (told_text limits image input).left ≡ []
text_left limits image input =
    elim (is_utf8 input) as (λ b. (if b then told_run limits image (chars input) else record (stops (not_text (utf8_valid_len input)) []) { takes = true }).left ≡ []) [ true ↦ refl | false ↦ refl ]

pub writes_text : (limits : Limits) (image : Content) (input text : List ℕ) (c : Close) (old new : Sunk) → text ≡ input → IsUtf8 input → Writes (told_run limits image (chars text)) c old new → Writes (told_text limits image input) c old new
writes_text limits image input text c old new same utf8 writes =
    let P : Told → Type 0 = λ t. Writes t c old new in
    let Q : List ℕ → Type 0 = λ l. Writes (told_run limits image (chars l)) c old new in
    subst P (sym (text_is limits image input (is_utf8-from_IsUtf8 input utf8))) (subst Q same writes)

pub writes_no_text : (limits : Limits) (image : Content) (input : List ℕ) (n : ℕ) (old : Sunk) → (IsUtf8 input → ⊥) → n ≡ utf8_valid_len input → (not_text n ≡ (told_text limits image input).ending) × (old.held ≡ gained old.held (told_text limits image input).out)
writes_no_text limits image input n old ne is =
    let P : Told → Type 0 = λ t. (not_text n ≡ t.ending) × (old.held ≡ gained old.held t.out) in
    let other : is_utf8 input ≡ false = false_from_ne_true (is_utf8 input) (λ h. ne (IsUtf8-from_is_utf8 input h)) in
    subst P (sym (text_is_not limits image input other)) (ap not_text is, gained_none old.held)

-- ---- what is told of an input

not_long : (input : List ℕ) → length input ≤ 16777216 → nat_lt 16777216 (length input) ≡ false
not_long input h = grind arith

long : (input : List ℕ) → 16777216 < length input → nat_lt 16777216 (length input) ≡ true
long input h = grind arith

input_is : (limits : Limits) (image : Content) (input : List ℕ) → length input ≤ 16777216 → told_input limits image input ≡ told_text limits image input
input_is limits image input h = rw (not_long input h) refl

input_is_long : (limits : Limits) (image : Content) (input : List ℕ) → 16777216 < length input → told_input limits image input ≡ record (stops too_long (drop 16777217 input)) { takes = true }
input_is_long limits image input h = rw (long input h) refl

input_takes : (limits : Limits) (image : Content) (input : List ℕ) → (told_input limits image input).takes ≡ true
input_takes limits image input =
    elim (nat_lt 16777216 (length input)) as (λ b. (if b then record (stops too_long (drop 16777217 input)) { takes = true } else told_text limits image input).takes ≡ true)
    [ true ↦ refl | false ↦ text_takes limits image input ]

-- nothing is set
text_set : (limits : Limits) (image : Content) (input : List ℕ) → (told_text limits image input).set ≡ None
text_set limits image input =
    elim (is_utf8 input) as (λ b. (if b then told_run limits image (chars input) else record (stops (not_text (utf8_valid_len input)) []) { takes = true }).set ≡ None) [ true ↦ refl | false ↦ refl ]

input_set : (limits : Limits) (image : Content) (input : List ℕ) → (told_input limits image input).set ≡ None
input_set limits image input =
    elim (nat_lt 16777216 (length input)) as (λ b. (if b then record (stops too_long (drop 16777217 input)) { takes = true } else told_text limits image input).set ≡ None)
    [ true ↦ refl | false ↦ text_set limits image input ]

pub image_set : (limits : Limits) (r : Result Content Fault) (input : List ℕ) → (told_image limits r input).set ≡ None
image_set limits (Err e) input = refl
image_set limits (Ok image) input = input_set limits image input

leaves_by_writes : (t : Told) (c : Close) (old new : Fed) (out_old out_new : Sunk) → t.takes ≡ true → TakesFront old.left new.left → Left old.left new.left t.left → Writes t c out_old out_new → RunLeaves t c old new out_old out_new
leaves_by_writes t (told e) old new out_old out_new takes front left w = (w.0, left, w.1)
leaves_by_writes t read_fault old new out_old out_new takes front left w = absurd w
leaves_by_writes t write_fault old new out_old out_new takes front left w = (w.2, w.0, left, w.1)
leaves_by_writes t memory old new out_old out_new takes front left w = (cut_front t.takes old.left new.left takes front, w)

-- all that was left was taken
had_all : (bytes : List ℕ) (old new : Option (List ℕ)) → old ≡ untaken bytes new → IfSome new (λ left. left ≡ []) → IfSome old (λ left. left ≡ bytes) × Left old new []
had_all bytes old None taken none =
    let P : Option (List ℕ) → Type 0 = λ o. IfSome o (λ left. left ≡ bytes) × Left o None [] in
    subst P (sym taken) (tt, tt)
had_all bytes old (Some left) taken none =
    let P : Option (List ℕ) → Type 0 = λ o. IfSome o (λ l. l ≡ bytes) × Left o (Some left) [] in
    let whole : bytes ++ left ≡ bytes = ap (λ (l : List ℕ). bytes ++ l) none ∙ sym (append_none bytes) in
    subst P (sym taken) (whole, ap Some none)

-- the whole input was taken, and the image run on it
pub runs_all : (limits : Limits) (image : Content) (bytes input : List ℕ) (c : Close) (old new : Fed) (out_old out_new : Sunk) → input ≡ bytes → length bytes ≤ 16777216 → old.left ≡ untaken bytes new.left → IfSome new.left (λ left. left ≡ []) → Writes (told_text limits image input) c out_old out_new → Runs (TellsInput (told_input limits image)) c old new out_old out_new
runs_all limits image bytes input c old new out_old out_new is most taken none writes =
    let had = had_all bytes old.left new.left taken none in
    let front = front_taken bytes old.left new.left new.left taken (omega arith) refl in
    let P : List ℕ → Type 0 = λ l. Writes (told_text limits image l) c out_old out_new in
    let Q : List ℕ → Type 0 = λ l. Left old.left new.left l in
    record {
      all = told_text limits image bytes;
      tells = (bytes, had.0, sym (input_is limits image bytes most));
      leaves = leaves_by_writes (told_text limits image bytes) c old new out_old out_new (text_takes limits image bytes) front (subst Q (sym (text_left limits image bytes)) had.1) (subst P is writes);
    }

-- an input of which this many bytes are gone
pub record Longer (old new : Option (List ℕ)) : Type 0 where
  pub input : List ℕ
  pub had : IfSome old (λ left. left ≡ input)
  pub more : 16777216 < length input
  pub left : Left old new (drop 16777217 input)

gone_from : (bytes left : List ℕ) (n : ℕ) → length bytes ≡ n → drop n (bytes ++ left) ≡ left
gone_from bytes left n is = rw (← is) (drop-append_seam bytes left)

longer : (bytes : List ℕ) (old new : Option (List ℕ)) → length bytes ≡ 16777217 → old ≡ untaken bytes new → Longer old new
longer bytes old None is taken =
    let P : Option (List ℕ) → Type 0 = λ o. Longer o None in
    subst P (sym taken) (record { input = bytes; had = tt; more = omega arith; left = tt })
longer bytes old (Some left) is taken =
    let P : Option (List ℕ) → Type 0 = λ o. Longer o (Some left) in
    let both : length (bytes ++ left) ≡ length bytes + length left = length-append bytes left in
    subst P (sym taken) (record {
      input = bytes ++ left;
      had = refl;
      more = omega arith;
      left = ap Some (sym (gone_from bytes left 16777217 is));
    })

pub runs_long : (limits : Limits) (image : Content) (bytes : List ℕ) (old new : Fed) (out : Sunk) → length bytes ≡ 16777217 → old.left ≡ untaken bytes new.left → Runs (TellsInput (told_input limits image)) (told too_long) old new out out
runs_long limits image bytes old new out is taken =
    let it = longer bytes old.left new.left is taken in
    record {
      all = record (stops too_long (drop 16777217 it.input)) { takes = true };
      tells = (it.input, it.had, sym (input_is_long limits image it.input it.more));
      leaves = (refl, it.left, gained_none out.held);
    }

pub runs_fault : (limits : Limits) (image : Content) (old new : Fed) (out : Sunk) → Rose old.faults new.faults → TakesFront old.left new.left → Runs (TellsInput (told_input limits image)) read_fault old new out out
runs_fault limits image old new out rose front = record {
  all = told_input limits image (some_input old.left);
  tells = (some_input old.left, known old.left, refl);
  leaves = (input_takes limits image (some_input old.left), rose, front, refl);
}

runs_memory : (f : List ℕ → Told) (old new : Fed) (out : Sunk) → IsCut (f (some_input old.left)).takes old.left new.left → Runs (TellsInput f) memory old new out out
runs_memory f old new out cut = record {
  all = f (some_input old.left);
  tells = (some_input old.left, known old.left, refl);
  leaves = (cut, front_none out.held (f (some_input old.left)).out);
}

-- there was no memory for the input
pub runs_short : (limits : Limits) (image : Content) (old new : Fed) (out : Sunk) → TakesFront old.left new.left → Runs (TellsInput (told_input limits image)) memory old new out out
runs_short limits image old new out front =
    runs_memory (told_input limits image) old new out (cut_front (told_input limits image (some_input old.left)).takes old.left new.left (input_takes limits image (some_input old.left)) front)

-- the bytes were no image
runs_bad : (limits : Limits) (bytes : List ℕ) (kind : ImageKind) (offset : ℕ) (old : Fed) (out : Sunk) → image_of bytes ≡ fault offset kind → Runs (TellsBytes limits bytes) (told (bad_image kind offset)) old old out out
runs_bad limits bytes kind offset old out is = record {
  all = stops (bad_image kind offset) (some_input old.left);
  tells = (some_input old.left, known old.left, rw is refl);
  leaves = (refl, left_stays old.left, gained_none out.held);
}

pub runs_refused : (limits : Limits) (bytes : List ℕ) (why : ImageFault) (old : Fed) (out : Sunk) → Fails why (image_of bytes) → Runs (TellsBytes limits bytes) (image_close why) old old out out
runs_refused limits bytes (faults.Bad offset kind) old out is = runs_bad limits bytes kind offset old out is
runs_refused limits bytes faults.Memory old out is =
    runs_memory (told_image limits (image_of bytes)) old old out (cut_stays (told_image limits (image_of bytes) (some_input old.left)).takes old.left)
