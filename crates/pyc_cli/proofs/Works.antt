-- The work of a command, by its stages.
use Rattle.std.proofs.Common.{◌≡◌, ℕ, ◌≤◌, List, length, Option, None, Some, is_some, IfSome, Result, Ok, Err, true, false, refl, sym, ap, ◌∙◌, subst, arith, inl, inr}
use Rattle.std.specs.Prelude.{◌⊎◌}
use Rattle.std.proofs.lemmas.List.{take_all}
use Rattle.image.specs.Content.{Content}
use Rattle.image.specs.Fields.{Fault}
use Rattle.image.specs.Format.{image_of}
use Rattle.outside_io.specs.Causes.{Rose}
use Rattle.outside_io.specs.Views.{Names, Kept, Fed, Sunk}
use Rattle.outside_io.specs.Names.{cut, ChangesTold}
use Rattle.pyc_cli.specs.Ending.{Ending, Close, told, read_fault, write_fault, memory, refused, absent, usage}
use Rattle.core_form.specs.Lawful.{Parts}
use Rattle.core_form.specs.Text.{program_text}
use Rattle.source_programs.specs.Programs.{IsProgramOf}
use Rattle.pyc_cli.specs.Making.{IsNoProgram, IsRefused, IsImageOf}
use Rattle.pyc_cli.specs.Moved.{Left, GainsFront, IsCut}
use Rattle.pyc_cli.specs.Order.{Order, Limits}
use Rattle.pyc_cli.specs.Stages.{Runs, RunLeaves, GetKeeps, Misses}
use Rattle.pyc_cli.specs.Told.{Told, IsSet, stops, image_asked, told_image, told_listing, told_written, TellsInput, TellsBytes, TellsFound, TellsName, TellsExec, TellsSet, TellsSource, TellsProgram, TellsExpand, TellsDisasm}
use Rattle.pyc_cli.specs.Work.{Outside, outside, Whole, Works, GetFault, TakeFault, IsTorn, Early, Late, Does, Writes}
use Rattle.pyc_cli.proofs.Inputs.{some_input, known, left_stays, front_none, image_set}
use Rattle.pyc_cli.proofs.Pieces.{gained_none, cut_stays}

-- it stops at once, and all stays
whole_stops : (e : Ending) (old_files new_files : Kept) (input : Fed) (out : Sunk) → new_files.names ≡ old_files.names → Whole (stops e (some_input input.left)) e (outside old_files input out) (outside new_files input out)
whole_stops e old_files new_files input out same = record {
  ending = refl;
  files = same;
  input = left_stays input.left;
  out = gained_none out.held;
}

-- ---- nothing is set

is_unset : (set : Option (List ℕ × List ℕ)) (names : Option Names) → set ≡ None → IsSet set names names
is_unset set names none = let P : Option (List ℕ × List ℕ) → Type 0 = λ s. IsSet s names names in subst P (sym none) refl

-- an image is run
works_run : (t : Told) (c : Close) (files : Kept) (old new : Fed) (out_old out_new : Sunk) → t.set ≡ None → RunLeaves t c old new out_old out_new → Works t c (outside files old out_old) (outside files new out_new)
works_run t (told e) files old new out_old out_new none r = record { ending = r.0; files = is_unset t.set files.names none; input = r.1; out = r.2 }
works_run t read_fault files old new out_old out_new none r = record {
  cause = inr (record { takes = r.0; rose = r.1; input = r.2 });
  files = is_unset t.set files.names none;
  out = r.3;
}
works_run t write_fault files old new out_old out_new none r = inr (record { some = r.0; rose = r.1; files = is_unset t.set files.names none; input = r.2; out = r.3 })
works_run t memory files old new out_old out_new none r = record { files = is_unset t.set files.names none; input = r.0; out = r.1 }

bytes_set : (limits : Limits) (bytes : List ℕ) (left : Option (List ℕ)) (t : Told) → TellsBytes limits bytes left t → t.set ≡ None
bytes_set limits bytes left t says = ap (λ (u : Told). u.set) says.2 ∙ image_set limits (image_of bytes) says.0

pub does_bytes : (limits : Limits) (bytes : List ℕ) (c : Close) (files : Kept) (old new : Fed) (out_old out_new : Sunk)
    → old.faults ≤ new.faults → out_old.faults ≤ out_new.faults → Runs (TellsBytes limits bytes) c old new out_old out_new
    → Does false (λ names left t. TellsBytes limits bytes left t) c (outside files old out_old) (outside files new out_new)
does_bytes limits bytes c files old new out_old out_new takes puts r = record {
  work = inr (record { told = r.all; tells = r.tells; works = works_run r.all c files old new out_old out_new (bytes_set limits bytes old.left r.all r.tells) r.leaves });
  later = record { gets = omega arith; sets = omega arith; takes = takes; puts = puts };
}

-- a text is written, and the input stays
works_text : (t : Told) (c : Close) (files : Kept) (input : Fed) (out_old out_new : Sunk) → t.set ≡ None → Left input.left input.left t.left → Writes t c out_old out_new → Works t c (outside files input out_old) (outside files input out_new)
works_text t (told e) files input out_old out_new none left w = record { ending = w.0; files = is_unset t.set files.names none; input = left; out = w.1 }
works_text t read_fault files input out_old out_new none left w = absurd w
works_text t write_fault files input out_old out_new none left w = inr (record { some = w.2; rose = w.0; files = is_unset t.set files.names none; input = left; out = w.1 })
works_text t memory files input out_old out_new none left w = record { files = is_unset t.set files.names none; input = cut_stays t.takes input.left; out = w }

listing_set : (r : Result Content Fault) (input : List ℕ) → (told_listing r input).set ≡ None
listing_set (Err e) input = refl
listing_set (Ok image) input = refl

listing_left : (r : Result Content Fault) (left : Option (List ℕ)) → Left left left (told_listing r (some_input left)).left
listing_left (Err e) left = left_stays left
listing_left (Ok image) left = left_stays left

pub does_listed : (bytes : List ℕ) (c : Close) (files : Kept) (input : Fed) (out_old out_new : Sunk)
    → out_old.faults ≤ out_new.faults → ((l : List ℕ) → Writes (told_listing (image_of bytes) l) c out_old out_new)
    → Does false (λ names left t. TellsInput (told_listing (image_of bytes)) left t) c (outside files input out_old) (outside files input out_new)
does_listed bytes c files input out_old out_new puts w = record {
  work = inr (record {
    told = told_listing (image_of bytes) (some_input input.left);
    tells = (some_input input.left, known input.left, refl);
    works = works_text (told_listing (image_of bytes) (some_input input.left)) c files input out_old out_new (listing_set (image_of bytes) (some_input input.left)) (listing_left (image_of bytes) input.left) (w (some_input input.left));
  });
  later = record { gets = omega arith; sets = omega arith; takes = omega arith; puts = puts };
}

-- the text of the program that a source is is written
pub does_expanded : (source : List ℕ) (program : Parts) (c : Close) (files : Kept) (input : Fed) (out_old out_new : Sunk)
    → IsProgramOf source program → out_old.faults ≤ out_new.faults → ((l : List ℕ) → Writes (told_written (program_text program) l) c out_old out_new)
    → Does false (λ names left t. TellsProgram source left t) c (outside files input out_old) (outside files input out_new)
does_expanded source program c files input out_old out_new is puts w = record {
  work = inr (record {
    told = told_written (program_text program) (some_input input.left);
    tells = inr (program, is, (some_input input.left, known input.left, refl));
    works = works_text (told_written (program_text program) (some_input input.left)) c files input out_old out_new refl (left_stays input.left) (w (some_input input.left));
  });
  later = record { gets = omega arith; sets = omega arith; takes = omega arith; puts = puts };
}

-- ---- a get comes first

rose_since : (old mid new : ℕ) → old ≤ mid → Rose mid new → Rose old new
rose_since old mid new later rose = omega arith

-- the work seen from before the get, which changed no name
works_before : (t : Told) (c : Close) (old_files mid_files : Kept) (old : Fed) (out_old : Sunk) (new : Outside) → GetKeeps old_files mid_files → Works t c (outside mid_files old out_old) new → Works t c (outside old_files old out_old) new
works_before t c old_files mid_files old out_old new keeps w = from c w
  where
    set_before : IsSet t.set mid_files.names new.files.names → IsSet t.set old_files.names new.files.names
    set_before is = let P : Option Names → Type 0 = λ n. IsSet t.set n new.files.names in subst P keeps.names is

    torn_before : IsTorn t.set mid_files.names new.files.names → IsTorn t.set old_files.names new.files.names
    torn_before is = let P : Option Names → Type 0 = λ n. IsTorn t.set n new.files.names in subst P keeps.names is

    cause_before : GetFault t (outside mid_files old out_old) new ⊎ TakeFault t (outside mid_files old out_old) new → GetFault t (outside old_files old out_old) new ⊎ TakeFault t (outside old_files old out_old) new
    cause_before (inl g) = inl (record { sets = g.sets; rose = rose_since old_files.gets mid_files.gets new.files.gets keeps.gets g.rose; input = g.input })
    cause_before (inr f) = inr (record { takes = f.takes; rose = f.rose; input = f.input })

    rose_before : Rose mid_files.sets new.files.sets → Rose old_files.sets new.files.sets
    rose_before rose = let P : ℕ → Type 0 = λ s. Rose s new.files.sets in subst P keeps.sets rose

    from : (c : Close) → Works t c (outside mid_files old out_old) new → Works t c (outside old_files old out_old) new
    from (told e) w = record { ending = w.ending; files = set_before w.files; input = w.input; out = w.out }
    from read_fault w = record { cause = cause_before w.cause; files = set_before w.files; out = w.out }
    from write_fault (inl w) = inl (record { rose = rose_before w.rose; files = torn_before w.files; input = w.input; out = w.out })
    from write_fault (inr w) = inr (record { some = w.some; rose = w.rose; files = set_before w.files; input = w.input; out = w.out })
    from memory w = record { files = set_before w.files; input = w.input; out = w.out }

-- a call of which the get is a part
early_before : (c : Close) (old_files mid_files : Kept) (old : Fed) (out_old : Sunk) (new : Outside) → mid_files.names ≡ old_files.names → Early false c (outside mid_files old out_old) new → Early true c (outside old_files old out_old) new
early_before c old_files mid_files old out_old new names e = record {
  cause = inr (only e.cause);
  files = e.files ∙ names;
  input = e.input;
  out = e.out;
}
  where
    only : ((false ≡ true) × (c ≡ read_fault) × Rose mid_files.gets new.files.gets) ⊎ (c ≡ memory) → c ≡ memory
    only (inl h) = let no_way : false ≡ true = h.0 in cc
    only (inr h) = h

-- bytes were gotten
pub does_found : (Next : List ℕ → Option Names → Option (List ℕ) → Told → Type 0) (limit : ℕ) (asked name gotten bytes : List ℕ) (c : Close) (old_files mid_files : Kept) (old : Fed) (out_old : Sunk) (new : Outside)
    → asked ≡ name → bytes ≡ gotten → IfSome old_files.names (λ n. cut limit (n asked) ≡ Some gotten) → GetKeeps old_files mid_files
    → Does false (λ names left t. Next bytes names left t) c (outside mid_files old out_old) new
    → Does true (λ names left t. TellsName Next limit name names left t) c (outside old_files old out_old) new
does_found Next limit asked name gotten bytes c old_files mid_files old out_old new same is had keeps does = record {
  work = found does.work;
  later =
      let l = does.later in
      let gets = keeps.gets in
      let sets = keeps.sets in
      record { gets = let a = l.gets in omega arith; sets = let a = l.sets in omega arith; takes = l.takes; puts = l.puts };
}
  where
    held_is : IfSome old_files.names (λ n. cut limit (n name) ≡ Some bytes)
    held_is =
        let P : List ℕ → Type 0 = λ a. IfSome old_files.names (λ n. cut limit (n a) ≡ Some gotten) in
        let Q : List ℕ → Type 0 = λ b. IfSome old_files.names (λ n. cut limit (n name) ≡ Some b) in
        subst Q (sym is) (subst P same had)

    found : Early false c (outside mid_files old out_old) new ⊎ Late (λ names left t. Next bytes names left t) c (outside mid_files old out_old) new → Early true c (outside old_files old out_old) new ⊎ Late (λ names left t. TellsName Next limit name names left t) c (outside old_files old out_old) new
    found (inl e) = inl (early_before c old_files mid_files old out_old new keeps.names e)
    found (inr l) = let P : Option Names → Type 0 = λ n. Next bytes n old.left l.told in inr (record {
      told = l.told;
      tells = record { held = Some bytes; held_is = held_is; next = subst P keeps.names l.tells };
      works = works_before l.told c old_files mid_files old out_old new keeps l.works;
    })

-- none were
pub does_missed : (Next : List ℕ → Option Names → Option (List ℕ) → Told → Type 0) (limit : ℕ) (asked name : List ℕ) (c : Close) (old_files new_files : Kept) (input : Fed) (out : Sunk)
    → asked ≡ name → Misses limit asked old_files new_files c → GetKeeps old_files new_files
    → Does true (λ names left t. TellsName Next limit name names left t) c (outside old_files input out) (outside new_files input out)
does_missed Next limit asked name c old_files new_files input out same misses keeps = record {
  work = let P : List ℕ → Type 0 = λ a. Misses limit a old_files new_files c in missed c (subst P same misses);
  later = let sets = keeps.sets in record { gets = keeps.gets; sets = omega arith; takes = omega arith; puts = omega arith };
}
  where
    missed : (c : Close) → Misses limit name old_files new_files c → Early true c (outside old_files input out) (outside new_files input out) ⊎ Late (λ names left t. TellsName Next limit name names left t) c (outside old_files input out) (outside new_files input out)
    missed (told e) m = inr (record {
      told = stops (absent name) (some_input input.left);
      tells = record { held = None; held_is = m.1; next = (some_input input.left, known input.left, refl) };
      works = subst (λ (x : Ending). Whole (stops (absent name) (some_input input.left)) x (outside old_files input out) (outside new_files input out)) (sym m.0) (whole_stops (absent name) old_files new_files input out keeps.names);
    })
    missed read_fault m = inl (record { cause = inl (refl, refl, m); files = keeps.names; input = refl; out = refl })
    missed write_fault m = absurd m
    missed memory m = inl (record { cause = inr refl; files = keeps.names; input = refl; out = refl })

-- ---- a set comes first, and then a get of what was set

-- where the store tells its names, the get gives what was set
held_after : (names after : Option Names) (name image : List ℕ) (held : Option (List ℕ)) → length image ≤ image_asked → ChangesTold names after name (λ h. h ≡ Some image) → IfSome after (λ n. cut image_asked (n name) ≡ held) → IfSome names (λ n. held ≡ Some image)
held_after None after name image held fits set is = tt
held_after (Some names) None name image held fits set is = absurd set
held_after (Some names) (Some after) name image held fits set is =
    sym is ∙ ap (λ (h : Option (List ℕ)). cut image_asked h) set.there ∙ ap Some (take_all image_asked image fits)

held_told : (names : Option Names) (image : List ℕ) → IfSome names (λ n. Some image ≡ Some image)
held_told None image = tt
held_told (Some names) image = refl

-- what may be told once an image is to be set
abbrev some_set : Order → List ℕ → Option (List ℕ) → Told
some_set order image left =
    record (told_image order.limits (image_of image) (some_input left)) { set = Some (order.second, image) }

some_tells : (order : Order) (image : List ℕ) (names : Option Names) (left : Option (List ℕ)) → TellsSet order image names left (some_set order image left)
some_tells order image names left = record {
  held = Some image;
  held_is = held_told names image;
  rest = told_image order.limits (image_of image) (some_input left);
  next = (some_input left, known left, refl);
  is = refl;
}

found_set : (limits : Limits) (name : List ℕ) (held left : Option (List ℕ)) (t : Told) → TellsFound (λ bytes u. TellsBytes limits bytes left u) name held left t → t.set ≡ None
found_set limits name None left t says = ap (λ (u : Told). u.set) says.2
found_set limits name (Some bytes) left t says = bytes_set limits bytes left t says

pub exec_set : (limits : Limits) (name : List ℕ) (names : Option Names) (left : Option (List ℕ)) (t : Told) → TellsExec limits name names left t → t.set ≡ None
exec_set limits name names left t says = found_set limits name says.held left t says.next

pub expand_set : (name : List ℕ) (names : Option Names) (left : Option (List ℕ)) (t : Told) → TellsExpand name names left t → t.set ≡ None
expand_set name names left t says = from says.held says.next
  where
    from : (held : Option (List ℕ)) → TellsFound (λ source u. TellsProgram source left u) name held left t → t.set ≡ None
    from None h = ap (λ (u : Told). u.set) h.2
    from (Some source) (inl h) = ap (λ (u : Told). u.set) h.2.2
    from (Some source) (inr h) = ap (λ (u : Told). u.set) h.2.2

pub disasm_set : (name : List ℕ) (names : Option Names) (left : Option (List ℕ)) (t : Told) → TellsDisasm name names left t → t.set ≡ None
disasm_set name names left t says = from says.held says.next
  where
    from : (held : Option (List ℕ)) → TellsFound (λ bytes u. TellsInput (told_listing (image_of bytes)) left u) name held left t → t.set ≡ None
    from None says = ap (λ (u : Told). u.set) says.2
    from (Some bytes) says = ap (λ (u : Told). u.set) says.2 ∙ listing_set (image_of bytes) says.0

-- the set was made, and what follows sets nothing
works_set : (t : Told) (set : List ℕ × List ℕ) (c : Close) (old_files mid_files : Kept) (old : Fed) (out_old : Sunk) (new : Outside) → t.set ≡ None → IsSet (Some set) old_files.names mid_files.names → mid_files.gets ≡ old_files.gets → Works t c (outside mid_files old out_old) new → Works (record t { set = Some set }) c (outside old_files old out_old) new
works_set t set c old_files mid_files old out_old new none is gets w = from c w
  where
    stays : IsSet t.set mid_files.names new.files.names → IsSet (Some set) old_files.names new.files.names
    stays s =
        let Set : Option (List ℕ × List ℕ) → Type 0 = λ x. IsSet x mid_files.names new.files.names in
        let same : new.files.names ≡ mid_files.names = subst Set none s in
        let P : Option Names → Type 0 = λ n. IsSet (Some set) old_files.names n in
        subst P (sym same) is

    no_set : GetFault t (outside mid_files old out_old) new → ⊥
    no_set g =
        let is_none : is_some t.set ≡ false = ap (λ (s : Option (List ℕ × List ℕ)). is_some s) none in
        let no_way : true ≡ false = sym g.sets ∙ is_none in cc

    taken : GetFault t (outside mid_files old out_old) new ⊎ TakeFault t (outside mid_files old out_old) new → TakeFault (record t { set = Some set }) (outside old_files old out_old) new
    taken (inl g) = absurd (no_set g)
    taken (inr f) = record { takes = f.takes; rose = f.rose; input = f.input }

    no_torn : IsTorn t.set mid_files.names new.files.names → ⊥
    no_torn torn = let P : Option (List ℕ × List ℕ) → Type 0 = λ x. IsTorn x mid_files.names new.files.names in subst P none torn

    from : (c : Close) → Works t c (outside mid_files old out_old) new → Works (record t { set = Some set }) c (outside old_files old out_old) new
    from (told e) w = record { ending = w.ending; files = stays w.files; input = w.input; out = w.out }
    from read_fault w = record { cause = inr (taken w.cause); files = stays w.files; out = w.out }
    from write_fault (inl w) = absurd (no_torn w.files)
    from write_fault (inr w) = inr (record { some = w.some; rose = w.rose; files = stays w.files; input = w.input; out = w.out })
    from memory w = record { files = stays w.files; input = w.input; out = w.out }

-- the get of what was set failed, or had no memory
works_missed : (t : Told) (set : List ℕ × List ℕ) (c : Close) (old_files mid_files : Kept) (old : Fed) (out_old : Sunk) (new : Outside) → t.set ≡ Some set → IsSet (Some set) old_files.names mid_files.names → mid_files.gets ≡ old_files.gets → Early true c (outside mid_files old out_old) new → Works t c (outside old_files old out_old) new
works_missed t set c old_files mid_files old out_old new sets is gets e = from c e.cause
  where
    stays : IsSet t.set old_files.names new.files.names
    stays =
        let P : Option Names → Type 0 = λ n. IsSet (Some set) old_files.names n in
        let Set : Option (List ℕ × List ℕ) → Type 0 = λ x. IsSet x old_files.names new.files.names in
        subst Set (sym sets) (subst P (sym e.files) is)

    front : GainsFront out_old.held new.out.held t.out
    front = let P : Option (List ℕ) → Type 0 = λ h. GainsFront out_old.held h t.out in subst P (sym e.out) (front_none out_old.held t.out)

    cut_same : IsCut t.takes old.left new.input.left
    cut_same = let P : Option (List ℕ) → Type 0 = λ l. IsCut t.takes old.left l in subst P (sym e.input) (cut_stays t.takes old.left)

    rose : Rose mid_files.gets new.files.gets → Rose old_files.gets new.files.gets
    rose r = let P : ℕ → Type 0 = λ n. Rose n new.files.gets in subst P gets r

    from : (c : Close) → ((true ≡ true) × (c ≡ read_fault) × Rose mid_files.gets new.files.gets) ⊎ (c ≡ memory) → Works t c (outside old_files old out_old) new
    from (told x) (inl h) = let no_way : told x ≡ read_fault = h.1 in cc
    from (told x) (inr h) = cc
    from read_fault (inl h) = record {
      cause = inl (record { sets = ap (λ (s : Option (List ℕ × List ℕ)). is_some s) sets; rose = rose h.2; input = e.input });
      files = stays;
      out = e.out;
    }
    from read_fault (inr h) = cc
    from write_fault (inl h) = let no_way : write_fault ≡ read_fault = h.1 in cc
    from write_fault (inr h) = cc
    from memory h = record { files = stays; input = cut_same; out = front }

pub does_set : (order : Order) (set_name name image : List ℕ) (c : Close) (old_files mid_files : Kept) (old : Fed) (out_old : Sunk) (new : Outside)
    → set_name ≡ order.second → name ≡ order.second → length image ≤ image_asked
    → ChangesTold old_files.names mid_files.names set_name (λ held. held ≡ Some image) → old_files.sets ≤ mid_files.sets → mid_files.gets ≡ old_files.gets
    → Does true (λ names left t. TellsExec order.limits name names left t) c (outside mid_files old out_old) new
    → Does false (λ names left t. TellsSet order image names left t) c (outside old_files old out_old) new
does_set order set_name name image c old_files mid_files old out_old new set_same same fits set sets gets does = record {
  work = by does.work;
  later =
      let l = does.later in
      record { gets = let a = l.gets in omega arith; sets = let a = l.sets in omega arith; takes = l.takes; puts = l.puts };
}
  where
    is : IsSet (Some (order.second, image)) old_files.names mid_files.names
    is = let P : List ℕ → Type 0 = λ n. ChangesTold old_files.names mid_files.names n (λ held. held ≡ Some image) in subst P set_same set

    by : Early true c (outside mid_files old out_old) new ⊎ Late (λ names left t. TellsExec order.limits name names left t) c (outside mid_files old out_old) new → Early false c (outside old_files old out_old) new ⊎ Late (λ names left t. TellsSet order image names left t) c (outside old_files old out_old) new
    by (inl e) = inr (record {
      told = some_set order image old.left;
      tells = some_tells order image old_files.names old.left;
      works = works_missed (some_set order image old.left) (order.second, image) c old_files mid_files old out_old new refl is gets e;
    })
    by (inr l) =
        let P : List ℕ → Type 0 = λ n. TellsExec order.limits n mid_files.names old.left l.told in
        let says : TellsExec order.limits order.second mid_files.names old.left l.told = subst P same l.tells in
        inr (record {
          told = record l.told { set = Some (order.second, image) };
          tells = record {
            held = says.held;
            held_is = held_after old_files.names mid_files.names order.second image says.held fits is says.held_is;
            rest = l.told;
            next = says.next;
            is = refl;
          };
          works = works_set l.told (order.second, image) c old_files mid_files old out_old new (exec_set order.limits order.second mid_files.names old.left l.told says) is gets l.works;
        })

-- the set failed
pub does_torn : (order : Order) (name image : List ℕ) (old_files new_files : Kept) (input : Fed) (out : Sunk)
    → name ≡ order.second → ChangesTold old_files.names new_files.names name (λ held. Unit {0}) → old_files.sets ≤ new_files.sets → Rose old_files.sets new_files.sets → new_files.gets ≡ old_files.gets
    → Does false (λ names left t. TellsSet order image names left t) write_fault (outside old_files input out) (outside new_files input out)
does_torn order name image old_files new_files input out same is sets rose gets =
    let P : List ℕ → Type 0 = λ n. ChangesTold old_files.names new_files.names n (λ held. Unit {0}) in record {
      work = inr (record {
        told = some_set order image input.left;
        tells = some_tells order image old_files.names input.left;
        works = inl (record { rose = rose; files = subst P same is; input = refl; out = refl });
      });
      later = record { gets = omega arith; sets = sets; takes = omega arith; puts = omega arith };
    }

-- ---- the source is refused, or the words ask for nothing

pub does_refused : (order : Order) (source text : List ℕ) (files : Kept) (input : Fed) (out : Sunk) → IsRefused source text
    → Does false (λ names left t. TellsSource order source names left t) (told (refused text)) (outside files input out) (outside files input out)
does_refused order source text files input out is = record {
  work = inr (record {
    told = stops (refused text) (some_input input.left);
    tells = inl (text, is, (some_input input.left, known input.left, refl));
    works = whole_stops (refused text) files files input out refl;
  });
  later = record { gets = omega arith; sets = omega arith; takes = omega arith; puts = omega arith };
}

-- it is no program
pub does_no_program : (source text : List ℕ) (files : Kept) (input : Fed) (out : Sunk) → IsNoProgram source text
    → Does false (λ names left t. TellsProgram source left t) (told (refused text)) (outside files input out) (outside files input out)
does_no_program source text files input out is = record {
  work = inr (record {
    told = stops (refused text) (some_input input.left);
    tells = inl (text, is, (some_input input.left, known input.left, refl));
    works = whole_stops (refused text) files files input out refl;
  });
  later = record { gets = omega arith; sets = omega arith; takes = omega arith; puts = omega arith };
}

-- the words ask for nothing
pub does_usage : (files : Kept) (input : Fed) (out : Sunk) → Does false (λ names left t. TellsInput (stops usage) left t) (told usage) (outside files input out) (outside files input out)
does_usage files input out = record {
  work = inr (record {
    told = stops usage (some_input input.left);
    tells = (some_input input.left, known input.left, refl);
    works = whole_stops usage files files input out refl;
  });
  later = record { gets = omega arith; sets = omega arith; takes = omega arith; puts = omega arith };
}

-- a source is compiled to an image, with which the work goes on
pub does_compiled : (order : Order) (source image bytes : List ℕ) (c : Close) (old new : Outside) → bytes ≡ image → IsImageOf source image
    → Does false (λ names left t. TellsSet order bytes names left t) c old new → Does false (λ names left t. TellsSource order source names left t) c old new
does_compiled order source image bytes c old new same is does = record {
  work = elim does.work [
    | inl early ↦ inl early
    | inr late ↦ inr (record {
      told = late.told;
      tells = inr (bytes, subst (λ (b : List ℕ). IsImageOf source b) (sym same) is, late.tells);
      works = late.works;
    })
  ];
  later = does.later;
}
