-- What follows from how a call of the tool ends.
use Rattle.std.proofs.Common.{◌≡◌, ℕ, List, Option, None, Some, Bool, true, refl, sym, ap, ◌∙◌, subst, inl, inr, arith}
use Rattle.std.specs.Prelude.{◌⊎◌}
use Rattle.outside_io.specs.Causes.{Rose}
use Rattle.outside_io.specs.Views.{Names, Kept, Fed, Sunk}
use Rattle.outside_io.specs.Names.{ChangesTold}
use Rattle.pyc_cli.specs.declared.status.Status.{Status}
use Rattle.pyc_cli.specs.declared.status.Status.TheVariants as status
use Rattle.pyc_cli.specs.declared.moving.Wrote.{Wrote}
use Rattle.pyc_cli.specs.declared.moving.Wrote.TheVariants as wrote
use Rattle.pyc_cli.specs.declared.command.Verb.{Verb}
use Rattle.pyc_cli.specs.declared.command.Verb.TheVariants as verbs
use Rattle.pyc_cli.specs.declared.words.WordFault.{WordFault}
use Rattle.pyc_cli.specs.declared.words.WordFault.TheVariants as words
use Rattle.pyc_cli.specs.Asked.{IsOutside}
use Rattle.pyc_cli.specs.Ending.{Ending, Close, told, read_fault, write_fault, memory, status_told, status_of, line_of, value, error, usage, refused, absent, heap, stack, step_limit, bad_image, trap, not_text, too_long, written}
use Rattle.pyc_cli.specs.Line.{turned, Finishes}
use Rattle.pyc_cli.specs.Moved.{PutsAll, is_failed}
use Rattle.pyc_cli.specs.Order.{Order}
use Rattle.pyc_cli.specs.Stages.{word_close}
use Rattle.pyc_cli.specs.Told.{Told, IsSet, TellsFound, TellsSource}
use Rattle.pyc_cli.specs.Tool.{Ends, Tells, TellsVerb, gets_first, verb_gets_first, AsTold, ChangesOnly, RoseInRead, RoseInWrite, name_set, verb_sets}
use Rattle.pyc_cli.specs.Work.{Outside, outside, Whole, Works, Early, Late, Does, IsTorn, GetFault, TakeFault, SetFault, PutFault}
use Rattle.pyc_cli.proofs.Works.{does_usage, exec_set, expand_set, disasm_set}

-- ---- the ends of a call

-- a command, asked for by its order
pub ends_order : (order : Order) (asked : Option Order) (c : Close) (s : Status) (old new : Outside) (err_old err_new : Sunk) → asked ≡ Some order → Does (verb_gets_first order.verb) (λ names left t. TellsVerb order.verb order names left t) c old new → Finishes c s err_old err_new → Ends asked s old new err_old err_new
ends_order order asked c s old new err_old err_new is does line =
    let For : Option Order → Type 0 = λ a. Ends a s old new err_old err_new in
    subst For (sym is) (record { close = c; work = does; line = line })

does_outside : (asked : Option Order) (fault : WordFault) (files : Kept) (input : Fed) (out : Sunk) → IsOutside asked fault → Does (gets_first asked) (λ names left t. Tells asked names left t) (word_close fault) (outside files input out) (outside files input out)
does_outside asked words.Usage files input out is =
    let For : Option Order → Type 0 = λ a. Does (gets_first a) (λ names left t. Tells a names left t) (told usage) (outside files input out) (outside files input out) in
    subst For (sym is) (does_usage files input out)
does_outside asked words.Memory files input out is = record {
  work = inl (record { cause = inr refl; files = refl; input = refl; out = refl });
  later = record { gets = omega arith; sets = omega arith; takes = omega arith; puts = omega arith };
}

-- words that are no command
pub ends_outside : (asked : Option Order) (fault : WordFault) (c : Close) (s : Status) (files : Kept) (input : Fed) (out : Sunk) (err_old err_new : Sunk) → IsOutside asked fault → c ≡ word_close fault → Finishes c s err_old err_new → Ends asked s (outside files input out) (outside files input out) err_old err_new
ends_outside asked fault c s files input out err_old err_new is closes line =
    let For : Close → Type 0 = λ x. Finishes x s err_old err_new in
    record { close = word_close fault; work = does_outside asked fault files input out is; line = subst For closes line }

-- ---- a fault of reading

pub turned_read : (w : Wrote) (s : Status) → turned w s ≡ status.ReadFault → s ≡ status.ReadFault
turned_read wrote.All s h = h
turned_read wrote.Failed status.Done h = cc
turned_read wrote.Failed s h = h
turned_read wrote.Memory status.Done h = cc
turned_read wrote.Memory s h = h

pub close_read : (c : Close) → status_of c ≡ status.ReadFault → c ≡ read_fault
close_read (told (value text)) h = cc
close_read (told (error text)) h = cc
close_read (told usage) h = cc
close_read (told (refused text)) h = cc
close_read (told (absent name)) h = cc
close_read (told heap) h = cc
close_read (told stack) h = cc
close_read (told step_limit) h = cc
close_read (told (bad_image kind offset)) h = cc
close_read (told (trap pc)) h = cc
close_read (told (not_text offset)) h = cc
close_read (told too_long) h = cc
close_read (told written) h = cc
close_read read_fault h = refl
close_read write_fault h = cc
close_read memory h = cc

pub finishes_read : (c : Close) (s : Status) (old new : Sunk) → Finishes c s old new → s ≡ status.ReadFault → c ≡ read_fault
finishes_read c s old new (inl line) h = close_read c (turned_read line.wrote (status_of c) (sym line.status ∙ h))
finishes_read c s old new (inr line) h =
    let no_way : status.Memory ≡ status.ReadFault = turned_read line.1.wrote status.Memory (sym line.1.status ∙ h) in cc

-- the work met a fault of reading
work_read : {gets : Bool} {Says : Option Names → Option (List ℕ) → Told → Type 0} (old new : Outside) → Does gets Says read_fault old new → RoseInRead old new
work_read {gets = gets} {Says = Says} old new does = from does.work
  where
    early : {P Q : Type 0} → (P × (read_fault ≡ read_fault) × Q) ⊎ (read_fault ≡ memory) → Q
    early (inl h) = h.2
    early (inr h) = cc

    caused : (t : Told) → GetFault t old new ⊎ TakeFault t old new → RoseInRead old new
    caused t (inl g) = inl g.rose
    caused t (inr f) = inr f.rose

    from : Early gets read_fault old new ⊎ Late Says read_fault old new → RoseInRead old new
    from (inl e) = inl (early {P = gets ≡ true} e.cause)
    from (inr l) = caused l.told l.works.cause

pub ends_read : (asked : Option Order) (s : Status) (old new : Outside) (err_old err_new : Sunk) → Ends asked s old new err_old err_new → s ≡ status.ReadFault → RoseInRead old new
ends_read asked s old new err_old err_new ends h =
    let For : Close → Type 0 = λ c. Does (gets_first asked) (Tells asked) c old new in
    work_read {gets = gets_first asked} {Says = Tells asked} old new (subst For (finishes_read ends.close s err_old err_new ends.line h) ends.work)

-- ---- a fault of writing

pub turned_write : (w : Wrote) (s : Status) → turned w s ≡ status.WriteFault → (is_failed w ≡ true) ⊎ (s ≡ status.WriteFault)
turned_write wrote.All s h = inr h
turned_write wrote.Failed s h = inl refl
turned_write wrote.Memory status.Done h = cc
turned_write wrote.Memory s h = inr h

pub close_write : (c : Close) → status_of c ≡ status.WriteFault → c ≡ write_fault
close_write (told (value text)) h = cc
close_write (told (error text)) h = cc
close_write (told usage) h = cc
close_write (told (refused text)) h = cc
close_write (told (absent name)) h = cc
close_write (told heap) h = cc
close_write (told stack) h = cc
close_write (told step_limit) h = cc
close_write (told (bad_image kind offset)) h = cc
close_write (told (trap pc)) h = cc
close_write (told (not_text offset)) h = cc
close_write (told too_long) h = cc
close_write (told written) h = cc
close_write read_fault h = cc
close_write write_fault h = refl
close_write memory h = cc

pub finishes_write : (c : Close) (s : Status) (old new : Sunk) → Finishes c s old new → s ≡ status.WriteFault → Rose old.faults new.faults ⊎ (c ≡ write_fault)
finishes_write c s old new (inl line) h = from (turned_write line.wrote (status_of c) (sym line.status ∙ h))
  where
    from : (is_failed line.wrote ≡ true) ⊎ (status_of c ≡ status.WriteFault) → Rose old.faults new.faults ⊎ (c ≡ write_fault)
    from (inl failed) = inl (line.puts.cause.rose failed)
    from (inr is) = inr (close_write c is)
finishes_write c s old new (inr line) h = from (turned_write line.1.wrote status.Memory (sym line.1.status ∙ h))
  where
    from : (is_failed line.1.wrote ≡ true) ⊎ (status.Memory ≡ status.WriteFault) → Rose old.faults new.faults ⊎ (c ≡ write_fault)
    from (inl failed) = inl (line.1.puts.cause.rose failed)
    from (inr is) = cc

-- the work met a fault of writing
work_write : {gets : Bool} {Says : Option Names → Option (List ℕ) → Told → Type 0} (old new : Outside) → Does gets Says write_fault old new → Rose old.files.sets new.files.sets ⊎ Rose old.out.faults new.out.faults
work_write {gets = gets} {Says = Says} old new does = from does.work
  where
    late : (t : Told) → SetFault t old new ⊎ PutFault t old new → Rose old.files.sets new.files.sets ⊎ Rose old.out.faults new.out.faults
    late t (inl w) = inl w.rose
    late t (inr w) = inr w.rose

    early : {P Q R : Type 0} → (P × (write_fault ≡ read_fault) × Q) ⊎ (write_fault ≡ memory) → R
    early (inl h) = let no_way : write_fault ≡ read_fault = h.1 in cc
    early (inr h) = cc

    from : Early gets write_fault old new ⊎ Late Says write_fault old new → Rose old.files.sets new.files.sets ⊎ Rose old.out.faults new.out.faults
    from (inl e) = early {P = gets ≡ true} {Q = Rose old.files.gets new.files.gets} e.cause
    from (inr l) = late l.told l.works

in_write : (old new : Outside) (err_old err_new : Sunk) → Rose old.files.sets new.files.sets ⊎ Rose old.out.faults new.out.faults → RoseInWrite old new err_old err_new
in_write old new err_old err_new (inl h) = inl h
in_write old new err_old err_new (inr h) = inr (inl h)

write_from : (asked : Option Order) (s : Status) (old new : Outside) (err_old err_new : Sunk) (ends : Ends asked s old new err_old err_new) → Rose err_old.faults err_new.faults ⊎ (ends.close ≡ write_fault) → RoseInWrite old new err_old err_new
write_from asked s old new err_old err_new ends (inl rose) = inr (inr rose)
write_from asked s old new err_old err_new ends (inr is) =
    let For : Close → Type 0 = λ c. Does (gets_first asked) (Tells asked) c old new in
    in_write old new err_old err_new (work_write {gets = gets_first asked} {Says = Tells asked} old new (subst For is ends.work))

pub ends_write : (asked : Option Order) (s : Status) (old new : Outside) (err_old err_new : Sunk) → Ends asked s old new err_old err_new → s ≡ status.WriteFault → RoseInWrite old new err_old err_new
ends_write asked s old new err_old err_new ends h =
    write_from asked s old new err_old err_new ends (finishes_write ends.close s err_old err_new ends.line h)

-- ---- what changes in the store

changes_none : (name : List ℕ) (names : Option Names) → ChangesTold names names name (λ held. Unit {0})
changes_none name None = tt
changes_none name (Some names) = record { there = tt; others = λ other ne. refl }

changes_same : (set : Option (List ℕ)) (old new : Option Names) → new ≡ old → ChangesOnly set old new
changes_same None old new is = is
changes_same (Some name) old new is =
    let For : Option Names → Type 0 = λ n. ChangesTold old n name (λ held. Unit {0}) in
    subst For (sym is) (changes_none name old)

changes_looser : (name : List ℕ) (P : Option (List ℕ) → Type 0) (old new : Option Names) → ChangesTold old new name P → ChangesTold old new name (λ held. Unit {0})
changes_looser name P None new c = tt
changes_looser name P (Some old) None c = absurd c
changes_looser name P (Some old) (Some new) c = record { there = tt; others = c.others }

-- what is told to be set is what the command sets
abbrev SetsOnly : Option (List ℕ) → Option (List ℕ × List ℕ) → Type 0
SetsOnly sets set = (set ≡ None) ⊎ ((entry : List ℕ × List ℕ) × (sets ≡ Some entry.0) × (set ≡ Some entry))

changes_only : (sets : Option (List ℕ)) (set : Option (List ℕ × List ℕ)) (old new : Option Names) → SetsOnly sets set → IsSet set old new ⊎ IsTorn set old new → ChangesOnly sets old new
changes_only sets set old new (inl none) is =
    let For : Option (List ℕ × List ℕ) → Type 0 = λ s. IsSet s old new ⊎ IsTorn s old new in
    from (subst For none is)
  where
    from : (new ≡ old) ⊎ ⊥ → ChangesOnly sets old new
    from (inl h) = changes_same sets old new h
    from (inr h) = absurd h
changes_only sets set old new (inr (entry, names, some)) is =
    let For : Option (List ℕ × List ℕ) → Type 0 = λ s. IsSet s old new ⊎ IsTorn s old new in
    let Only : Option (List ℕ) → Type 0 = λ n. ChangesOnly n old new in
    subst Only (sym names) (from (subst For some is))
  where
    from : ChangesTold old new entry.0 (λ held. held ≡ Some entry.1) ⊎ ChangesTold old new entry.0 (λ held. Unit {0}) → ChangesTold old new entry.0 (λ held. Unit {0})
    from (inl h) = changes_looser entry.0 (λ held. held ≡ Some entry.1) old new h
    from (inr h) = h

found_sets : (order : Order) (names : Option Names) (held left : Option (List ℕ)) (t : Told) → TellsFound (λ source u. TellsSource order source names left u) order.first held left t → SetsOnly (Some order.second) t.set
found_sets order names None left t says = inl (ap (λ (u : Told). u.set) says.2)
found_sets order names (Some source) left t (inl says) = inl (ap (λ (u : Told). u.set) says.2.2)
found_sets order names (Some source) left t (inr says) =
    let set = says.2 in inr ((order.second, says.0), refl, ap (λ (u : Told). u.set) set.is)

verb_sets_only : (v : Verb) (order : Order) (names : Option Names) (left : Option (List ℕ)) (t : Told) → TellsVerb v order names left t → SetsOnly (verb_sets v order.second) t.set
verb_sets_only verbs.Exec order names left t says = inl (exec_set order.limits order.first names left t says)
verb_sets_only verbs.Run order names left t says = found_sets order names says.held left t says.next
verb_sets_only verbs.Expand order names left t says = inl (expand_set order.first names left t says)
verb_sets_only verbs.Disasm order names left t says = inl (disasm_set order.first names left t says)

tells_sets : (asked : Option Order) (names : Option Names) (left : Option (List ℕ)) (t : Told) → Tells asked names left t → SetsOnly (name_set asked) t.set
tells_sets None names left t says = inl (ap (λ (u : Told). u.set) says.2)
tells_sets (Some order) names left t says = verb_sets_only order.verb order names left t says

works_files : (t : Told) (c : Close) (old new : Outside) → Works t c old new → IsSet t.set old.files.names new.files.names ⊎ IsTorn t.set old.files.names new.files.names
works_files t (told e) old new w = inl w.files
works_files t read_fault old new w = inl w.files
works_files t write_fault old new (inl w) = inr w.files
works_files t write_fault old new (inr w) = inl w.files
works_files t memory old new w = inl w.files

does_only : (asked : Option Order) (c : Close) (old new : Outside) → Early (gets_first asked) c old new ⊎ Late (Tells asked) c old new → ChangesOnly (name_set asked) old.files.names new.files.names
does_only asked c old new (inl e) = changes_same (name_set asked) old.files.names new.files.names e.files
does_only asked c old new (inr l) =
    changes_only (name_set asked) l.told.set old.files.names new.files.names (tells_sets asked old.files.names old.input.left l.told l.tells) (works_files l.told c old new l.works)

pub ends_only : (asked : Option Order) (s : Status) (old new : Outside) (err_old err_new : Sunk) → Ends asked s old new err_old err_new → ChangesOnly (name_set asked) old.files.names new.files.names
ends_only asked s old new err_old err_new ends = does_only asked ends.close old new ends.work.work

-- ---- where no count rose

turned_or : (s : Status) → (turned wrote.Memory s ≡ s) ⊎ (turned wrote.Memory s ≡ status.Memory)
turned_or status.Done = inr refl
turned_or s = inl refl

pub turned_memory : (w : Wrote) → turned w status.Memory ≡ status.Memory
turned_memory wrote.All = refl
turned_memory wrote.Failed = refl
turned_memory wrote.Memory = refl

told_line : (asked : Option Order) (s : Status) (e : Ending) (old new : Outside) (err_old err_new : Sunk) (l : Late (Tells asked) (told e) old new) (w : Wrote) → PutsAll err_old err_new w (line_of (told e)) → s ≡ turned w (status_told e) → (RoseInWrite old new err_old err_new → ⊥) → AsTold asked s old new err_old err_new ⊎ (s ≡ status.Memory)
told_line asked s e old new err_old err_new l w puts is no_write = by w puts is
  where
    whole : Whole l.told l.told.ending old new
    whole = record { ending = refl; files = l.works.files; input = l.works.input; out = l.works.out }

    as_told : (w : Wrote) → PutsAll err_old err_new w (line_of (told e)) → s ≡ status_told e → AsTold asked s old new err_old err_new
    as_told w puts is = record {
      all = l.told;
      tells = l.tells;
      status = is ∙ ap status_told l.works.ending;
      work = whole;
      wrote = w;
      line = subst (λ (x : Ending). PutsAll err_old err_new w (line_of (told x))) l.works.ending puts;
    }

    by : (w : Wrote) → PutsAll err_old err_new w (line_of (told e)) → s ≡ turned w (status_told e) → AsTold asked s old new err_old err_new ⊎ (s ≡ status.Memory)
    by wrote.All puts is = inl (as_told wrote.All puts is)
    by wrote.Failed puts is = absurd (no_write (inr (inr (puts.cause.rose refl))))
    by wrote.Memory puts is =
        elim (turned_or (status_told e)) [ inl stays ↦ inl (as_told wrote.Memory puts (is ∙ stays)) | inr turns ↦ inr (is ∙ turns) ]

late_told : (asked : Option Order) (s : Status) (e : Ending) (old new : Outside) (err_old err_new : Sunk) → Late (Tells asked) (told e) old new → Finishes (told e) s err_old err_new → (RoseInWrite old new err_old err_new → ⊥) → AsTold asked s old new err_old err_new ⊎ (s ≡ status.Memory)
late_told asked s e old new err_old err_new l (inl line) no_write = told_line asked s e old new err_old err_new l line.wrote line.puts line.status no_write
late_told asked s e old new err_old err_new l (inr line) no_write = inr (line.1.status ∙ turned_memory line.1.wrote)

not_early : {P Q R : Type 0} (e : Ending) → (P × (told e ≡ read_fault) × Q) ⊎ (told e ≡ memory) → R
not_early e (inl h) = let no_way : told e ≡ read_fault = h.1 in cc
not_early e (inr h) = cc

pub finishes_memory : (s : Status) (old new : Sunk) → Finishes memory s old new → s ≡ status.Memory
finishes_memory s old new (inl line) = line.status ∙ turned_memory line.wrote
finishes_memory s old new (inr line) = line.1.status ∙ turned_memory line.1.wrote

closes : (asked : Option Order) (c : Close) (s : Status) (old new : Outside) (err_old err_new : Sunk) → Does (gets_first asked) (Tells asked) c old new → Finishes c s err_old err_new → (RoseInRead old new → ⊥) → (RoseInWrite old new err_old err_new → ⊥) → AsTold asked s old new err_old err_new ⊎ (s ≡ status.Memory)
closes asked (told e) s old new err_old err_new does line no_read no_write = from does.work
  where
    from : Early (gets_first asked) (told e) old new ⊎ Late (Tells asked) (told e) old new → AsTold asked s old new err_old err_new ⊎ (s ≡ status.Memory)
    from (inl early) = not_early {P = gets_first asked ≡ true} {Q = Rose old.files.gets new.files.gets} e early.cause
    from (inr late) = late_told asked s e old new err_old err_new late line no_write
closes asked read_fault s old new err_old err_new does line no_read no_write =
    absurd (no_read (work_read {gets = gets_first asked} {Says = Tells asked} old new does))
closes asked write_fault s old new err_old err_new does line no_read no_write =
    absurd (no_write (in_write old new err_old err_new (work_write {gets = gets_first asked} {Says = Tells asked} old new does)))
closes asked memory s old new err_old err_new does line no_read no_write = inr (finishes_memory s err_old err_new line)

pub ends_complete : (asked : Option Order) (s : Status) (old new : Outside) (err_old err_new : Sunk) → Ends asked s old new err_old err_new → (RoseInRead old new → ⊥) → (RoseInWrite old new err_old err_new → ⊥) → AsTold asked s old new err_old err_new ⊎ (s ≡ status.Memory)
ends_complete asked s old new err_old err_new ends = closes asked ends.close s old new err_old err_new ends.work ends.line
