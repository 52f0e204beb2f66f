-- That a run leaves at its second name an image that does what the program does.
use Rattle.std.proofs.Common.{◌≡◌, ℕ, ◌<◌, ◌≤◌, List, [], length, take, min, Option, None, Some, IfSome, Bool, true, false, refl, sym, ap, ◌∙◌, subst, inl, inr, arith}
use Rattle.std.specs.Prelude.{◌⊎◌}
use Rattle.std.proofs.lemmas.List.{length-take}
use Rattle.std.proofs.lemmas.List.{take_all}
use Rattle.outside_io.specs.Causes.{Rose}
use Rattle.outside_io.specs.Views.{Names, Sunk}
use Rattle.outside_io.specs.Names.{cut, ChangesTold}
use Rattle.lisp_reader.specs.Answers.{greatest_length}
use Rattle.pyc_cli.specs.declared.command.Verb.{Verb}
use Rattle.pyc_cli.specs.declared.command.Verb.TheVariants as verbs
use Rattle.pyc_cli.specs.declared.moving.Wrote.{Wrote}
use Rattle.pyc_cli.specs.declared.moving.Wrote.TheVariants as wrote
use Rattle.pyc_cli.specs.declared.status.Status.{Status}
use Rattle.pyc_cli.specs.declared.status.Status.TheVariants as status
use Rattle.pyc_cli.specs.Ending.{Ending, Close, told, read_fault, write_fault, memory, status_told, status_of, refused, absent, usage}
use Rattle.pyc_cli.specs.Line.{turned, Finishes}
use Rattle.pyc_cli.specs.Making.{IsImageOf}
use Rattle.pyc_cli.specs.Order.{Order}
use Rattle.pyc_cli.specs.Told.{Told, IsSet, stops, TellsFound, TellsSource, TellsRun}
use Rattle.pyc_cli.specs.Tool.{Ends, Tells, TellsVerb, gets_first, is_after_set, WasSet, MadeOf, verb_makes, Makes}
use Rattle.pyc_cli.specs.Work.{Outside, Works, Early, Late}
use Rattle.pyc_cli.proofs.Calls.{turned_read, close_read, close_write}

-- ---- what the status says of the close

-- the close after which a set was made
data Closed (gets sets : Type 0) : Close → Type 0 where
  after_told : (e : Ending) → is_after_set (status_told e) ≡ true → Closed gets sets (told e)
  after_read : (gets → ⊥) → Closed gets sets read_fault
  after_write : (sets → ⊥) → Closed gets sets write_fault

turned_after : (w : Wrote) (s : Status) → is_after_set s ≡ false → is_after_set (turned w s) ≡ false
turned_after wrote.All s h = h
turned_after wrote.Failed status.Done h = refl
turned_after wrote.Failed s h = h
turned_after wrote.Memory status.Done h = refl
turned_after wrote.Memory s h = h

either : (b : Bool) → (b ≡ true) ⊎ (b ≡ false)
either true = inl refl
either false = inr refl

-- a put that fails turns only a status after a set
turned_done : (w : Wrote) (s : Status) → turned w s ≡ status.WriteFault → (is_after_set s ≡ true) ⊎ (s ≡ status.WriteFault)
turned_done wrote.All s h = inr h
turned_done wrote.Failed status.Done h = inl refl
turned_done wrote.Failed s h = inr h
turned_done wrote.Memory status.Done h = cc
turned_done wrote.Memory s h = inr h

-- the status of the line before it was put
closed_line : (gets sets : Type 0) (c : Close) (w : Wrote) → (is_after_set (turned w (status_of c)) ≡ true) ⊎ (((turned w (status_of c) ≡ status.ReadFault) × (gets → ⊥)) ⊎ ((turned w (status_of c) ≡ status.WriteFault) × (sets → ⊥))) → Closed gets sets c
closed_line gets sets (told e) w (inl h) = from (either (is_after_set (status_told e)))
  where
    from : (is_after_set (status_told e) ≡ true) ⊎ (is_after_set (status_told e) ≡ false) → Closed gets sets (told e)
    from (inl is) = after_told e is
    from (inr is) = let other : is_after_set (turned w (status_told e)) ≡ false = turned_after w (status_told e) is in let no_way : true ≡ false = sym h ∙ other in cc
closed_line gets sets (told e) w (inr (inl h)) = let no_way : told e ≡ read_fault = close_read (told e) (turned_read w (status_told e) h.0) in cc
closed_line gets sets (told e) w (inr (inr h)) = from (turned_done w (status_told e) h.0)
  where
    from : (is_after_set (status_told e) ≡ true) ⊎ (status_told e ≡ status.WriteFault) → Closed gets sets (told e)
    from (inl is) = after_told e is
    from (inr is) = let no_way : told e ≡ write_fault = close_write (told e) is in cc
closed_line gets sets read_fault w (inl h) = let other : is_after_set (turned w status.ReadFault) ≡ false = turned_after w status.ReadFault refl in let no_way : true ≡ false = sym h ∙ other in cc
closed_line gets sets read_fault w (inr (inl h)) = after_read h.1
closed_line gets sets read_fault w (inr (inr h)) = let no_way : (is_after_set status.ReadFault ≡ true) ⊎ (status.ReadFault ≡ status.WriteFault) = turned_done w status.ReadFault h.0 in elim no_way [ inl k ↦ cc | inr k ↦ cc ]
closed_line gets sets write_fault w (inl h) = let other : is_after_set (turned w status.WriteFault) ≡ false = turned_after w status.WriteFault refl in let no_way : true ≡ false = sym h ∙ other in cc
closed_line gets sets write_fault w (inr (inl h)) = let no_way : status.WriteFault ≡ status.ReadFault = turned_read w status.WriteFault h.0 in cc
closed_line gets sets write_fault w (inr (inr h)) = after_write h.1
closed_line gets sets memory w (inl h) = let other : is_after_set (turned w status.Memory) ≡ false = turned_after w status.Memory refl in let no_way : true ≡ false = sym h ∙ other in cc
closed_line gets sets memory w (inr (inl h)) = let no_way : status.Memory ≡ status.ReadFault = turned_read w status.Memory h.0 in cc
closed_line gets sets memory w (inr (inr h)) = let no_way : (is_after_set status.Memory ≡ true) ⊎ (status.Memory ≡ status.WriteFault) = turned_done w status.Memory h.0 in elim no_way [ inl k ↦ cc | inr k ↦ cc ]

abbrev Asks : Type 0 → Type 0 → Status → Type 0
Asks gets sets s = (is_after_set s ≡ true) ⊎ (((s ≡ status.ReadFault) × (gets → ⊥)) ⊎ ((s ≡ status.WriteFault) × (sets → ⊥)))

closed : (gets sets : Type 0) (c : Close) (s : Status) (old new : Sunk) → Finishes c s old new → Asks gets sets s → Closed gets sets c
closed gets sets c s old new (inl line) asks =
    let For : Status → Type 0 = λ x. Asks gets sets x in
    closed_line gets sets c line.wrote (subst For line.status asks)
closed gets sets c s old new (inr line) asks =
    let For : Status → Type 0 = λ x. Asks gets sets x in
    never (closed_line gets sets memory line.1.wrote (subst For line.1.status asks))
  where
    never : Closed gets sets memory → Closed gets sets c
    never k = elim k [ ]

-- ---- what is told of a run

-- nothing was set
record NotSet (t : Told) : Type 0 where
  ends : is_after_set (status_told t.ending) ≡ false
  takes : t.takes ≡ false
  out : t.out ≡ []

-- an image of the source was set
record SetImage (order : Order) (source : Option (List ℕ)) (t : Told) : Type 0 where
  text : List ℕ
  image : List ℕ
  source_is : source ≡ Some text
  is_image : IsImageOf text image
  set : t.set ≡ Some (order.second, image)

not_set : (e : Ending) (input : List ℕ) (t : Told) → is_after_set (status_told e) ≡ false → t ≡ stops e input → NotSet t
not_set e input t other is = record {
  ends = ap (λ (u : Told). is_after_set (status_told u.ending)) is ∙ other;
  takes = ap (λ (u : Told). u.takes) is;
  out = ap (λ (u : Told). u.out) is;
}

set_or_not : (order : Order) (names : Option Names) (source left : Option (List ℕ)) (t : Told) → TellsFound (λ bytes u. TellsSource order bytes names left u) order.first source left t → NotSet t ⊎ SetImage order source t
set_or_not order names None left t says = inl (not_set (absent order.first) says.0 t refl says.2)
set_or_not order names (Some source) left t (inl says) = let input = says.2 in inl (not_set (refused says.0) input.0 t refl input.2)
set_or_not order names (Some source) left t (inr says) = let set = says.2 in inr (record {
  text = source;
  image = says.0;
  source_is = refl;
  is_image = says.1;
  set = ap (λ (u : Told). u.set) set.is;
})

-- after which something was set
was_set : (gets sets : Type 0) (c : Close) (t : Told) (old new : Outside) → Closed (Rose old.files.gets new.files.gets) (Rose old.files.sets new.files.sets) c → Works t c old new → NotSet t → ⊥
was_set gets sets (told e) t old new (after_told _ h) w n =
    let after : is_after_set (status_told t.ending) ≡ true = ap (λ (x : Ending). is_after_set (status_told x)) (sym w.ending) ∙ h in
    let no_way : true ≡ false = sym after ∙ n.ends in cc
was_set gets sets read_fault t old new (after_read h) w n = elim w.cause [
  | inl g ↦ h g.rose
  | inr f ↦ (let no_way : true ≡ false = sym f.takes ∙ n.takes in cc)
]
was_set gets sets write_fault t old new (after_write h) (inl w) n = h w.rose
was_set gets sets write_fault t old new (after_write h) (inr w) n =
    let none : length t.out ≡ 0 = ap (λ (l : List ℕ). length l) n.out in let some = w.some in omega arith
was_set gets sets memory t old new k w n = elim k [ ]

-- what was set is held
held_set : (c : Close) (t : Told) (old new : Outside) (gets sets : Type 0) → Closed gets (Rose old.files.sets new.files.sets) c → Works t c old new → IsSet t.set old.files.names new.files.names
held_set (told e) t old new gets sets k w = w.files
held_set read_fault t old new gets sets k w = w.files
held_set write_fault t old new gets sets (after_write h) (inl w) = absurd (h w.rose)
held_set write_fault t old new gets sets k (inr w) = w.files
held_set memory t old new gets sets k w = w.files

-- a short front is the whole
whole_front : (xs ys : List ℕ) (n : ℕ) → take n xs ≡ ys → length ys < n → xs ≡ ys
whole_front xs ys n is short =
    let cut_length : length (take n xs) ≡ min n (length xs) = length-take n xs in
    let same : length (take n xs) ≡ length ys = ap length is in
    let fits : length xs ≤ n = omega arith in
    sym (take_all n xs fits) ∙ is

source_held : (held : Option (List ℕ)) (source : List ℕ) (n : ℕ) → cut n held ≡ Some source → length source < n → held ≡ Some source
source_held None source n is short = cc
source_held (Some xs) source n is short =
    let front : take n xs ≡ source = cc in
    ap Some (whole_front xs source n front short)

made_of : (order : Order) (image text : List ℕ) (old new : Option Names) → IfSome old (λ n. cut 1048577 (n order.first) ≡ Some text) → IsImageOf text image → ChangesTold old new order.second (λ held. held ≡ Some image) → MadeOf order.first order.second old new
unfolding greatest_length
made_of order image text None new had is set = tt
made_of order image text (Some old) None had is set = absurd set
made_of order image text (Some old) (Some new) had is set =
    let few : length text ≤ 1048576 = is.is_program.reads.short in
    record {
      source = text;
      image = image;
      held_is = source_held (old order.first) text 1048577 had (omega arith);
      set_is = set.there;
      is_image = is;
    }

late_makes : (order : Order) (c : Close) (old new : Outside) → Closed (Rose old.files.gets new.files.gets) (Rose old.files.sets new.files.sets) c → Late (λ names left t. TellsRun order names left t) c old new → MadeOf order.first order.second old.files.names new.files.names
late_makes order c old new k l = from (set_or_not order old.files.names l.tells.held old.input.left l.told l.tells.next)
  where
    from : NotSet l.told ⊎ SetImage order l.tells.held l.told → MadeOf order.first order.second old.files.names new.files.names
    from (inl n) = absurd (was_set (Rose old.files.gets new.files.gets) (Rose old.files.sets new.files.sets) c l.told old new k l.works n)
    from (inr s) =
        let Had : Option (List ℕ) → Type 0 = λ x. IfSome old.files.names (λ n. cut 1048577 (n order.first) ≡ x) in
        let Held : Option (List ℕ × List ℕ) → Type 0 = λ x. IsSet x old.files.names new.files.names in
        made_of order s.image s.text old.files.names new.files.names (subst Had s.source_is l.tells.held_is) s.is_image (subst Held s.set (held_set c l.told old new (Rose old.files.gets new.files.gets) (Rose old.files.sets new.files.sets) k l.works))

-- before a set the call doesn't end so
not_early : (gets : Bool) (c : Close) (old new : Outside) → Closed (Rose old.files.gets new.files.gets) (Rose old.files.sets new.files.sets) c → Early gets c old new → ⊥
not_early gets (told e) old new (after_told _ h) early = elim early.cause [ inl k ↦ (let no_way : told e ≡ read_fault = k.1 in cc) | inr k ↦ cc ]
not_early gets read_fault old new (after_read h) early = elim early.cause [ inl k ↦ h k.2 | inr k ↦ cc ]
not_early gets write_fault old new (after_write h) early = elim early.cause [ inl k ↦ (let no_way : write_fault ≡ read_fault = k.1 in cc) | inr k ↦ cc ]
not_early gets memory old new k early = elim k [ ]

usage_never : (c : Close) (t : Told) (input : List ℕ) (old new : Outside) → t ≡ stops usage input → Closed (Rose old.files.gets new.files.gets) (Rose old.files.sets new.files.sets) c → Works t c old new → ⊥
usage_never c t input old new is k w = was_set (Rose old.files.gets new.files.gets) (Rose old.files.sets new.files.sets) c t old new k w (not_set usage input t refl is)

by_verb : (v : Verb) (order : Order) (c : Close) (old new : Outside) → Closed (Rose old.files.gets new.files.gets) (Rose old.files.sets new.files.sets) c → Late (λ names left t. TellsVerb v order names left t) c old new → verb_makes v order old.files.names new.files.names
by_verb verbs.Exec order c old new k l = tt
by_verb verbs.Run order c old new k l = late_makes order c old new k l
by_verb verbs.Expand order c old new k l = tt
by_verb verbs.Disasm order c old new k l = tt

by_order : (asked : Option Order) (c : Close) (old new : Outside) → Closed (Rose old.files.gets new.files.gets) (Rose old.files.sets new.files.sets) c → Early (gets_first asked) c old new ⊎ Late (Tells asked) c old new → Makes asked old.files.names new.files.names
by_order asked c old new k (inl e) = absurd (not_early (gets_first asked) c old new k e)
by_order None c old new k (inr l) = let says = l.tells in usage_never c l.told says.0 old new says.2 k l.works
by_order (Some order) c old new k (inr l) = by_verb order.verb order c old new k l

pub ends_makes : (asked : Option Order) (s : Status) (old new : Outside) (err_old err_new : Sunk) → Ends asked s old new err_old err_new → WasSet s old new → Makes asked old.files.names new.files.names
ends_makes asked s old new err_old err_new ends was =
    by_order asked ends.close old new (closed (Rose old.files.gets new.files.gets) (Rose old.files.sets new.files.sets) ends.close s err_old err_new ends.line was) ends.work.work
