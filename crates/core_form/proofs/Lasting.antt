-- Effects: no counter falls, no output is taken back, no fuel is taken, and an exit goes to an entry in force.
use Rattle.std.proofs.Common.{◌≡◌, refl, ap, sym, ◌∙◌, ℕ, ◌+◌, max, Bool, true, false, if◌then◌else◌, List, [], ◌∷◌, ◌++◌, append_assoc, arith, None}
use Rattle.core_form.specs.State.{Fault, Counts, State, Exit}
use Rattle.core_form.specs.Effect.{Ended, Gave, Left, Failed, Effect, and_then, ◌>>=◌, ◌>>◌, pure, change, read, leave, fail, counting, spend, allot, boxes_more, deliver_more, look_at, walk_over, stack_at, hold, begin, box_all, add, put, bind_to, new_entry, write}
use Rattle.lisp_base.specs.declared.values.Val.{Val}
use Rattle.lisp_base.specs.declared.values.Place.{Place}
use Rattle.core_form.specs.State.{Object}
use Rattle.core_form.specs.Growth.{CountsGrow, Grows, Shown}

pub counts_same : (c : Counts) → CountsGrow c c
counts_same c = record {
  cost = omega arith;
  heap_words = omega arith;
  boxes = omega arith;
  boxes_outside_words = omega arith;
  stack_words = omega arith;
  held = omega arith;
  begun = omega arith;
  extra = omega arith;
  looked = omega arith;
  walked = omega arith;
}

pub counts_on : {a b c : Counts} → CountsGrow a b → CountsGrow b c → CountsGrow a c
counts_on g h = record {
  cost = omega (arith, g.cost, h.cost);
  heap_words = omega (arith, g.heap_words, h.heap_words);
  boxes = omega (arith, g.boxes, h.boxes);
  boxes_outside_words = omega (arith, g.boxes_outside_words, h.boxes_outside_words);
  stack_words = omega (arith, g.stack_words, h.stack_words);
  held = omega (arith, g.held, h.held);
  begun = omega (arith, g.begun, h.begun);
  extra = omega (arith, g.extra, h.extra);
  looked = omega (arith, g.looked, h.looked);
  walked = omega (arith, g.walked, h.walked);
}

pub grows_same : (s : State) → Grows s s
grows_same s = record { output = ([], refl); counts = counts_same s.counts; taken = omega arith }

pub written_on : {A : Type 0} {a b c : List A} → (w : List A) × (b ≡ w ++ a) → (w : List A) × (c ≡ w ++ b) → (w : List A) × (c ≡ w ++ a)
written_on {a = a} p q = (q.0 ++ p.0, q.1 ∙ ap (λ l. q.0 ++ l) p.1 ∙ sym (append_assoc q.0 p.0 a))

pub grows_on : {a b c : State} → Grows a b → Grows b c → Grows a c
grows_on g h = record {
  output = written_on g.output h.output;
  counts = counts_on g.counts h.counts;
  taken = omega (arith, g.taken, h.taken);
}

pub shown_same : (s : State) → Shown s s
shown_same s = record { output = ([], refl); counts = counts_same s.counts }

pub shown_on : {a b c : State} → Shown a b → Grows b c → Shown a c
shown_on g h = record { output = written_on g.output h.output; counts = counts_on g.counts h.counts }

-- ---- effects

abbrev pub after : {A : Type 0} → Ended A → State
after (Gave a s) = s
after (Left e s) = s
after (Failed x p s) = s

-- an exit goes to one of these entries
abbrev pub Goes : {A : Type 0} → (ℕ → Bool) → Ended A → Type 0
Goes inn (Gave a s) = Unit {0}
Goes inn (Left e s) = inn e.entry ≡ true
Goes inn (Failed x p s) = Unit {0}

-- no exit is a jump to a tag
abbrev pub IsApart : {A : Type 0} → Ended A → Type 0
IsApart (Gave a s) = Unit {0}
IsApart (Left e s) = e.tag ≡ None
IsApart (Failed x p s) = Unit {0}

-- an effect that takes no fuel; its exit may be a jump
pub record Leads {A : Type 0} (inn : ℕ → Bool) (m : Effect A) : Type 0 where
  pub grows : (s : State) → Grows s (after (m s))
  pub goes : (s : State) → Goes inn (m s)
  pub quiet : (s : State) → (after (m s)).taken ≡ s.taken

pub record Lasts {A : Type 0} (inn : ℕ → Bool) (m : Effect A) : Type 0 where
  pub leads : Leads inn m
  pub apart : (s : State) → IsApart (m s)

pub then_grows : {A B : Type 0} → (g : A → Effect B) → ((a : A) (t : State) → Grows t (after (g a t))) → (o : Ended A) → Grows (after o) (after (and_then o g))
then_grows g h (Gave a t) = h a t
then_grows g h (Left e t) = grows_same t
then_grows g h (Failed x p t) = grows_same t

pub then_goes : {A B : Type 0} (inn : ℕ → Bool) → (g : A → Effect B) → ((a : A) (t : State) → Goes inn (g a t)) → (o : Ended A) → Goes inn o → Goes inn (and_then o g)
then_goes inn g h (Gave a t) i = h a t
then_goes inn g h (Left e t) i = i
then_goes inn g h (Failed x p t) i = tt

pub then_quiet : {A B : Type 0} → (g : A → Effect B) → ((a : A) (t : State) → (after (g a t)).taken ≡ t.taken) → (o : Ended A) → (after (and_then o g)).taken ≡ (after o).taken
then_quiet g h (Gave a t) = h a t
then_quiet g h (Left e t) = refl
then_quiet g h (Failed x p t) = refl

pub then_apart : {A B : Type 0} → (g : A → Effect B) → ((a : A) (t : State) → IsApart (g a t)) → (o : Ended A) → IsApart o → IsApart (and_then o g)
then_apart g h (Gave a t) i = h a t
then_apart g h (Left e t) i = i
then_apart g h (Failed x p t) i = tt

pub bind_leads : {A B : Type 0} {inn : ℕ → Bool} {m : Effect A} {g : A → Effect B} → Leads inn m → ((a : A) → Leads inn (g a)) → Leads inn (m >>= g)
unfolding ◌>>=◌
bind_leads {inn = inn} {m = m} {g = g} h i = record {
  grows = λ s. grows_on (h.grows s) (then_grows g (λ a. (i a).grows) (m s));
  goes = λ s. then_goes inn g (λ a. (i a).goes) (m s) (h.goes s);
  quiet = λ s. then_quiet g (λ a. (i a).quiet) (m s) ∙ h.quiet s;
}

pub then_leads : {A B : Type 0} {inn : ℕ → Bool} {m : Effect A} {g : Effect B} → Leads inn m → Leads inn g → Leads inn (m >> g)
then_leads h i = bind_leads h (λ a. i)

pub bind_apart : {A B : Type 0} {inn : ℕ → Bool} {m : Effect A} {g : A → Effect B} → Lasts inn m → ((a : A) → Lasts inn (g a)) → (s : State) → IsApart ((m >>= g) s)
unfolding ◌>>=◌
bind_apart {m = m} {g = g} h i s = then_apart g (λ a. (i a).apart) (m s) (h.apart s)

pub bind_lasts : {A B : Type 0} {inn : ℕ → Bool} {m : Effect A} {g : A → Effect B} → Lasts inn m → ((a : A) → Lasts inn (g a)) → Lasts inn (m >>= g)
bind_lasts h i = record { leads = bind_leads h.leads (λ a. (i a).leads); apart = bind_apart h i }

pub then_lasts : {A B : Type 0} {inn : ℕ → Bool} {m : Effect A} {g : Effect B} → Lasts inn m → Lasts inn g → Lasts inn (m >> g)
then_lasts h i = bind_lasts h (λ a. i)

-- ---- the small parts

pub pure_lasts : {A : Type 0} {inn : ℕ → Bool} → (a : A) → Lasts inn (pure a)
unfolding pure
pure_lasts a = record { leads = record { grows = λ s. grows_same s; goes = λ s. tt; quiet = λ s. refl }; apart = λ s. tt }

pub read_lasts : {A : Type 0} {inn : ℕ → Bool} → (f : State → A) → Lasts inn (read f)
unfolding read
read_lasts f = record { leads = record { grows = λ s. grows_same s; goes = λ s. tt; quiet = λ s. refl }; apart = λ s. tt }

pub fail_lasts : {A : Type 0} {inn : ℕ → Bool} → (x : Fault) (p : Place) → Lasts inn (fail {A = A} x p)
unfolding fail
fail_lasts x p = record { leads = record { grows = λ s. grows_same s; goes = λ s. tt; quiet = λ s. refl }; apart = λ s. tt }

pub leave_leads : {A : Type 0} {inn : ℕ → Bool} → (e : Exit) → inn e.entry ≡ true → Leads inn (leave {A = A} e)
unfolding leave
leave_leads e h = record { grows = λ s. grows_same s; goes = λ s. h; quiet = λ s. refl }

pub leave_apart : (A : Type 0) (e : Exit) → e.tag ≡ None → (s : State) → IsApart (leave {A = A} e s)
unfolding leave
leave_apart A e h s = h

pub leave_lasts : {A : Type 0} {inn : ℕ → Bool} → (e : Exit) → e.tag ≡ None → inn e.entry ≡ true → Lasts inn (leave {A = A} e)
leave_lasts {A = A} e apart h = record { leads = leave_leads e h; apart = leave_apart A e apart }

pub change_lasts : {inn : ℕ → Bool} → (f : State → State) → ((s : State) → Grows s (f s)) → ((s : State) → (f s).taken ≡ s.taken) → Lasts inn (change f)
unfolding change
change_lasts f g q = record { leads = record { grows = g; goes = λ s. tt; quiet = q }; apart = λ s. tt }

-- a change that neither writes nor counts
abbrev pub Quiet : (State → State) → Type 0
Quiet f = (s : State) → ((f s).output ≡ s.output) × ((f s).counts ≡ s.counts) × ((f s).taken ≡ s.taken)

pub quiet_grows : (s t : State) → t.output ≡ s.output → t.counts ≡ s.counts → t.taken ≡ s.taken → Grows s t
quiet_grows s t o c n = record {
  output = ([], o);
  counts = record {
    cost = (let e = ap (λ (x : Counts). x.cost) c in omega (arith, e));
    heap_words = (let e = ap (λ (x : Counts). x.heap_words) c in omega (arith, e));
    boxes = (let e = ap (λ (x : Counts). x.boxes) c in omega (arith, e));
    boxes_outside_words = (let e = ap (λ (x : Counts). x.boxes_outside_words) c in omega (arith, e));
    stack_words = (let e = ap (λ (x : Counts). x.stack_words) c in omega (arith, e));
    held = (let e = ap (λ (x : Counts). x.held) c in omega (arith, e));
    begun = (let e = ap (λ (x : Counts). x.begun) c in omega (arith, e));
    extra = (let e = ap (λ (x : Counts). x.extra) c in omega (arith, e));
    looked = (let e = ap (λ (x : Counts). x.looked) c in omega (arith, e));
    walked = (let e = ap (λ (x : Counts). x.walked) c in omega (arith, e));
  };
  taken = omega (arith, n);
}

pub quiet_lasts : {inn : ℕ → Bool} → (f : State → State) → Quiet f → Lasts inn (change f)
quiet_lasts f q = change_lasts f (λ s. quiet_grows s (f s) (q s).0 (q s).1 (q s).2) (λ s. (q s).2)

pub counting_lasts : {inn : ℕ → Bool} → (f : Counts → Counts) → ((c : Counts) → CountsGrow c (f c)) → Lasts inn (counting f)
unfolding counting
counting_lasts f g = change_lasts (λ s. record s { counts = f s.counts }) (λ s. record { output = ([], refl); counts = g s.counts; taken = omega arith }) (λ s. refl)

pub spend_lasts : {inn : ℕ → Bool} → (n : ℕ) → Lasts inn (spend n)
unfolding spend
spend_lasts n = counting_lasts (λ c. record c { cost = c.cost + n }) (λ c. record { cost = omega arith; heap_words = omega arith; boxes = omega arith; boxes_outside_words = omega arith; stack_words = omega arith; held = omega arith; begun = omega arith; extra = omega arith; looked = omega arith; walked = omega arith })

pub allot_lasts : {inn : ℕ → Bool} → (n : ℕ) → Lasts inn (allot n)
unfolding allot
allot_lasts n = counting_lasts (λ c. record c { cost = c.cost + n; heap_words = c.heap_words + n }) (λ c. record { cost = omega arith; heap_words = omega arith; boxes = omega arith; boxes_outside_words = omega arith; stack_words = omega arith; held = omega arith; begun = omega arith; extra = omega arith; looked = omega arith; walked = omega arith })

pub boxes_lasts : {inn : ℕ → Bool} → (a b : ℕ) → Lasts inn (boxes_more a b)
unfolding boxes_more
boxes_lasts a b = counting_lasts (λ c. record c { boxes = c.boxes + a; boxes_outside_words = c.boxes_outside_words + b }) (λ c. record { cost = omega arith; heap_words = omega arith; boxes = omega arith; boxes_outside_words = omega arith; stack_words = omega arith; held = omega arith; begun = omega arith; extra = omega arith; looked = omega arith; walked = omega arith })

pub deliver_more_lasts : {inn : ℕ → Bool} → (n : ℕ) → Lasts inn (deliver_more n)
unfolding deliver_more
deliver_more_lasts n = counting_lasts (λ c. record c { extra = c.extra + n }) (λ c. record { cost = omega arith; heap_words = omega arith; boxes = omega arith; boxes_outside_words = omega arith; stack_words = omega arith; held = omega arith; begun = omega arith; extra = omega arith; looked = omega arith; walked = omega arith })

pub look_lasts : {inn : ℕ → Bool} → (n : ℕ) → Lasts inn (look_at n)
unfolding look_at
look_lasts n = counting_lasts (λ c. record c { looked = c.looked + n }) (λ c. record { cost = omega arith; heap_words = omega arith; boxes = omega arith; boxes_outside_words = omega arith; stack_words = omega arith; held = omega arith; begun = omega arith; extra = omega arith; looked = omega arith; walked = omega arith })

pub walk_lasts : {inn : ℕ → Bool} → (n : ℕ) → Lasts inn (walk_over n)
unfolding walk_over
walk_lasts n = counting_lasts (λ c. record c { walked = c.walked + n }) (λ c. record { cost = omega arith; heap_words = omega arith; boxes = omega arith; boxes_outside_words = omega arith; stack_words = omega arith; held = omega arith; begun = omega arith; extra = omega arith; looked = omega arith; walked = omega arith })

pub stack_lasts : {inn : ℕ → Bool} → (n : ℕ) → Lasts inn (stack_at n)
unfolding stack_at
stack_lasts n = counting_lasts (λ c. record c { stack_words = max c.stack_words n }) (λ c. record { cost = omega arith; heap_words = omega arith; boxes = omega arith; boxes_outside_words = omega arith; stack_words = omega arith; held = omega arith; begun = omega arith; extra = omega arith; looked = omega arith; walked = omega arith })

pub hold_lasts : {inn : ℕ → Bool} → (n : ℕ) → Lasts inn (hold n)
unfolding hold
hold_lasts n = counting_lasts (λ c. record c { held = max c.held n }) (λ c. record { cost = omega arith; heap_words = omega arith; boxes = omega arith; boxes_outside_words = omega arith; stack_words = omega arith; held = omega arith; begun = omega arith; extra = omega arith; looked = omega arith; walked = omega arith })

pub begin_lasts : {inn : ℕ → Bool} → (n : ℕ) → Lasts inn (begin n)
unfolding begin
begin_lasts n = counting_lasts (λ c. record c { begun = c.begun + n }) (λ c. record { cost = omega arith; heap_words = omega arith; boxes = omega arith; boxes_outside_words = omega arith; stack_words = omega arith; held = omega arith; begun = omega arith; extra = omega arith; looked = omega arith; walked = omega arith })

pub box_lasts : {inn : ℕ → Bool} → (vs : List Val) → Lasts inn (box_all vs)
unfolding box_all
box_lasts vs = allot_lasts _

pub add_lasts : {inn : ℕ → Bool} → (o : Object) → Lasts inn (add o)
unfolding add
add_lasts o = record { leads = record { grows = λ s. quiet_grows s _ refl refl refl; goes = λ s. tt; quiet = λ s. refl }; apart = λ s. tt }

pub put_lasts : {inn : ℕ → Bool} → (a : ℕ) (o : Object) → Lasts inn (put a o)
unfolding put
put_lasts a o = quiet_lasts _ (λ s. (refl, refl, refl))

pub bind_to_lasts : {inn : ℕ → Bool} → (x : ℕ) (v : Val) → Lasts inn (bind_to x v)
unfolding bind_to
bind_to_lasts x v = quiet_lasts _ (λ s. (refl, refl, refl))

pub entry_lasts : {inn : ℕ → Bool} → Lasts inn new_entry
unfolding new_entry
entry_lasts = record { leads = record { grows = λ s. quiet_grows s _ refl refl refl; goes = λ s. tt; quiet = λ s. refl }; apart = λ s. tt }

pub write_lasts : {inn : ℕ → Bool} → (c : ℕ) → Lasts inn (write c)
unfolding write
write_lasts c = change_lasts (λ s. record s { output = c ∷ s.output }) (λ s. record { output = (c ∷ [], refl); counts = counts_same s.counts; taken = omega arith }) (λ s. refl)

pub either_lasts : {A : Type 0} {inn : ℕ → Bool} {m k : Effect A} → (b : Bool) → Lasts inn m → Lasts inn k → Lasts inn (if b then m else k)
either_lasts true h i = h
either_lasts false h i = i
