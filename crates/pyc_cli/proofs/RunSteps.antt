-- A run of an image, by the runs of the machine between what it writes.
use Rattle.std.proofs.Common.{◌≡◌, ◌≢◌, ℕ, zero, suc, ◌+◌, ◌-◌, ◌<◌, ◌≤◌, List, [], ◌∷◌, ◌++◌, length, Option, None, Some, refl, sym, ap, ◌∙◌, subst, arith, append_assoc}
use Rattle.std.specs.Prelude.{encode_utf8}
use Rattle.std.specs.Str.{encode_utf8_all}
use Rattle.std.proofs.lemmas.Str.{encodes-append}
use Rattle.std.proofs.lemmas.List.{length-append}
use Rattle.image.specs.Content.{Content}
use Rattle.rv_isa.specs.declared.ending.Ending.{Ending}
use Rattle.rv_isa.specs.declared.ending.Ending.TheVariants as ending
use Rattle.rv_isa.specs.Machine.{Space, State, steps}
use Rattle.rv_isa.specs.Start.{Setup, setup_space, first_state, machine}
use Rattle.rv_machine.specs.declared.events.Event.{Event}
use Rattle.rv_machine.specs.declared.events.Event.TheVariants as event
use Rattle.rv_machine.specs.declared.events.Stop.{Stop}
use Rattle.rv_machine.specs.declared.machine.Machine.{Machine}
use Rattle.rv_machine.specs.Loads.{IsLoaded}
use Rattle.rv_machine.specs.Runs.{IsRun}
use Rattle.rv_machine.specs.Steps.{written, Tells, event_of}
use Rattle.rv_machine.specs.View.{space, state}
use Rattle.outside_io.specs.Views.{Sunk, gained}
use Rattle.pyc_cli.specs.declared.moving.Wrote.{Wrote}
use Rattle.pyc_cli.specs.declared.moving.Wrote.TheVariants as wrote
use Rattle.pyc_cli.specs.Ending.{Close, told, read_fault, write_fault, memory}
use Rattle.pyc_cli.specs.Moved.{PutsAll, GainsFront}
use Rattle.pyc_cli.specs.Order.{Limits}
use Rattle.pyc_cli.specs.Running.{setup, last_state, ending_at, shown, end_of}
use Rattle.pyc_cli.specs.Stages.{IsToldBy, event_told}
use Rattle.pyc_cli.specs.Told.{told_run}
use Rattle.pyc_cli.specs.Work.{Writes}
use Rattle.pyc_cli.proofs.Growth.{append_none, steps_grow, steps_add, steps_stay}
use Rattle.pyc_cli.proofs.Pieces.{gained_none, gained_twice}

-- a run under way: what it has written so far, and how many steps it has made
pub record Begun (limits : Limits) (image : Content) (input : List ℕ) (m : Machine) (left : ℕ) (old new : Sunk) : Type 0 where
  pub output : List ℕ
  pub done : ℕ
  pub counted : done + left ≡ limits.steps
  pub made : state output input m ≡ machine (setup limits image) input done
  pub around : space m ≡ setup_space (setup limits image)
  pub on : m.ending ≡ None
  pub held : new.held ≡ gained old.held (encode_utf8_all output)
  pub faults : old.faults ≤ new.faults

pub begins : (limits : Limits) (image : Content) (input : List ℕ) (m : Machine) (out : Sunk) → IsLoaded (setup limits image) m → Begun limits image input m limits.steps out out
begins limits image input m out loaded = record {
  output = [];
  done = 0;
  counted = omega arith;
  made = loaded.first input;
  around = loaded.stays;
  on = ap (λ (s : State). s.ending) (loaded.first input);
  held = gained_none out.held;
  faults = omega arith;
}

-- after one more run of the machine
made_more : (limits : Limits) (image : Content) (input : List ℕ) (m m' : Machine) (left : ℕ) (stop : Stop) (old new : Sunk) → (b : Begun limits image input m left old new) → IsRun input m left stop m' → state (b.output ++ written stop.event) input m' ≡ machine (setup limits image) input (stop.steps + b.done)
made_more limits image input m m' left stop old new b run =
    let u : Setup = setup limits image in
    run.made b.output
    ∙ ap (λ (s : Space). steps s stop.steps (state b.output input m)) b.around
    ∙ ap (λ (s : State). steps (setup_space u) stop.steps s) b.made
    ∙ sym (steps_add (setup_space u) stop.steps b.done (first_state u input))

-- an event that tells no ending leaves none
none_told : (c : ℕ) (e : Option Ending) → Tells (event.Wrote c) e → e ≡ None
none_told c None t = refl
none_told c (Some (ending.Value v)) t = cc
none_told c (Some (ending.Error kind a b d pc)) t = cc
none_told c (Some ending.Heap) t = cc
none_told c (Some ending.Stack) t = cc
none_told c (Some (ending.Trap pc)) t = cc

-- something was written only in a step
some_left : (input : List ℕ) (m m' : Machine) (left : ℕ) (stop : Stop) (c : ℕ) → IsRun input m left stop m' → stop.event ≡ event.Wrote c → 0 < left
some_left input m m' zero stop c run is = let went : event.Wrote c ≡ event.Went = sym is ∙ run.none refl in cc
some_left input m m' (suc left) stop c run is = omega arith

encoded_more : (output : List ℕ) (c : ℕ) → encode_utf8_all output ++ encode_utf8 c ≡ encode_utf8_all (output ++ c ∷ [])
encoded_more output c =
    sym (encodes-append output (c ∷ []) ∙ ap (λ (l : List ℕ). encode_utf8_all output ++ l) (sym (append_none (encode_utf8 c))))

-- what was put of a whole character
whole_put : (old new : Option (List ℕ)) (front rest piece : List ℕ) → piece ≡ front ++ rest → rest ≡ [] → new ≡ gained old front → new ≡ gained old piece
whole_put old new front rest piece is none held =
    held ∙ ap (λ (l : List ℕ). gained old l) (append_none front ∙ ap (λ (l : List ℕ). front ++ l) (sym none) ∙ sym is)

-- a character was written, and put
pub goes_on : (limits : Limits) (image : Content) (input : List ℕ) (m m' : Machine) (left left' : ℕ) (stop : Stop) (c : ℕ) (old mid new : Sunk) → Begun limits image input m left old mid → IsRun input m left stop m' → stop.event ≡ event.Wrote c → left' ≡ left - stop.steps → PutsAll mid new wrote.All (encode_utf8 c) → Begun limits image input m' left' old new
goes_on limits image input m m' left left' stop c old mid new b run is rest puts =
    let Says : Event → Type 0 = λ e. Tells e m'.ending in
    let Writes' : Event → Type 0 = λ e. state (b.output ++ written e) input m' ≡ machine (setup limits image) input (stop.steps + b.done) in
    record {
      output = b.output ++ c ∷ [];
      done = stop.steps + b.done;
      counted = let most = run.most in let so_far = b.counted in omega arith;
      made = subst Writes' is (made_more limits image input m m' left stop old mid b run);
      around = run.stays ∙ b.around;
      on = none_told c m'.ending (subst Says is (run.told (some_left input m m' left stop c run is)));
      held =
          whole_put mid.held new.held puts.front puts.rest (encode_utf8 c) puts.piece_is (puts.whole refl) puts.held
          ∙ ap (λ (h : Option (List ℕ)). gained h (encode_utf8 c)) b.held
          ∙ gained_twice old.held (encode_utf8_all b.output) (encode_utf8 c)
          ∙ ap (λ (l : List ℕ). gained old.held l) (encoded_more b.output c);
      faults = let a = b.faults in let z = puts.cause.later in omega arith;
    }

-- the last state, from one after fewer steps
last_from : (limits : Limits) (image : Content) (input : List ℕ) (rest done : ℕ) → rest + done ≡ limits.steps → last_state limits image input ≡ steps (setup_space (setup limits image)) rest (machine (setup limits image) input done)
last_from limits image input rest done is =
    ap (λ (n : ℕ). machine (setup limits image) input n) (sym is)
    ∙ steps_add (setup_space (setup limits image)) rest done (first_state (setup limits image) input)

-- ---- a put that doesn't take a whole character

-- what the run writes in all, from what it had written before a character
shown_from : (limits : Limits) (image : Content) (input output : List ℕ) (c rest done : ℕ) (m' : Machine) → rest + done ≡ limits.steps → state (output ++ c ∷ []) input m' ≡ machine (setup limits image) input done → (more : List ℕ) × (shown limits image input ≡ (encode_utf8_all output ++ encode_utf8 c) ++ more)
unfolding shown
shown_from limits image input output c rest done m' is made =
    let grown = steps_grow (setup_space (setup limits image)) rest (machine (setup limits image) input done) in
    let written_all : (last_state limits image input).output ≡ (output ++ c ∷ []) ++ grown.more =
    ap (λ (s : State). s.output) (last_from limits image input rest done is) ∙ grown.is ∙ ap (λ (s : State). s.output ++ grown.more) (sym made) in (
      encode_utf8_all grown.more,
      ap encode_utf8_all written_all
          ∙ encodes-append (output ++ c ∷ []) grown.more
          ∙ ap (λ (l : List ℕ). l ++ encode_utf8_all grown.more) (sym (encoded_more output c)),
    )

regrouped : (a b front rest more : List ℕ) → b ≡ front ++ rest → (a ++ b) ++ more ≡ (a ++ front) ++ (rest ++ more)
regrouped a b front rest more is =
    ap (λ (l : List ℕ). (a ++ l) ++ more) is ∙ simp append_assoc

pub put_short : (limits : Limits) (image : Content) (input : List ℕ) (m m' : Machine) (left : ℕ) (stop : Stop) (c : ℕ) (w : Wrote) (old mid new : Sunk) → Begun limits image input m left old mid → IsRun input m left stop m' → stop.event ≡ event.Wrote c → PutsAll mid new w (encode_utf8 c) → GainsFront old.held new.held (shown limits image input) × (0 < length (encode_utf8 c) → 0 < length (shown limits image input))
put_short limits image input m m' left stop c w old mid new b run is puts =
    let OfEvent : Event → Type 0 = λ e. state (b.output ++ written e) input m' ≡ machine (setup limits image) input (stop.steps + b.done) in
    let made = subst OfEvent is (made_more limits image input m m' left stop old mid b run) in
    let counted : (left - stop.steps) + (stop.steps + b.done) ≡ limits.steps = let most = run.most in let so_far = b.counted in omega arith in
    let all = shown_from limits image input b.output c (left - stop.steps) (stop.steps + b.done) m' counted made in (
      record {
        front = encode_utf8_all b.output ++ puts.front;
        rest = puts.rest ++ all.0;
        text_is = all.1 ∙ regrouped (encode_utf8_all b.output) (encode_utf8 c) puts.front puts.rest all.0 puts.piece_is;
        held = puts.held ∙ ap (λ (h : Option (List ℕ)). gained h puts.front) b.held ∙ gained_twice old.held (encode_utf8_all b.output) puts.front;
      },
      λ some. some_shown (encode_utf8_all b.output) (encode_utf8 c) all.0 (shown limits image input) all.1 some,
    )
  where
    some_shown : (a b more whole : List ℕ) → whole ≡ (a ++ b) ++ more → 0 < length b → 0 < length whole
    some_shown a b more whole is some =
        let outer : length ((a ++ b) ++ more) ≡ length (a ++ b) + length more = length-append (a ++ b) more in
        let inner : length (a ++ b) ≡ length a + length b = length-append a b in
        let same : length whole ≡ length ((a ++ b) ++ more) = ap length is in
        omega arith

-- ---- the end of a run

-- the last state of a run is that of the machine
pub record Last (limits : Limits) (image : Content) (input : List ℕ) (m : Machine) : Type 0 where
  pub output : List ℕ
  pub is : last_state limits image input ≡ state output input m
  pub around : space m ≡ setup_space (setup limits image)

shown_last : (limits : Limits) (image : Content) (input : List ℕ) (m : Machine) → (l : Last limits image input m) → shown limits image input ≡ encode_utf8_all l.output
unfolding shown
shown_last limits image input m l = ap (λ (s : State). encode_utf8_all s.output) l.is

end_last : (limits : Limits) (image : Content) (input : List ℕ) (m : Machine) → (l : Last limits image input m) → end_of limits image input ≡ ending_at image (space m) (state l.output input m) m.ending
unfolding end_of
end_last limits image input m l =
    ap (λ (s : State). ending_at image (setup_space (setup limits image)) s s.ending) l.is
    ∙ ap (λ (p : Space). ending_at image p (state l.output input m) m.ending) (sym l.around)

-- the last event of a run that ended tells its ending
told_end : (e : Event) (o : Option Ending) → Tells e o → e ≢ event.Went → ((code : ℕ) → e ≡ event.Wrote code → ⊥) → (x : Ending) × (o ≡ Some x) × (e ≡ event_of x)
told_end e (Some x) t goes writes = (x, refl, t)
told_end event.Went None t goes writes = absurd (goes refl)
told_end (event.Wrote c) None t goes writes = absurd (writes c refl)
told_end (event.Value v) None t goes writes = absurd t
told_end (event.Error kind a b c pc) None t goes writes = absurd t
told_end event.Heap None t goes writes = absurd t
told_end event.Stack None t goes writes = absurd t
told_end (event.Trap pc) None t goes writes = absurd t

went_none : (e : Option Ending) → Tells event.Went e → e ≡ None
went_none None t = refl
went_none (Some (ending.Value v)) t = cc
went_none (Some (ending.Error kind a b d pc)) t = cc
went_none (Some ending.Heap) t = cc
went_none (Some ending.Stack) t = cc
went_none (Some (ending.Trap pc)) t = cc

not_written : (x : Ending) → written (event_of x) ≡ []
not_written (ending.Value v) = refl
not_written (ending.Error kind a b c pc) = refl
not_written ending.Heap = refl
not_written ending.Stack = refl
not_written (ending.Trap pc) = refl

same_told : (image : Content) (m : Machine) (output input : List ℕ) (x : Ending) → ending_at image (space m) (state output input m) (Some x) ≡ event_told image m (event_of x)
same_told image m output input (ending.Value v) = refl
same_told image m output input (ending.Error kind a b c pc) = refl
same_told image m output input ending.Heap = refl
same_told image m output input ending.Stack = refl
same_told image m output input (ending.Trap pc) = refl

-- how a run ends whose last event is this, and what it has written
record IsEnd (limits : Limits) (image : Content) (input : List ℕ) (m : Machine) (e : Event) (output : List ℕ) : Type 0 where
  ends : end_of limits image input ≡ event_told image m e
  shows : shown limits image input ≡ encode_utf8_all output

-- it ended
ended_so : (limits : Limits) (image : Content) (input : List ℕ) (m m' : Machine) (left : ℕ) (stop : Stop) (x : Ending) (old mid : Sunk) → (b : Begun limits image input m left old mid) → IsRun input m left stop m' → stop.event ≡ event_of x → m'.ending ≡ Some x → IsEnd limits image input m' (event_of x) b.output
ended_so limits image input m m' left stop x old mid b run is ends =
    let OfEvent : Event → Type 0 = λ e. state (b.output ++ written e) input m' ≡ machine (setup limits image) input (stop.steps + b.done) in
    let made = subst OfEvent is (made_more limits image input m m' left stop old mid b run) in
    let counted : (left - stop.steps) + (stop.steps + b.done) ≡ limits.steps = let most = run.most in let so_far = b.counted in omega arith in
    let output : List ℕ = b.output ++ written (event_of x) in
    let l : Last limits image input m' = record {
      output = output;
      is = last_from limits image input (left - stop.steps) (stop.steps + b.done) counted
          ∙ ap (λ (s : State). steps (setup_space (setup limits image)) (left - stop.steps) s) (sym made)
          ∙ steps_stay (setup_space (setup limits image)) (left - stop.steps) (state output input m') x ends;
      around = run.stays ∙ b.around;
    } in
    record {
      ends = end_last limits image input m' l
          ∙ ap (λ (o : Option Ending). ending_at image (space m') (state output input m') o) ends
          ∙ same_told image m' output input x;
      shows = shown_last limits image input m' l
          ∙ ap (λ (w : List ℕ). encode_utf8_all (b.output ++ w)) (not_written x)
          ∙ ap encode_utf8_all (sym (append_none b.output));
    }

-- its instructions passed
on_still : (limits : Limits) (image : Content) (input : List ℕ) (m m' : Machine) (left : ℕ) (stop : Stop) (old mid : Sunk) → Begun limits image input m left old mid → IsRun input m left stop m' → stop.event ≡ event.Went → m'.ending ≡ None
on_still limits image input m m' zero stop old mid b run is =
    let none : stop.steps ≡ 0 = run.all is in
    ap (λ (s : State). s.ending) (run.made []) ∙ ap (λ (n : ℕ). (steps (space m) n (state [] input m)).ending) none ∙ b.on
on_still limits image input m m' (suc left) stop old mid b run is =
    let Says : Event → Type 0 = λ e. Tells e m'.ending in
    went_none m'.ending (subst Says is (run.told (omega arith)))

passed_so : (limits : Limits) (image : Content) (input : List ℕ) (m m' : Machine) (left : ℕ) (stop : Stop) (old mid : Sunk) → (b : Begun limits image input m left old mid) → IsRun input m left stop m' → stop.event ≡ event.Went → IsEnd limits image input m' event.Went b.output
passed_so limits image input m m' left stop old mid b run is =
    let OfEvent : Event → Type 0 = λ e. state (b.output ++ written e) input m' ≡ machine (setup limits image) input (stop.steps + b.done) in
    let made = subst OfEvent is (made_more limits image input m m' left stop old mid b run) in
    let counted : stop.steps + b.done ≡ limits.steps = let all = run.all is in let so_far = b.counted in omega arith in
    let output : List ℕ = b.output ++ [] in
    let l : Last limits image input m' = record {
      output = output;
      is = ap (λ (n : ℕ). machine (setup limits image) input n) (sym counted) ∙ sym made;
      around = run.stays ∙ b.around;
    } in
    record {
      ends = end_last limits image input m' l
          ∙ ap (λ (o : Option Ending). ending_at image (space m') (state output input m') o) (on_still limits image input m m' left stop old mid b run is);
      shows = shown_last limits image input m' l ∙ ap encode_utf8_all (sym (append_none b.output));
    }

writes_end : (limits : Limits) (image : Content) (input : List ℕ) (m : Machine) (e : Event) (output : List ℕ) (c : Close) (old mid : Sunk) → IsEnd limits image input m e output → mid.held ≡ gained old.held (encode_utf8_all output) → IsToldBy c (event_told image m e) → Writes (told_run limits image input) c old mid
writes_end limits image input m e output (told x) old mid end held tells =
    (tells ∙ sym end.ends, held ∙ ap (λ (l : List ℕ). gained old.held l) (sym end.shows))
writes_end limits image input m e output read_fault old mid end held tells = absurd tells
writes_end limits image input m e output write_fault old mid end held tells = absurd tells
writes_end limits image input m e output memory old mid end held tells = record {
  front = encode_utf8_all output;
  rest = [];
  text_is = end.shows ∙ append_none (encode_utf8_all output);
  held = held;
}

never_went : (input : List ℕ) (m m' : Machine) (left : ℕ) (stop : Stop) → IsRun input m left stop m' → stop.event ≢ event.Went → 0 < left
never_went input m m' zero stop run goes = absurd (goes (run.none refl))
never_went input m m' (suc left) stop run goes = omega arith

-- a run stopped with an event that wrote nothing
stopped_otherwise : (limits : Limits) (image : Content) (input : List ℕ) (m m' : Machine) (left : ℕ) (stop : Stop) (c : Close) (old mid : Sunk) → Begun limits image input m left old mid → IsRun input m left stop m' → stop.event ≢ event.Went → ((code : ℕ) → stop.event ≡ event.Wrote code → ⊥) → IsToldBy c (event_told image m' stop.event) → Writes (told_run limits image input) c old mid
stopped_otherwise limits image input m m' left stop c old mid b run goes writes tells =
    let end = told_end stop.event m'.ending (run.told (never_went input m m' left stop run goes)) goes writes in
    let Says : Event → Type 0 = λ e. IsToldBy c (event_told image m' e) in
    writes_end limits image input m' (event_of end.0) b.output c old mid (ended_so limits image input m m' left stop end.0 old mid b run end.2 end.1) b.held (subst Says end.2 tells)

stopped_passed : (limits : Limits) (image : Content) (input : List ℕ) (m m' : Machine) (left : ℕ) (stop : Stop) (c : Close) (old mid : Sunk) → Begun limits image input m left old mid → IsRun input m left stop m' → stop.event ≡ event.Went → IsToldBy c (event_told image m' stop.event) → Writes (told_run limits image input) c old mid
stopped_passed limits image input m m' left stop c old mid b run is tells =
    let Says : Event → Type 0 = λ e. IsToldBy c (event_told image m' e) in
    writes_end limits image input m' event.Went b.output c old mid (passed_so limits image input m m' left stop old mid b run is) b.held (subst Says is tells)

-- the two together, by the event
pub stopped : (limits : Limits) (image : Content) (input : List ℕ) (m m' : Machine) (left : ℕ) (stop : Stop) (e : Event) (c : Close) (old mid : Sunk) → Begun limits image input m left old mid → IsRun input m left stop m' → stop.event ≡ e → ((code : ℕ) → e ≡ event.Wrote code → ⊥) → IsToldBy c (event_told image m' e) → Writes (told_run limits image input) c old mid
stopped limits image input m m' left stop e c old mid b run is writes tells = by e is writes tells
  where
    other : (e : Event) → stop.event ≡ e → e ≢ event.Went → ((code : ℕ) → e ≡ event.Wrote code → ⊥) → IsToldBy c (event_told image m' e) → Writes (told_run limits image input) c old mid
    other e is goes writes tells = stopped_otherwise limits image input m m' left stop c old mid b run (λ went. goes (sym is ∙ went)) (λ code wrote. writes code (sym is ∙ wrote)) (subst (λ (x : Event). IsToldBy c (event_told image m' x)) (sym is) tells)

    by : (e : Event) → stop.event ≡ e → ((code : ℕ) → e ≡ event.Wrote code → ⊥) → IsToldBy c (event_told image m' e) → Writes (told_run limits image input) c old mid
    by event.Went is writes tells = stopped_passed limits image input m m' left stop c old mid b run is (subst (λ (x : Event). IsToldBy c (event_told image m' x)) (sym is) tells)
    by (event.Wrote code) is writes tells = absurd (writes code refl)
    by (event.Value v) is writes tells = other (event.Value v) is (λ went. cc) writes tells
    by (event.Error kind a b' d pc) is writes tells = other (event.Error kind a b' d pc) is (λ went. cc) writes tells
    by event.Heap is writes tells = other event.Heap is (λ went. cc) writes tells
    by event.Stack is writes tells = other event.Stack is (λ went. cc) writes tells
    by (event.Trap pc) is writes tells = other (event.Trap pc) is (λ went. cc) writes tells
