-- One description of what a machine does for another.
use Rattle.std.proofs.Common.{◌≡◌, ◌≢◌, ℕ, ◌<◌, ◌≤◌, Bool, true, false, if◌then◌else◌, List, [], ◌++◌, Option, Some, None, refl, sym, ap, subst, ◌∙◌, ◌⊎◌, arith}
use Rattle.std.proofs.lemmas.Bool.Decides.{nat_tests}
use Rattle.std.proofs.lemmas.List.{append-nil}
use Rattle.rv_isa.specs.declared.ending.Ending.{Ending}
use Rattle.rv_isa.specs.declared.ending.Ending.TheVariants as ending
use Rattle.rv_isa.specs.declared.instr.Instr.{Instr}
use Rattle.rv_isa.specs.declared.instr.Instr.TheVariants as i
use Rattle.rv_isa.specs.declared.instr.Load.{Load}
use Rattle.rv_isa.specs.declared.instr.Store.{Store}
use Rattle.rv_isa.specs.Machine.{Space, State, step, step_from, executed, executed_if, fetched, trapped, ended, sets, loads, stores, writes, reads, fails, calls, is_readable, is_writable}
use Rattle.rv_isa.specs.Operations.{load_bytes, load_value, store_bytes}
use Rattle.rv_machine.specs.declared.events.Event.{Event}
use Rattle.rv_machine.specs.declared.machine.Machine.{Machine}
use Rattle.rv_machine.specs.View.{state, space, taken}
use Rattle.rv_machine.specs.Memory.{stored}
use Rattle.rv_machine.specs.Effects.{effect, effected}
use Rattle.rv_machine.specs.Steps.{IsText, Does, written, event_of, bytes_at, counts}

-- two descriptions that agree at the states of this machine
pub does_as : {f g : State → State} {input : List ℕ} {old : Machine} {event : Event} {new : Machine} → Does f input old event new → ((output : List ℕ) → f (state output input old) ≡ g (state output input old)) → Does g input old event new
does_as h same = record { made = λ output. h.made output ∙ same output; told = h.told; text = h.text; counted = h.counted; stays = h.stays }

-- the same from a machine that shows the same states
pub does_from : {f : State → State} {input : List ℕ} {middle : Machine} {event : Event} {new : Machine} (old : Machine) → Does f input middle event new → ((output : List ℕ) → state output input middle ≡ state output input old) → space middle ≡ space old → taken middle ≡ taken old → Does f input old event new
does_from {f} {input} {middle} {event} {new} old h same stays taken_is = record {
  made = λ output. h.made output ∙ ap f (same output);
  told = h.told;
  text = h.text;
  counted = subst (λ (t : ℕ). taken new ≡ counts input t (taken new)) taken_is h.counted;
  stays = h.stays ∙ stays;
}

-- an instruction does what it asks for
pub effected_effect : (s : Space) (m : State) (instr : Instr) → effected s (effect m.registers m.pc instr) m ≡ executed s instr m
unfolding executed
effected_effect s m (i.Upper u rd n) = refl
effected_effect s m (i.Jal rd half) = refl
effected_effect s m (i.Jalr rd rs1 n) = refl
effected_effect s m (i.Branch b rs1 rs2 half) = refl
effected_effect s m (i.Load l rd rs1 n) = refl
effected_effect s m (i.Store st rs1 rs2 n) = refl
effected_effect s m (i.Imm o rd rs1 n) = refl
effected_effect s m (i.Shift sh rd rs1 n) = refl
effected_effect s m (i.Addiw rd rs1 n) = refl
effected_effect s m (i.ShiftWord sh rd rs1 n) = refl
effected_effect s m (i.Op o rd rs1 rs2) = refl
effected_effect s m (i.WordOp o rd rs1 rs2) = refl
effected_effect s m i.Ecall = refl

-- a state that hasn't ended executes the instruction at which it stands
pub step_on : (s : Space) (m : State) → m.ending ≡ None → executed_if s (fetched s m.pc) m ≡ step s m
unfolding step
step_on s m on = ap (λ (e : Option Ending). step_from e s m) (sym on)

written_ending : (e : Ending) → written (event_of e) ≡ []
written_ending (ending.Value v) = refl
written_ending (ending.Error kind a b c pc) = refl
written_ending ending.Heap = refl
written_ending ending.Stack = refl
written_ending (ending.Trap pc) = refl

text_of_ending : (e : Ending) → IsText (event_of e)
text_of_ending (ending.Value v) = tt
text_of_ending (ending.Error kind a b c pc) = tt
text_of_ending ending.Heap = tt
text_of_ending ending.Stack = tt
text_of_ending (ending.Trap pc) = tt

stays_at : (s : Space) (m : State) (e : Ending) → m.ending ≡ Some e → m ≡ step s m
unfolding step
stays_at s m e is = ap (λ (o : Option Ending). step_from o s m) (sym is)

-- a machine that has ended stays as it is, and tells that again
pub stays_ended : (s : Space) (input : List ℕ) (m : Machine) (e : Ending) → m.ending ≡ Some e → Does (step s) input m (event_of e) m
stays_ended s input m e is = record {
  made = λ output. ap (λ (o : List ℕ). state o input m) (ap (λ (w : List ℕ). output ++ w) (written_ending e) ∙ append-nil output) ∙ stays_at s (state output input m) e is;
  told = rw is refl;
  text = text_of_ending e;
  counted = omega arith;
  stays = refl;
}

-- ---- loads and stores

read_some : (readable : Bool) (x n : ℕ) (rd : ℕ) (f : ℕ → ℕ) (m : State) → (if readable then Some x else None) ≡ Some n → sets rd (f n) m ≡ (if readable then sets rd (f x) m else trapped m)
read_some true x n rd f m is = let e : n ≡ x = cc in rw e refl
read_some false x n rd f m is = cc

read_none : (readable : Bool) (x : ℕ) (rd : ℕ) (f : ℕ → ℕ) (m : State) → (if readable then Some x else None) ≡ None → trapped m ≡ (if readable then sets rd (f x) m else trapped m)
read_none true x rd f m is = cc
read_none false x rd f m is = refl

pub loads_some : (s : Space) (m : State) (l : Load) (rd address n : ℕ) → bytes_at s m.memory address (load_bytes l) ≡ Some n → sets rd (load_value l n) m ≡ loads s l rd address m
loads_some s m l rd address n is = read_some (is_readable s address (load_bytes l)) _ n rd (load_value l) m is

pub loads_none : (s : Space) (m : State) (l : Load) (rd address : ℕ) → bytes_at s m.memory address (load_bytes l) ≡ None → trapped m ≡ loads s l rd address m
loads_none s m l rd address is = read_none (is_readable s address (load_bytes l)) _ rd (load_value l) m is

pub stored_none : (s : Space) (address n v : ℕ) (memory : ℕ → ℕ) → is_writable s address n ≡ false → stored s address n v memory ≡ memory
stored_none s address n v memory is = rw is refl

pub stores_none : (s : Space) (m : State) (st : Store) (address v : ℕ) → is_writable s address (store_bytes st) ≡ false → trapped m ≡ stores s st address v m
stores_none s m st address v is = rw is refl

-- ---- environment calls

pub no_call : (n : ℕ) (m : State) → n ≢ 1 → n ≢ 2 → n ≢ 3 → n ≢ 4 → n ≢ 5 → n ≢ 6 → trapped m ≡ calls n m
no_call n m h1 h2 h3 h4 h5 h6 = grind (arith, nat_tests)

pub no_char : (n : ℕ) (m : State) → 0xD800 ≤ n → (n < 0xE000) ⊎ (0x110000 ≤ n) → trapped m ≡ writes n m
no_char n m above h = grind (arith, nat_tests)

pub no_kind : (n : ℕ) (m : State) → (n < 1) ⊎ (10 < n) → trapped m ≡ fails n m
no_kind n m h = grind (arith, nat_tests)

pub fails_with : (n a b c : ℕ) (m : State) → 1 ≤ n → n ≤ 10 → a ≡ m.registers 10 → b ≡ m.registers 11 → c ≡ m.registers 12 → ended (ending.Error n a b c m.pc) m ≡ fails n m
fails_with n a b c m low high ea eb ec = grind (arith, nat_tests)

pub reads_end : (r : ℕ) (m : State) → r ≡ 16 → m.input ≡ [] → sets r 18446744073709551615 m ≡ reads m.input m
reads_end r m sixteen is = ap (λ (n : ℕ). sets n 18446744073709551615 m) sixteen ∙ ap (λ (l : List ℕ). reads l m) (sym is)
