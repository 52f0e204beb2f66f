-- That the machine does what a stretch of the meaning does, and how such stretches are put together.
use Rattle.std.proofs.Common.{◌∙◌, arith}
use Rattle.std.specs.Prelude.{◌≡◌, ℕ, ◌+◌, ◌*◌, ◌^◌, ◌<◌, ◌≤◌, List, length, reverse, Option, Some}
use Rattle.lisp_base.specs.declared.values.Val.{Val}
use Rattle.lisp_base.specs.declared.values.Place.{Place}
use Rattle.lisp_base.specs.declared.types.TypeName.TheVariants as name
use Rattle.lisp_base.specs.Spec.{Spec, Named}
use Rattle.core_form.specs.State.{State as Life, Fault, TypeError, Index, Overflow, ZeroDivide, Unbound, Undefined, Arguments, Control, EndOfFile, Simple, first_of_values}
use Rattle.core_form.specs.Run.{Outcome, Gives, Fails, NotYet, Leaves, Run, and_then}
use Rattle.rv_isa.specs.declared.ending.Ending.{Ending}
use Rattle.rv_isa.specs.declared.ending.Ending.TheVariants as ending
use Rattle.rv_isa.specs.Machine.{Space, State}
use Rattle.compiler.specs.declared.slot.Slot.{Slot}
use Rattle.compiler.specs.Words.{word_of_value}
use Rattle.compiler.proofs.Paths.{Path, Stand, joined}
use Rattle.compiler.proofs.Calm.{Good, Legal, Chars, Comes, Halts}

-- the machine stands where the meaning does
pub record Ready (m0 : ℕ → ℕ) (s : State) (l : Life) : Type 0 where
  pub good : Good m0 s
  pub output_is : s.output ≡ reverse l.output
  pub input_is : s.input ≡ l.input
  pub chars : Chars l.input

-- it has come to an address with this value, and all its steps keep the pace
pub record Came (m0 : ℕ → ℕ) (t : State) (pc : ℕ) (v : Val) (steps : ℕ) (l : Life) : Type 0 where
  pub ready : Ready m0 t l
  pub at : t.pc ≡ pc
  pub a0 : t.registers 10 ≡ word_of_value v
  pub legal : Legal v
  pub pace : steps ≤ 16 * l.counts.cost

pub record Arrives (space : Space) (m0 : ℕ → ℕ) (s : State) (pc : ℕ) (v : Val) (before : ℕ) (l : Life) : Type 0 where
  pub t : State
  pub j : ℕ
  pub path : Path space (Good m0) j s t
  pub came : Came m0 t pc v (j + before) l

-- the ending that shows this error of the form at this place
pub record ShowsType (places : ℕ → Option Place) (v : Val) (t : Spec) (p : Place) (e : Ending) : Type 0 where
  pub b : ℕ
  pub c : ℕ
  pub pc : ℕ
  pub is : e ≡ ending.Error 1 (word_of_value v) b c pc
  pub sited : places pc ≡ Some p
  pub character : t ≡ Named name.Character
  pub legal : Legal v

abbrev pub Shows : (ℕ → Option Place) → Fault → Place → Ending → Type 0
Shows places (TypeError v t) p e = ShowsType places v t p e
Shows places (Index v n) p e = ⊥
Shows places (Overflow op a b) p e = ⊥
Shows places (ZeroDivide op a b) p e = ⊥
Shows places (Unbound s) p e = ⊥
Shows places (Undefined s) p e = ⊥
Shows places (Arguments f n) p e = ⊥
Shows places (Control v) p e = ⊥
Shows places EndOfFile p e = ⊥
Shows places (Simple a b) p e = ⊥

pub record Stops (space : Space) (places : ℕ → Option Place) (m0 : ℕ → ℕ) (s : State) (before : ℕ) (f : Fault) (p : Place) (l : Life) : Type 0 where
  pub j : ℕ
  pub e : Ending
  pub halts : Halts space m0 j s e (reverse l.output)
  pub shows : Shows places f p e
  pub pace : j + before ≤ 16 * l.counts.cost

module _ (space : Space) (places : ℕ → Option Place) (m0 : ℕ → ℕ) where
  -- From s the machine does what this outcome tells, after so many steps before. It has come to pc if it goes on.
  abbrev pub Tracks : {A : Type 0} → (A → Val) → State → ℕ → ℕ → Outcome A → Type 0
  Tracks value s pc before (Gives a l) = Arrives space m0 s pc (value a) before l
  Tracks value s pc before (Fails f p l) = Stops space places m0 s before f p l
  Tracks value s pc before (NotYet l) = ⊥
  Tracks value s pc before (Leaves x l) = ⊥

  -- some steps first
  pub led : {A : Type 0} (value : A → Val) (j : ℕ) (s t : State) (pc before : ℕ) (o : Outcome A) → Path space (Good m0) j s t →
      Tracks value t pc (j + before) o → Tracks value s pc before o
  led value j s t pc before (Gives a l) p r = record {
    t = r.t;
    j = j + r.j;
    path = joined space (Good m0) j r.j s t r.t p r.path;
    came = record { ready = r.came.ready; at = r.came.at; a0 = r.came.a0; legal = r.came.legal; pace = (let k = r.came.pace in omega (arith, k)) };
  }
  led value j s t pc before (Fails f q l) p r = record {
    j = j + r.j;
    e = r.e;
    halts = record { t = r.halts.t; last = r.halts.last; path = joined space (Good m0) j r.j s t r.halts.t p r.halts.path; good = r.halts.good; differs = r.halts.differs; output_is = r.halts.output_is };
    shows = r.shows;
    pace = (let k = r.pace in omega (arith, k));
  }
  led value j s t pc before (NotYet l) p r = absurd r
  led value j s t pc before (Leaves x l) p r = absurd r

  -- fewer steps before
  pub eased : {A : Type 0} (value : A → Val) (s : State) (pc before more : ℕ) (o : Outcome A) →
      Tracks value s pc (before + more) o → Tracks value s pc before o
  eased value s pc before more (Gives a l) r = record {
    t = r.t;
    j = r.j;
    path = r.path;
    came = record { ready = r.came.ready; at = r.came.at; a0 = r.came.a0; legal = r.came.legal; pace = (let k = r.came.pace in omega (arith, k)) };
  }
  eased value s pc before more (Fails f q l) r = record { j = r.j; e = r.e; halts = r.halts; shows = r.shows; pace = (let k = r.pace in omega (arith, k)) }
  eased value s pc before more (NotYet l) r = absurd r
  eased value s pc before more (Leaves x l) r = absurd r

  -- what is left to show where a part gave a value: `more` steps were counted before it that were not taken
  abbrev pub Onward : {A B : Type 0} → (A → Val) → (B → Val) → ℕ → ℕ → ℕ → ℕ → (A → Run B) → Type 0
  Onward value value' mid pc before more f =
      (t : State) → (j : ℕ) → (a : _) → (l : Life) → Came m0 t mid (value a) (j + (before + more)) l → Tracks value' t pc (j + before) (f a l)

  -- one part, then another
  pub bound : {A B : Type 0} (value : A → Val) (value' : B → Val) (s : State) (mid pc before more : ℕ) (o : Outcome A) (f : A → Run B) →
      Tracks value s mid (before + more) o → Onward value value' mid pc before more f → Tracks value' s pc before (and_then o f)
  bound value value' s mid pc before more (Gives a l) f r next =
      led value' r.j s r.t pc before (f a l) r.path (next r.t r.j a l r.came)
  bound value value' s mid pc before more (Fails x p l) f r next =
      record { j = r.j; e = r.e; halts = r.halts; shows = r.shows; pace = (let k = r.pace in omega (arith, k)) }
  bound value value' s mid pc before more (NotYet l) f r next = absurd r
  bound value value' s mid pc before more (Leaves x l) f r next = absurd r

  -- a stretch of instructions that neither writes nor reads
  pub as_ready : (k : ℕ) (s : State) (pc : ℕ) (v : Val) (l : Life) → Ready m0 s l → Comes space m0 k s pc v s.output s.input →
      Comes space m0 k s pc v (reverse l.output) l.input
  as_ready k s pc v l r c = record {
    t = c.t;
    path = c.path;
    good = c.good;
    pc_is = c.pc_is;
    a0_is = c.a0_is;
    legal = c.legal;
    output_is = c.output_is ∙ r.output_is;
    input_is = c.input_is ∙ r.input_is;
  }

  -- the end of a stretch of instructions
  pub arrived : {A : Type 0} (value : A → Val) (k : ℕ) (s : State) (pc before : ℕ) (a : A) (l : Life) (c : Comes space m0 k s pc (value a) (reverse l.output) l.input) →
      Chars l.input → k + before ≤ 16 * l.counts.cost → Tracks value s pc before (Gives a l)
  arrived value k s pc before a l c chars pace = record {
    t = c.t;
    j = k;
    path = c.path;
    came = record {
      ready = record { good = c.good; output_is = c.output_is; input_is = c.input_is; chars = chars };
      at = c.pc_is;
      a0 = c.a0_is;
      legal = c.legal;
      pace = pace;
    };
  }

  -- a stretch of instructions that keeps the value, after a part
  pub trailing : {A : Type 0} (value : A → Val) (k : ℕ) (s : State) (mid pc before : ℕ) (o : Outcome A) → Tracks value s mid (before + k) o →
      ((t : State) → (v : Val) → Good m0 t → t.pc ≡ mid → t.registers 10 ≡ word_of_value v → Legal v → Comes space m0 k t pc v t.output t.input) →
      Tracks value s pc before o
  trailing value k s mid pc before (Gives a l) r next =
      let c = next r.t (value a) r.came.ready.good r.came.at r.came.a0 r.came.legal in
      record {
        t = c.t;
        j = r.j + k;
        path = joined space (Good m0) r.j k s r.t c.t r.path c.path;
        came = record {
          ready = record { good = c.good; output_is = c.output_is ∙ r.came.ready.output_is; input_is = c.input_is ∙ r.came.ready.input_is; chars = r.came.ready.chars };
          at = c.pc_is;
          a0 = c.a0_is;
          legal = c.legal;
          pace = (let p = r.came.pace in omega (arith, p));
        };
      }
  trailing value k s mid pc before (Fails f q l) r next =
      record { j = r.j; e = r.e; halts = r.halts; shows = r.shows; pace = (let p = r.pace in omega (arith, p)) }
  trailing value k s mid pc before (NotYet l) r next = absurd r
  trailing value k s mid pc before (Leaves x l) r next = absurd r

  -- These instructions do what m does. Where `spare` instructions more are counted before, their pace is kept too.
  abbrev pub Does : ℕ → List Slot → Run (List Val) → Type 0
  Does spare code m =
      (s : State) → (l : Life) → (before : ℕ) → Ready m0 s l → Stand space places s.pc code →
      s.pc + 4 * length code < 2 ^ 30 → 4 * length code < 2 ^ 20 → before + spare ≤ 16 * l.counts.cost →
      Tracks first_of_values s (s.pc + 4 * length code) before (m l)
