-- The code of a program, form by form, does what the program means.
use Rattle.std.proofs.Common.{refl, sym, ap, subst, ◌∙◌, arith, length-append}
use Rattle.std.specs.Prelude.{◌≡◌, ℕ, ◌+◌, ◌*◌, ◌^◌, ◌<◌, ◌≤◌, max, true, All, List, [], ◌∷◌, ◌++◌, length, reverse, Option, Some}
use Rattle.lisp_base.specs.declared.values.Val.{Val}
use Rattle.lisp_base.specs.declared.values.Place.{Place}
use Rattle.lisp_base.specs.Sort.{nil}
use Rattle.core_form.specs.Tree.{Top}
use Rattle.core_form.specs.Facts.{facts_of, functions_in}
use Rattle.core_form.specs.State.{Symbol, State as Life, Fault, first_of_values, all_big}
use Rattle.core_form.specs.Effect.{box_all}
use Rattle.core_form.specs.Force.{Vals, symbol_kinds_of}
use Rattle.core_form.specs.Run.{Outcome, Gives, Fails, NotYet, Leaves, Run, and_then, ◌>>◌, perform, pure, back_in}
use Rattle.core_form.specs.Eval.{Call, eval, run_forms, at_top}
use Rattle.core_form.specs.Everything.{everything}
use Rattle.rv_isa.specs.declared.ending.Ending.{Ending}
use Rattle.rv_isa.specs.declared.ending.Ending.TheVariants as ending
use Rattle.rv_isa.specs.Machine.{Space, State}
use Rattle.compiler.specs.Words.{word_of_value}
use Rattle.compiler.specs.Templates.{end_slots}
use Rattle.compiler.specs.Code.{code_of, forms_code, program_code, is_served, forms_served}
use Rattle.compiler.specs.Compiled.{IsNear}
use Rattle.compiler.proofs.Paths.{Path, Stand, joined, stands_first, stands_then}
use Rattle.compiler.proofs.Calm.{Good, Legal, Halts}
use Rattle.compiler.proofs.Checks.{end_halts}
use Rattle.compiler.proofs.Constants.{nil_comes}
use Rattle.compiler.proofs.Tracks.{Ready, Came, Tracks, Shows, bound, as_ready}
use Rattle.compiler.proofs.Nodes.{and_left, and_right}
use Rattle.compiler.proofs.Sizes.{near_first, near_rest}
use Rattle.compiler.proofs.Trees.{node_does}

abbrev pub itself : Val → Val
itself v = v

abbrev boxed : Vals → Life → Life
boxed vs l = record l { counts = record l.counts { cost = l.counts.cost + 2 * all_big vs; heap_words = l.counts.heap_words + 2 * all_big vs } }

-- the state after a form: what it gave is counted, and the variables are those of before
abbrev after_form : List (ℕ × Val) → Vals → Life → Life
after_form old vs l = record (boxed vs l) { frame = old }

-- a form gives its values back, and its first value goes on
form_then : (space : Space) (places : ℕ → Option Place) (m0 : ℕ → ℕ) (s : State) (pc before : ℕ) (old : List (ℕ × Val)) (o : Outcome Vals) (f : Val → Run Val) →
    Tracks space places m0 itself s pc before (and_then o (λ (vs : Vals). λ (l : Life). f (first_of_values vs) (after_form old vs l))) →
    Tracks space places m0 itself s pc before (and_then (and_then (back_in old (and_then o (λ (vs : Vals). perform (box_all vs) >> pure vs))) (λ (vs : Vals). pure (first_of_values vs))) f)
unfolding everything
form_then space places m0 s pc before old (Gives vs l) f r = r
form_then space places m0 s pc before old (Fails x p l) f r = r
form_then space places m0 s pc before old (NotYet l) f r = absurd r
form_then space places m0 s pc before old (Leaves x l) f r = absurd r

module _ (space : Space) (places : ℕ → Option Place) (m0 : ℕ → ℕ) (call : Call) (limit : ℕ) (symbols : List Symbol) where
  forms_track : (k : ℕ) (ts : List Top) → forms_served ts ≡ true → (v : Val) → Legal v → (s : State) (l : Life) (before : ℕ) → Ready m0 s l → s.registers 10 ≡ word_of_value v →
      Stand space places s.pc (forms_code ts) → s.pc + 4 * length (forms_code ts) < 2 ^ 30 → All IsNear ts → before ≤ 16 * l.counts.cost →
      Tracks space places m0 itself s (s.pc + 4 * length (forms_code ts)) before (run_forms call limit symbols k ts v l)
  unfolding everything
  forms_track n [] h v legal s l before r a0 st far near pace = record {
    t = s;
    j = 0;
    path = refl;
    came = record { ready = r; at = omega arith; a0 = a0; legal = legal; pace = omega arith };
  }
  forms_track n (t ∷ ts) h v legal s l before r a0 st far near pace =
      let code = code_of t.core in
      let rest = forms_code ts in
      let k : length (code ++ rest) ≡ length code + length rest = length-append code rest in
      let mid = s.pc + 4 * length code in
      let pc = s.pc + 4 * length (code ++ rest) in
      let cx = at_top symbols (facts_of (symbol_kinds_of symbols) n t) in
      let further = n + length (functions_in t.core) in
      let l1 : Life = record l { counts = record l.counts { begun = l.counts.begun + t.nodes; stack_words = max l.counts.stack_words cx.force.words }; frame = [] } in
      let o = eval call limit cx t.core l1 in
      let next : Vals → Run Val = λ (vs : Vals). λ (l' : Life). run_forms call limit symbols further ts (first_of_values vs) (after_form l.frame vs l') in
      form_then space places m0 s pc before l.frame o (run_forms call limit symbols further ts)
      (bound space places m0 first_of_values itself s mid pc before 0 o next
      (node_does space places m0 call limit t.core (and_left (is_served t.core) (forms_served ts) h) cx s l1 (before + 0)
      (record { good = r.good; output_is = r.output_is; input_is = r.input_is; chars = r.chars })
      (stands_first space places s.pc code rest st) (omega (arith, k)) (near_first t ts near) (omega arith))
      (λ (t' : State) (j : ℕ) (vs : Vals) (l' : Life) (came : Came m0 t' mid (first_of_values vs) (j + (before + 0)) l').
      let at : t'.pc + 4 * length rest ≡ pc = (let a = came.at in omega (arith, k, a)) in
      let st' = subst (λ (n : ℕ). Stand space places n rest) (sym came.at) (stands_then space places s.pc code rest st) in
      let ready = came.ready in
      subst (λ (n : ℕ). Tracks space places m0 itself t' n (j + before) (next vs l')) at
      (forms_track further ts (and_right (is_served t.core) (forms_served ts) h) (first_of_values vs) came.legal t' (after_form l.frame vs l') (j + before)
      (record { good = ready.good; output_is = ready.output_is; input_is = ready.input_is; chars = ready.chars }) came.a0 st'
      (let a = came.at in omega (arith, k, a)) (near_rest t ts near) (let a = came.pace in omega (arith, a)))))

-- The whole run: in so many steps the machine ends as the outcome tells.
pub record Finishes (space : Space) (m0 : ℕ → ℕ) (s : State) (v : Val) (l : Life) : Type 0 where
  pub j : ℕ
  pub halts : Halts space m0 j s (ending.Value (word_of_value v)) (reverse l.output)
  pub legal : Legal v
  pub pace : j ≤ 16 * l.counts.cost + 3

pub record Breaks (space : Space) (places : ℕ → Option Place) (m0 : ℕ → ℕ) (s : State) (f : Fault) (p : Place) (l : Life) : Type 0 where
  pub j : ℕ
  pub e : Ending
  pub halts : Halts space m0 j s e (reverse l.output)
  pub shows : Shows places f p e
  pub pace : j ≤ 16 * l.counts.cost + 3

abbrev pub Ends : Space → (ℕ → Option Place) → (ℕ → ℕ) → State → Outcome Val → Type 0
Ends space places m0 s (Gives v l) = Finishes space m0 s v l
Ends space places m0 s (Fails f p l) = Breaks space places m0 s f p l
Ends space places m0 s (NotYet l) = ⊥
Ends space places m0 s (Leaves x l) = ⊥

-- from the second instruction on
ends_of : (space : Space) (places : ℕ → Option Place) (m0 : ℕ → ℕ) (s t : State) (pc : ℕ) (o : Outcome Val) → Path space (Good m0) 1 s t →
    Tracks space places m0 itself t pc 0 o → Stand space places pc end_slots → Ends space places m0 s o
ends_of space places m0 s t pc (Gives v l) first r st =
    let st' = subst (λ (n : ℕ). Stand space places n end_slots) (sym r.came.at) st in
    let h = end_halts space places m0 r.t r.came.ready.good st' in
    let p = joined space (Good m0) r.j 2 t r.t h.t r.path h.path in
    let same : ending.Value (r.t.registers 10) ≡ ending.Value (word_of_value v) = ap (λ (n : ℕ). ending.Value n) r.came.a0 in
    record {
      j = 1 + (r.j + 2);
      halts = record {
        t = h.t;
        last = h.last;
        path = joined space (Good m0) 1 (r.j + 2) s t h.t first p;
        good = h.good;
        differs = h.differs ∙ ap (λ (e : Ending). record h.last { ending = Some e }) same;
        output_is = h.output_is ∙ r.came.ready.output_is;
      };
      legal = r.came.legal;
      pace = (let k = r.came.pace in omega (arith, k));
    }
ends_of space places m0 s t pc (Fails f p l) first r st =
    record {
      j = 1 + r.j;
      e = r.e;
      halts = record { t = r.halts.t; last = r.halts.last; path = joined space (Good m0) 1 r.j s t r.halts.t first r.halts.path; good = r.halts.good; differs = r.halts.differs; output_is = r.halts.output_is };
      shows = r.shows;
      pace = (let k = r.pace in omega (arith, k));
    }
ends_of space places m0 s t pc (NotYet l) first r st = absurd r
ends_of space places m0 s t pc (Leaves x l) first r st = absurd r

pub program_ends : (space : Space) (places : ℕ → Option Place) (m0 : ℕ → ℕ) (call : Call) (limit : ℕ) (symbols : List Symbol) (n : ℕ) (ts : List Top) → forms_served ts ≡ true →
    (s : State) (l : Life) → Ready m0 s l → s.pc ≡ 65536 → Stand space places 65536 (program_code ts) → All IsNear ts → length (program_code ts) < 2 ^ 22 →
    Ends space places m0 s (run_forms call limit symbols n ts nil l)
program_ends space places m0 call limit symbols n ts h s l r at st near short =
    let code = forms_code ts in
    let k : length (code ++ end_slots) ≡ length code + 2 = length-append code end_slots in
    let st0 = subst (λ (n : ℕ). Stand space places n (program_code ts)) (sym at) st in
    let a = as_ready space places m0 1 s (s.pc + 4) nil l r (nil_comes space places m0 s r.good (st0.0, tt, tt)) in
    let rest : Stand space places (s.pc + 4) (code ++ end_slots) = st0.2 in
    let rest' = subst (λ (n : ℕ). Stand space places n (code ++ end_slots)) (sym a.pc_is) rest in
    let e = a.pc_is in
    ends_of space places m0 s a.t (a.t.pc + 4 * length code) (run_forms call limit symbols n ts nil l) a.path
    (forms_track space places m0 call limit symbols n ts h nil (omega arith) a.t l 0
    (record { good = a.good; output_is = a.output_is; input_is = a.input_is; chars = r.chars }) a.a0_is
    (stands_first space places a.t.pc code end_slots rest') (omega (arith, k, e, at)) near (omega arith))
    (stands_then space places a.t.pc code end_slots rest')
