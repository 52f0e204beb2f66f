-- Constants, READ-CHAR, and the check for a character do what they mean.
use Rattle.std.proofs.Common.{sym, ap, ◌∙◌, arith}
use Rattle.std.proofs.lemmas.Bool.{ltb-true, eqb-true}
use Rattle.std.specs.Prelude.{◌≡◌, ℕ, zero, suc, ◌+◌, ◌*◌, ◌^◌, ◌<◌, ◌≤◌, true, List, [], ◌∷◌, reverse, Option}
use Rattle.lisp_base.specs.declared.values.SymId.{SymId}
use Rattle.lisp_base.specs.declared.values.Val.{Val}
use Rattle.lisp_base.specs.declared.values.Val.TheVariants.{Int, Char, Sym, Ref}
use Rattle.lisp_base.specs.declared.values.Place.{Place}
use Rattle.lisp_base.specs.Sort.{nil, number_of, symbol}
use Rattle.core_form.specs.State.{State as Life, first_of_values}
use Rattle.core_form.specs.Force.{Vals, Force, one}
use Rattle.core_form.specs.Primitives.{next_char}
use Rattle.core_form.specs.Step.{Around, deliver}
use Rattle.core_form.specs.Run.{Outcome, Gives, Fails, NotYet, Leaves, Run, and_then, perform, visit}
use Rattle.core_form.specs.Everything.{everything}
use Rattle.rv_isa.specs.Machine.{Space, State}
use Rattle.compiler.specs.Words.{word_of_value}
use Rattle.compiler.specs.Templates.{word_slots, read_slots}
use Rattle.compiler.specs.Code.{constant_slots, is_constant, is_nil}
use Rattle.compiler.proofs.Paths.{Stand}
use Rattle.compiler.proofs.Calm.{Legal, Chars, Comes}
use Rattle.compiler.proofs.Constants.{nil_comes, word_comes}
use Rattle.compiler.proofs.Inputs.{read_ends, read_gives, char_bound}
use Rattle.compiler.proofs.Tracks.{Ready, Tracks, Does, arrived, as_ready}

abbrev pub spent : Life → Life
spent l = record l { counts = record l.counts { cost = l.counts.cost + 1 } }

-- the value of a symbol of this number
pub symbol_value : (s : SymId) (n : ℕ) → number_of s ≡ n → Sym s ≡ Sym (symbol n)
symbol_value s n e = ap (λ (k : ℕ). Sym (symbol k)) e

pub nil_value : (v : Val) → is_nil v ≡ true → v ≡ nil
nil_value (Int z) h = absurd (cc)
nil_value (Char c) h = absurd (cc)
nil_value (Sym s) h = symbol_value s 0 (eqb-true (number_of s) 0 h)
nil_value (Ref o) h = absurd (cc)

module _ (space : Space) (places : ℕ → Option Place) (m0 : ℕ → ℕ) where
  delivered : (cx : Around) (s : State) (pc before : ℕ) (o : Outcome Vals) →
      Tracks space places m0 first_of_values s pc before o → Tracks space places m0 first_of_values s pc before (and_then o (λ (vs : Vals). perform (deliver cx.text.word vs)))
  unfolding everything
  delivered cx s pc before (Gives vs l) r = record {
    t = r.t;
    j = r.j;
    path = r.path;
    came = record {
      ready = record { good = r.came.ready.good; output_is = r.came.ready.output_is; input_is = r.came.ready.input_is; chars = r.came.ready.chars };
      at = r.came.at;
      a0 = r.came.a0;
      legal = r.came.legal;
      pace = r.came.pace;
    };
  }
  delivered cx s pc before (Fails f p l) r = r
  delivered cx s pc before (NotYet l) r = absurd r
  delivered cx s pc before (Leaves x l) r = absurd r

  -- a node is what is in it, and one more is spent
  pub visited : (cx : Around) (m : Run Vals) (s : State) (l : Life) (pc before : ℕ) →
      Tracks space places m0 first_of_values s pc before (m (spent l)) → Tracks space places m0 first_of_values s pc before (visit cx m l)
  unfolding everything
  visited cx m s l pc before r = delivered cx s pc before (m (spent l)) r

  small_char : (c : ℕ) → c < 0x110000 → c * 256 + 2 < 2 ^ 30
  small_char c h = omega arith

  word_tracks : (v : Val) → Legal v → word_of_value v < 2 ^ 30 → (s : State) (l : Life) (before : ℕ) → Ready m0 s l →
      Stand space places s.pc (word_slots (word_of_value v)) → before + 16 ≤ 16 * l.counts.cost →
      Tracks space places m0 first_of_values s (s.pc + 8) before (Gives (v ∷ []) l)
  word_tracks v legal small s l before r st pace =
      arrived space places m0 first_of_values 2 s (s.pc + 8) before (v ∷ []) l
      (as_ready space places m0 2 s (s.pc + 8) v l r (word_comes space places m0 s v r.good legal small st)) r.chars (omega arith)

  symbol_tracks : (n : ℕ) → n < 2 → Does space places m0 16 (constant_slots (Sym (symbol n))) (perform (one (Sym (symbol n))))
  unfolding everything
  symbol_tracks zero h s l before r st far near pace =
      arrived space places m0 first_of_values 1 s (s.pc + 4) before (nil ∷ []) l (as_ready space places m0 1 s (s.pc + 4) nil l r (nil_comes space places m0 s r.good st)) r.chars (omega arith)
  symbol_tracks (suc zero) h s l before r st far near pace =
      word_tracks (Sym (symbol 1)) h (omega arith) s l before r st pace
  symbol_tracks (suc (suc n)) h s l before r st far near pace = absurd (omega arith)

  -- a constant
  pub constant_tracks : (v : Val) → is_constant v ≡ true → Does space places m0 16 (constant_slots v) (perform (one v))
  unfolding everything
  constant_tracks (Int z) h s l before r st far near pace = absurd (cc)
  constant_tracks (Char c) h s l before r st far near pace =
      word_tracks (Char c) h (small_char c (char_bound c h)) s l before r st pace
  constant_tracks (Sym n) h s l before r st far near pace = symbol_tracks (number_of n) (ltb-true (number_of n) 2 h) s l before r st far near pace
  constant_tracks (Ref o) h s l before r st far near pace = absurd (cc)

  -- the next character, or NIL
  pub read_tracks : (f : Force) (p : Place) (s : State) (l : Life) (before : ℕ) (input : List ℕ) → l.input ≡ input → Chars input → Ready m0 s l →
      Stand space places s.pc read_slots → s.pc < 2 ^ 30 → before + 16 ≤ 16 * l.counts.cost →
      Tracks space places m0 first_of_values s (s.pc + 32) before (perform (next_char f p nil nil input) l)
  unfolding everything
  read_tracks f p s l before [] none chars r st far pace =
      let c = read_ends space places m0 s r.good (omega arith) (r.input_is ∙ none) st in
      let c' : Comes space m0 5 s (s.pc + 32) nil (reverse l.output) l.input = record {
        t = c.t;
        path = c.path;
        good = c.good;
        pc_is = c.pc_is;
        a0_is = c.a0_is;
        legal = c.legal;
        output_is = c.output_is ∙ r.output_is;
        input_is = c.input_is ∙ sym none;
      } in
      arrived space places m0 first_of_values 5 s (s.pc + 32) before (nil ∷ []) l c' r.chars (omega arith)
  read_tracks f p s l before (x ∷ xs) some chars r st far pace =
      let c = read_gives space places m0 s x xs r.good (omega arith) (r.input_is ∙ some) chars.0 st in
      let l' = record l { input = xs } in
      let c' : Comes space m0 7 s (s.pc + 32) (Char x) (reverse l.output) xs = record {
        t = c.t;
        path = c.path;
        good = c.good;
        pc_is = c.pc_is;
        a0_is = c.a0_is;
        legal = c.legal;
        output_is = c.output_is ∙ r.output_is;
        input_is = c.input_is;
      } in
      arrived space places m0 first_of_values 7 s (s.pc + 32) before (Char x ∷ []) l' c' chars.1 (omega arith)
