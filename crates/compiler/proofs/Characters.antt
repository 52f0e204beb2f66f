-- A check for a character, and WRITE-CHAR, do what they mean.
use Rattle.std.proofs.Common.{refl, sym, ap, subst, ◌∙◌, arith}
use Rattle.std.proofs.lemmas.List.{reverse-append}
use Rattle.std.specs.Prelude.{◌≡◌, ℕ, ◌+◌, ◌*◌, ◌^◌, ◌<◌, ◌≤◌, false, List, [], ◌∷◌, ◌++◌, reverse, Option}
use Rattle.lisp_base.specs.declared.values.Val.{Val}
use Rattle.lisp_base.specs.declared.values.Val.TheVariants.{Int, Char, Sym, Ref}
use Rattle.lisp_base.specs.declared.values.Place.{Place}
use Rattle.lisp_base.specs.declared.primitives.Primitive.TheVariants as op
use Rattle.lisp_base.specs.declared.types.TypeName.TheVariants as name
use Rattle.lisp_base.specs.Spec.{Named}
use Rattle.lisp_base.specs.Membership.{is_character}
use Rattle.core_form.specs.State.{State as Life, TypeError, first_of_values}
use Rattle.core_form.specs.Force.{Vals, check}
use Rattle.core_form.specs.Primitives.{primitive}
use Rattle.core_form.specs.Step.{Around}
use Rattle.core_form.specs.Run.{◌>>◌, perform, pure}
use Rattle.core_form.specs.Everything.{everything}
use Rattle.rv_isa.specs.declared.ending.Ending.TheVariants as ending
use Rattle.rv_isa.specs.Machine.{Space, State}
use Rattle.compiler.specs.Words.{word_of_value}
use Rattle.compiler.specs.Templates.{check_slots, write_slots}
use Rattle.compiler.proofs.Paths.{Stand, joined, stands_first, stands_then}
use Rattle.compiler.proofs.Calm.{Good, Legal, Comes}
use Rattle.compiler.proofs.Checks.{check_passes, check_fails, check_sited, write_comes}
use Rattle.compiler.proofs.Tracks.{Ready, Stops, Tracks, arrived, as_ready}

module _ (space : Space) (places : ℕ → Option Place) (m0 : ℕ → ℕ) where
  -- a value that is no character ends the run
  stopped : (p : Place) (v : Val) → is_character v ≡ false → Legal v → (t : State) (l l' : Life) (before : ℕ) → Ready m0 t l →
      l'.output ≡ l.output → t.registers 10 ≡ word_of_value v → Stand space places t.pc (check_slots p) → 6 + before ≤ 16 * l'.counts.cost →
      Stops space places m0 t before (TypeError v (Named name.Character)) p l'
  stopped p v other legal t l l' before r same a0 st pace =
      let h = check_fails space places m0 t v p r.good a0 legal other st in
      record {
        j = 6;
        e = ending.Error 1 (t.registers 10) (t.registers 11) (t.registers 12) (t.pc + 20);
        halts = record { t = h.t; last = h.last; path = h.path; good = h.good; differs = h.differs; output_is = (h.output_is ∙ r.output_is) ∙ ap reverse (sym same) };
        shows = record {
          b = t.registers 11;
          c = t.registers 12;
          pc = t.pc + 20;
          is = ap (λ (n : ℕ). ending.Error 1 n (t.registers 11) (t.registers 12) (t.pc + 20)) a0;
          sited = check_sited space places t.pc p st;
          character = refl;
          legal = legal;
        };
        pace = pace;
      }

  -- a declared check
  pub checked : (cx : Around) (p : Place) (v : Val) (vs : Vals) → first_of_values vs ≡ v → Legal v → (t : State) (l : Life) (before : ℕ) → Ready m0 t l →
      t.registers 10 ≡ word_of_value v → Stand space places t.pc (check_slots p) → t.pc < 2 ^ 30 → before + 16 ≤ 16 * l.counts.cost →
      Tracks space places m0 first_of_values t (t.pc + 24) before ((perform (check cx.force p (Named name.Character) v) >> pure vs) l)
  unfolding everything
  checked cx p (Int z) vs e legal t l before r a0 st far pace =
      stopped p (Int z) refl legal t l _ before r refl a0 st (omega arith)
  checked cx p (Char c) vs e legal t l before r a0 st far pace =
      let l' = record l { counts = record l.counts { cost = l.counts.cost + 1 } } in
      let come = as_ready space places m0 3 t (t.pc + 24) (Char c) l r (check_passes space places m0 t c p r.good (omega arith) a0 legal st) in
      let come' : Comes space m0 3 t (t.pc + 24) (first_of_values vs) (reverse l.output) l.input =
      subst (λ (v : Val). Comes space m0 3 t (t.pc + 24) v (reverse l.output) l.input) (sym e) come in
      arrived space places m0 first_of_values 3 t (t.pc + 24) before vs l' come' r.chars (omega arith)
  checked cx p (Sym s) vs e legal t l before r a0 st far pace =
      stopped p (Sym s) refl legal t l _ before r refl a0 st (omega arith)
  checked cx p (Ref o) vs e legal t l before r a0 st far pace = absurd legal

  -- WRITE-CHAR of a value that is there
  pub written : (cx : Around) (p : Place) (v : Val) → Legal v → (t : State) (l : Life) (before : ℕ) → Ready m0 t l →
      t.registers 10 ≡ word_of_value v → Stand space places t.pc (check_slots p ++ write_slots) → t.pc < 2 ^ 30 → before + 16 ≤ 16 * l.counts.cost →
      Tracks space places m0 first_of_values t (t.pc + 36) before (perform (primitive cx.force p op.WriteChar (v ∷ [])) l)
  unfolding everything
  written cx p (Int z) legal t l before r a0 st far pace =
      stopped p (Int z) refl legal t l _ before r refl a0 (stands_first space places t.pc (check_slots p) write_slots st) (omega arith)
  written cx p (Char c) legal t l before r a0 st far pace =
      let a = check_passes space places m0 t c p r.good (omega arith) a0 legal (stands_first space places t.pc (check_slots p) write_slots st) in
      let st' : Stand space places (t.pc + 24) write_slots = stands_then space places t.pc (check_slots p) write_slots st in
      let st'' : Stand space places a.t.pc write_slots = subst (λ (n : ℕ). Stand space places n write_slots) (sym a.pc_is) st' in
      let b = write_comes space places m0 a.t c a.good a.a0_is legal st'' in
      let out : b.t.output ≡ reverse (c ∷ l.output) =
      b.output_is ∙ (ap (λ (x : List ℕ). x ++ c ∷ []) (a.output_is ∙ r.output_is) ∙ sym (reverse-append (c ∷ []) l.output)) in
      let at : b.t.pc ≡ t.pc + 36 = (let k = b.pc_is in let k' = a.pc_is in omega (arith, k, k')) in
      let come : Comes space m0 6 t (t.pc + 36) (Char c) (reverse (c ∷ l.output)) l.input = record {
        t = b.t;
        path = joined space (Good m0) 3 3 t a.t b.t a.path b.path;
        good = b.good;
        pc_is = at;
        a0_is = b.a0_is;
        legal = legal;
        output_is = out;
        input_is = b.input_is ∙ (a.input_is ∙ r.input_is);
      } in
      arrived space places m0 first_of_values 6 t (t.pc + 36) before (Char c ∷ []) _ come r.chars (omega arith)
  written cx p (Sym s) legal t l before r a0 st far pace =
      stopped p (Sym s) refl legal t l _ before r refl a0 (stands_first space places t.pc (check_slots p) write_slots st) (omega arith)
  written cx p (Ref o) legal t l before r a0 st far pace = absurd legal
