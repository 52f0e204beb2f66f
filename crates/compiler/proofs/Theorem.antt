-- The image of a program meets the program.
use Rattle.std.proofs.Common.{refl, sym, ap, subst, ◌∙◌, arith, inl, inr}
use Rattle.std.specs.Prelude.{◌≡◌, ◌≢◌, ℕ, zero, suc, ◌+◌, ◌-◌, ◌*◌, ◌^◌, ◌<◌, ◌≤◌, ◌⊎◌, true, All, List, length, Option, Some, None, pos}
use Rattle.std.specs.Option.{option_map}
use Rattle.lisp_base.specs.declared.values.Val.{Val}
use Rattle.lisp_base.specs.declared.values.Val.TheVariants.{Int}
use Rattle.lisp_base.specs.declared.values.Place.{Place}
use Rattle.lisp_base.specs.declared.values.Place.TheVariants as places
use Rattle.lisp_base.specs.declared.types.TypeName.TheVariants as name
use Rattle.lisp_base.specs.Spec.{Spec, Named}
use Rattle.core_form.specs.State.{State as Life, Fault, TypeError, Index, Overflow, ZeroDivide, Unbound, Undefined, Arguments, Control, EndOfFile, Simple, work, Symbol}
use Rattle.core_form.specs.Facts.{functions_count}
use Rattle.core_form.specs.Run.{Outcome, Gives, Fails, NotYet, Leaves}
use Rattle.core_form.specs.Eval.{Program, evaluate, start, call_to, table_of, output_of, counts_of, ending_of}
use Rattle.core_form.specs.Everything.{everything}
use Rattle.debug_info.specs.declared.rows.SitePlace.{SitePlace}
use Rattle.debug_info.specs.declared.rows.SitePlace.TheVariants as site
use Rattle.debug_info.specs.declared.rows.SiteRow.{SiteRow}
use Rattle.debug_info.specs.Places.{last_not_above, site_of}
use Rattle.image.specs.Content.{Content}
use Rattle.object_model.specs.Tags.{WellTagged}
use Rattle.rv_isa.specs.declared.ending.Ending.{Ending}
use Rattle.rv_isa.specs.declared.ending.Ending.TheVariants as ending
use Rattle.rv_isa.specs.Machine.{Space, State, steps}
use Rattle.rv_isa.specs.Start.{setup_space, first_state}
use Rattle.compiler.specs.Words.{word_of_value}
use Rattle.compiler.specs.Code.{forms_served, program_code}
use Rattle.compiler.specs.Meets.{AreSizes, AreChars, setup, layout, IsPrefix, HasText, SamePlace, SameError, EndsAlike, EndTells, OnEnd, ShownBy, HasEnded, WhereEnded, Reached, fuel_of, Meets}
use Rattle.compiler.specs.Parts.{image_of_forms, site_rows, character_text, BeginsWithNames}
use Rattle.compiler.specs.Compiled.{IsNear}
use Rattle.compiler.proofs.Calm.{Good, Halts}
use Rattle.compiler.proofs.Tracks.{Ready, Shows, ShowsType}
use Rattle.compiler.proofs.Encodes.{program_encodes}
use Rattle.compiler.proofs.Sited.{program_in_file}
use Rattle.compiler.proofs.Standing.{row_place, found_row, found_place, code_stands}
use Rattle.compiler.proofs.Steps.{prefix_self, steps_grow, steps_stay, path_end, path_at}
use Rattle.compiler.proofs.Programs.{Ends, program_ends}
use Rattle.compiler.proofs.Tagged.{first_memory, good_is_tagged}
use Rattle.compiler.proofs.Seen.{value_seen}

less_or_not : (a b : ℕ) → (a < b) ⊎ (b ≤ a)
less_or_not a zero = inr (omega arith)
less_or_not zero (suc b) = inl (omega arith)
less_or_not (suc a) (suc b) = elim (less_or_not a b) [ inl h ↦ inl (omega arith) | inr h ↦ inr (omega arith) ]

-- ---- the place of an error

record Found (symbols : List Symbol) (texts : List (List ℕ)) (o : Option SiteRow) (p : Place) : Type 0 where
  row : SiteRow
  is : o ≡ Some row
  place : SamePlace symbols texts row.place p
  text : row.text ≡ Some 0

same_place : (symbols : List Symbol) (texts : List (List ℕ)) (offset tail : ℕ) (p : Place) → Some (places.File offset tail) ≡ Some p → SamePlace symbols texts (site.File offset tail) p
same_place symbols texts offset tail (places.File offset' tail') h = (cc, cc)
same_place symbols texts offset tail (places.Prelude s) h = absurd (cc)

row_is : (symbols : List Symbol) (texts : List (List ℕ)) (sp : SitePlace) (n : Option ℕ) (p : Place) → row_place sp n ≡ Some p → SamePlace symbols texts sp p × (n ≡ Some 0)
row_is symbols texts (site.File offset tail) None p h = absurd (cc)
row_is symbols texts (site.File offset tail) (Some zero) p h = (same_place symbols texts offset tail p h, refl)
row_is symbols texts (site.File offset tail) (Some (suc n)) p h = absurd (cc)
row_is symbols texts (site.Prelude text) n p h = absurd (cc)

found_is : (symbols : List Symbol) (texts : List (List ℕ)) (o : Option SiteRow) (p : Place) → found_row o ≡ Some p → Found symbols texts o p
found_is symbols texts None p h = absurd (cc)
found_is symbols texts (Some r) p h =
    let k = row_is symbols texts r.place r.text p h in
    record { row = r; is = refl; place = k.0; text = k.1 }

-- ---- a run that is over

record Over (p : Program) (image : Content) (space : Space) (s : State) (o : Outcome Val) : Type 0 where
  j : ℕ
  e : Ending
  halts : Halts space first_memory j s e (output_of o)
  alike : EndsAlike p image first_memory e o
  pace : j ≤ 16 * (counts_of o).cost + 3

module _ (p : Program) (names : BeginsWithNames p.symbols) where
  abbrev Image : Content
  Image = image_of_forms p.forms

  abbrev Rows : List SiteRow
  Rows = site_rows 65536 (program_code p.forms)

  type_error : (v : Val) (t : Spec) (place : Place) (e : Ending) (l : Life) →
      ShowsType (found_place Rows) v t place e → EndsAlike p Image first_memory e (Fails (TypeError v t) place l)
  type_error v t place e l h =
      let f = found_is p.symbols Image.debug.texts (last_not_above h.pc Rows) place h.sited in
      let alike : SameError p Image first_memory 1 (word_of_value v) h.b h.c h.pc (TypeError v (Named name.Character)) place l.store = record {
        kind_is = refl;
        seen = (value_seen p.symbols names l.store v h.legal, tt);
        site = site_of f.row;
        site_is = ap (option_map site_of) f.is;
        text_is = subst (λ (n : Option ℕ). HasText Image.debug.texts n (Some character_text)) (sym f.text) refl;
        place_is = f.place;
      } in
      subst (λ (x : Ending). EndsAlike p Image first_memory x (Fails (TypeError v t) place l)) (sym h.is)
      (subst (λ (x : Spec). EndsAlike p Image first_memory (ending.Error 1 (word_of_value v) h.b h.c h.pc) (Fails (TypeError v x) place l)) (sym h.character) alike)

  shown_alike : (f : Fault) (place : Place) (e : Ending) (l : Life) → Shows (found_place Rows) f place e → EndsAlike p Image first_memory e (Fails f place l)
  shown_alike (TypeError v t) place e l h = type_error v t place e l h
  shown_alike (Index v n) place e l h = absurd h
  shown_alike (Overflow op a b) place e l h = absurd h
  shown_alike (ZeroDivide op a b) place e l h = absurd h
  shown_alike (Unbound s) place e l h = absurd h
  shown_alike (Undefined s) place e l h = absurd h
  shown_alike (Arguments f n) place e l h = absurd h
  shown_alike (Control v) place e l h = absurd h
  shown_alike EndOfFile place e l h = absurd h
  shown_alike (Simple a b) place e l h = absurd h

  over_of : (space : Space) (s : State) (o : Outcome Val) → Ends space (found_place Rows) first_memory s o → Over p Image space s o
  over_of space s (Gives v l) r = record { j = r.j; e = ending.Value (word_of_value v); halts = r.halts; alike = value_seen p.symbols names l.store v r.legal; pace = r.pace }
  over_of space s (Fails f place l) r = record { j = r.j; e = r.e; halts = r.halts; alike = shown_alike f place r.e l r.shows; pace = r.pace }
  over_of space s (NotYet l) r = absurd r
  over_of space s (Leaves x l) r = absurd r

  module _ (served : forms_served p.forms ≡ true) (near : All IsNear p.forms) (short : length (program_code p.forms) < 2 ^ 22) (heap stack : ℕ) (sizes : AreSizes heap stack) (input : List ℕ) (chars : AreChars input) where
    abbrev space : Space
    space = setup_space (setup Image heap stack)

    abbrev first : State
    first = first_state (setup Image heap stack) input

    ready : Ready first_memory first (start p input)
    ready = record {
      good = record { csp_is = refl; alloc_is = refl; nil_is = refl; others_are = (refl, (refl, (refl, (refl, (refl, (refl, (refl, (refl, (refl, (refl, (refl, (refl, tt)))))))))))); memory_is = refl; going = refl; value = Int (pos 0); legal = refl; a0_is = refl };
      output_is = refl;
      input_is = refl;
      chars = chars;
    }

    over : (n : ℕ) → Over p Image space first (evaluate p input n)
    unfolding everything
    over n = over_of space first (evaluate p input n)
        (program_ends space (found_place Rows) first_memory (call_to (table_of p) n n) n p.symbols (functions_count p.prelude) p.forms served first (start p input) ready refl
        (code_stands space (program_code p.forms) refl (program_encodes p.forms served near) (program_in_file p.forms served)) near short)

    -- each state is before the end, and still, or the last one
    before_or_end : (o : Outcome Val) (v : Over p Image space first o) (k : ℕ) →
        ((k < v.j) × Good first_memory (steps space k first)) ⊎ (steps space k first ≡ v.halts.t)
    before_or_end o v k = elim (less_or_not k v.j) [
      | inl h ↦ inl (h, path_at space (Good first_memory) v.j first v.halts.t v.halts.path k h)
      | inr h ↦ inr (
          let last : steps space v.j first ≡ v.halts.t = path_end space (Good first_memory) v.j first v.halts.t v.halts.path in
          let ended : (steps space v.j first).ending ≡ Some v.e = ap (λ (s : State). s.ending) (last ∙ v.halts.differs) in
          let stays = steps_stay space v.j (k - v.j) first v.e ended in
          let n : k - v.j + v.j ≡ k = omega arith in
          ap (λ (m : ℕ). steps space m first) (sym n) ∙ (stays ∙ last))
    ]

    end_output : (o : Outcome Val) (v : Over p Image space first o) → v.halts.t.output ≡ output_of o
    end_output o v = ap (λ (s : State). s.output) v.halts.differs ∙ v.halts.output_is

    end_memory : (o : Outcome Val) (v : Over p Image space first o) → v.halts.t.memory ≡ first_memory
    end_memory o v = ap (λ (s : State). s.memory) v.halts.differs ∙ v.halts.good.memory_is

    end_ending : (o : Outcome Val) (v : Over p Image space first o) → v.halts.t.ending ≡ Some v.e
    end_ending o v = ap (λ (s : State). s.ending) v.halts.differs

    tells_of : (e : Ending) (o : Outcome Val) (m : State) → m.memory ≡ first_memory → m.output ≡ output_of o → EndsAlike p Image first_memory e o → EndTells p Image heap stack m e o
    tells_of (ending.Value w) o m mem out h = (subst (λ (x : ℕ → ℕ). EndsAlike p Image x (ending.Value w) o) (sym mem) h, out)
    tells_of (ending.Error k a b c pc) o m mem out h = (subst (λ (x : ℕ → ℕ). EndsAlike p Image x (ending.Error k a b c pc) o) (sym mem) h, out)
    tells_of ending.Heap o m mem out h = absurd h
    tells_of ending.Stack o m mem out h = absurd h
    tells_of (ending.Trap pc) o m mem out h = tt

    shown_at : (o : Outcome Val) (v : Over p Image space first o) (k : ℕ) → ShownBy p Image heap stack (steps space k first) o
    shown_at o v k = elim (before_or_end o v k) [
      | inl h ↦ (
          let last : steps space v.j first ≡ v.halts.t = path_end space (Good first_memory) v.j first v.halts.t v.halts.path in
          let n : v.j - k + k ≡ v.j = (let l = h.0 in omega (arith, l)) in
          let out : (steps space (v.j - k + k) first).output ≡ output_of o =
          ap (λ (m : ℕ). (steps space m first).output) n ∙ (ap (λ (s : State). s.output) last ∙ end_output o v) in
          record {
            output = subst (λ (x : List ℕ). IsPrefix (steps space k first).output x) out (steps_grow space k (v.j - k) first);
            tells = subst (λ (x : Option Ending). OnEnd x (λ e. EndTells p Image heap stack (steps space k first) e o)) (sym h.1.going) tt;
          })
      | inr h ↦ subst (λ (s : State). ShownBy p Image heap stack s o) (sym h) (record {
        output = subst (λ (x : List ℕ). IsPrefix v.halts.t.output x) (end_output o v) (prefix_self v.halts.t.output);
        tells = subst (λ (x : Option Ending). OnEnd x (λ e. EndTells p Image heap stack v.halts.t e o)) (sym (end_ending o v))
            (tells_of v.e o v.halts.t (end_memory o v) (end_output o v) v.alike);
      })
    ]

    where_ended : (o : Outcome Val) (P : Type 0) → P → WhereEnded (ending_of o) P
    where_ended (Gives v l) P h = h
    where_ended (Fails f q l) P h = h
    where_ended (NotYet l) P h = tt
    where_ended (Leaves x l) P h = h

    reached_at : (o : Outcome Val) (v : Over p Image space first o) (k : ℕ) → v.j ≤ k → Reached p Image (steps space k first) o
    reached_at o v k long = elim (before_or_end o v k) [
      | inl h ↦ absurd (let l = h.0 in omega (arith, l))
      | inr h ↦ subst (λ (s : State). Reached p Image s o) (sym h) (record {
        output = subst (λ (x : List ℕ). IsPrefix x v.halts.t.output) (end_output o v) (prefix_self v.halts.t.output);
        ended = where_ended o (HasEnded p Image v.halts.t o)
            (v.e, (end_ending o v, subst (λ (x : ℕ → ℕ). EndsAlike p Image x v.e o) (sym (end_memory o v)) v.alike));
      })
    ]

    no_trap : (o : Outcome Val) (v : Over p Image space first o) (k pc : ℕ) → (steps space k first).ending ≢ Some (ending.Trap pc)
    no_trap o v k pc trap = elim (before_or_end o v k) [
      | inl h ↦ (let going = h.1.going in absurd (cc))
      | inr h ↦ (
          let is : Some v.e ≡ Some (ending.Trap pc) = sym (end_ending o v) ∙ (ap (λ (s : State). s.ending) (sym h) ∙ trap) in
          let same : v.e ≡ ending.Trap pc = cc in
          subst (λ (e : Ending). EndsAlike p Image first_memory e o) same v.alike)
    ]

    tagged_at : (o : Outcome Val) (v : Over p Image space first o) (k : ℕ) → WellTagged (layout Image heap stack) (steps space k first).registers (steps space k first).memory
    tagged_at o v k = elim (before_or_end o v k) [
      | inl h ↦ good_is_tagged (length Image.code) heap stack (steps space k first) h.1
      | inr h ↦ subst (λ (s : State). WellTagged (layout Image heap stack) s.registers s.memory) (sym (h ∙ v.halts.differs))
          (good_is_tagged (length Image.code) heap stack v.halts.last v.halts.good)
    ]

  pub image_meets : forms_served p.forms ≡ true → All IsNear p.forms → length (program_code p.forms) < 2 ^ 22 → Meets p Image
  image_meets served near short = record {
    shows = λ heap stack sizes input chars k. shown_at served near short heap stack sizes input chars (evaluate p input (fuel_of p k)) (over served near short heap stack sizes input chars (fuel_of p k)) k;
    keeps_pace = λ heap stack sizes input chars n.
        (let v = over served near short heap stack sizes input chars n in
        inr (reached_at served near short heap stack sizes input chars (evaluate p input n) v (64 * work (counts_of (evaluate p input n)) + 1000) (let l = v.pace in omega (arith, l))));
    never_traps = λ heap stack sizes input chars k pc. no_trap served near short heap stack sizes input chars (evaluate p input 0) (over served near short heap stack sizes input chars 0) k pc;
    tagged = λ heap stack sizes input chars k. tagged_at served near short heap stack sizes input chars (evaluate p input 0) (over served near short heap stack sizes input chars 0) k;
  }
