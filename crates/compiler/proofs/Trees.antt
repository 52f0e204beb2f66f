-- The code of every served tree does what the tree means.
use Rattle.std.proofs.Common.{refl, sym, ap, subst, ◌∙◌, arith, length-append}
use Rattle.std.specs.Prelude.{◌≡◌, ℕ, suc, ◌+◌, ◌*◌, true, false, ◌&&◌, [], ◌∷◌, ◌++◌, length, Option}
use Rattle.lisp_base.specs.declared.values.Val.{Val}
use Rattle.lisp_base.specs.declared.values.Place.{Place}
use Rattle.lisp_base.specs.declared.primitives.Primitive.TheVariants as op
use Rattle.lisp_base.specs.Spec.{Spec}
use Rattle.lisp_base.specs.Sort.{nil}
use Rattle.core_form.specs.Tree.{Core, Quote, If, Progn, Primitive, The, Cores, no_core, core}
use Rattle.core_form.specs.State.{State as Life, first_of_values}
use Rattle.core_form.specs.Force.{Vals, one}
use Rattle.core_form.specs.Step.{Around, at_word}
use Rattle.core_form.specs.Run.{perform}
use Rattle.core_form.specs.Eval.{Call, eval, progn}
use Rattle.core_form.specs.Everything.{everything}
use Rattle.rv_isa.specs.Machine.{Space, State}
use Rattle.compiler.specs.Code.{code_of, sequence_of, is_served, are_served, is_nil_form, are_nil_forms, is_character_type, is_file}
use Rattle.compiler.proofs.Paths.{Stand, stands_first, stands_then}
use Rattle.compiler.proofs.Constants.{nil_comes}
use Rattle.compiler.proofs.Tracks.{Came, Tracks, Does, bound, arrived, as_ready}
use Rattle.compiler.proofs.Leaves.{spent, nil_value, visited, constant_tracks}
use Rattle.compiler.proofs.Nodes.{and_left, and_right, character_type, ready_spent, NodeDoes, the_node, write_node, read_node, if_node}

-- a quoted NIL, and the first of some
nil_form : (e : Core) → is_nil_form e ≡ true → (p : Place) × (e ≡ Quote p nil)
nil_form (Quote p v) h = (p, ap (λ (x : Val). Quote p x) (nil_value v h))
nil_form _ h = absurd (cc)

first_nil : (n : ℕ) (es : Cores) → are_nil_forms (suc n) es ≡ true → (p : Place) × (rest : Cores) × (es ≡ core (Quote p nil) rest) × (are_nil_forms n rest ≡ true)
first_nil n no_core h = absurd (cc)
first_nil n (core e es) h =
    let f = nil_form e (and_left (is_nil_form e) (are_nil_forms n es) h) in
    (f.0, es, ap (λ (x : Core). core x es) f.1, and_right (is_nil_form e) (are_nil_forms n es) h)

no_more : (es : Cores) → are_nil_forms 0 es ≡ true → es ≡ no_core
no_more no_core h = refl
no_more (core e es) h = absurd (cc)

module _ (space : Space) (places : ℕ → Option Place) (m0 : ℕ → ℕ) (call : Call) (limit : ℕ) where
  abbrev SequenceDoes : Cores → Type 0
  SequenceDoes es = (cx : Around) → Does space places m0 16 (sequence_of es) (progn call limit cx es)

  quote_node : (p : Place) (v : Val) → is_served (Quote p v) ≡ true → NodeDoes space places m0 call limit (Quote p v)
  unfolding everything
  quote_node p v h cx s l before r st far near pace =
      visited space places m0 cx (perform (one v)) s l (s.pc + 4 * length (code_of (Quote p v))) before
      (constant_tracks space places m0 v h s (spent l) before (ready_spent m0 s l r) st far near (omega arith))

  progn_node : (p : Place) (es : Cores) → SequenceDoes es → NodeDoes space places m0 call limit (Progn p es)
  unfolding everything
  progn_node p es ih cx s l before r st far near pace =
      visited space places m0 cx (progn call limit cx es) s l (s.pc + 4 * length (sequence_of es)) before
      (ih cx s (spent l) before (ready_spent m0 s l r) st far near (omega arith))

  -- READ-CHAR of three quoted NILs
  read_of : (p : Place) (es : Cores) → are_nil_forms 3 es ≡ true → NodeDoes space places m0 call limit (Primitive p op.ReadChar es)
  read_of p es h =
      let a = first_nil 2 es h in
      let b = first_nil 1 a.1 a.3 in
      let c = first_nil 0 b.1 b.3 in
      let e : es ≡ core (Quote a.0 nil) (core (Quote b.0 nil) (core (Quote c.0 nil) no_core)) =
      a.2 ∙ ap (λ (x : Cores). core (Quote a.0 nil) x) (b.2 ∙ ap (λ (x : Cores). core (Quote b.0 nil) x) (c.2 ∙ ap (λ (x : Cores). core (Quote c.0 nil) x) (no_more c.1 c.3))) in
      subst (λ (x : Cores). NodeDoes space places m0 call limit (Primitive p op.ReadChar x)) (sym e) (read_node space places m0 call limit p a.0 b.0 c.0)

  no_sequence : SequenceDoes no_core
  unfolding everything
  no_sequence cx s l before r st far near pace =
      arrived space places m0 first_of_values 1 s (s.pc + 4) before (nil ∷ []) l (as_ready space places m0 1 s (s.pc + 4) nil l r (nil_comes space places m0 s r.good st)) r.chars (omega arith)

  one_more : (e f : Core) (es : Cores) → NodeDoes space places m0 call limit e → SequenceDoes (core f es) → SequenceDoes (core e (core f es))
  unfolding everything
  one_more e f es ie is cx s l before r st far near pace =
      let code = code_of e in
      let rest = sequence_of (core f es) in
      let k : length (code ++ rest) ≡ length code + length rest = length-append code rest in
      let mid = s.pc + 4 * length code in
      let pc = s.pc + 4 * length (code ++ rest) in
      bound space places m0 first_of_values first_of_values s mid pc before 16 (eval call limit (at_word true cx) e l) (λ (vs : Vals). progn call limit cx (core f es))
      (ie (at_word true cx) s l (before + 16) r (stands_first space places s.pc code rest st) (omega (arith, k)) (omega (arith, k)) (omega arith))
      (λ (t : State) (j : ℕ) (vs : Vals) (l' : Life) (came : Came m0 t mid (first_of_values vs) (j + (before + 16)) l').
      let at : t.pc + 4 * length rest ≡ pc = (let a = came.at in omega (arith, k, a)) in
      let st' = subst (λ (n : ℕ). Stand space places n rest) (sym came.at) (stands_then space places s.pc code rest st) in
      subst (λ (n : ℕ). Tracks space places m0 first_of_values t n (j + before) (progn call limit cx (core f es) l')) at
      (is cx t l' (j + before) came.ready st' (let a = came.at in omega (arith, k, a)) (omega (arith, k)) (let a = came.pace in omega (arith, a))))

  last_of : (e : Core) → NodeDoes space places m0 call limit e → SequenceDoes (core e no_core)
  unfolding everything
  last_of e ie cx s l before r st far near pace = ie cx s l before r st far near (omega arith)

  mutual
    pub node_does : (e : Core) → is_served e ≡ true → NodeDoes space places m0 call limit e
    node_does (Quote p v) h = quote_node p v h
    node_does (If p a b c) h =
        let h' = and_right (is_served a) (is_served b && is_served c) h in
        if_node space places m0 call limit p a b c
        (node_does a (and_left (is_served a) (is_served b && is_served c) h))
        (node_does b (and_left (is_served b) (is_served c) h'))
        (node_does c (and_right (is_served b) (is_served c) h'))
    node_does (Progn p es) h = progn_node p es (sequence_does es h)
    node_does (Primitive p op.ReadChar es) h = read_of p es h
    node_does (Primitive p op.WriteChar no_core) h =
        let h' = and_right (is_file p) false h in absurd (cc)
    node_does (Primitive p op.WriteChar (core e no_core)) h =
        write_node space places m0 call limit p e (node_does e (and_left (is_served e) true (and_right (is_file p) (is_served e && true) h)))
    node_does (Primitive p op.WriteChar (core e (core f es))) h =
        let h' = and_right (is_file p) false h in absurd (cc)
    node_does (Primitive p q es) h = absurd (cc)
    node_does (The p t e) h =
        let h' = and_right (is_file p) (is_character_type t && is_served e) h in
        subst (λ (x : Spec). NodeDoes space places m0 call limit (The p x e)) (sym (character_type t (and_left (is_character_type t) (is_served e) h')))
        (the_node space places m0 call limit p e (node_does e (and_right (is_character_type t) (is_served e) h')))
    node_does _ h = absurd (cc)

    pub sequence_does : (es : Cores) → are_served es ≡ true → SequenceDoes es
    sequence_does no_core h = no_sequence
    sequence_does (core e no_core) h = last_of e (node_does e (and_left (is_served e) true h))
    sequence_does (core e (core f es)) h =
        one_more e f es (node_does e (and_left (is_served e) (are_served (core f es)) h)) (sequence_does (core f es) (and_right (is_served e) (are_served (core f es)) h))
