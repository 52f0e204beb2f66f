-- The code of each form does what the form means.
use Rattle.std.proofs.Common.{refl, sym, ap, subst, ◌∙◌, arith, length-append}
use Rattle.std.specs.Prelude.{◌≡◌, ℕ, ◌+◌, ◌*◌, ◌^◌, ◌<◌, ◌≤◌, Bool, true, false, not, ◌&&◌, if◌then◌else◌, [], ◌∷◌, ◌++◌, length, Option}
use Rattle.lisp_base.specs.declared.values.Val.{Val}
use Rattle.lisp_base.specs.declared.values.Val.TheVariants.{Int, Char, Sym, Ref}
use Rattle.lisp_base.specs.declared.values.Place.{Place}
use Rattle.lisp_base.specs.declared.primitives.Primitive.TheVariants as op
use Rattle.lisp_base.specs.declared.types.TypeName.{TypeName}
use Rattle.lisp_base.specs.declared.types.TypeName.TheVariants as name
use Rattle.lisp_base.specs.Spec.{Spec, Named, Integer, Signed, Unsigned, Mod, Member, Eql, And, Or, Not}
use Rattle.lisp_base.specs.Membership.{is_symbol_number}
use Rattle.lisp_base.specs.Sort.{nil, same}
use Rattle.core_form.specs.Tree.{Core, Quote, If, Primitive, The, no_core, core}
use Rattle.core_form.specs.State.{State as Life, first_of_values}
use Rattle.core_form.specs.Force.{Vals, is_true, check}
use Rattle.core_form.specs.Primitives.{primitive}
use Rattle.core_form.specs.Step.{Around, inside, at_word, plain}
use Rattle.core_form.specs.Run.{Outcome, Gives, Fails, NotYet, Leaves, Run, and_then, ◌>>=◌, ◌>>◌, perform, pure}
use Rattle.core_form.specs.Eval.{Call, eval, args}
use Rattle.core_form.specs.Everything.{everything}
use Rattle.rv_isa.specs.Machine.{Space, State}
use Rattle.compiler.specs.Words.{word_of_value}
use Rattle.compiler.specs.Templates.{check_slots, write_slots, test_slots, skip}
use Rattle.compiler.specs.Code.{code_of, is_character_type, is_character_name}
use Rattle.compiler.proofs.Paths.{Stand, stands_first, stands_then}
use Rattle.compiler.proofs.Calm.{Good, Legal, Comes}
use Rattle.compiler.proofs.Jumps.{test_passes, test_fails, skip_comes}
use Rattle.compiler.proofs.Tracks.{Ready, Came, Tracks, Does, led, bound, trailing, as_ready}
use Rattle.compiler.proofs.Leaves.{spent, visited, read_tracks}
use Rattle.compiler.proofs.Characters.{checked, written}

pub and_left : (a b : Bool) → (a && b) ≡ true → a ≡ true
and_left true b h = refl
and_left false b h = h

pub and_right : (a b : Bool) → (a && b) ≡ true → b ≡ true
and_right true b h = h
and_right false b h = absurd (cc)

character_name : (n : TypeName) → is_character_name n ≡ true → n ≡ name.Character
character_name name.Character h = refl
character_name _ h = absurd (cc)

pub character_type : (t : Spec) → is_character_type t ≡ true → t ≡ Named name.Character
character_type (Named n) h = ap Named (character_name n h)
character_type (Integer lo hi) h = absurd (cc)
character_type (Signed bits) h = absurd (cc)
character_type (Unsigned bits) h = absurd (cc)
character_type (Mod n) h = absurd (cc)
character_type (Member items) h = absurd (cc)
character_type (Eql item) h = absurd (cc)
character_type (And ts) h = absurd (cc)
character_type (Or ts) h = absurd (cc)
character_type (Not t) h = absurd (cc)

same_nil : (v : Val) → same v nil ≡ is_symbol_number 0 v
same_nil (Int z) = refl
same_nil (Char c) = refl
same_nil (Sym s) = refl
same_nil (Ref o) = refl

not_true : (b : Bool) → not b ≡ true → b ≡ false
not_true true h = sym h
not_true false h = refl

not_false : (b : Bool) → not b ≡ false → b ≡ true
not_false true h = refl
not_false false h = sym h

-- what stands between a part and what is done with its first value
first_then : (o : Outcome Vals) (f : Val → Run Vals) → and_then (and_then o (λ (vs : Vals). pure (first_of_values vs))) f ≡ and_then o (λ (vs : Vals). f (first_of_values vs))
unfolding everything
first_then (Gives vs l) f = refl
first_then (Fails x p l) f = refl
first_then (NotYet l) f = refl
first_then (Leaves x l) f = refl

one_then : (o : Outcome Vals) (f : Vals → Run Vals) →
    and_then (and_then (and_then o (λ (vs : Vals). pure (first_of_values vs))) (λ (v : Val). pure [] >>= (λ (vs : Vals). pure (v ∷ vs)))) f ≡
    and_then o (λ (vs : Vals). f (first_of_values vs ∷ []))
unfolding everything
one_then (Gives vs l) f = refl
one_then (Fails x p l) f = refl
one_then (NotYet l) f = refl
one_then (Leaves x l) f = refl

pub ready_spent : (m0 : ℕ → ℕ) (s : State) (l : Life) → Ready m0 s l → Ready m0 s (spent l)
ready_spent m0 s l r = record { good = r.good; output_is = r.output_is; input_is = r.input_is; chars = r.chars }

module _ (space : Space) (places : ℕ → Option Place) (m0 : ℕ → ℕ) (call : Call) (limit : ℕ) where
  abbrev pub NodeDoes : Core → Type 0
  NodeDoes e = (cx : Around) → Does space places m0 0 (code_of e) (eval call limit cx e)

  pub the_node : (p : Place) (e : Core) → NodeDoes e → NodeDoes (The p (Named name.Character) e)
  unfolding everything
  the_node p e ih cx s l before r st far near pace =
      let code = code_of e in
      let k : length (code ++ check_slots p) ≡ length code + 6 = length-append code (check_slots p) in
      let mid = s.pc + 4 * length code in
      let pc = s.pc + 4 * length (code ++ check_slots p) in
      let next : Vals → Run Vals = λ (vs : Vals). perform (check cx.force p (Named name.Character) (first_of_values vs)) >> pure vs in
      visited space places m0 cx (eval call limit (at_word cx.text.word cx) e >>= next) s l pc before
      (bound space places m0 first_of_values first_of_values s mid pc before 16 (eval call limit (at_word cx.text.word cx) e (spent l)) next
      (ih (at_word cx.text.word cx) s (spent l) (before + 16) (ready_spent m0 s l r) (stands_first space places s.pc code (check_slots p) st) (omega (arith, k)) (omega (arith, k)) (omega arith))
      (λ (t : State) (j : ℕ) (vs : Vals) (l' : Life) (came : Came m0 t mid (first_of_values vs) (j + (before + 16)) l').
      let at : t.pc + 24 ≡ pc = (let a = came.at in omega (arith, k, a)) in
      let st' : Stand space places t.pc (check_slots p) =
      subst (λ (n : ℕ). Stand space places n (check_slots p)) (sym came.at) (stands_then space places s.pc code (check_slots p) st) in
      let low : t.pc < 2 ^ 30 = (let a = came.at in omega (arith, k, a)) in
      let pace' : j + before + 16 ≤ 16 * l'.counts.cost = (let a = came.pace in omega (arith, a)) in
      subst (λ (n : ℕ). Tracks space places m0 first_of_values t n (j + before) ((perform (check cx.force p (Named name.Character) (first_of_values vs)) >> pure vs) l')) at
      (checked space places m0 cx p (first_of_values vs) vs refl came.legal t l' (j + before) came.ready came.a0 st' low pace')))

  pub write_node : (p : Place) (e : Core) → NodeDoes e → NodeDoes (Primitive p op.WriteChar (core e no_core))
  unfolding everything
  write_node p e ih cx s l before r st far near pace =
      let code = code_of e in
      let rest = check_slots p ++ write_slots in
      let k : length (code ++ rest) ≡ length code + 9 = length-append code rest in
      let mid = s.pc + 4 * length code in
      let pc = s.pc + 4 * length (code ++ rest) in
      let act : Vals → Run Vals = λ (vs : Vals). perform (primitive cx.force p op.WriteChar vs) in
      let next : Vals → Run Vals = λ (vs : Vals). act (first_of_values vs ∷ []) in
      let o = eval call limit (at_word false cx) e (spent l) in
      visited space places m0 cx (args call limit (at_word false cx) (core e no_core) >>= act) s l pc before
      (subst (λ (x : Outcome Vals). Tracks space places m0 first_of_values s pc before x) (sym (one_then o act))
      (bound space places m0 first_of_values first_of_values s mid pc before 16 o next
      (ih (at_word false cx) s (spent l) (before + 16) (ready_spent m0 s l r) (stands_first space places s.pc code rest st) (omega (arith, k)) (omega (arith, k)) (omega arith))
      (λ (t : State) (j : ℕ) (vs : Vals) (l' : Life) (came : Came m0 t mid (first_of_values vs) (j + (before + 16)) l').
      let at : t.pc + 36 ≡ pc = (let a = came.at in omega (arith, k, a)) in
      let st' : Stand space places t.pc rest =
      subst (λ (n : ℕ). Stand space places n rest) (sym came.at) (stands_then space places s.pc code rest st) in
      let low : t.pc < 2 ^ 30 = (let a = came.at in omega (arith, k, a)) in
      let pace' : j + before + 16 ≤ 16 * l'.counts.cost = (let a = came.pace in omega (arith, a)) in
      subst (λ (n : ℕ). Tracks space places m0 first_of_values t n (j + before) (next vs l')) at
      (written space places m0 cx p (first_of_values vs) came.legal t l' (j + before) came.ready came.a0 st' low pace'))))

  -- three NILs as arguments, then READ-CHAR
  pub read_node : (p p1 p2 p3 : Place) →
      NodeDoes (Primitive p op.ReadChar (core (Quote p1 nil) (core (Quote p2 nil) (core (Quote p3 nil) no_core))))
  unfolding everything
  read_node p p1 p2 p3 cx s l before r st far near pace =
      let es = core (Quote p1 nil) (core (Quote p2 nil) (core (Quote p3 nil) no_core)) in
      visited space places m0 cx (args call limit (at_word false cx) es >>= (λ (vs : Vals). perform (primitive cx.force p op.ReadChar vs))) s l (s.pc + 32) before
      (read_tracks space places m0 cx.force p s _ before l.input refl r.chars
      (record { good = r.good; output_is = r.output_is; input_is = r.input_is; chars = r.chars }) st (omega arith) (omega arith))

  -- the rest of an IF, where its first part has given a value
  arms : (b c : Core) → NodeDoes b → NodeDoes c → (cx : Around) (v : Val) (t : State) (l : Life) (before : ℕ) → Ready m0 t l → t.registers 10 ≡ word_of_value v → Legal v →
      Stand space places t.pc (test_slots (length (code_of b)) ++ (code_of b ++ (skip (length (code_of c)) ∷ code_of c))) →
      t.pc + 4 * (length (code_of b) + length (code_of c) + 3) < 2 ^ 30 → 4 * (length (code_of b) + length (code_of c) + 3) < 2 ^ 20 → before + 16 ≤ 16 * l.counts.cost →
      (x : Bool) → is_true v ≡ x →
      Tracks space places m0 first_of_values t (t.pc + 4 * (length (code_of b) + length (code_of c) + 3)) before ((if x then eval call limit (plain cx) b else eval call limit (plain cx) c) l)
  arms b c ib ic cx v t l before r a0 legal st far near pace true h =
      let n = length (code_of b) in
      let test = stands_first space places t.pc (test_slots n) (code_of b ++ (skip (length (code_of c)) ∷ code_of c)) st in
      let rest : Stand space places (t.pc + 8) (code_of b ++ (skip (length (code_of c)) ∷ code_of c)) =
      stands_then space places t.pc (test_slots n) (code_of b ++ (skip (length (code_of c)) ∷ code_of c)) st in
      let k = as_ready space places m0 1 t (t.pc + 8) v l r (test_passes space places m0 t v n r.good a0 legal (omega arith) (same_nil v ∙ not_true (is_symbol_number 0 v) h) test) in
      let rest' = subst (λ (n : ℕ). Stand space places n (code_of b ++ (skip (length (code_of c)) ∷ code_of c))) (sym k.pc_is) rest in
      let pc = t.pc + 4 * (n + length (code_of c) + 3) in
      let mid = k.t.pc + 4 * n in
      let o = eval call limit (plain cx) b l in
      let leap = stands_then space places k.t.pc (code_of b) (skip (length (code_of c)) ∷ code_of c) rest' in
      led space places m0 first_of_values 1 t k.t pc before o k.path
      (trailing space places m0 first_of_values 1 k.t mid pc (1 + before) o
      (ib (plain cx) k.t l (1 + before + 1) (record { good = k.good; output_is = k.output_is; input_is = k.input_is; chars = r.chars })
      (stands_first space places k.t.pc (code_of b) (skip (length (code_of c)) ∷ code_of c) rest')
      (let e = k.pc_is in omega (arith, e)) (omega arith) (omega arith))
      (λ (u : State) (w : Val) (good : Good m0 u) (at : u.pc ≡ mid) (a0' : u.registers 10 ≡ word_of_value w) (legal' : Legal w).
      let one : Stand space places mid (skip (length (code_of c)) ∷ []) = (leap.0, leap.1, tt) in
      let one' : Stand space places u.pc (skip (length (code_of c)) ∷ []) = subst (λ (n : ℕ). Stand space places n (skip (length (code_of c)) ∷ [])) (sym at) one in
      let end : u.pc + 4 * (length (code_of c) + 1) ≡ pc = (let e = k.pc_is in omega (arith, e, at)) in
      subst (λ (n : ℕ). Comes space m0 1 u n w u.output u.input) end
      (skip_comes space places m0 u w (length (code_of c)) good a0' legal' (let e = k.pc_is in omega (arith, e, at)) (omega arith) one')))
  arms b c ib ic cx v t l before r a0 legal st far near pace false h =
      let n = length (code_of b) in
      let test = stands_first space places t.pc (test_slots n) (code_of b ++ (skip (length (code_of c)) ∷ code_of c)) st in
      let rest : Stand space places (t.pc + 8) (code_of b ++ (skip (length (code_of c)) ∷ code_of c)) =
      stands_then space places t.pc (test_slots n) (code_of b ++ (skip (length (code_of c)) ∷ code_of c)) st in
      let k = as_ready space places m0 2 t (t.pc + (8 + 4 * (n + 1))) v l r (test_fails space places m0 t v n r.good a0 legal (omega arith) (omega arith) (same_nil v ∙ not_false (is_symbol_number 0 v) h) test) in
      let last = (stands_then space places (t.pc + 8) (code_of b) (skip (length (code_of c)) ∷ code_of c) rest).2 in
      let at : t.pc + 8 + 4 * n + 4 ≡ k.t.pc = (let e = k.pc_is in omega (arith, e)) in
      let last' = subst (λ (n : ℕ). Stand space places n (code_of c)) at last in
      let pc = t.pc + 4 * (n + length (code_of c) + 3) in
      let o = eval call limit (plain cx) c l in
      let end : k.t.pc + 4 * length (code_of c) ≡ pc = (let e = k.pc_is in omega (arith, e)) in
      led space places m0 first_of_values 2 t k.t pc before o k.path
      (subst (λ (n : ℕ). Tracks space places m0 first_of_values k.t n (2 + before) o) end
      (ic (plain cx) k.t l (2 + before) (record { good = k.good; output_is = k.output_is; input_is = k.input_is; chars = r.chars })
      last' (let e = k.pc_is in omega (arith, e)) (omega arith) (omega arith)))

  pub if_node : (p : Place) (a b c : Core) → NodeDoes a → NodeDoes b → NodeDoes c → NodeDoes (If p a b c)
  unfolding everything
  if_node p a b c ia ib ic cx s l before r st far near pace =
      let code = code_of a in
      let rest = test_slots (length (code_of b)) ++ (code_of b ++ (skip (length (code_of c)) ∷ code_of c)) in
      let n = length (code_of b) + length (code_of c) + 3 in
      let k1 : length rest ≡ n = (let e = length-append (code_of b) (skip (length (code_of c)) ∷ code_of c) in omega (arith, e)) in
      let k : length (code ++ rest) ≡ length code + n = length-append code rest ∙ ap (λ (x : ℕ). length code + x) k1 in
      let mid = s.pc + 4 * length code in
      let pc = s.pc + 4 * length (code ++ rest) in
      let pick : Val → Run Vals = λ (v : Val). if is_true v then eval call limit (plain cx) b else eval call limit (plain cx) c in
      let next : Vals → Run Vals = λ (vs : Vals). pick (first_of_values vs) in
      let o = eval call limit (inside cx) a (spent l) in
      visited space places m0 cx (eval call limit (inside cx) a >>= (λ (vs : Vals). pure (first_of_values vs)) >>= pick) s l pc before
      (subst (λ (x : Outcome Vals). Tracks space places m0 first_of_values s pc before x) (sym (first_then o pick))
      (bound space places m0 first_of_values first_of_values s mid pc before 16 o next
      (ia (inside cx) s (spent l) (before + 16) (ready_spent m0 s l r) (stands_first space places s.pc code rest st) (omega (arith, k)) (omega (arith, k)) (omega arith))
      (λ (t : State) (j : ℕ) (vs : Vals) (l' : Life) (came : Came m0 t mid (first_of_values vs) (j + (before + 16)) l').
      let at : t.pc + 4 * n ≡ pc = (let e = came.at in omega (arith, k, e)) in
      let st' : Stand space places t.pc rest =
      subst (λ (n : ℕ). Stand space places n rest) (sym came.at) (stands_then space places s.pc code rest st) in
      let low : t.pc + 4 * n < 2 ^ 30 = (let e = came.at in omega (arith, k, e)) in
      let near' : 4 * n < 2 ^ 20 = omega (arith, k) in
      let pace' : j + before + 16 ≤ 16 * l'.counts.cost = (let e = came.pace in omega (arith, e)) in
      subst (λ (n : ℕ). Tracks space places m0 first_of_values t n (j + before) (next vs l')) at
      (arms b c ib ic cx (first_of_values vs) t l' (j + before) came.ready came.a0 came.legal st' low near' pace' (is_true (first_of_values vs)) refl))))
