-- How much code the nodes of forms become: nine instructions a node are enough.
use Rattle.std.proofs.Common.{arith, length-append}
use Rattle.std.specs.Prelude.{◌≡◌, ℕ, zero, suc, ◌+◌, ◌*◌, ◌^◌, ◌<◌, ◌≤◌, All, List, [], ◌∷◌, ◌++◌, length}
use Rattle.lisp_base.specs.declared.values.Val.{Val}
use Rattle.lisp_base.specs.declared.values.Val.TheVariants.{Int, Char, Sym, Ref}
use Rattle.lisp_base.specs.declared.values.Place.{Place}
use Rattle.lisp_base.specs.declared.primitives.Primitive.{Primitive as Operation}
use Rattle.lisp_base.specs.declared.primitives.Primitive.TheVariants as op
use Rattle.lisp_base.specs.Sort.{number_of}
use Rattle.core_form.specs.Tree.{Core, Quote, If, Progn, Primitive, The, Cores, no_core, core, node_count, node_counts, Top}
use Rattle.compiler.specs.declared.slot.Slot.{Slot}
use Rattle.compiler.specs.Templates.{check_slots, write_slots, test_slots, skip, end_slots, if_slots}
use Rattle.compiler.specs.Code.{code_of, sequence_of, codes_of, constant_slots, symbol_slots, operation_slots, forms_code, program_code}
use Rattle.compiler.specs.Compiled.{IsNear}

-- ---- the first of some forms, and the others

pub near_first : (t : Top) (ts : List Top) → All IsNear (t ∷ ts) → IsNear t
near_first t ts h = h 0 t (omega arith)

pub near_rest : (t : Top) (ts : List Top) → All IsNear (t ∷ ts) → All IsNear ts
near_rest t ts h k d lt = h (suc k) d (omega (arith, lt))

-- ---- one form

symbol_size : (n : ℕ) → length (symbol_slots n) ≤ 9
symbol_size zero = omega arith
symbol_size (suc n) = omega arith

constant_size : (v : Val) → length (constant_slots v) ≤ 9
constant_size (Int z) = omega arith
constant_size (Char n) = omega arith
constant_size (Sym s) = symbol_size (number_of s)
constant_size (Ref o) = omega arith

if_size : (a b d : List Slot) → length (if_slots a b d) ≡ length a + (length b + length d) + 3
if_size a b d =
    let k1 = length-append b (skip (length d) ∷ d) in
    let k2 = length-append a (test_slots (length b) ++ (b ++ (skip (length d) ∷ d))) in
    omega (arith, k1, k2)

operation_size : (p : Place) (q : Operation) (code : List Slot) → length (operation_slots p q code) ≤ 9 + length code
operation_size p op.ReadChar code = omega arith
operation_size p op.WriteChar code = let k = length-append code (check_slots p ++ write_slots) in omega (arith, k)
operation_size p _ code = omega arith

mutual
  pub code_size : (e : Core) → length (code_of e) ≤ 9 * node_count e
  code_size (Quote p v) = let k = constant_size v in omega (arith, k)
  code_size (If p a b c) =
      let x = code_size a in
      let y = code_size b in
      let z = code_size c in
      let s = if_size (code_of a) (code_of b) (code_of c) in
      omega (arith, x, y, z, s)
  code_size (Progn p es) = let k = sequence_size es in omega (arith, k)
  code_size (Primitive p q es) =
      let x = codes_size es in
      let k = operation_size p q (codes_of es) in
      omega (arith, x, k)
  code_size (The p t e) =
      let x = code_size e in
      let k = length-append (code_of e) (check_slots p) in
      omega (arith, x, k)
  code_size _ = omega arith

  sequence_size : (es : Cores) → length (sequence_of es) ≤ 1 + 9 * node_counts es
  sequence_size no_core = omega arith
  sequence_size (core e no_core) = let x = code_size e in omega (arith, x)
  sequence_size (core e (core f es)) =
      let x = code_size e in
      let y = sequence_size (core f es) in
      let k = length-append (code_of e) (sequence_of (core f es)) in
      omega (arith, x, y, k)

  codes_size : (es : Cores) → length (codes_of es) ≤ 9 * node_counts es
  codes_size no_core = omega arith
  codes_size (core e no_core) = let x = code_size e in omega (arith, x)
  codes_size (core e (core f es)) =
      let x = code_size e in
      let y = codes_size (core f es) in
      let k = length-append (code_of e) (codes_of (core f es)) in
      omega (arith, x, y, k)

pub is_near : (t : Top) → node_count t.core ≤ 20000 → IsNear t
is_near t h =
    let k = code_size t.core in
    let near : 4 * length (code_of t.core) < 2 ^ 20 = omega (arith, h, k) in
    near

-- ---- forms together

abbrev pub all_nodes : List Top → ℕ
all_nodes [] = 0
all_nodes (t ∷ ts) = node_count t.core + all_nodes ts

pub forms_size : (ts : List Top) → length (forms_code ts) ≤ 9 * all_nodes ts
forms_size [] = omega arith
forms_size (t ∷ ts) =
    let x = code_size t.core in
    let y = forms_size ts in
    let k = length-append (code_of t.core) (forms_code ts) in
    omega (arith, x, y, k)

pub is_short : (ts : List Top) → all_nodes ts ≤ 400000 → length (program_code ts) < 2 ^ 22
is_short ts h =
    let k = length-append (forms_code ts) end_slots in
    let s = forms_size ts in
    omega (arith, h, k, s)
