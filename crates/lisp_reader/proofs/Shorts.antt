-- Each token adds an element to one level at most.
use Rattle.std.proofs.Common.{◌≡◌, ◌+◌, ◌≤◌, ℕ, List, [], ◌∷◌, ◌++◌, length, ap, subst, arith, Option, Some, None, Result, Ok, Err, length-append}
use Rattle.lisp_base.specs.declared.values.Val.{Val}
use Rattle.lisp_reader.specs.declared.fault.ReadKind.{ReadKind}
use Rattle.lisp_reader.specs.declared.forms.TopRead.{TopRead}
use Rattle.lisp_reader.specs.Tokens.{Placed, Token, opening, vector, closing, dot, prefix, atom, bad}
use Rattle.lisp_reader.specs.Building.{Stock, atom_value, prefix_value}
use Rattle.lisp_reader.specs.Reading.{Refusal, fault}
use Rattle.lisp_reader.specs.Machine.{Level, list_level, dot_level, tail_level, vector_level, prefix_level, World, delivered, closed, dotting, delivered_if, moved, stepped, step, shapes_of}
use Rattle.lisp_reader.specs.Held.{AllShort}

pub higher : (m n : ℕ) (ls : List Level) → m ≤ n → AllShort m ls → AllShort n ls
higher m n [] h s = tt
higher m n (l ∷ ls) h s = (omega (arith, s.0), higher m n ls h s.1)

delivered_short : (n : ℕ) (ls : List Level) (tops : List TopRead) (at : ℕ) (v : Val × Stock) → AllShort n ls → AllShort (n + 1) (delivered ls tops at v).levels
unfolding delivered
delivered_short n [] tops at v s = tt
delivered_short n (list_level o vs ∷ ls) tops at v s = (let e : length (vs ++ v.0 ∷ []) ≡ length vs + 1 = length-append vs (v.0 ∷ []) in omega (arith, s.0, e), higher n (n + 1) ls (omega arith) s.1)
delivered_short n (dot_level o vs ∷ ls) tops at v s = (omega (arith, s.0), higher n (n + 1) ls (omega arith) s.1)
delivered_short n (tail_level o vs u ∷ ls) tops at v s = (omega (arith, s.0), higher n (n + 1) ls (omega arith) s.1)
delivered_short n (vector_level o vs ∷ ls) tops at v s = (let e : length (vs ++ v.0 ∷ []) ≡ length vs + 1 = length-append vs (v.0 ∷ []) in omega (arith, s.0, e), higher n (n + 1) ls (omega arith) s.1)
delivered_short n (prefix_level o f ∷ ls) tops at v s = delivered_short n ls tops o (prefix_value o f v) s.1

closed_short : (n : ℕ) (ls : List Level) (tops : List TopRead) (s : Stock) → AllShort n ls → AllShort (n + 1) (closed ls tops s).levels
unfolding closed
closed_short n [] tops st s = tt
closed_short n (list_level o vs ∷ ls) tops st s = delivered_short n ls tops o _ s.1
closed_short n (dot_level o vs ∷ ls) tops st s = higher n (n + 1) (dot_level o vs ∷ ls) (omega arith) s
closed_short n (tail_level o vs v ∷ ls) tops st s = delivered_short n ls tops o _ s.1
closed_short n (vector_level o vs ∷ ls) tops st s = delivered_short n ls tops o _ s.1
closed_short n (prefix_level o f ∷ ls) tops st s = higher n (n + 1) (prefix_level o f ∷ ls) (omega arith) s

dotting_short : (n : ℕ) (ls : List Level) → AllShort n ls → AllShort (n + 1) (dotting ls)
unfolding dotting
dotting_short n [] s = tt
dotting_short n (list_level o vs ∷ ls) s = (omega (arith, s.0), higher n (n + 1) ls (omega arith) s.1)
dotting_short n (dot_level o vs ∷ ls) s = higher n (n + 1) (dot_level o vs ∷ ls) (omega arith) s
dotting_short n (tail_level o vs v ∷ ls) s = higher n (n + 1) (tail_level o vs v ∷ ls) (omega arith) s
dotting_short n (vector_level o vs ∷ ls) s = higher n (n + 1) (vector_level o vs ∷ ls) (omega arith) s
dotting_short n (prefix_level o f ∷ ls) s = higher n (n + 1) (prefix_level o f ∷ ls) (omega arith) s

delivered_if_short : (n : ℕ) (w : World) (at : ℕ) (v : Option (Val × Stock)) → AllShort n w.levels → AllShort (n + 1) (delivered_if v at w).levels
delivered_if_short n w at None s = higher n (n + 1) w.levels (omega arith) s
delivered_if_short n w at (Some v) s = delivered_short n w.levels w.tops at v s

moved_short : (n : ℕ) (w : World) (at : ℕ) (t : Token) → AllShort n w.levels → AllShort (n + 1) (moved w at t).levels
unfolding moved
moved_short n w at opening s = (omega arith, higher n (n + 1) w.levels (omega arith) s)
moved_short n w at vector s = (omega arith, higher n (n + 1) w.levels (omega arith) s)
moved_short n w at closing s = closed_short n w.levels w.tops w.stock s
moved_short n w at dot s = dotting_short n w.levels s
moved_short n w at (prefix f) s = (omega arith, higher n (n + 1) w.levels (omega arith) s)
moved_short n w at (atom a) s = delivered_if_short n w at (atom_value a w.stock) s
moved_short n w at (bad kind) s = higher n (n + 1) w.levels (omega arith) s

abbrev world_in : World → Result World Refusal → World
world_in w (Ok v) = v
world_in w (Err r) = w

pub step_short : (n : ℕ) (w v : World) (end : ℕ) (p : Placed) → step w end p ≡ Ok v → AllShort n w.levels → AllShort (n + 1) v.levels
unfolding step
step_short n w v end p e s = by (fault (shapes_of w.levels) w.stock.symbols p.token) e
  where
    by : (o : Option ReadKind) → stepped w end p o ≡ Ok v → AllShort (n + 1) v.levels
    by None e = subst (λ (u : World). AllShort (n + 1) u.levels) (ap (world_in w) e) (moved_short n w p.at p.token s)
    by (Some kind) e = absurd (cc)
