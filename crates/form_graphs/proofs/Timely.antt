-- Calls that keep the time: what runs takes no fuel back and none past the limit, and an exit that jumps to a tag has taken some.
use Rattle.std.proofs.Common.{ℕ, arith, List}
use Rattle.core_form.specs.Tree.{Core, Items}
use Rattle.core_form.specs.Facts.{Code}
use Rattle.core_form.specs.State.{State}
use Rattle.core_form.specs.Force.{in_force}
use Rattle.core_form.specs.Step.{Around}
use Rattle.core_form.specs.Eval.{Call, eval, steps, steps_from, no_call, call_to}
use Rattle.core_form.proofs.Steady.{Later, raised}
use Rattle.core_form.proofs.Fuel.{Calls, eval_steady, steps_steady, from_steady, no_calls, depth_steady, level}

-- this meaning of a call keeps the time that the limit gives
abbrev pub IsTimely : (limit : ℕ) → Call → Type 0
IsTimely limit call = Calls (raised (level limit)) call call

module _ (limit : ℕ) (call : Call) (timely : IsTimely limit call) where
  -- so do a form, the forms of a tagbody, and those from a tag on
  pub evals_later : (cx : Around) (e : Core) (s : State) → Later limit (in_force cx.force) s.taken s (eval call limit cx e s)
  evals_later cx e s = ((eval_steady (raised (level limit)) call call timely cx e).ends s).later

  pub steps_later : (cx : Around) (is : Items) (s : State) → Later limit (in_force cx.force) s.taken s (steps call limit cx is s)
  steps_later cx is s = ((steps_steady (raised (level limit)) call call timely cx is).ends s).later

  pub from_later : (cx : Around) (t : ℕ) (is : Items) (s : State) → Later limit (in_force cx.force) s.taken s (steps_from call limit cx t is s)
  from_later cx t is s = ((from_steady (raised (level limit)) call call timely cx t is).ends s).later

-- calls to this depth do, for any depth
pub calls_timely : (table : List Code) (limit d : ℕ) → IsTimely limit (call_to table limit d)
calls_timely table limit d = depth_steady table (raised (level limit)) d d (omega arith) (omega arith)

-- and calls past the depth, which find the function or stop
pub no_calls_timely : (table : List Code) (limit : ℕ) → IsTimely limit (no_call table)
no_calls_timely table limit = no_calls table (raised (level limit)) (omega arith)
