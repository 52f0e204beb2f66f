-- Where a run of graphs stands. (This project's own.)
use Rattle.std.specs.Prelude.{ℕ, suc, Bool, List, [], ◌∷◌, Option, Some, None, if◌then◌else◌, ◌==◌}
use Rattle.lisp_base.specs.declared.values.SymId.{SymId}
use Rattle.lisp_base.specs.declared.values.Val.{Val}
use Rattle.lisp_base.specs.declared.values.Place.{Place}
use Rattle.core_form.specs.State.{Fault, State, Exit, first_of_values}
use Rattle.core_form.specs.Effect.{Ended, Gave, Left, Failed}
use Rattle.core_form.specs.Force.{Vals, Force}
use Rattle.icr_graph.specs.declared.nodes.Charges.{Charges}
use Rattle.icr_graph.specs.declared.nodes.Tag.{Tag}

-- ---- what continuations hold

-- the values that were delivered to each continuation, until the node that takes them runs
abbrev pub Delivered : Type 0
Delivered = ℕ → Option Vals

abbrev pub nothing : Delivered
nothing = λ k. None

abbrev pub delivered_to : Option ℕ → Vals → Delivered → Delivered
delivered_to None vs d = d
delivered_to (Some k) vs d = λ j. if j == k then Some vs else d j

abbrev pub without_all : List ℕ → Delivered → Delivered
without_all [] d = d
without_all (k ∷ ks) d = λ j. if j == k then None else without_all ks d j

abbrev pub or_no_values : Option Vals → Vals
or_no_values None = []
or_no_values (Some vs) = vs

abbrev pub values_at : Delivered → ℕ → Vals
values_at d k = or_no_values (d k)

abbrev pub value_at : Delivered → ℕ → Val
value_at d k = first_of_values (values_at d k)

-- ---- activations

-- a function, or a form's own code, that runs or waits for a call
pub record Activation : Type 0 where
  -- its graph, by number, and where it stands there: at a node of a block, or at the block's end
  pub graph : ℕ
  pub block : ℕ
  pub index : ℕ
  pub delivered : Delivered
  pub arguments : Vals
  -- the fuel that was taken when it began, which no other activation of its function has
  pub born : ℕ
  pub force : Force

abbrev pub advanced : Activation → Activation
advanced a = record a { index = suc a.index }

abbrev pub at_block : ℕ → Activation → Activation
at_block b a = record a { block = b; index = 0 }

abbrev pub with_force : Force → Activation → Activation
with_force f a = record a { force = f }

abbrev pub holding : Option ℕ → Vals → Activation → Activation
holding k vs a = record a { delivered = delivered_to k vs a.delivered }

abbrev pub taking : List ℕ → Activation → Activation
taking ks a = record a { delivered = without_all ks a.delivered }

-- ---- what waits

-- where the values of an exit arrive: at a block, for a continuation, with what their delivery adds to the counts
pub record Arrival : Type 0 where
  pub block : ℕ
  pub cont : Option ℕ
  pub charges : Charges

-- What waits round the running function, each with what is in force outside it. An exit passes it or arrives.
pub data Waiting : Type 0 where
  -- the caller at its call, and what its variables hold
  Caller : (tail : Bool) → (frame : List (ℕ × Val)) → Activation → Waiting
  -- a block, or where it catches throws a CATCH
  Landing : (entry : ℕ) → (catches : Bool) → Arrival → Force → Waiting
  -- a tagbody
  Tagged : (entry : ℕ) → List Tag → Force → Waiting
  -- the cleanup form of the guarded form that runs
  Guarding : (cleanup : ℕ) → Force → Waiting
  -- a special variable, and its old value
  Binding : SymId → Option Val → Force → Waiting
  -- values that are kept
  Keeping : Vals → Force → Waiting
  -- what follows when the cleanup form that runs has ended: the values of the guarded form, or the exit that left it
  Giving : Vals → Force → Waiting
  Going_on : Exit → Force → Waiting

-- ---- the machine

pub data Control : Type 0 where
  -- the node at which the running function stands comes next
  Going : Control
  -- a call of a function, by its number among those of all graphs; a local call names an entry
  Calling : (tail : Bool) → (function : ℕ) → (closed arguments : Vals) → (entry : Option ℕ) → Control
  -- the running function has ended with these values
  Returning : Vals → Control
  -- an exit is on its way
  Leaving : Exit → Control
  -- an error that nothing catches
  Stopped : Fault → Place → Control
  -- the graph of this number is next; the form before had this value
  Next : (graph : ℕ) → Val → Control
  -- all forms have ended, the last with this value
  Over : Val → Control

pub record Machine : Type 0 where
  pub control : Control
  pub here : Activation
  pub waiting : List Waiting
  pub state : State

abbrev pub going : Activation → List Waiting → State → Machine
going a ws s = record { control = Going; here = a; waiting = ws; state = s }

-- what follows an effect: where it gives a result, this
abbrev pub after : {A : Type 0} → Activation → List Waiting → (A → State → Machine) → Ended A → Machine
after a ws next (Gave r s) = next r s
after a ws next (Left e s) = record { control = Leaving e; here = a; waiting = ws; state = s }
after a ws next (Failed x p s) = record { control = Stopped x p; here = a; waiting = ws; state = s }
