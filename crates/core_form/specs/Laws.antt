-- Laws of the meaning of a program, as the contracts of this crate state them. (This project's own.)
use Rattle.std.specs.Prelude.{◌≡◌, ◌≢◌, ℕ, ◌≤◌, List, ◌++◌, length}
use Rattle.std.specs.declared.vec.Vec.{Vec}
use Rattle.std.specs.declared.alloc.Global.{Global}
use Rattle.lisp_base.specs.declared.values.Place.{Place}
use Rattle.lisp_base.specs.declared.primitives.Primitive.{Primitive as Operation}
use Rattle.core_form.specs.declared.tree.Core.{Core as Core'}
use Rattle.core_form.specs.declared.tree.Form.TheVariants as variant
use Rattle.core_form.specs.Tree.{Progn, Primitive, Top}
use Rattle.core_form.specs.Reading.{form_of, cores_list}
use Rattle.layers.specs.Layer.{IsNeverFull, IsNeverAstray}
use Rattle.layers.specs.Fuel.{IsByFuel}
use Rattle.layers.specs.Among.{AreNeverFull}
use Rattle.core_form.specs.State.{Symbol, Object}
use Rattle.core_form.specs.Eval.{Program, evaluate, ending_of, output_of, counts_of, taken_of, Unfinished, Astray}
use Rattle.core_form.specs.Growth.{CountsGrow, Reaches}
use Rattle.core_form.specs.AsLayer.{program_layer, forms_together}

-- a node that holds a list is read by the list
abbrev pub ReadsProgn : Type 0
ReadsProgn = (p : Place) (v : Vec Core' Global) → form_of p (variant.Progn v) ≡ Progn p (cores_list v.items)

abbrev pub ReadsPrimitive : Type 0
ReadsPrimitive = (p : Place) (q : Operation) (v : Vec Core' Global) → form_of p (variant.Primitive q v) ≡ Primitive p q (cores_list v.items)

-- ---- runs: that a result depends on program, input and fuel alone is the form of `evaluate`

-- an ended run is the same with more fuel, and what a run without an end has shown stays
abbrev pub MoreFuelKeeps : Type 0
MoreFuelKeeps = (p : Program) (input : List ℕ) (n m : ℕ) → n ≤ m → Reaches (evaluate p input n) (evaluate p input m)

-- what a run has written with some fuel, it has written first with more
abbrev pub OutputStays : Type 0
OutputStays = (p : Program) (input : List ℕ) (n m : ℕ) → n ≤ m → (more : List ℕ) × (output_of (evaluate p input m) ≡ output_of (evaluate p input n) ++ more)

-- no counter is lower with more fuel
abbrev pub CountersStay : Type 0
CountersStay = (p : Program) (input : List ℕ) (n m : ℕ) → n ≤ m → CountsGrow (counts_of (evaluate p input n)) (counts_of (evaluate p input m))

-- no run ends with an exit that goes nowhere
abbrev pub NeverAstray : Type 0
NeverAstray = (p : Program) (input : List ℕ) (n : ℕ) → ending_of (evaluate p input n) ≢ Astray

-- ---- fuel

-- no run takes more fuel than it is given
abbrev pub TakesWithin : Type 0
TakesWithin = (p : Program) (input : List ℕ) (n : ℕ) → taken_of (evaluate p input n) ≤ n

-- a run without an end has taken all of it
abbrev pub UnfinishedTookAll : Type 0
UnfinishedTookAll = (p : Program) (input : List ℕ) (n : ℕ) → ending_of (evaluate p input n) ≡ Unfinished → taken_of (evaluate p input n) ≡ n

-- with just what it took a run is the same
abbrev pub EnoughWasTaken : Type 0
EnoughWasTaken = (p : Program) (input : List ℕ) (n : ℕ) → evaluate p input (taken_of (evaluate p input n)) ≡ evaluate p input n

-- with more fuel no less is taken
abbrev pub TakenStays : Type 0
TakenStays = (p : Program) (input : List ℕ) (n m : ℕ) → n ≤ m → taken_of (evaluate p input n) ≤ taken_of (evaluate p input m)

-- ---- programs as layers

-- the layer of a program is one by fuel: lawful, and of a run that takes what it needs
abbrev pub ProgramsAreByFuel : Type 0
ProgramsAreByFuel = (p : Program) → IsByFuel (program_layer p)

abbrev pub ProgramsAreNeverFull : Type 0
ProgramsAreNeverFull = (p : Program) → IsNeverFull (program_layer p)

abbrev pub ProgramsNeverGoAstray : Type 0
ProgramsNeverGoAstray = (p : Program) → IsNeverAstray (program_layer p)

-- a program is its forms together
abbrev pub ProgramIsItsForms : Type 0
ProgramIsItsForms = (p : Program) → program_layer p ≡ forms_together p.heap p.symbols (length p.prelude) (p.prelude ++ p.forms)

abbrev pub FormsAreByFuel : Type 0
FormsAreByFuel = (heap : List Object) (symbols : List Symbol) (prelude : ℕ) (forms : List Top) → IsByFuel (forms_together heap symbols prelude forms)

abbrev pub FormsAreNeverFull : Type 0
FormsAreNeverFull = (heap : List Object) (symbols : List Symbol) → AreNeverFull (forms_together heap symbols)
