-- A program that grows form by form, as the code holds it (this project's own).
use Rattle.std.specs.Prelude.{◌≡◌, ℕ, ◌<◌, Bool, List, [], ◌∷◌, ◌++◌, map, All, AllPairs, ◌≢◌}
use Rattle.lisp_base.specs.declared.values.Place.{Place}
use Rattle.lisp_base.specs.declared.values.SymId.{SymId}
use Rattle.lisp_base.specs.declared.values.Val.{Val}
use Rattle.lisp_base.specs.declared.values.Val.TheVariants.{Sym}
use Rattle.lisp_base.specs.Tables.{Object}
use Rattle.core_form.specs.Tree.{Top}
use Rattle.core_form.specs.Reading.{core_of, top_of, tops_of}
use Rattle.core_form.specs.Lawful.{IsDefinition}
use Rattle.core_form.specs.declared.tree.TopForm.{TopForm}
use Rattle.closed_copies.specs.Copies.{closed_copies}
use Rattle.program_size.specs.declared.prelude_functions.PreludeFunction.{PreludeFunction}
use Rattle.program_size.specs.declared.sizes.Sizes.{Sizes}
use Rattle.program_size.specs.Mentions.{Sized, Function, Mentions, functions_of as counted_functions}
use Rattle.program_size.specs.Sizes.{IsTooLarge, Chosen}
use Rattle.program_size.specs.Counting.{Counts}
use Rattle.expansion.specs.declared.kind.ExpandKind.{ExpandKind}
use Rattle.expansion.specs.declared.kind.ExpandKind.TheVariants as kind
use Rattle.expansion.specs.Scopes.{Scope}
use Rattle.expansion.specs.Steps.{World, Answer, refused}
use Rattle.form_expander.specs.declared.fault.Fault.{Fault}
use Rattle.form_expander.specs.declared.fault.Fault.TheVariants as fault
use Rattle.form_expander.specs.Contained.{contents_from}
use Rattle.macroexpand.specs.declared.trees.Measured.{Measured}
use Rattle.macroexpand.specs.declared.shapes.Shape.{Shape as Shape'}
use Rattle.macroexpand.specs.declared.shapes.Shape.TheVariants as shape
use Rattle.macroexpand.specs.declared.shapes.AtTop.{AtTop as AtTop'}
use Rattle.macroexpand.specs.declared.shapes.AtTop.TheVariants as given
use Rattle.macroexpand.specs.declared.shapes.Parts.{Parts}
use Rattle.macroexpand.specs.declared.tops.Growing.{Growing}
use Rattle.file_expansion.specs.Tops.{measured, Pending, pending, Shape, progn, locally, other, AtTop, tree, parts, Expands}
use Rattle.file_expansion.specs.Files.{Helper, helper, functions_of}
use Rattle.file_expansion.specs.Laws.{IsSoundWorld, IsLawfulTree, IsSoundDeclared, IsTopScope, IsThere, Grows}
use Rattle.declarations.specs.Declarations.{declared_of}

-- ---- what one form gives

abbrev pub measured_from : Measured → Top
measured_from m = top_of m.form

abbrev pub shape_from : Shape' → Shape
shape_from (shape.Progn vs) = progn vs.items
shape_from (shape.Locally c) = locally (contents_from c)
shape_from shape.Other = other

abbrev pub parts_from : Scope → Parts → AtTop
parts_from sc p = parts (map (pending sc p.has_policy p.chain) p.forms.items)

abbrev pub at_top_from : Scope → AtTop' → AtTop
at_top_from sc (given.Tree m) = tree (top_of m.form)
at_top_from sc (given.Parts p) = parts_from sc p

-- a tree's number of closed copies is that of the definition
abbrev pub IsMeasured : AtTop' → Type 0
IsMeasured (given.Tree m) = m.copies ≡ closed_copies (core_of m.form.core)
IsMeasured (given.Parts p) = Unit {0}

-- fewer forms without a node may follow than might
abbrev pub IsShorter : ℕ → AtTop' → Type 0
IsShorter chain (given.Tree m) = Unit {0}
IsShorter chain (given.Parts p) = p.chain < chain

-- ---- soundness of what one form gives

abbrev pub IsSoundShape : World → Shape' → Type 0
IsSoundShape w (shape.Progn vs) = All (IsThere w) vs.items
IsSoundShape w (shape.Locally c) = IsSoundDeclared w (declared_of c.declared) × All (IsThere w) c.forms.items
IsSoundShape w shape.Other = Unit {0}

-- parts that are there, in a scope of the top
pub record AreSoundParts (before after : World) (sc : Scope) (vs : List Val) : Type 0 where
  pub same : after ≡ before
  pub scope : IsTopScope after sc
  pub forms : All (IsThere after) vs

-- a lawful tree, or such parts, for which the world stays
abbrev pub IsSoundGiven : World → World → Scope → AtTop' → Type 0
IsSoundGiven before after sc (given.Tree m) = IsLawfulTree after (top_of m.form)
IsSoundGiven before after sc (given.Parts p) = AreSoundParts before after sc p.forms.items

pub record IsSoundTop (before after : World) (sc : Scope) (a : AtTop') : Type 0 where
  pub grows : Grows before after
  pub world : IsSoundWorld after
  pub given : IsSoundGiven before after sc a

-- ---- a program that grows

abbrev pub helper_from : PreludeFunction → Helper
helper_from f = helper f.name (top_of f.form)

abbrev pub helpers_from : List PreludeFunction → List Helper
helpers_from fs = map helper_from fs

abbrev pub names_from : List PreludeFunction → List SymId
names_from fs = map (λ f. f.name) fs

abbrev pub prelude_of : Growing → List Function
prelude_of g = functions_of (helpers_from g.prelude.items)

abbrev pub trees_of : Growing → List Top
trees_of g = tops_of g.forms.items

-- the program was counted over a heap to which objects were added
pub record HadCounted (g : Growing) (heap : List Object) : Type 0 where
  pub before : List Object
  pub more : List Object
  pub heap_is : heap ≡ before ++ more
  pub same : counted_functions g.prelude.items ≡ prelude_of g
  pub counts : Counts g.sizes (prelude_of g) before (map measured (trees_of g))

-- a tree was added, and the program isn't too large
pub record AddsTree (old new : Growing) (heap : List Object) (m : Measured) : Type 0 where
  pub prelude : new.prelude ≡ old.prelude
  pub forms : trees_of new ≡ trees_of old ++ top_of m.form ∷ []
  pub counts : Counts new.sizes (prelude_of old) heap (map measured (trees_of new))
  pub small : IsTooLarge heap (prelude_of old) (map measured (trees_of old ++ top_of m.form ∷ [])) → ⊥

-- a tree with which the program is too large
pub record IsLargeWith (old : Growing) (heap : List Object) (m : Measured) (k : ExpandKind) (place : Place) : Type 0 where
  pub is : k ≡ kind.ProgramTooLarge
  pub at : place ≡ m.form.place
  pub large : IsTooLarge heap (prelude_of old) (map measured (trees_of old ++ top_of m.form ∷ []))

abbrev pub RefusesLarge : Growing → List Object → Measured → Fault → Type 0
RefusesLarge old heap m (fault.Refused k place) = IsLargeWith old heap m k place
RefusesLarge old heap m fault.Memory = Unit {0}

-- a pending form, by itself
abbrev pub form_pending : Scope → Bool → ℕ → Val → List Pending
form_pending sc own chain v = pending sc own chain v ∷ []

-- what pending forms lead to: with other forms pending behind, each answer there is an answer before
pub record Leads (prelude : List Function) (w : World) (ts : List Top) (ps : List Pending) (after : World) (us : List Top) (qs : List Pending) : Type 0 where
  pub on : (more : List Pending) (answer : Answer (List Top)) → Expands prelude after us (qs ++ more) answer → Expands prelude w ts (ps ++ more) answer

abbrev pub Comes : Growing → World → List Pending → Growing → World → List Pending → Type 0
Comes old w ps new after qs = Leads (prelude_of old) w (trees_of old) ps after (trees_of new) qs

-- with any other forms pending behind
abbrev pub RefusesAll : Growing → World → List Pending → Fault → Type 0
RefusesAll g w ps (fault.Refused k place) = (more : List Pending) → Expands (prelude_of g) w (trees_of g) (ps ++ more) (refused k place)
RefusesAll g w ps fault.Memory = Unit {0}

-- trees that are lawful in a world
abbrev pub AreLawfulTrees : World → List Top → Type 0
AreLawfulTrees w ts = All (IsLawfulTree w) ts

-- a form of the prelude defines a function of its name
pub record DefinesName (f : PreludeFunction) : Type 0 where
  pub is : IsDefinition (top_of f.form)
  pub name : f.name ≡ is.name

-- lawful definitions of functions, none of them twice
pub record AreFunctions (w : World) (fs : List PreludeFunction) : Type 0 where
  pub lawful : All (λ f. IsLawfulTree w (top_of f.form)) fs
  pub define : All DefinesName fs
  pub once : AllPairs (λ f g. f.name ≢ g.name) fs

-- all that is so of a program that grows, in the world of its forms
pub record IsGoing (g : Growing) (w : World) : Type 0 where
  pub same : counted_functions g.prelude.items ≡ prelude_of g
  pub counts : Counts g.sizes (prelude_of g) w.heap (map measured (trees_of g))
  pub sound : IsSoundWorld w
  pub functions : AreFunctions w g.prelude.items
  pub forms : AreLawfulTrees w (trees_of g)
  pub small : IsTooLarge w.heap (prelude_of g) (map measured (trees_of g)) → ⊥

-- the forms of those functions of the prelude whose names are mentioned
pub record HeldForms (heap : List Object) (prelude : List Function) (forms : List Sized) (fs : List PreludeFunction) (held : List TopForm) : Type 0 where
  pub functions : List PreludeFunction
  pub chosen : Chosen (λ f. Mentions heap prelude forms (Sym f.name)) fs functions
  pub are : held ≡ map (λ f. f.form) functions

abbrev pub HoldsMentioned : Sizes → List PreludeFunction → List TopForm → Type 0
HoldsMentioned s fs held =
    (heap : List Object) (prelude : List Function) (forms : List Sized) → Counts s prelude heap forms → HeldForms heap prelude forms fs held
