-- The lists that the nodes of a tree hold, as clauses see them, and how those nodes are read. (This project's own.)
use Rattle.std.specs.Prelude.{ℕ, ◌≡◌, List, [], ◌∷◌, map, option_map}
use Rattle.std.specs.declared.vec.Vec.{Vec}
use Rattle.std.specs.declared.alloc.Global.{Global}
use Rattle.std.specs.declared.boxed.Box.{Box}
use Rattle.lisp_base.specs.declared.values.Place.{Place}
use Rattle.lisp_base.specs.declared.values.SymId.{SymId}
use Rattle.core_form.specs.declared.tree.Parameter.{Parameter as Parameter'}
use Rattle.core_form.specs.declared.tree.Core.{Core as Core'}
use Rattle.core_form.specs.declared.tree.Binding.{Binding as Binding'}
use Rattle.core_form.specs.declared.tree.Optional.{Optional as Optional'}
use Rattle.core_form.specs.declared.tree.Definition.{Definition as Definition'}
use Rattle.core_form.specs.declared.tree.Item.{Item as Item'}
use Rattle.core_form.specs.declared.tree.Lambda.{Lambda as Lambda', out-Lambda}
use Rattle.core_form.specs.declared.tree.Form.TheBlock as t
use Rattle.core_form.specs.declared.tree.Form.TheVariants as variant
use Rattle.core_form.specs.Tree.{Parameter, Let, Labels, CallLocal, CallGlobal, Funcall, Apply, MvCall, Tagbody, Values, Bindings, no_binding, binding, Optionals, no_optional, optional, lambda, Definitions, no_definition, define, Items, no_item, tag, step}
use Rattle.core_form.specs.Reading.{parameter_of, core_of, cores_list, form_of, lambda_of}

abbrev pub parameters_list : List Parameter' → List Parameter
parameters_list xs = map parameter_of xs

abbrev pub bindings_list : List Binding' → Bindings
bindings_list [] = no_binding
bindings_list (b ∷ bs) = binding (parameter_of b.parameter) (core_of b.value) (bindings_list bs)

abbrev pub optionals_list : List Optional' → Optionals
optionals_list [] = no_optional
optionals_list (o ∷ os) = optional (parameter_of o.parameter) (core_of o.default) (option_map parameter_of o.supplied) (optionals_list os)

abbrev pub definitions_list : List Definition' → Definitions
definitions_list [] = no_definition
definitions_list (t.struct-Definition p f n l ∷ ds) = define p f n (lambda_of l) (definitions_list ds)

abbrev pub items_list : List Item' → Items
items_list [] = no_item
items_list (t.Tag n name ∷ is) = tag n name (items_list is)
items_list (t.Step' p e ∷ is) = step (form_of p e) (items_list is)

-- ---- how the nodes that hold lists, and functions, are read

abbrev pub ReadsLet : Type 0
ReadsLet = (p : Place) (v : Vec Binding' Global) (b : Box Core' Global) → form_of p (variant.Let v b) ≡ Let p (bindings_list v.items) (core_of b.value)

abbrev pub ReadsLabels : Type 0
ReadsLabels = (p : Place) (v : Vec Definition' Global) (b : Box Core' Global) → form_of p (variant.Labels v b) ≡ Labels p (definitions_list v.items) (core_of b.value)

abbrev pub ReadsCallLocal : Type 0
ReadsCallLocal = (p : Place) (f : ℕ) (v : Vec Core' Global) → form_of p (variant.CallLocal f v) ≡ CallLocal p f (cores_list v.items)

abbrev pub ReadsCallGlobal : Type 0
ReadsCallGlobal = (p : Place) (s : SymId) (v : Vec Core' Global) → form_of p (variant.CallGlobal s v) ≡ CallGlobal p s (cores_list v.items)

abbrev pub ReadsFuncall : Type 0
ReadsFuncall = (p : Place) (f : Box Core' Global) (v : Vec Core' Global) → form_of p (variant.Funcall f v) ≡ Funcall p (core_of f.value) (cores_list v.items)

abbrev pub ReadsApply : Type 0
ReadsApply = (p : Place) (f : Box Core' Global) (v : Vec Core' Global) → form_of p (variant.Apply f v) ≡ Apply p (core_of f.value) (cores_list v.items)

abbrev pub ReadsMvCall : Type 0
ReadsMvCall = (p : Place) (f : Box Core' Global) (v : Vec Core' Global) → form_of p (variant.MvCall f v) ≡ MvCall p (core_of f.value) (cores_list v.items)

abbrev pub ReadsTagbody : Type 0
ReadsTagbody = (p : Place) (v : Vec Item' Global) → form_of p (variant.Tagbody v) ≡ Tagbody p (items_list v.items)

abbrev pub ReadsValues : Type 0
ReadsValues = (p : Place) (v : Vec Core' Global) → form_of p (variant.Values v) ≡ Values p (cores_list v.items)

abbrev pub ReadsLambda : Type 0
ReadsLambda = (l : Lambda') → lambda_of l ≡ lambda (out-Lambda l).number (parameters_list (out-Lambda l).required.items) (optionals_list (out-Lambda l).optional.items) (option_map parameter_of (out-Lambda l).rest) (core_of (out-Lambda l).body.value)
