-- The plain tree that a Core is. (This project's own.)
use Rattle.std.specs.Prelude.{List, [], ◌∷◌, map, option_map}
use Rattle.lisp_base.specs.declared.values.Place.{Place}
use Rattle.lisp_base.specs.Reading.{spec_of}
use Rattle.core_form.specs.declared.tree.Parameter.{Parameter as Parameter'}
use Rattle.core_form.specs.declared.tree.Core.{Core as Core'}
use Rattle.core_form.specs.declared.tree.Lambda.{Lambda as Lambda'}
use Rattle.core_form.specs.declared.tree.Form.{Form as Form'}
use Rattle.core_form.specs.declared.tree.Form.TheBlock as t
use Rattle.core_form.specs.declared.tree.TopForm.{TopForm}
use Rattle.core_form.specs.Tree.{Parameter, Core, Quote, Local, SetLocal, Global, SetGlobal, If, Progn, Let, Function, Labels, CallLocal, CallGlobal, Funcall, Apply, MvCall, FunLocal, FunGlobal, SetFun, Primitive, Is, The, Block, ReturnFrom, Tagbody, Go, Catch, Throw, Unwind, Values, MvProg1, Cores, no_core, core, Bindings, no_binding, binding, Optionals, no_optional, optional, Lambda, lambda, Definitions, no_definition, define, Items, no_item, tag, step, Top}

abbrev pub parameter_of : Parameter' → Parameter
parameter_of x = record { variable = x.variable; types = map spec_of x.types.items }

abbrev mutual
  pub form_of : Place → Form' → Core
  form_of p (t.Quote v) = Quote p v
  form_of p (t.Local x) = Local p x
  form_of p (t.SetLocal' x b q e) = SetLocal p x (form_of q e)
  form_of p (t.Global s) = Global p s
  form_of p (t.SetGlobal' s b q e) = SetGlobal p s (form_of q e)
  form_of p (t.If' b1 q1 e1 b2 q2 e2 b3 q3 e3) = If p (form_of q1 e1) (form_of q2 e2) (form_of q3 e3)
  form_of p (t.Progn' shape es) = Progn p (cores_of es)
  form_of p (t.Let' shape bs b q e) = Let p (bindings_of bs) (form_of q e)
  form_of p (t.Lambda l) = Function p (lambda_of l)
  form_of p (t.Labels' shape ds b q e) = Labels p (definitions_of ds) (form_of q e)
  form_of p (t.CallLocal' f shape es) = CallLocal p f (cores_of es)
  form_of p (t.CallGlobal' s shape es) = CallGlobal p s (cores_of es)
  form_of p (t.Funcall' b q e shape es) = Funcall p (form_of q e) (cores_of es)
  form_of p (t.Apply' b q e shape es) = Apply p (form_of q e) (cores_of es)
  form_of p (t.MvCall' b q e shape es) = MvCall p (form_of q e) (cores_of es)
  form_of p (t.FunLocal f) = FunLocal p f
  form_of p (t.FunGlobal s) = FunGlobal p s
  form_of p (t.SetFun' s b q e) = SetFun p s (form_of q e)
  form_of p (t.Primitive' op shape es) = Primitive p op (cores_of es)
  form_of p (t.Is' s b q e) = Is p (spec_of s) (form_of q e)
  form_of p (t.The' s b q e) = The p (spec_of s) (form_of q e)
  form_of p (t.Block' n s b q e) = Block p n s (form_of q e)
  form_of p (t.ReturnFrom' n b q e) = ReturnFrom p n (form_of q e)
  form_of p (t.Tagbody' shape is) = Tagbody p (items_of is)
  form_of p (t.Go n) = Go p n
  form_of p (t.Catch' b1 q1 e1 b2 q2 e2) = Catch p (form_of q1 e1) (form_of q2 e2)
  form_of p (t.Throw' b1 q1 e1 b2 q2 e2) = Throw p (form_of q1 e1) (form_of q2 e2)
  form_of p (t.Unwind' b1 q1 e1 b2 q2 e2) = Unwind p (form_of q1 e1) (form_of q2 e2)
  form_of p (t.Values' shape es) = Values p (cores_of es)
  form_of p (t.MvProg1' b1 q1 e1 b2 q2 e2) = MvProg1 p (form_of q1 e1) (form_of q2 e2)

  pub cores_of : {m : _} → t.Row_of-Core m → Cores
  cores_of t.end_of-Core = no_core
  cores_of (t.more_of-Core q e es) = core (form_of q e) (cores_of es)

  pub bindings_of : {m : _} → t.Row_of-Binding m → Bindings
  bindings_of t.end_of-Binding = no_binding
  bindings_of (t.more_of-Binding x q e bs) = binding (parameter_of x) (form_of q e) (bindings_of bs)

  pub optionals_of : {m : _} → t.Row_of-Optional m → Optionals
  optionals_of t.end_of-Optional = no_optional
  optionals_of (t.more_of-Optional x q e s os) = optional (parameter_of x) (form_of q e) (option_map parameter_of s) (optionals_of os)

  pub lambda_of : Lambda' → Lambda
  lambda_of (t.struct-Lambda k xs shape os r b q e) = lambda k (map parameter_of xs.items) (optionals_of os) (option_map parameter_of r) (form_of q e)

  pub definitions_of : {m : _} → t.Row_of-Definition m → Definitions
  definitions_of t.end_of-Definition = no_definition
  definitions_of (t.more_of-Definition (t.struct-Definition p f n l) ds) = define p f n (lambda_of l) (definitions_of ds)

  pub items_of : {m : _} → t.Row_of-Item m → Items
  items_of t.end_of-Item = no_item
  items_of (t.more_of-Item (t.Tag k v) is) = tag k v (items_of is)
  items_of (t.more_of-Item (t.Step' q e) is) = step (form_of q e) (items_of is)

abbrev pub core_of : Core' → Core
core_of c = form_of c.place c.form

-- the parts of a node, by the list that a clause sees
abbrev pub cores_list : List Core' → Cores
cores_list [] = no_core
cores_list (c ∷ cs) = core (core_of c) (cores_list cs)

abbrev pub top_of : TopForm → Top
top_of f = record { place = f.place; core = core_of f.core; nodes = f.nodes }

abbrev pub tops_of : List TopForm → List Top
tops_of fs = map top_of fs
