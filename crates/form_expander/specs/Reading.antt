-- The definition's sketches, scopes and worlds that the Rust values are (this project's own).
use Rattle.std.specs.Prelude.{List, [], ◌∷◌, map, option_map}
use Rattle.lisp_base.specs.Reading.{spec_of}
use Rattle.declarations.specs.Declarations.{declared_of, typed_of}
use Rattle.form_expander.specs.declared.sketch.Unary.{Unary as Unary'}
use Rattle.form_expander.specs.declared.sketch.Unary.TheVariants as u
use Rattle.form_expander.specs.declared.sketch.Binder.{Binder as Binder'}
use Rattle.form_expander.specs.declared.sketch.Initial.{Initial as Initial'}
use Rattle.form_expander.specs.declared.sketch.Optional.{Optional as OptionalParameter}
use Rattle.form_expander.specs.declared.sketch.Sketch.{Sketch as Sketch'}
use Rattle.form_expander.specs.declared.sketch.Function.{Function as Function'}
use Rattle.form_expander.specs.declared.sketch.Sketch.TheBlock as t
use Rattle.form_expander.specs.declared.sketch.Plan.{Plan as Plan'}
use Rattle.form_expander.specs.declared.sketch.Plan.TheVariants as plan
use Rattle.form_expander.specs.declared.scope.Check.{Check as Check'}
use Rattle.form_expander.specs.declared.scope.Check.TheVariants as c
use Rattle.form_expander.specs.declared.scope.Scope.{Scope as Scope'}
use Rattle.form_expander.specs.declared.world.World.{World as World'}
use Rattle.expansion.specs.Scopes.{Check, of_binding, of_uses, rebound, Scope}
use Rattle.expansion.specs.Steps.{World}
use Rattle.expansion.specs.Sketches.{Unary, SettingLocal, SettingGlobal, SettingFunction, Testing, Checking, Returning, Binder, Initial, Optional', Sketch, form, leaf, one, two, choice, many, calling, bind, assign, function, functions, recursive, block, tagbody, within, Sketches, no_sketch, sketch, Function, function_of, Plan, instead, declared_around, makes}

abbrev pub unary_of : Unary' → Unary
unary_of (u.SettingLocal n) = SettingLocal n
unary_of (u.SettingGlobal s) = SettingGlobal s
unary_of (u.SettingFunction s) = SettingFunction s
unary_of (u.Testing t) = Testing (spec_of t)
unary_of (u.Checking t) = Checking (spec_of t)
unary_of (u.Returning b) = Returning b

abbrev pub binder_of : Binder' → Binder
binder_of b = record { variable = b.variable; types = map spec_of b.types.items; special = b.special }

abbrev pub initial_of : Initial' → Initial
initial_of b = record { binder = binder_of b.binder; value = b.value }

abbrev pub optional_of : OptionalParameter → Optional'
optional_of o = record { binder = binder_of o.binder; default = o.default; supplied = option_map binder_of o.supplied }

abbrev mutual
  pub sketch_of : Sketch' → Sketch
  sketch_of (t.Form v) = form v
  sketch_of (t.Leaf l) = leaf l
  sketch_of (t.One' h b x) = one (unary_of h) (sketch_of x)
  sketch_of (t.Two' h b x c y) = two h (sketch_of x) (sketch_of y)
  sketch_of (t.Choice' b x c y d z) = choice (sketch_of x) (sketch_of y) (sketch_of z)
  sketch_of (t.Many' h shape xs) = many h (sketches_of xs)
  sketch_of (t.Calling' h b x shape xs) = calling h (sketch_of x) (sketches_of xs)
  sketch_of (t.Bind' bs b x) = bind (map initial_of bs.items) (sketch_of x)
  sketch_of (t.Assign s v) = assign s v
  sketch_of (t.Function' xs os r b x) = function (function_of (map binder_of xs.items) (map optional_of os.items) (option_map binder_of r) (sketch_of x))
  sketch_of (t.Functions' reach vs b x) = functions reach vs.items (sketch_of x)
  sketch_of (t.Recursive' s xs os r b x) =
      recursive s (function_of (map binder_of xs.items) (map optional_of os.items) (option_map binder_of r) (sketch_of x))
  sketch_of (t.Block' s b x) = block s (sketch_of x)
  sketch_of (t.Tagbody vs) = tagbody vs.items
  sketch_of (t.Within' d b x) = within (declared_of d) (sketch_of x)

  pub sketches_of : {m : _} → t.Row_of-Sketch m → Sketches
  sketches_of t.end_of-Sketch = no_sketch
  sketches_of (t.more_of-Sketch x xs) = sketch (sketch_of x) (sketches_of xs)

abbrev pub function_from : Function' → Function
function_from f =
    function_of (map binder_of f.required.items) (map optional_of f.optional.items) (option_map binder_of f.rest) (sketch_of f.body.value)

-- the parts of a node, by the list that a clause sees
abbrev pub sketches_list : List Sketch' → Sketches
sketches_list [] = no_sketch
sketches_list (x ∷ xs) = sketch (sketch_of x) (sketches_list xs)

abbrev pub plan_from : Plan' → Plan
plan_from (plan.Instead v) = instead v
plan_from (plan.DeclaredAround d v) = declared_around (declared_of d) v
plan_from (plan.Makes x) = makes (sketch_of x)

abbrev pub check_of : Check' → Check
check_of (c.OfBinding t spec) = of_binding t (spec_of spec)
check_of (c.OfUses t spec) = of_uses t (spec_of spec)
check_of (c.Rebound s) = rebound s

abbrev pub scope_of : Scope' → Scope
scope_of s = record {
  place = s.place;
  is_fixed = s.is_fixed;
  variables = s.variables.items;
  checks = map check_of s.checks.items;
  functions = s.functions.items;
  blocks = s.blocks.items;
  tags = s.tags.items;
  policy = s.policy;
}

abbrev pub world_of : World' → World
world_of w = record {
  table = w.symbols;
  heap = w.heap;
  specials = w.specials.items;
  declaimed = map typed_of w.declaimed.items;
  policy = w.policy;
  next = w.next;
  functions = w.functions;
  nodes = w.nodes;
}
