-- What the nodes of a form have to do with closed variables, in their order. (This project's own.)
use Rattle.std.specs.Prelude.{ℕ, List, [], ◌∷◌, ◌++◌, Some, flat_map, map}
use Rattle.core_form.specs.Tree.{Core, Local, SetLocal, Let, Function, Labels, CallLocal, FunLocal, Block, ReturnFrom, Tagbody, Go, Lambda, lambda, Parameter, Definitions, no_definition, define, Items, no_item, tag, step}
use Rattle.core_form.specs.Facts.{FunctionText, gather, gather_optionals, parameter_number, binding_parameters, parameters_of, tagbody_number}

pub data Event : Type 0 where
  -- a variable is read or set, or a block left
  refers : ℕ → Event
  -- a tag is gone to
  goes : (tag : ℕ) → Event
  -- a variable is bound
  binds : ℕ → Event
  -- a block or tagbody begins
  opens : ℕ → Event
  -- a local function is called, or taken as a value
  calls : (function : ℕ) → Event
  -- a function is made
  makes : Lambda → Event
  -- a local function is defined
  defines : (function : ℕ) → FunctionText → Event
  -- a tag stands in the tagbody of a number
  stands : (tag : ℕ) → (tagbody : ℕ) → Event

abbrev pub bind_all : List ℕ → List Event
bind_all ns = map binds ns

abbrev pub one_parameter : Parameter → List Event
one_parameter x = bind_all (parameter_number x)

abbrev pub parameter_events : List Parameter → List Event
parameter_events xs = flat_map one_parameter xs

abbrev pub definition_events : Definitions → List Event
definition_events no_definition = []
definition_events (define p f n l ds) = defines f (record { name = Some n; place = p; lambda = l }) ∷ definition_events ds

abbrev pub tag_events : (tagbody : ℕ) → Items → List Event
tag_events b no_item = []
tag_events b (tag t v is) = stands t b ∷ tag_events b is
tag_events b (step e is) = tag_events b is

abbrev pub tagbody_events : Items → List Event
tagbody_events is = opens (tagbody_number is) ∷ tag_events (tagbody_number is) is

abbrev pub node_events : Core → List Event
node_events (Local p x) = refers x ∷ []
node_events (SetLocal p x e) = refers x ∷ []
node_events (Let p bs e) = parameter_events (binding_parameters bs)
node_events (Function p l) = makes l ∷ []
node_events (Labels p ds e) = definition_events ds
node_events (CallLocal p f es) = calls f ∷ []
node_events (FunLocal p f) = calls f ∷ []
node_events (Block p b n e) = opens b ∷ []
node_events (ReturnFrom p b e) = refers b ∷ []
node_events (Tagbody p is) = tagbody_events is
node_events (Go p t) = goes t ∷ []
node_events _ = []

abbrev pub function_events : FunctionText → List Event
function_events f = parameter_events (parameters_of f.lambda)

abbrev pub events : Core → List Event
events e = gather node_events function_events e

-- the events of a function, its own parameters first
abbrev pub lambda_events : Lambda → List Event
lambda_events (lambda k xs os r e) =
    parameter_events (parameters_of (lambda k xs os r e)) ++ gather_optionals node_events function_events os ++ events e
