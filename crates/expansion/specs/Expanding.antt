-- The tree that a form expands to: each form before its parts, from left to right (this project's own).
use Rattle.std.specs.Prelude.{ℕ, zero, suc, ◌+◌, ◌||◌, Bool, true, false, if◌then◌else◌, List, [], ◌∷◌, ◌++◌, map, length, Option, Some, None}
use Rattle.std.specs.Option.{option_map, option_and_then}
use Rattle.lisp_base.specs.declared.values.SymId.{SymId}
use Rattle.lisp_base.specs.declared.values.Val.{Val}
use Rattle.lisp_base.specs.Spec.{Spec}
use Rattle.lisp_base.specs.Tables.{Object}
use Rattle.lisp_forms.specs.Conses.{cons_at, elements}
use Rattle.core_form.specs.declared.tree.Variable.{Variable}
use Rattle.core_form.specs.declared.tree.Variable.TheVariants.{Lexical, Special}
use Rattle.core_form.specs.Tree as tree
use Rattle.core_form.specs.Tree.{Core, Cores, no_core, core, Bindings, no_binding, binding, Optionals, no_optional, optional, Lambda, lambda, Definitions, no_definition, define, Items, no_item, tag, step, Parameter, parameters_count, parameter_count, if_there}
use Rattle.expansion.specs.declared.kind.ExpandKind.TheVariants.{TooNested}
use Rattle.expansion.specs.declared.heads.Target.{Target}
use Rattle.expansion.specs.declared.heads.Target.TheVariants as target
use Rattle.expansion.specs.declared.heads.Reach.{Reach}
use Rattle.expansion.specs.declared.heads.Reach.TheVariants.{ForBody, ForAll}
use Rattle.expansion.specs.Scopes.{Scope, Check, of_binding, rebound, at_form, with_variable, with_function, with_block, with_tag, declared_in}
use Rattle.expansion.specs.Steps.{World, Step, ◌>>=◌, ◌>>◌, pure, refuse, expect, look, begin, inside, most_chain, most_levels, take_numbers, take_function}
use Rattle.expansion.specs.Sketches.{leaf_node, unary_node, unary_count, binary_node, many_node, calling_node, Binder, Initial, Optional', Sketch, form, leaf, one, two, choice, many, calling, bind, assign, function, functions, recursive, block, tagbody, within, Sketches, no_sketch, sketch, Function, function_of, checked, Plan, instead, declared_around, makes}
use Rattle.expansion.specs.Bindings.{is_among, types_of, function_sketch}
use Rattle.expansion.specs.Forms.{plan_of, definable, tail_of, is_tag, set_variable}

-- ---- parameters

-- a variable is special where it has been proclaimed so, or is declared so
abbrev pub is_special : World → Binder → Bool
is_special w b = b.special || is_among w.specials b.variable

abbrev pub variable_for : Bool → ℕ → SymId → Variable
variable_for true n s = Special s
variable_for false n s = Lexical n s

abbrev pub numbers_for : Bool → ℕ
numbers_for true = 0
numbers_for false = 1

-- the types that have been proclaimed of it come before those that are declared
abbrev pub parameter_for : World → Binder → ℕ → Parameter
parameter_for w b n = record { variable = variable_for (is_special w b) n b.variable; types = types_of b.variable w.declaimed ++ b.types }

-- a variable with its number, if it is lexical
unfoldable pub parameter : Binder → Step Parameter
parameter b = look (λ w. is_special w b) >>= λ special. take_numbers (numbers_for special) >>= λ n. look (λ w. parameter_for w b n)

abbrev pub target_of : Variable → Target
target_of (Lexical n s) = target.Lexical n
target_of (Special s) = target.Global s

abbrev pub checks_for : Target → List Spec → List Check
checks_for t types = map (of_binding t) types

-- a new binding of a symbol's value ends the declarations of the old one
abbrev pub new_checks : Variable → List Spec → List Check
new_checks (Lexical n s) types = checks_for (target.Lexical n) types
new_checks (Special s) types = rebound s ∷ checks_for (target.Global s) types

-- a binder with its parameter
abbrev pub Bound : Type 0
Bound = Binder × Parameter

unfoldable pub with_bound : Scope → Bound → Scope
with_bound sc p = with_variable p.0.variable (target_of p.1.variable) (new_checks p.1.variable p.0.types) sc

abbrev pub with_all : Scope → List Bound → Scope
with_all sc [] = sc
with_all sc (b ∷ bs) = with_all (with_bound sc b) bs

abbrev pub with_some : Scope → Option Bound → Scope
with_some sc None = sc
with_some sc (Some b) = with_bound sc b

unfoldable pub bound : Binder → Step Bound
bound b = parameter b >>= λ x. pure (b, x)

unfoldable pub bound_each : List Binder → Step (List Bound)
bound_each [] = pure []
bound_each (b ∷ bs) = bound b >>= λ x. bound_each bs >>= λ xs. pure (x ∷ xs)

unfoldable pub bound_some : Option Binder → Step (Option Bound)
bound_some None = pure None
bound_some (Some b) = bound b >>= λ x. pure (Some x)

abbrev pub parameters : List Bound → List Parameter
parameters bs = map (λ (b : Bound). b.1) bs

abbrev pub parameter_some : Option Bound → Option Parameter
parameter_some b = option_map (λ (x : Bound). x.1) b

-- ---- the parts of a node, by what makes a tree of a part, where so many levels are left

abbrev pub Inner : Type 0
Inner = (levels : ℕ) → Scope → Sketch → Step Core

unfoldable pub each : (Sketch → Step Core) → Sketches → Step Cores
each inner no_sketch = pure no_core
each inner (sketch x xs) = inner x >>= λ e. each inner xs >>= λ es. pure (core e es)

-- ---- bindings

-- the variables of a node, all of them before its parts
unfoldable pub bound_initials : List Initial → Step (List (Bound × Val))
bound_initials [] = pure []
bound_initials (b ∷ bs) = bound b.binder >>= λ x. bound_initials bs >>= λ xs. pure ((x, b.value) ∷ xs)

-- the forms for the values, with the checks of their variables
unfoldable pub values_bound : (Sketch → Step Core) → List (Bound × Val) → Step Bindings
values_bound inner [] = pure no_binding
values_bound inner (p ∷ ps) =
    inner (checked p.0.1.types (form p.1)) >>= λ e. values_bound inner ps >>= λ bs. pure (binding p.0.1 e bs)

abbrev pub bounds_of : List (Bound × Val) → List Bound
bounds_of ps = map (λ (p : Bound × Val). p.0) ps

-- bindings, and a body within them
unfoldable pub binding_node : ℕ → Inner → Scope → List Initial → Sketch → Step Core
binding_node levels inner sc bs x =
    begin (1 + length bs) levels sc >> bound_initials bs >>= λ ps. values_bound (inner (inside levels) sc) ps >>= λ values.
    inner (inside levels) (with_all sc (bounds_of ps)) x >>= λ e. pure (tree.Let sc.place values e)

-- ---- functions

pub record BoundOptional : Type 0 where
  pub bound : Bound
  pub default : Val
  pub supplied : Option Bound

abbrev pub bound_optional : Bound → Val → Option Bound → BoundOptional
bound_optional b v s = record { bound = b; default = v; supplied = s }

unfoldable pub bound_optionals : List Optional' → Step (List BoundOptional)
bound_optionals [] = pure []
bound_optionals (o ∷ os) =
    bound o.binder >>= λ x. bound_some o.supplied >>= λ s. bound_optionals os >>= λ xs. pure (bound_optional x o.default s ∷ xs)

-- the forms for optional parameters, each within the parameters before it, and the scope within all of them
unfoldable pub defaults : (Scope → Sketch → Step Core) → Scope → List BoundOptional → Step (Optionals × Scope)
defaults inner sc [] = pure (no_optional, sc)
defaults inner sc (o ∷ os) =
    inner sc (form o.default) >>= λ e. defaults inner (with_some (with_bound sc o.bound) o.supplied) os >>= λ found.
    pure (optional o.bound.1 e (parameter_some o.supplied) found.0, found.1)

abbrev pub optionals_size : List BoundOptional → ℕ
optionals_size [] = 0
optionals_size (o ∷ os) = parameter_count o.bound.1 + if_there (parameter_some o.supplied) + optionals_size os

-- a node of a function counts its parameters with their checks
abbrev pub function_size : List Bound → List BoundOptional → Option Bound → ℕ
function_size xs os r = 1 + parameters_count (parameters xs) + optionals_size os + if_there (parameter_some r)

unfoldable pub function_tree : ℕ → Inner → Scope → Function → Step Lambda
function_tree levels inner sc (function_of required optionals rest x) =
    take_function >>= λ k. bound_each required >>= λ xs. bound_optionals optionals >>= λ os. bound_some rest >>= λ r.
    begin (function_size xs os r) levels sc >>
    defaults (inner (inside levels)) (with_all sc xs) os >>= λ found. inner (inside levels) (with_some found.1 r) x >>= λ e.
    pure (lambda k (parameters xs) found.0 (parameter_some r) e)

-- ---- local functions

-- the name of a definition, if it has one that may be given; a definition is read when its turn comes
abbrev pub definition_name : Scope → List Object → Val → Option SymId
definition_name sc heap v = option_and_then (λ p. definable sc p.0) (cons_at heap v)

abbrev pub with_named : Option SymId → ℕ → Scope → Scope
with_named None n sc = sc
with_named (Some s) n sc = with_function s n sc

-- the functions of definitions are numbered one after another
abbrev pub with_definitions : List Object → ℕ → List Val → Scope → Scope
with_definitions heap n [] sc = sc
with_definitions heap n (v ∷ vs) sc = with_definitions heap (suc n) vs (with_named (definition_name sc heap v) n sc)

-- a function of this name, whose definition is a list after it
abbrev pub defined : ℕ → Inner → Scope → ℕ → Val → SymId → Step (Definitions → Definitions)
defined levels inner sc n v s =
    look (λ w. tail_of w.heap v) >>= function_sketch sc (Some s) >>= function_tree levels inner sc >>= λ l. pure (define sc.place n s l)

abbrev pub name_in : Scope → List Val → Option SymId
name_in sc [] = None
name_in sc (v ∷ vs) = definable sc v

-- a definition has a place of its own, as a form has
unfoldable pub definition_at : ℕ → Inner → Scope → ℕ → Val → Step (Definitions → Definitions)
definition_at levels inner sc n v =
    look (λ w. at_form w.heap v sc) >>= λ own. look (λ w. option_and_then (name_in own) (elements w.heap v)) >>= expect own >>= defined levels inner own n v

unfoldable pub definitions : ℕ → Inner → Scope → ℕ → List Val → Step Definitions
definitions levels inner sc n [] = pure no_definition
definitions levels inner sc n (v ∷ vs) =
    definition_at levels inner sc n v >>= λ d. definitions levels inner sc (suc n) vs >>= λ ds. pure (d ds)

abbrev pub around_definitions : Reach → Scope → Scope → Scope
around_definitions ForBody outer inner = outer
around_definitions ForAll outer inner = inner

unfoldable pub functions_tree : ℕ → Inner → Reach → Scope → Scope → ℕ → List Val → Sketch → Step Core
functions_tree levels inner reach outer own n vs x =
    definitions levels inner (around_definitions reach outer own) n vs >>= λ ds. inner levels own x >>= λ e. pure (tree.Labels outer.place ds e)

unfoldable pub functions_node : ℕ → Inner → Scope → Reach → List Val → Sketch → Step Core
functions_node levels inner sc reach vs x =
    begin 1 levels sc >> take_numbers (length vs) >>= λ n. look (λ w. with_definitions w.heap n vs sc) >>= λ own.
    functions_tree (inside levels) inner reach sc own n vs x

-- the function of a name as a value, within its own definition
unfoldable pub recursive_node : ℕ → Inner → Scope → SymId → Function → Step Core
recursive_node levels inner sc s f =
    begin 1 levels sc >> take_numbers 1 >>= λ n. function_tree (inside levels) inner (with_function s n sc) f >>= λ l.
    begin 1 (inside levels) sc >> pure (tree.Labels sc.place (define sc.place n s l no_definition) (tree.FunLocal sc.place n))

-- ---- blocks and tags

unfoldable pub block_node : ℕ → Inner → Scope → SymId → Sketch → Step Core
block_node levels inner sc s x =
    begin 1 levels sc >> take_numbers 1 >>= λ n. inner (inside levels) (with_block s n sc) x >>= λ e. pure (tree.Block sc.place n s e)

abbrev pub tags_in : List Val → ℕ
tags_in [] = 0
tags_in (v ∷ vs) = if is_tag v then suc (tags_in vs) else tags_in vs

abbrev pub with_tags : ℕ → List Val → Scope → Scope
with_tags n [] sc = sc
with_tags n (v ∷ vs) sc = if is_tag v then with_tags (suc n) vs (with_tag v n sc) else with_tags n vs sc

unfoldable pub items : (Sketch → Step Core) → ℕ → List Val → Step Items
items inner n [] = pure no_item
items inner n (v ∷ vs) =
    if is_tag v
    then (items inner (suc n) vs >>= λ is. pure (tag n v is))
    else (inner (form v) >>= λ e. items inner n vs >>= λ is. pure (step e is))

unfoldable pub tagbody_node : ℕ → Inner → Scope → List Val → Step Core
tagbody_node levels inner sc vs =
    begin 1 levels sc >> take_numbers (tags_in vs) >>= λ n. items (inner (inside levels) (with_tags n vs sc)) n vs >>= λ is. pure (tree.Tagbody sc.place is)

-- ---- sketches and forms

-- a form stands for this one, where the chain of such forms is not too long
unfoldable pub go_on : (ℕ → Scope → Val → Step Core) → ℕ → Scope → Scope → Val → Step Core
go_on expand zero sc own v = refuse TooNested sc
go_on expand (suc chain) sc own v = expand chain own v

-- what a plan makes of a form
unfoldable pub followed : (ℕ → Scope → Val → Step Core) → (Scope → Sketch → Step Core) → ℕ → Scope → Plan → Step Core
followed expand make chain sc (instead v) = go_on expand chain sc sc v
followed expand make chain sc (declared_around d v) = go_on expand chain sc (declared_in d sc) v
followed expand make chain sc (makes x) = make sc x

unfoldable pub planned : (ℕ → Scope → Val → Step Core) → (Scope → Sketch → Step Core) → ℕ → Scope → Val → Step Core
planned expand make chain sc v = plan_of sc v >>= followed expand make chain sc

-- Each form and each sketch takes one of the fuel. `levels` are left for nodes, and `chain` forms may go on without one.
unfoldable mutual
  pub expand : (fuel levels chain : ℕ) → Scope → Val → Step Core
  expand zero levels chain sc v = refuse TooNested sc
  expand (suc fuel) levels chain sc v =
      look (λ w. at_form w.heap v sc) >>= λ own. planned (expand fuel levels) (make fuel levels) chain own v

  pub make : (fuel levels : ℕ) → Scope → Sketch → Step Core
  make zero levels sc x = refuse TooNested sc
  make (suc fuel) levels sc (form v) = expand fuel levels most_chain sc v
  make (suc fuel) levels sc (leaf l) = begin 1 levels sc >> pure (leaf_node l sc.place)
  make (suc fuel) levels sc (one u x) =
      begin (unary_count u) levels sc >> make fuel (inside levels) sc x >>= λ e. pure (unary_node u sc.place e)
  make (suc fuel) levels sc (two b x y) =
      begin 1 levels sc >> make fuel (inside levels) sc x >>= λ e. make fuel (inside levels) sc y >>= λ f. pure (binary_node b sc.place e f)
  make (suc fuel) levels sc (choice x y z) =
      begin 1 levels sc >> make fuel (inside levels) sc x >>= λ a. make fuel (inside levels) sc y >>= λ b.
      make fuel (inside levels) sc z >>= λ c. pure (tree.If sc.place a b c)
  make (suc fuel) levels sc (many m xs) =
      begin 1 levels sc >> each (make fuel (inside levels) sc) xs >>= λ es. pure (many_node m sc.place es)
  make (suc fuel) levels sc (calling c x xs) =
      begin 1 levels sc >> make fuel (inside levels) sc x >>= λ f. each (make fuel (inside levels) sc) xs >>= λ es.
      pure (calling_node c sc.place f es)
  make (suc fuel) levels sc (bind bs x) = binding_node levels (make fuel) sc bs x
  make (suc fuel) levels sc (assign s v) = look (set_variable sc s v) >>= make fuel levels sc
  make (suc fuel) levels sc (function f) =
      function_tree levels (make fuel) sc f >>= λ l. pure (tree.Function sc.place l)
  make (suc fuel) levels sc (functions reach vs x) = functions_node levels (make fuel) sc reach vs x
  make (suc fuel) levels sc (recursive s f) = recursive_node levels (make fuel) sc s f
  make (suc fuel) levels sc (block s x) = block_node levels (make fuel) sc s x
  make (suc fuel) levels sc (tagbody vs) = tagbody_node levels (make fuel) sc vs
  make (suc fuel) levels sc (within d x) = make fuel levels (declared_in d sc) x

-- More than any form takes: a form's chain, and for each of the levels a chain and the sketches of its last form.
unfoldable pub most_fuel : ℕ
most_fuel = 4000000

-- the tree of a form at the top, which its chain of forms has led to
unfoldable pub tree_of : (chain : ℕ) → Scope → Val → Step Core
tree_of chain sc v = expand most_fuel most_levels chain sc v
