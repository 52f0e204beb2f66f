-- How a tree is made of a form, without fuel and refusals: one constructor for each way (this project's own).
use Rattle.std.specs.Prelude.{◌≡◌, ℕ, suc, ◌+◌, ◌≤◌, true, false, List, [], ◌∷◌, length, Option, Some, None}
use Rattle.std.specs.Option.{option_and_then}
use Rattle.lisp_base.specs.declared.values.SymId.{SymId}
use Rattle.lisp_base.specs.declared.values.Val.{Val}
use Rattle.lisp_forms.specs.Conses.{elements}
use Rattle.core_form.specs.Tree as tree
use Rattle.core_form.specs.Tree.{Core, Cores, no_core, core, Bindings, no_binding, binding, Optionals, no_optional, optional, Lambda, lambda, Definitions, no_definition, define, Items, no_item, tag, step}
use Rattle.declarations.specs.Declarations.{Declared}
use Rattle.expansion.specs.declared.heads.Leaf.{Leaf}
use Rattle.expansion.specs.declared.heads.Binary.{Binary}
use Rattle.expansion.specs.declared.heads.Many.{Many}
use Rattle.expansion.specs.declared.heads.Calling.{Calling}
use Rattle.expansion.specs.declared.heads.Reach.{Reach}
use Rattle.expansion.specs.Scopes.{Scope, at_form, with_function, with_block, declared_in}
use Rattle.expansion.specs.Steps.{World, gives, with_nodes, most_nodes}
use Rattle.expansion.specs.Sketches.{leaf_node, Unary, unary_node, unary_count, binary_node, many_node, calling_node, Binder, Initial, Optional', Sketch, form, leaf, one, two, choice, many, calling, bind, assign, function, functions, recursive, block, tagbody, within, Sketches, no_sketch, sketch, Function, function_of, checked, instead, declared_around, makes}
use Rattle.expansion.specs.Bindings.{function_sketch}
use Rattle.expansion.specs.Forms.{plan_of, tail_of, is_tag, set_variable}
use Rattle.expansion.specs.Expanding.{Bound, is_special, numbers_for, parameter_for, with_all, with_some, with_bound, parameters, parameter_some, bounds_of, BoundOptional, bound_optional, function_size, name_in, with_definitions, around_definitions, tags_in, with_tags, expand}

-- ---- the world after a count

-- so many nodes may still be counted
abbrev pub Fits : (count : ℕ) → World → Type 0
Fits count w = w.nodes + count ≤ most_nodes

abbrev pub counted : (count : ℕ) → World → World
counted count w = with_nodes (w.nodes + count) w

-- after so many variables, local functions, blocks or tags
abbrev pub numbered : (count : ℕ) → World → World
numbered count w = record w { next = w.next + count }

-- after one more function
abbrev pub one_function : World → World
one_function w = record w { functions = suc w.functions }

-- ---- variables

pub data MadeBound : Binder → World → Bound → World → Type 0 where
  made_bound : {b : Binder} {w : World} → MadeBound b w (b, parameter_for w b w.next) (numbered (numbers_for (is_special w b)) w)

pub data MadeBounds : List Binder → World → List Bound → World → Type 0 where
  no_bounds : {w : World} → MadeBounds [] w [] w
  more_bounds : {b : Binder} {bs : List Binder} {w u after : World} {x : Bound} {xs : List Bound} →
      MadeBound b w x u → MadeBounds bs u xs after → MadeBounds (b ∷ bs) w (x ∷ xs) after

pub data MadeSome : Option Binder → World → Option Bound → World → Type 0 where
  made_none : {w : World} → MadeSome None w None w
  made_some : {b : Binder} {w after : World} {x : Bound} → MadeBound b w x after → MadeSome (Some b) w (Some x) after

pub data MadeInitials : List Initial → World → List (Bound × Val) → World → Type 0 where
  no_initials : {w : World} → MadeInitials [] w [] w
  more_initials : {b : Initial} {bs : List Initial} {w u after : World} {x : Bound} {xs : List (Bound × Val)} →
      MadeBound b.binder w x u → MadeInitials bs u xs after → MadeInitials (b ∷ bs) w ((x, b.value) ∷ xs) after

pub data MadeOptionals : List Optional' → World → List BoundOptional → World → Type 0 where
  no_optionals : {w : World} → MadeOptionals [] w [] w
  more_optionals : {o : Optional'} {os : List Optional'} {w u v after : World} {x : Bound} {s : Option Bound} {xs : List BoundOptional} →
      MadeBound o.binder w x u → MadeSome o.supplied u s v → MadeOptionals os v xs after →
      MadeOptionals (o ∷ os) w (bound_optional x o.default s ∷ xs) after

-- ---- trees

mutual
  -- a form in its scope, with the world before, the tree, and the world after
  pub data MadeForm : Scope → Val → World → Core → World → Type 0 where
    -- another form stands for it
    made_instead : {sc : Scope} {v other : Val} {w u after : World} {e : Core} →
        plan_of (at_form w.heap v sc) v w ≡ gives (instead other) u → MadeForm (at_form w.heap v sc) other u e after → MadeForm sc v w e after
    -- another form within declarations
    made_around : {sc : Scope} {v other : Val} {w u after : World} {d : Declared} {e : Core} →
        plan_of (at_form w.heap v sc) v w ≡ gives (declared_around d other) u → MadeForm (declared_in d (at_form w.heap v sc)) other u e after →
        MadeForm sc v w e after
    made_makes : {sc : Scope} {v : Val} {w u after : World} {x : Sketch} {e : Core} →
        plan_of (at_form w.heap v sc) v w ≡ gives (makes x) u → Made (at_form w.heap v sc) x u e after → MadeForm sc v w e after

  -- a sketch in its scope
  pub data Made : Scope → Sketch → World → Core → World → Type 0 where
    made_form : {sc : Scope} {v : Val} {w after : World} {e : Core} → MadeForm sc v w e after → Made sc (form v) w e after
    made_leaf : {sc : Scope} {l : Leaf} {w : World} → Fits 1 w → Made sc (leaf l) w (leaf_node l sc.place) (counted 1 w)
    made_one : {sc : Scope} {u : Unary} {x : Sketch} {w after : World} {e : Core} → Fits (unary_count u) w →
        Made sc x (counted (unary_count u) w) e after → Made sc (one u x) w (unary_node u sc.place e) after
    made_two : {sc : Scope} {b : Binary} {x y : Sketch} {w u after : World} {e f : Core} → Fits 1 w →
        Made sc x (counted 1 w) e u → Made sc y u f after → Made sc (two b x y) w (binary_node b sc.place e f) after
    made_choice : {sc : Scope} {x y z : Sketch} {w u v after : World} {a b c : Core} → Fits 1 w →
        Made sc x (counted 1 w) a u → Made sc y u b v → Made sc z v c after → Made sc (choice x y z) w (tree.If sc.place a b c) after
    made_many : {sc : Scope} {m : Many} {xs : Sketches} {w after : World} {es : Cores} → Fits 1 w →
        MadeEach sc xs (counted 1 w) es after → Made sc (many m xs) w (many_node m sc.place es) after
    made_calling : {sc : Scope} {c : Calling} {x : Sketch} {xs : Sketches} {w u after : World} {e : Core} {es : Cores} → Fits 1 w →
        Made sc x (counted 1 w) e u → MadeEach sc xs u es after → Made sc (calling c x xs) w (calling_node c sc.place e es) after
    -- the variables first, then the forms for their values, then the body
    made_bind : {sc : Scope} {bs : List Initial} {x : Sketch} {w u v after : World} {ps : List (Bound × Val)} {values : Bindings} {e : Core} →
        Fits (1 + length bs) w → MadeInitials bs (counted (1 + length bs) w) ps u → MadeValues sc ps u values v →
        Made (with_all sc (bounds_of ps)) x v e after → Made sc (bind bs x) w (tree.Let sc.place values e) after
    made_assign : {sc : Scope} {s : SymId} {v : Val} {w after : World} {e : Core} →
        Made sc (set_variable sc s v w) w e after → Made sc (assign s v) w e after
    made_function : {sc : Scope} {f : Function} {w after : World} {l : Lambda} →
        MadeLambda sc f w l after → Made sc (function f) w (tree.Function sc.place l) after
    -- the numbers of all the functions first
    made_functions : {sc : Scope} {reach : Reach} {vs : List Val} {x : Sketch} {w u after : World} {ds : Definitions} {e : Core} → Fits 1 w →
        MadeDefinitions (around_definitions reach sc (with_definitions w.heap w.next vs sc)) w.next vs (numbered (length vs) (counted 1 w)) ds u →
        Made (with_definitions w.heap w.next vs sc) x u e after → Made sc (functions reach vs x) w (tree.Labels sc.place ds e) after
    -- the reference to the function is counted last
    made_recursive : {sc : Scope} {s : SymId} {f : Function} {w u : World} {l : Lambda} → Fits 1 w →
        MadeLambda (with_function s w.next sc) f (numbered 1 (counted 1 w)) l u → Fits 1 u →
        Made sc (recursive s f) w (tree.Labels sc.place (define sc.place w.next s l no_definition) (tree.FunLocal sc.place w.next)) (counted 1 u)
    made_block : {sc : Scope} {s : SymId} {x : Sketch} {w after : World} {e : Core} → Fits 1 w →
        Made (with_block s w.next sc) x (numbered 1 (counted 1 w)) e after → Made sc (block s x) w (tree.Block sc.place w.next s e) after
    made_tagbody : {sc : Scope} {vs : List Val} {w after : World} {is : Items} → Fits 1 w →
        MadeItems (with_tags w.next vs sc) w.next vs (numbered (tags_in vs) (counted 1 w)) is after →
        Made sc (tagbody vs) w (tree.Tagbody sc.place is) after
    made_within : {sc : Scope} {d : Declared} {x : Sketch} {w after : World} {e : Core} →
        Made (declared_in d sc) x w e after → Made sc (within d x) w e after

  -- parts one after another
  pub data MadeEach : Scope → Sketches → World → Cores → World → Type 0 where
    no_parts : {sc : Scope} {w : World} → MadeEach sc no_sketch w no_core w
    more_parts : {sc : Scope} {x : Sketch} {xs : Sketches} {w u after : World} {e : Core} {es : Cores} →
        Made sc x w e u → MadeEach sc xs u es after → MadeEach sc (sketch x xs) w (core e es) after

  -- the forms for the values of variables
  pub data MadeValues : Scope → List (Bound × Val) → World → Bindings → World → Type 0 where
    no_values : {sc : Scope} {w : World} → MadeValues sc [] w no_binding w
    more_values : {sc : Scope} {p : Bound × Val} {ps : List (Bound × Val)} {w u after : World} {e : Core} {bs : Bindings} →
        Made sc (checked p.0.1.types (form p.1)) w e u → MadeValues sc ps u bs after → MadeValues sc (p ∷ ps) w (binding p.0.1 e bs) after

  -- the forms for optional parameters, with the scope within all of them
  pub data MadeDefaults : Scope → List BoundOptional → World → Optionals → (last : Scope) → World → Type 0 where
    no_defaults : {sc : Scope} {w : World} → MadeDefaults sc [] w no_optional sc w
    more_defaults : {sc last : Scope} {o : BoundOptional} {os : List BoundOptional} {w u after : World} {e : Core} {es : Optionals} →
        Made sc (form o.default) w e u → MadeDefaults (with_some (with_bound sc o.bound) o.supplied) os u es last after →
        MadeDefaults sc (o ∷ os) w (optional o.bound.1 e (parameter_some o.supplied) es) last after

  -- the number of the function first, then all its variables, then its parts
  pub data MadeLambda : Scope → Function → World → Lambda → World → Type 0 where
    made_lambda : {sc last : Scope} {required : List Binder} {optionals : List Optional'} {rest : Option Binder} {x : Sketch} {w s t u v after : World} {xs : List Bound} {os : List BoundOptional} {r : Option Bound} {es : Optionals} {e : Core} →
        MadeBounds required (one_function w) xs s → MadeOptionals optionals s os t → MadeSome rest t r u →
        Fits (function_size xs os r) u → MadeDefaults (with_all sc xs) os (counted (function_size xs os r) u) es last v →
        Made (with_some last r) x v e after →
        MadeLambda sc (function_of required optionals rest x) w (lambda w.functions (parameters xs) es (parameter_some r) e) after

  -- definitions of local functions, which are numbered from n
  pub data MadeDefinitions : Scope → (n : ℕ) → List Val → World → Definitions → World → Type 0 where
    no_definitions : {sc : Scope} {n : ℕ} {w : World} → MadeDefinitions sc n [] w no_definition w
    more_definitions : {sc : Scope} {n : ℕ} {v : Val} {vs : List Val} {w t u after : World} {s : SymId} {f : Function} {l : Lambda} {ds : Definitions} →
        option_and_then (name_in (at_form w.heap v sc)) (elements w.heap v) ≡ Some s →
        function_sketch (at_form w.heap v sc) (Some s) (tail_of w.heap v) w ≡ gives f t →
        MadeLambda (at_form w.heap v sc) f t l u → MadeDefinitions sc (suc n) vs u ds after →
        MadeDefinitions sc n (v ∷ vs) w (define (at_form w.heap v sc).place n s l ds) after

  -- tags, which are numbered from n, and forms
  pub data MadeItems : Scope → (n : ℕ) → List Val → World → Items → World → Type 0 where
    no_items : {sc : Scope} {n : ℕ} {w : World} → MadeItems sc n [] w no_item w
    one_tag : {sc : Scope} {n : ℕ} {v : Val} {vs : List Val} {w after : World} {is : Items} →
        is_tag v ≡ true → MadeItems sc (suc n) vs w is after → MadeItems sc n (v ∷ vs) w (tag n v is) after
    one_step : {sc : Scope} {n : ℕ} {v : Val} {vs : List Val} {w u after : World} {e : Core} {is : Items} →
        is_tag v ≡ false → Made sc (form v) w e u → MadeItems sc n vs u is after → MadeItems sc n (v ∷ vs) w (step e is) after

-- ---- the law

-- each tree that a form expands to is made so
abbrev pub TreesAreMade : Type 0
TreesAreMade =
    (fuel levels chain : ℕ) (sc : Scope) (v : Val) (w : World) (e : Core) (after : World) → expand fuel levels chain sc v w ≡ gives e after →
    MadeForm sc v w e after
