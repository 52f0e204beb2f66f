-- Functions and definitions: how they begin, and then their parts.
use Rattle.std.proofs.Common.{◌≡◌, refl, ℕ, List, Option, Some}
use Rattle.std.specs.Option.{option_and_then}
use Rattle.lisp_base.specs.declared.values.SymId.{SymId}
use Rattle.lisp_base.specs.declared.values.Val.{Val}
use Rattle.lisp_forms.specs.Conses.{elements}
use Rattle.core_form.specs.Tree.{Lambda, lambda, Optionals, Definitions, define}
use Rattle.expansion.specs.Scopes.{Scope, at_form}
use Rattle.expansion.specs.Steps.{World, Answer, gives, refused, Step, and_then, ◌>>=◌, ◌>>◌, pure, look, expect, begin, inside, take_function}
use Rattle.expansion.specs.Sketches.{Binder, Optional', Sketch, Function, function_of}
use Rattle.expansion.specs.Bindings.{function_sketch}
use Rattle.expansion.specs.Forms.{tail_of}
use Rattle.expansion.specs.Expanding.{Inner, Bound, BoundOptional, bound_each, bound_optionals, bound_some, defaults, with_all, with_some, parameters, parameter_some, function_size, function_tree, definition_at, name_in}
use Rattle.form_expander.specs.Beginnings.{Beginning, beginning, made_parameters, begin_made, begin_function, read_definition, read_definition_in}

-- ---- functions

module _ (levels : ℕ) (inner : Inner) (sc : Scope) (x : Sketch) where
  -- the body, and the whole function
  abbrev pub defaults_then : Beginning → Optionals × Scope → Step Lambda
  defaults_then b found u = and_then (inner (inside levels) (with_some found.1 b.rest) x u) (λ e. λ v. gives (lambda b.number (parameters b.required) found.0 (parameter_some b.rest) e) v)

  -- the optional parameters
  abbrev pub defaulted : Beginning → Step (Optionals × Scope)
  defaulted b w = defaults (inner (inside levels)) (with_all sc b.required) b.optional w

  -- a function that has begun, with its parts
  abbrev pub function_begun : Beginning → Step Lambda
  function_begun b w = and_then (defaulted b w) (defaults_then b)

  -- the parts of a function, where its node begins with this
  abbrev parts_after : Beginning → Answer (Unit {0}) → Answer Lambda
  parts_after b a = and_then (and_then a (λ _. defaulted b)) (defaults_then b)

  by_begin : (b : Beginning) (a : Answer (Unit {0})) → parts_after b a ≡ and_then (and_then a (λ _. λ v. gives b v)) function_begun
  by_begin b (gives t w) = refl
  by_begin b (refused kind place) = refl

  abbrev rest_then : ℕ → List Bound → List BoundOptional → Option Bound → Step Lambda
  rest_then k xs os r v = parts_after (beginning k xs os r) (begin (function_size xs os r) levels sc v)

  by_rest : (k : ℕ) (xs : List Bound) (os : List BoundOptional) (a : Answer (Option Bound))
      → and_then a (rest_then k xs os) ≡ and_then (and_then (and_then a (λ r. λ u. gives (beginning k xs os r) u)) (begin_made levels sc)) function_begun
  unfolding begin_made ◌>>=◌ ◌>>◌ pure
  by_rest k xs os (gives r u) = by_begin (beginning k xs os r) (begin (function_size xs os r) levels sc u)
  by_rest k xs os (refused kind place) = refl

  by_optionals : (k : ℕ) (xs : List Bound) (rest : Option Binder) (a : Answer (List BoundOptional))
      → and_then a (λ os. λ u. and_then (bound_some rest u) (rest_then k xs os))
      ≡ and_then (and_then (and_then a (λ os. λ u. and_then (bound_some rest u) (λ r. λ v. gives (beginning k xs os r) v))) (begin_made levels sc)) function_begun
  by_optionals k xs rest (gives os u) = by_rest k xs os (bound_some rest u)
  by_optionals k xs rest (refused kind place) = refl

  by_required : (k : ℕ) (optional : List Optional') (rest : Option Binder) (a : Answer (List Bound))
      → and_then a (λ xs. λ t. and_then (bound_optionals optional t) (λ os. λ u. and_then (bound_some rest u) (rest_then k xs os)))
      ≡ and_then (and_then (and_then a (λ xs. λ t. and_then (bound_optionals optional t) (λ os. λ u. and_then (bound_some rest u) (λ r. λ v. gives (beginning k xs os r) v)))) (begin_made levels sc)) function_begun
  by_required k optional rest (gives xs t) = by_optionals k xs rest (bound_optionals optional t)
  by_required k optional rest (refused kind place) = refl

  by_number : (required : List Binder) (optional : List Optional') (rest : Option Binder) (a : Answer ℕ)
      → and_then a (λ k. λ s. and_then (bound_each required s) (λ xs. λ t. and_then (bound_optionals optional t) (λ os. λ u. and_then (bound_some rest u) (rest_then k xs os))))
      ≡ and_then (and_then (and_then a (λ k. λ s. and_then (bound_each required s) (λ xs. λ t. and_then (bound_optionals optional t) (λ os. λ u. and_then (bound_some rest u) (λ r. λ v. gives (beginning k xs os r) v))))) (begin_made levels sc)) function_begun
  by_number required optional rest (gives k s) = by_required k optional rest (bound_each required s)
  by_number required optional rest (refused kind place) = refl

  pub function_begins : (required : List Binder) (optional : List Optional') (rest : Option Binder) (w : World)
      → function_tree levels inner sc (function_of required optional rest x) w ≡ and_then (begin_function levels sc (function_of required optional rest x) w) function_begun
  unfolding function_tree begin_function made_parameters ◌>>=◌ ◌>>◌ pure
  function_begins required optional rest w = by_number required optional rest (take_function w)

-- ---- definitions

module _ (levels : ℕ) (inner : Inner) (n : ℕ) where
  -- a definition that has been read, with its function
  abbrev pub definition_read : SymId × Function × Scope → Step (Definitions → Definitions)
  definition_read r w = and_then (function_tree levels inner r.2 r.1 w) (λ l. λ u. gives (define r.2.place n r.0 l) u)

  by_function : (own : Scope) (s : SymId) (a : Answer Function)
      → and_then (and_then a (function_tree levels inner own)) (λ l. λ u. gives (define own.place n s l) u) ≡ and_then (and_then a (λ f. λ u. gives (s, f, own) u)) definition_read
  by_function own s (gives f u) = refl
  by_function own s (refused kind place) = refl

  by_name : (own : Scope) (v : Val) (a : Answer SymId)
      → and_then a (λ s. λ u. and_then (and_then (function_sketch own (Some s) (tail_of u.heap v) u) (function_tree levels inner own)) (λ l. λ t. gives (define own.place n s l) t))
      ≡ and_then (and_then a (λ s. λ u. and_then (function_sketch own (Some s) (tail_of u.heap v) u) (λ f. λ t. gives (s, f, own) t))) definition_read
  by_name own v (gives s u) = by_function own s (function_sketch own (Some s) (tail_of u.heap v) u)
  by_name own v (refused kind place) = refl

  pub definition_begins : (sc : Scope) (v : Val) (w : World) → definition_at levels inner sc n v w ≡ and_then (read_definition sc v w) definition_read
  unfolding definition_at read_definition read_definition_in ◌>>=◌ pure look
  definition_begins sc v w = by_name (at_form w.heap v sc) v (expect (at_form w.heap v sc) (option_and_then (name_in (at_form w.heap v sc)) (elements w.heap v)) w)
