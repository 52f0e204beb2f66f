-- Functions and definitions, by the ways through them: where they are refused, and what they give.
use Rattle.std.proofs.Common.{◌≡◌, ap, sym, ◌∙◌, ℕ, List, Option}
use Rattle.lisp_base.specs.declared.values.SymId.{SymId}
use Rattle.lisp_base.specs.declared.values.Val.{Val}
use Rattle.core_form.specs.Tree.{Core, Optionals, Lambda, lambda, Definitions, define}
use Rattle.expansion.specs.Scopes.{Scope}
use Rattle.expansion.specs.Steps.{World, Answer, gives, Step, and_then, inside}
use Rattle.expansion.specs.Sketches.{Binder, Optional', Sketch, Function, function_of}
use Rattle.expansion.specs.Expanding.{Inner, BoundOptional, defaults, with_all, with_some, parameters, parameter_some, function_tree, definition_at}
use Rattle.form_expander.specs.declared.fault.Fault.{Fault}
use Rattle.form_expander.specs.Beginnings.{Beginning, begin_function, read_definition}
use Rattle.form_expander.specs.Outcomes.{Refuses}
use Rattle.form_expander.proofs.Following.{refused_same, first_refused, first_given}
use Rattle.form_expander.proofs.FunctionParts.{function_begun, function_begins, definition_read, definition_begins}

-- ---- functions

module _ (levels : ℕ) (inner : Inner) (sc : Scope) (x : Sketch) (required : List Binder) (optional : List Optional') (rest : Option Binder) (w : World) where
  abbrev begun : Answer Beginning
  begun = begin_function levels sc (function_of required optional rest x) w

  abbrev whole : Answer Lambda
  whole = function_tree levels inner sc (function_of required optional rest x) w

  pub function_refused : (e : Fault) → Refuses begun e → Refuses whole e
  function_refused e h = refused_same (and_then begun (function_begun levels inner sc x)) whole e (function_begins levels inner sc x required optional rest w) (first_refused begun (function_begun levels inner sc x) e h)

  module _ (b : Beginning) (u : World) (own : Scope) (os : List BoundOptional) (begins : begun ≡ gives b u) (is : own ≡ with_all sc b.required) (those : os ≡ b.optional) where
    abbrev body_of : Optionals × Scope → Step Lambda
    body_of found v = and_then (inner (inside levels) (with_some found.1 b.rest) x v) (λ e. λ z. gives (lambda b.number (parameters b.required) found.0 (parameter_some b.rest) e) z)

    function_on : whole ≡ and_then (defaults (inner (inside levels)) own os u) body_of
    function_on =
        function_begins levels inner sc x required optional rest w
        ∙ (first_given begun (function_begun levels inner sc x) b u begins
        ∙ (ap (λ (s : Scope). and_then (defaults (inner (inside levels)) s b.optional u) body_of) (sym is)
        ∙ ap (λ (l : List BoundOptional). and_then (defaults (inner (inside levels)) own l u) body_of) (sym those)))

    pub function_defaults : (e : Fault) → Refuses (defaults (inner (inside levels)) own os u) e → Refuses whole e
    function_defaults e h = refused_same (and_then (defaults (inner (inside levels)) own os u) body_of) whole e function_on (first_refused (defaults (inner (inside levels)) own os u) body_of e h)

    module _ (made : Optionals) (last within : Scope) (v : World) (defaulted : defaults (inner (inside levels)) own os u ≡ gives (made, last) v) (rested : within ≡ with_some last b.rest) where
      abbrev done_of : Core → Step Lambda
      done_of e z = gives (lambda b.number (parameters b.required) made (parameter_some b.rest) e) z

      function_within : whole ≡ and_then (inner (inside levels) within x v) done_of
      function_within =
          function_on
          ∙ (first_given (defaults (inner (inside levels)) own os u) body_of (made, last) v defaulted
          ∙ ap (λ (s : Scope). and_then (inner (inside levels) s x v) done_of) (sym rested))

      pub function_body : (e : Fault) → Refuses (inner (inside levels) within x v) e → Refuses whole e
      function_body e h = refused_same (and_then (inner (inside levels) within x v) done_of) whole e function_within (first_refused (inner (inside levels) within x v) done_of e h)

      pub function_gives : (c : Core) (z : World) (l : Lambda) → inner (inside levels) within x v ≡ gives c z → l ≡ lambda b.number (parameters b.required) made (parameter_some b.rest) c → whole ≡ gives l z
      function_gives c z l h e =
          function_within ∙ (first_given (inner (inside levels) within x v) done_of c z h ∙ ap (λ (k : Lambda). gives k z) (sym e))

-- ---- definitions

module _ (levels : ℕ) (inner : Inner) (sc : Scope) (n : ℕ) (v : Val) (w : World) where
  abbrev read : Answer (SymId × Function × Scope)
  read = read_definition sc v w

  abbrev defined : Answer (Definitions → Definitions)
  defined = definition_at levels inner sc n v w

  pub definition_refused : (e : Fault) → Refuses read e → Refuses defined e
  definition_refused e h = refused_same (and_then read (definition_read levels inner n)) defined e (definition_begins levels inner n sc v w) (first_refused read (definition_read levels inner n) e h)

  module _ (s : SymId) (f : Function) (own : Scope) (u : World) (reads : read ≡ gives (s, f, own) u) where
    abbrev put_of : Lambda → Step (Definitions → Definitions)
    put_of l z = gives (define own.place n s l) z

    definition_on : defined ≡ and_then (function_tree levels inner own f u) put_of
    definition_on = definition_begins levels inner n sc v w ∙ first_given read (definition_read levels inner n) (s, f, own) u reads

    pub definition_function : (e : Fault) → Refuses (function_tree levels inner own f u) e → Refuses defined e
    definition_function e h = refused_same (and_then (function_tree levels inner own f u) put_of) defined e definition_on (first_refused (function_tree levels inner own f u) put_of e h)

    pub definition_gives : (l : Lambda) (z : World) → function_tree levels inner own f u ≡ gives l z → defined ≡ gives (define own.place n s l) z
    definition_gives l z h = definition_on ∙ first_given (function_tree levels inner own f u) put_of l z h
