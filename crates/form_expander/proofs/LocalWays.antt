-- Local functions round a body, and a function within its own definition, by the ways through them.
use Rattle.std.proofs.Common.{◌≡◌, refl, ap, sym, ◌∙◌, ℕ, List}
use Rattle.lisp_base.specs.declared.values.SymId.{SymId}
use Rattle.lisp_base.specs.declared.values.Val.{Val}
use Rattle.core_form.specs.Tree as tree
use Rattle.core_form.specs.Tree.{Core, Lambda, Definitions, define, no_definition}
use Rattle.expansion.specs.declared.heads.Reach.{Reach}
use Rattle.expansion.specs.declared.heads.Reach.TheVariants.{ForBody, ForAll}
use Rattle.expansion.specs.Scopes.{Scope, with_function}
use Rattle.expansion.specs.Steps.{World, Answer, gives, Step, and_then, ◌>>=◌, ◌>>◌, pure, begin, inside}
use Rattle.expansion.specs.Sketches.{Sketch, Function}
use Rattle.expansion.specs.Expanding.{Inner, definitions, around_definitions, functions_node, functions_tree, function_tree, recursive_node}
use Rattle.form_expander.specs.declared.fault.Fault.{Fault}
use Rattle.form_expander.specs.declared.fault.Fault.TheVariants as fault
use Rattle.form_expander.specs.Beginnings.{begin_functions, begin_numbers, with_names}
use Rattle.form_expander.specs.Extending.{Extends}
use Rattle.form_expander.specs.Outcomes.{Refuses}
use Rattle.form_expander.proofs.Following.{refused_same, first_refused, first_given}
use Rattle.form_expander.proofs.FunctionSteps.{led_by, functions_begun}
use Rattle.form_expander.proofs.Within.{stays, with_names_extends}

-- ---- local functions round a body

-- for the body the functions are there, whether they were for the definitions or not
pub around_body : (reach : Reach) (names : List (SymId × ℕ)) (sc before after within : Scope) → before ≡ around_definitions reach sc (with_names names sc) → after ≡ before → within ≡ around_definitions reach (with_names names after) after → within ≡ with_names names sc
around_body ForBody names sc before after within h k l = l ∙ ap (λ (s : Scope). with_names names s) (k ∙ h)
around_body ForAll names sc before after within h k l = l ∙ (k ∙ h)

pub before_extends : (reach : Reach) (names : List (SymId × ℕ)) (sc : Scope) → Extends sc (around_definitions reach sc (with_names names sc))
before_extends ForBody names sc = stays sc
before_extends ForAll names sc = with_names_extends names sc

module _ (levels : ℕ) (inner : Inner) (sc : Scope) (reach : Reach) (vs : List Val) (x : Sketch) (w : World) where
  abbrev named : Answer (ℕ × List (SymId × ℕ))
  named = begin_functions levels sc vs w

  abbrev labels : Answer Core
  labels = functions_node levels inner sc reach vs x w

  led_refused : (a : Answer (ℕ × List (SymId × ℕ))) (e : Fault) → Refuses a e → Refuses (led_by levels inner sc w reach vs x a) e
  led_refused a fault.Memory h = h
  led_refused a (fault.Refused kind place) h = ap (λ (b : Answer (ℕ × List (SymId × ℕ))). led_by levels inner sc w reach vs x b) h

  pub functions_refused : (e : Fault) → Refuses named e → Refuses labels e
  functions_refused e h = refused_same (led_by levels inner sc w reach vs x named) labels e (functions_begun levels inner sc w reach vs x) (led_refused named e h)

  module _ (n : ℕ) (names : List (SymId × ℕ)) (u : World) (before : Scope) (begins : named ≡ gives (n, names) u) (is : before ≡ around_definitions reach sc (with_names names sc)) where
    abbrev body_after : Definitions → Step Core
    body_after ds v = and_then (inner (inside levels) (with_names names sc) x v) (λ e. λ z. gives (tree.Labels sc.place ds e) z)

    functions_on : labels ≡ and_then (definitions (inside levels) inner before n vs u) body_after
    unfolding functions_tree ◌>>=◌ pure
    functions_on =
        functions_begun levels inner sc w reach vs x
        ∙ (ap (λ (a : Answer (ℕ × List (SymId × ℕ))). led_by levels inner sc w reach vs x a) begins
        ∙ ap (λ (s : Scope). and_then (definitions (inside levels) inner s n vs u) body_after) (sym is))

    pub functions_definitions : (e : Fault) → Refuses (definitions (inside levels) inner before n vs u) e → Refuses labels e
    functions_definitions e h = refused_same (and_then (definitions (inside levels) inner before n vs u) body_after) labels e functions_on (first_refused (definitions (inside levels) inner before n vs u) body_after e h)

    module _ (ds : Definitions) (v : World) (within : Scope) (made : definitions (inside levels) inner before n vs u ≡ gives ds v) (around : within ≡ with_names names sc) where
      abbrev done_after : Core → Step Core
      done_after e z = gives (tree.Labels sc.place ds e) z

      functions_within : labels ≡ and_then (inner (inside levels) within x v) done_after
      functions_within =
          functions_on
          ∙ (first_given (definitions (inside levels) inner before n vs u) body_after ds v made
          ∙ ap (λ (s : Scope). and_then (inner (inside levels) s x v) done_after) (sym around))

      pub functions_body : (e : Fault) → Refuses (inner (inside levels) within x v) e → Refuses labels e
      functions_body e h = refused_same (and_then (inner (inside levels) within x v) done_after) labels e functions_within (first_refused (inner (inside levels) within x v) done_after e h)

      pub functions_give : (c : Core) (z : World) (made : Core) → inner (inside levels) within x v ≡ gives c z → made ≡ tree.Labels sc.place ds c → labels ≡ gives made z
      functions_give c z made h e = functions_within ∙ (first_given (inner (inside levels) within x v) done_after c z h ∙ ap (λ (k : Core). gives k z) (sym e))

-- ---- a function within its own definition

module _ (levels : ℕ) (inner : Inner) (sc : Scope) (s : SymId) (f : Function) (w : World) where
  abbrev numbered : Answer ℕ
  numbered = begin_numbers 1 levels sc w

  abbrev recursive : Answer Core
  recursive = recursive_node levels inner sc s f w

  abbrev tree_for : ℕ → Lambda → Core
  tree_for n l = tree.Labels sc.place (define sc.place n s l no_definition) (tree.FunLocal sc.place n)

  abbrev function_after : ℕ → Step Core
  function_after n u = and_then (function_tree (inside levels) inner (with_function s n sc) f u) (λ l. λ v. and_then (begin 1 (inside levels) sc v) (λ _. λ z. gives (tree_for n l) z))

  recursive_on : recursive ≡ and_then numbered function_after
  unfolding recursive_node begin_numbers ◌>>=◌ ◌>>◌ pure
  recursive_on = refl

  pub recursive_refused : (e : Fault) → Refuses numbered e → Refuses recursive e
  recursive_refused e h = refused_same (and_then numbered function_after) recursive e recursive_on (first_refused numbered function_after e h)

  module _ (n : ℕ) (u : World) (own : Scope) (begins : numbered ≡ gives n u) (is : own ≡ with_function s n sc) where
    abbrev begin_after : Lambda → Step Core
    begin_after l v = and_then (begin 1 (inside levels) sc v) (λ _. λ z. gives (tree_for n l) z)

    recursive_within : recursive ≡ and_then (function_tree (inside levels) inner own f u) begin_after
    recursive_within =
        recursive_on
        ∙ (first_given numbered function_after n u begins
        ∙ ap (λ (o : Scope). and_then (function_tree (inside levels) inner o f u) begin_after) (sym is))

    pub recursive_function : (e : Fault) → Refuses (function_tree (inside levels) inner own f u) e → Refuses recursive e
    recursive_function e h = refused_same (and_then (function_tree (inside levels) inner own f u) begin_after) recursive e recursive_within (first_refused (function_tree (inside levels) inner own f u) begin_after e h)

    module _ (l : Lambda) (v : World) (back : Scope) (made : function_tree (inside levels) inner own f u ≡ gives l v) (same : back ≡ sc) where
      abbrev done_with : Unit {0} → Step Core
      done_with nothing z = gives (tree_for n l) z

      recursive_back : recursive ≡ and_then (begin 1 (inside levels) back v) done_with
      recursive_back =
          recursive_within
          ∙ (first_given (function_tree (inside levels) inner own f u) begin_after l v made
          ∙ ap (λ (o : Scope). and_then (begin 1 (inside levels) o v) done_with) (sym same))

      pub recursive_nested : (e : Fault) → Refuses (begin 1 (inside levels) back v) e → Refuses recursive e
      recursive_nested e h = refused_same (and_then (begin 1 (inside levels) back v) done_with) recursive e recursive_back (first_refused (begin 1 (inside levels) back v) done_with e h)

      pub recursive_gives : (z : World) → begin 1 (inside levels) back v ≡ gives tt z → recursive ≡ gives (tree_for n l) z
      recursive_gives z h = recursive_back ∙ first_given (begin 1 (inside levels) back v) done_with tt z h
