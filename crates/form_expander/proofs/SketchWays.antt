-- What a sketch stands for where it gives no node of its own: a form, and the top of a file.
use Rattle.std.proofs.Common.{◌≡◌, refl, ap, sym, ◌∙◌, ℕ, suc, List, Result, Ok, Err, IfOk}
use Rattle.lisp_base.specs.declared.values.SymId.{SymId}
use Rattle.lisp_base.specs.declared.values.Val.{Val}
use Rattle.declarations.specs.Declarations.{Declared}
use Rattle.core_form.specs.declared.tree.Core.{Core as Core'}
use Rattle.core_form.specs.Reading.{core_of}
use Rattle.core_form.specs.Tree as tree
use Rattle.core_form.specs.Tree.{Core, Lambda}
use Rattle.expansion.specs.declared.kind.ExpandKind.TheVariants.{TooNested}
use Rattle.expansion.specs.declared.heads.Leaf.{Leaf}
use Rattle.expansion.specs.declared.heads.Reach.{Reach}
use Rattle.expansion.specs.Scopes.{Scope, declared_in}
use Rattle.expansion.specs.Forms.{set_variable}
use Rattle.expansion.specs.Steps.{World, Answer, gives, refused, Step, and_then, ◌>>=◌, ◌>>◌, pure, look, refuse, most_chain, most_levels}
use Rattle.expansion.specs.Sketches.{Initial, Sketch, form, leaf, bind, assign, function, functions, recursive, block, tagbody, within, Function}
use Rattle.expansion.specs.Expanding.{make, tree_of, most_fuel, function_tree, binding_node, functions_node, recursive_node, block_node, tagbody_node}
use Rattle.form_expander.specs.declared.fault.Fault.{Fault}
use Rattle.form_expander.specs.declared.fault.Fault.TheVariants as fault
use Rattle.form_expander.specs.Beginnings.{leaf_made}
use Rattle.form_expander.specs.Chains.{Led, led, leads}
use Rattle.form_expander.specs.Extending.{Extends}
use Rattle.form_expander.specs.Outcomes.{Refuses, Follows}
use Rattle.form_expander.proofs.Following.{refused_same, follows_same, first_refused, first_given}
use Rattle.form_expander.proofs.Kept.{extends_on}
use Rattle.form_expander.proofs.Leading.{tree_led, expand_leads}
use Rattle.form_expander.proofs.Within.{declared_extends}

led_none : (levels : ℕ) (a : Answer Led) (e : Fault) → Refuses a e → Refuses (tree_led levels a) e
led_none levels a fault.Memory h = h
led_none levels a (fault.Refused kind place) h = ap (λ (b : Answer Led). tree_led levels b) h

-- ---- forms

module _ (fuel levels : ℕ) (sc : Scope) (v : Val) (w : World) where
  form_led : make (suc fuel) levels sc (form v) w ≡ tree_led levels (leads fuel 1000 sc v w)
  unfolding make most_chain
  form_led = expand_leads fuel levels 1000 sc v w

  pub form_refused : (e : Fault) → Refuses (leads fuel 1000 sc v w) e → Refuses (make (suc fuel) levels sc (form v) w) e
  form_refused e h = refused_same (tree_led levels (leads fuel 1000 sc v w)) (make (suc fuel) levels sc (form v) w) e form_led (led_none levels (leads fuel 1000 sc v w) e h)

  pub form_follows : {X : Type 0} (view : X → Core) (left : ℕ) (own : Scope) (x : Sketch) (u : World) (r : Result X Fault) (z : World)
      → leads fuel 1000 sc v w ≡ gives (led left own x) u → Follows view (make left levels own x u) r z → Follows view (make (suc fuel) levels sc (form v) w) r z
  form_follows view left own x u r z h k =
      follows_same view (make left levels own x u) (make (suc fuel) levels sc (form v) w) r z (form_led ∙ ap (λ (b : Answer Led). tree_led levels b) h) k

-- ---- the top

module _ (chain : ℕ) (sc : Scope) (v : Val) (w : World) where
  top_led : tree_of chain sc v w ≡ tree_led 1000 (leads 4000000 chain sc v w)
  unfolding tree_of most_fuel most_levels
  top_led = expand_leads 4000000 1000 chain sc v w

  pub top_refused : (e : Fault) → Refuses (leads 4000000 chain sc v w) e → Refuses (tree_of chain sc v w) e
  top_refused e h = refused_same (tree_led 1000 (leads 4000000 chain sc v w)) (tree_of chain sc v w) e top_led (led_none 1000 (leads 4000000 chain sc v w) e h)

  module _ (left : ℕ) (own : Scope) (x : Sketch) (u : World) (leads_there : leads 4000000 chain sc v w ≡ gives (led left own x) u) where
    top_on : tree_of chain sc v w ≡ make left 1000 own x u
    top_on = top_led ∙ ap (λ (b : Answer Led). tree_led 1000 b) leads_there

    pub top_made : (e : Fault) → Refuses (make left 1000 own x u) e → Refuses (tree_of chain sc v w) e
    top_made e h = refused_same (make left 1000 own x u) (tree_of chain sc v w) e top_on h

    pub top_gives : (c : Core) (z : World) → make left 1000 own x u ≡ gives c z → tree_of chain sc v w ≡ gives c z
    top_gives c z h = top_on ∙ h

-- ---- functions as values

module _ (fuel levels : ℕ) (sc : Scope) (f : Function) (w : World) where
  abbrev function_put : Lambda → Step Core
  function_put l z = gives (tree.Function sc.place l) z

  value_on : make (suc fuel) levels sc (function f) w ≡ and_then (function_tree levels (make fuel) sc f w) function_put
  unfolding make ◌>>=◌ pure
  value_on = refl

  pub value_refused : (e : Fault) → Refuses (function_tree levels (make fuel) sc f w) e → Refuses (make (suc fuel) levels sc (function f) w) e
  value_refused e h =
      refused_same (and_then (function_tree levels (make fuel) sc f w) function_put) (make (suc fuel) levels sc (function f) w) e value_on
      (first_refused (function_tree levels (make fuel) sc f w) function_put e h)

  pub value_gives : (l : Lambda) (z : World) → function_tree levels (make fuel) sc f w ≡ gives l z → make (suc fuel) levels sc (function f) w ≡ gives (tree.Function sc.place l) z
  value_gives l z h = value_on ∙ first_given (function_tree levels (make fuel) sc f w) function_put l z h

-- ---- sketches that are read as others

module _ (fuel levels : ℕ) (sc : Scope) (w : World) (x : Sketch) (r : Result Core' Fault) (v : World) where
  pub sketch_as : (y : Sketch) (a : Answer Core) → x ≡ y → make (suc fuel) levels sc y w ≡ a → Follows core_of a r v → Follows core_of (make (suc fuel) levels sc x w) r v
  sketch_as y a is gives_it k =
      follows_same core_of a (make (suc fuel) levels sc x w) r v (ap (λ (z : Sketch). make (suc fuel) levels sc z w) is ∙ gives_it) k

module _ (fuel levels : ℕ) (sc : Scope) (w : World) where
  pub bind_is : (bs : List Initial) (x : Sketch) → make (suc fuel) levels sc (bind bs x) w ≡ binding_node levels (make fuel) sc bs x w
  unfolding make
  bind_is bs x = refl

  pub functions_are : (reach : Reach) (vs : List Val) (x : Sketch) → make (suc fuel) levels sc (functions reach vs x) w ≡ functions_node levels (make fuel) sc reach vs x w
  unfolding make
  functions_are reach vs x = refl

  pub recursive_is : (s : SymId) (f : Function) → make (suc fuel) levels sc (recursive s f) w ≡ recursive_node levels (make fuel) sc s f w
  unfolding make
  recursive_is s f = refl

  pub block_is : (s : SymId) (x : Sketch) → make (suc fuel) levels sc (block s x) w ≡ block_node levels (make fuel) sc s x w
  unfolding make
  block_is s x = refl

  pub tagbody_is : (vs : List Val) → make (suc fuel) levels sc (tagbody vs) w ≡ tagbody_node levels (make fuel) sc vs w
  unfolding make
  tagbody_is vs = refl

  pub leaf_is : (l : Leaf) → make (suc fuel) levels sc (leaf l) w ≡ leaf_made levels sc l w
  unfolding make leaf_made ◌>>◌ ◌>>=◌ pure
  leaf_is l = refl

  pub within_is : (d : Declared) (x : Sketch) (own : Scope) → own ≡ declared_in d sc → make (suc fuel) levels sc (within d x) w ≡ make fuel levels own x w
  unfolding make
  within_is d x own is = ap (λ (s : Scope). make fuel levels s x w) (sym is)

  pub assign_is : (s : SymId) (v : Val) (x : Sketch) → x ≡ set_variable sc s v w → make (suc fuel) levels sc (assign s v) w ≡ make fuel levels sc x w
  unfolding make ◌>>=◌ look
  assign_is s v x is = ap (λ (y : Sketch). make fuel levels sc y w) (sym is)

-- a part within declarations leaves the scope that they made
pub within_extends : {X : Type 0} (d : Declared) (sc own last : Scope) (r : Result X Fault) → own ≡ declared_in d sc → IfOk r (λ _. last ≡ own) → IfOk r (λ _. Extends sc last)
within_extends d sc own last (Ok x) is same = extends_on sc (declared_in d sc) last (declared_extends d sc) (same ∙ is)
within_extends d sc own last (Err e) is same = tt

-- ---- the fuel

module _ (levels : ℕ) (sc : Scope) (x : Sketch) (w : World) where
  pub make_none : (fuel : ℕ) → fuel ≡ 0 → make fuel levels sc x w ≡ refused TooNested sc.place
  unfolding make refuse
  make_none fuel is = ap (λ (n : ℕ). make n levels sc x w) is

  pub make_refused : (fuel less : ℕ) (e : Fault) → fuel ≡ suc less → Refuses (make (suc less) levels sc x w) e → Refuses (make fuel levels sc x w) e
  make_refused fuel less e is h = refused_same (make (suc less) levels sc x w) (make fuel levels sc x w) e (ap (λ (n : ℕ). make n levels sc x w) is) h

  pub make_gives : (fuel less : ℕ) (c : Core) (z : World) → fuel ≡ suc less → make (suc less) levels sc x w ≡ gives c z → make fuel levels sc x w ≡ gives c z
  make_gives fuel less c z is h = ap (λ (n : ℕ). make n levels sc x w) is ∙ h
