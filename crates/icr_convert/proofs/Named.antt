-- What the names of a form stand for in its graph. (This project's own.)
use Rattle.std.proofs.Common.{◌≡◌, ℕ, Bool, true, false, Option, Some, None, slice_get, refl, sym, subst, ◌∙◌}
use Rattle.std.specs.Prelude.{option_map, if◌then◌else◌}
use Rattle.core_form.specs.Tree as tree
use Rattle.core_form.specs.Tree.{Lambda}
use Rattle.core_form.specs.Facts.{FunctionText, lookup}
use Rattle.core_form.specs.Step.{takes}
use Rattle.core_form.specs.Eval.{if_takes}
use Rattle.lisp_base.specs.declared.values.Place.{Place}
use Rattle.icr_graph.specs.Plain.{FlowGraph}
use Rattle.form_graphs.specs.Standing.{IsFunction, lambda_number}
use Rattle.graph_building.specs.Later.{Lasting}
use Rattle.icr_convert.specs.declared.names.Names.{Names}
use Rattle.icr_convert.specs.declared.names.Made.{Made}
use Rattle.icr_convert.specs.Scene.{rank, Scene, made_takes, IsMade, IsLocal, Ready}
use Rattle.icr_convert.specs.Converting.{IsKnown, KnowsFunction}

pub made_function : {g : FlowGraph} {s : Scene} {m : Made} {t : FunctionText} → IsMade g s m t → Lasting (λ h. IsFunction h s.facts rank m.function t) g
made_function made h later = (made.stands h later).is

-- a number that a table of texts has, by the number of the text's lambda
text_of : (found : Option FunctionText) (k : ℕ) → Some k ≡ option_map (λ t. lambda_number t.lambda) found → (t : FunctionText) × (found ≡ Some t) × (lambda_number t.lambda ≡ k)
text_of None k e = absurd (cc)
text_of (Some t) k e = (t, refl, cc)

-- the text of a local function, which its function is
pub local_made : {s : Scene} {names : Names} {g : FlowGraph} (x : ℕ) {m : Made} → Ready s names g → IsLocal names x m → (t : FunctionText) × (lookup x s.facts.names.functions ≡ Some t) × IsMade g s m t
local_made {s} {names} {g} x {m} ready local =
    let found = text_of (lookup x s.facts.names.functions) local.0 (sym local.1 ∙ ready.named.locals x) in
    let made = subst (λ (k : ℕ). slice_get names.functions.items k ≡ Some m) (sym found.2) local.2 in
    (found.0, found.1, ready.functions (lambda_number found.0.lambda) m found.0 made (ready.numbered x found.0 found.1))

-- ---- functions that are named where they are called

known_when : (s : Scene) (g : FlowGraph) (f : ℕ) (t : FunctionText) → Lasting (λ h. IsFunction h s.facts rank f t) g → (b : Bool) → IsKnown s (if b then Some f else None) (if b then Some t else None) g
known_when s g f t is true = is
known_when s g f t is false = tt

known_text : (s : Scene) (g : FlowGraph) (m : Made) (t : FunctionText) (n : ℕ) → IsMade g s m t → IsKnown s (if made_takes m n then Some m.function else None) (if takes t.lambda n then Some t else None) g
known_text s g m t n is =
    subst (λ (b : Bool). IsKnown s (if b then Some m.function else None) (if takes t.lambda n then Some t else None) g) (sym (is.takes n)) (known_when s g m.function t (made_function is) (takes t.lambda n))

pub knows_lambda : (names : Names) (pl : Place) (l : Lambda) (m : Made) (n : ℕ) → slice_get names.functions.items (lambda_number l) ≡ Some m →
    KnowsFunction names (tree.Function pl l) n (if made_takes m n then Some m.function else None)
knows_lambda names pl l m n there s g ready named =
    let text : FunctionText = record { name = None; place = pl; lambda = l } in
    known_text s g m text n (ready.functions (lambda_number l) m text there named)

pub knows_local : (names : Names) (pl : Place) (x : ℕ) (m : Made) (n : ℕ) → IsLocal names x m → KnowsFunction names (tree.FunLocal pl x) n (if made_takes m n then Some m.function else None)
knows_local names pl x m n local s g ready named =
    let text = local_made x ready local in
    subst (λ (o : Option FunctionText). IsKnown s (if made_takes m n then Some m.function else None) (if_takes n o) g) (sym text.1) (known_text s g m text.0 n text.2)
