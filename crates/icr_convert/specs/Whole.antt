-- What the conversion of a whole form gives. (This project's own.)
use Rattle.std.specs.Prelude.{◌≡◌, ℕ, ◌<◌, ◌≤◌, List, [], ◌∷◌, ◌++◌, map, length, slice_get, Option, Some, None, option_map, true, false}
use Rattle.std.specs.List.{Contains}
use Rattle.ir_ids.specs.Entries.{map_of}
use Rattle.layers.specs.Among.{KeepsAcross}
use Rattle.core_form.specs.declared.tree.TopForm.{TopForm}
use Rattle.lisp_base.specs.declared.values.SymId.{SymId}
use Rattle.lisp_base.specs.declared.values.Place.{Place}
use Rattle.core_form.specs.Tree.{Core, Progn, SetFun, Cores, no_core, core, Top}
use Rattle.core_form.specs.Reading.{top_of}
use Rattle.core_form.specs.State.{Symbol, Object}
use Rattle.core_form.specs.AsLayer.{forms_together}
use Rattle.core_form.specs.Lawful.{Parts, symbol_of}
use Rattle.icr_graph.specs.Plain.{FlowGraph}
use Rattle.core_form.specs.Facts.{FunctionText, facts_of, functions_in, function_given}
use Rattle.core_form.specs.Force.{symbol_kinds_of}
use Rattle.graph_meaning.specs.Reading.{defined_by}
use Rattle.icr_graph.specs.declared.parts.Defined.{Defined}
use Rattle.core_form.specs.Step.{takes}
use Rattle.icr_graph.specs.declared.parts.Function.{Function}
use Rattle.icr_graph.specs.declared.nodes.NodeKind.TheVariants as kind
use Rattle.form_graphs.specs.Spots.{Spot, none, Here, Unasserted, IsVariable}
use Rattle.form_graphs.specs.Standing.{StandsAt, lambda_number}
use Rattle.form_facts.specs.View.{View, Knows}
use Rattle.form_names.specs.Names.{Names as FormNames', NamesOf}
use Rattle.graph_building.specs.Later.{Later, Lasting}
use Rattle.graph_building.specs.Built.{Built, graph, spot, Grown, Beside, IsBegun}
use Rattle.graph_building.specs.Orderly.{AllChecked, FewSuccessors, OneFunction}
use Rattle.icr_convert.specs.declared.names.Names.{Names}
use Rattle.icr_convert.specs.declared.names.Made.{Made}
use Rattle.icr_convert.specs.Naming.{Named, CodeNamed}
use Rattle.icr_convert.specs.Scene.{rank, Scene, texts as texts_of, Ready, KnowsNames, IsMade, made_takes}
use Rattle.graph_meaning.specs.AsLayer.{graphs_together}
use Rattle.form_graphs.specs.Functions.{IsGraphOf, CodeStandsAt, required_of, optional_number, takes_more}

-- the symbols of a program, as its meaning has them
abbrev pub symbols_of : Parts → List Symbol
symbols_of p = map symbol_of p.symbols

-- a form is one of a program's
abbrev pub IsFormOf : Parts → TopForm → Type 0
IsFormOf p f = Contains (p.prelude ++ p.forms) f

-- The graph keeps what the form means, among any other forms and graphs of theirs, in every heap.
abbrev pub GraphKeeps : Parts → TopForm → FlowGraph → Type 0
GraphKeeps p f g =
    (heap : List Object) → KeepsAcross (forms_together heap (symbols_of p)) (graphs_together heap (symbols_of p)) (IsGraphOf (symbols_of p)) (top_of f) g

-- Every assertion is checked, each block has the successors that its last node asks for, and belongs to one function.
pub record IsWellMade (g : FlowGraph) : Type 0 where
  pub checked : AllChecked g
  pub few : FewSuccessors g
  pub functions : OneFunction g

-- ---- its parts

-- the variables of a form are there, under their numbers
pub record VariablesMade (facts : View) (texts : FormNames') (a b : Built) (vs : List (Option ℕ)) : Type 0 where
  pub beside : Beside a b
  pub stand : (s : Scene) → Knows facts s.facts (texts_of s) → KnowsNames texts s.facts →
      (x v : ℕ) → map_of vs x ≡ Some v → Lasting (λ h. IsVariable h s.facts v x) (graph b)

-- what one binder binds is there too
pub record Declares (facts : View) (texts : FormNames') (a b : Built) (vs vs' : List (Option ℕ)) : Type 0 where
  pub beside : Beside a b
  pub stand : (s : Scene) → Knows facts s.facts (texts_of s) → KnowsNames texts s.facts →
      ((x v : ℕ) → map_of vs x ≡ Some v → Lasting (λ h. IsVariable h s.facts v x) (graph a)) →
      (x v : ℕ) → map_of vs' x ≡ Some v → Lasting (λ h. IsVariable h s.facts v x) (graph b)

-- the variables of these numbers, in their order
abbrev pub AreVariables : List (Option ℕ) → (numbers variables : List ℕ) → Type 0
AreVariables vs ns ids = map (map_of vs) ns ≡ map Some ids

-- a function of the graph is that of a text and closes over these variables
pub record IsTextOf (g : FlowGraph) (t : FunctionText) (closed : List ℕ) (m : Made) : Type 0 where
  pub function : Function
  pub there : g.function m.function ≡ Some function
  pub lambda : function.lambda ≡ Some (lambda_number t.lambda)
  pub closes : function.closed ≡ closed
  pub name : function.name ≡ t.name
  pub place : function.place ≡ t.place
  pub required : function.required ≡ length (required_of t.lambda)
  pub optional : function.optional ≡ optional_number t.lambda
  pub rest : function.rest ≡ takes_more t.lambda
  pub begins : slice_get function.entries 0 ≡ Some m.block

-- a function of a text is made, and is that of the form's next lambda
pub record MakesFunction (t : FunctionText) (closed : List ℕ) (a b : Built) (m : Made) : Type 0 where
  pub later : Later (graph a) (graph b)
  pub fresh : a.fresh ≤ b.fresh
  pub same : spot b ≡ spot a
  pub size : (graph b).size ≡ (graph a).size
  pub code : (graph b).code ≡ (graph a).code
  pub defines : (graph b).defines ≡ (graph a).defines
  pub lambdas : (graph b).lambdas ≡ (graph a).lambdas ++ Some m.function ∷ []
  pub takes : (n : ℕ) → made_takes m n ≡ takes t.lambda n
  pub there : Lasting (λ h. IsTextOf h t closed m) (graph b)

-- a function is made for each of so many of these texts, and is that of the form's next lambda
pub record FunctionsMade (facts : View) (vs : List (Option ℕ)) (ts : List FunctionText) (n : ℕ) (a b : Built) (ms : List Made) : Type 0 where
  pub later : Later (graph a) (graph b)
  pub fresh : a.fresh ≤ b.fresh
  pub same : spot b ≡ spot a
  pub size : (graph b).size ≡ (graph a).size
  pub code : (graph b).code ≡ (graph a).code
  pub defines : (graph b).defines ≡ (graph a).defines
  pub lambdas : (graph b).lambdas ≡ (graph a).lambdas ++ map (λ m. Some m.function) ms
  pub number : length ms ≡ n
  pub stand : (s : Scene) → texts_of s ≡ ts → Knows facts s.facts ts →
      ((x v : ℕ) → map_of vs x ≡ Some v → Lasting (λ h. IsVariable h s.facts v x) (graph a)) →
      (i : ℕ) (m : Made) (t : FunctionText) → slice_get ms i ≡ Some m → slice_get ts i ≡ Some t → IsMade (graph b) s m t

-- a form's own code, from a spot on to its return
pub record OwnCodeStands (g : FlowGraph) (s : Scene) (e : Core) (p : Spot) : Type 0 where
  pub cont : ℕ
  pub free : Unasserted g cont
  pub end : Spot
  pub stands : StandsAt g s.facts rank true false e 0 none 0 (Some cont) p end
  pub place : Place
  pub returns : Here g end (kind.Return cont) None place 0 none

-- a form's own code stands from where nodes are added on
pub record OwnCodePlaced (s : Scene) (e : Core) (a b : Built) : Type 0 where
  pub grown : Grown a b
  pub stands : Lasting (λ h. OwnCodeStands h s e (spot a)) (graph b)

abbrev pub OwnCodes : Names → Core → Built → Built → Type 0
OwnCodes names e a b = (s : Scene) → Ready s names (graph a) → Named (texts_of s) e → OwnCodePlaced s e a b

-- the code of each of so many functions stands from its block on
pub record AllCodesPlaced (s : Scene) (ms : List Made) (ts : List FunctionText) (n : ℕ) (a b : Built) : Type 0 where
  pub grown : Grown a b
  pub stand : (i : ℕ) (m : Made) (t : FunctionText) → i < n → slice_get ms i ≡ Some m → slice_get ts i ≡ Some t →
      Lasting (λ h. CodeStandsAt h s.facts rank t.place t.lambda m.block) (graph b)

abbrev pub CodesAll : Names → List FunctionText → (n : ℕ) → Built → Built → Type 0
CodesAll names ts n a b =
    (s : Scene) → Ready s names (graph a) → ((i : ℕ) (t : FunctionText) → slice_get ts i ≡ Some t → CodeNamed (texts_of s) t.lambda) →
    AllCodesPlaced s names.functions.items ts n a b

-- a symbol with the first function of its form
abbrev pub given_alone : List SymId → List (SymId × ℕ)
given_alone names = map (λ s. (s, 0)) names

-- the symbol to which a node gives a function; the first of some nodes; a form, alone or first
abbrev pub set_by : Core → Option SymId
set_by (SetFun p s e) = Some s
set_by _ = None

abbrev pub set_first : Cores → Option SymId
set_first no_core = None
set_first (core e es) = set_by e

abbrev pub set_in : Core → Option SymId
set_in (Progn p es) = set_first es
set_in e = set_by e

abbrev pub defined_with : Option SymId → Option Defined
defined_with given = option_map (λ s. record { name = s; lambda = 0 }) given

-- a graph with a form's own code begun
pub record Begun (t : Top) (b : Built) : Type 0 where
  pub copies : ℕ
  pub defines : Option Defined
  pub begun : IsBegun t.nodes copies defines t.place b
  pub given : defined_by 0 defines [] ≡ given_alone (function_given t.core)

-- the names of a form go by its facts, whatever the number of its first function, and its functions are there
pub record NamesMade (symbols : List Symbol) (t : Top) (names : Names) (a c : Built) : Type 0 where
  pub knows : (start : ℕ) → Knows names.facts (facts_of (symbol_kinds_of symbols) start t) (functions_in t.core)
  pub named : NamesOf names.texts t.core
  pub between : Built
  pub variables : VariablesMade names.facts names.texts a between names.variables.items
  pub functions : FunctionsMade names.facts names.variables.items (functions_in t.core) (length (functions_in t.core)) between c names.functions.items
