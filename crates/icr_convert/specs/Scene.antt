-- What a conversion goes by: the facts of the form, and the variables and functions of its graph. (This project's own.)
use Rattle.std.specs.Prelude.{◌≡◌, ℕ, ◌+◌, Bool, not, ◌&&◌, ◌||◌, nat_lt, List, length, slice_get, Some, option_map}
use Rattle.lisp_base.specs.declared.values.Val.TheVariants.{Sym}
use Rattle.ir_ids.specs.Entries.{map_of}
use Rattle.core_form.specs.Tree.{Core}
use Rattle.core_form.specs.Facts.{FunctionText, Facts, functions_in, lookup, has_number}
use Rattle.core_form.specs.Step.{takes}
use Rattle.icr_graph.specs.Plain.{FlowGraph}
use Rattle.form_graphs.specs.Spots.{IsVariable}
use Rattle.form_graphs.specs.Standing.{IsFunction, lambda_number}
use Rattle.form_graphs.specs.Functions.{required_of, optional_number, takes_more}
use Rattle.form_facts.specs.View.{Knows}
use Rattle.form_names.specs.Names.{Names as FormNames', tag_text}
use Rattle.graph_building.specs.Later.{Lasting}
use Rattle.icr_convert.specs.declared.names.Names.{Names}
use Rattle.icr_convert.specs.declared.names.Made.{Made}

-- continuations have their numbers as ranks
abbrev pub rank : ℕ → ℕ
rank k = k

-- the facts of a top-level form, and its tree
pub record Scene : Type 0 where
  pub facts : Facts
  pub form : Core

abbrev pub texts : Scene → List FunctionText
texts s = functions_in s.form

-- whether a function takes so many arguments
abbrev pub made_takes : Made → ℕ → Bool
made_takes m n = not (nat_lt n m.required) && (m.rest || not (nat_lt (m.required + m.optional) n))

-- a function of the graph is that of a text, and its code begins at this block
pub record MadeStands (g : FlowGraph) (s : Scene) (m : Made) (t : FunctionText) : Type 0 where
  pub is : IsFunction g s.facts rank m.function t
  pub name : is.function.name ≡ t.name
  pub place : is.function.place ≡ t.place
  pub required : is.function.required ≡ length (required_of t.lambda)
  pub optional : is.function.optional ≡ optional_number t.lambda
  pub rest : is.function.rest ≡ takes_more t.lambda
  pub begins : slice_get is.function.entries 0 ≡ Some m.block

pub record IsMade (g : FlowGraph) (s : Scene) (m : Made) (t : FunctionText) : Type 0 where
  pub stands : Lasting (λ h. MadeStands h s m t) g
  pub takes : (n : ℕ) → made_takes m n ≡ takes t.lambda n

-- what stands under the numbers of the form is what its facts say
pub record KnowsNames (f : FormNames') (facts : Facts) : Type 0 where
  pub extents : (n : ℕ) → has_number n f.extents ≡ has_number n facts.extents
  pub blocks : (n : ℕ) → option_map Sym (lookup n f.blocks) ≡ lookup n facts.blocks
  pub tags : (n : ℕ) → option_map tag_text (lookup n f.tags) ≡ lookup n facts.names.tags
  pub locals : (n : ℕ) → lookup n f.locals ≡ option_map (λ t. lambda_number t.lambda) (lookup n facts.names.functions)

-- The names go by the facts: variables and functions of the graph are those of the form.
pub record Ready (s : Scene) (names : Names) (g : FlowGraph) : Type 0 where
  pub knows : Knows names.facts s.facts (texts s)
  pub named : KnowsNames names.texts s.facts
  pub variables : (x v : ℕ) → map_of names.variables.items x ≡ Some v → Lasting (λ h. IsVariable h s.facts v x) g
  pub numbered : (x : ℕ) (t : FunctionText) → lookup x s.facts.names.functions ≡ Some t → slice_get (texts s) (lambda_number t.lambda) ≡ Some t
  pub functions : (i : ℕ) (m : Made) (t : FunctionText) → slice_get names.functions.items i ≡ Some m → slice_get (texts s) i ≡ Some t → IsMade g s m t

-- the function of a local function's number
abbrev pub IsLocal : Names → (number : ℕ) → Made → Type 0
IsLocal names number m =
    (k : ℕ) × (lookup number names.texts.locals ≡ Some k) × (slice_get names.functions.items k ≡ Some m)
