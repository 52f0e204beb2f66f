-- What the nodes and functions of a form have under numbers, in the order of the text. (This project's own.)
use Rattle.std.specs.Prelude.{ℕ, List, [], ◌∷◌, Some}
use Rattle.lisp_base.specs.declared.values.SymId.{SymId}
use Rattle.core_form.specs.Tree.{Core, Labels, Block, Tagbody, Definitions, no_definition, define, Items, no_item, tag, step}
use Rattle.core_form.specs.Facts.{FunctionText, TagText, gather, tagbody_number}

pub data Part : Type 0 where
  -- a function
  does : FunctionText → Part
  -- a block, with its name
  blocks : ℕ → SymId → Part
  -- a tagbody
  tagbodies : ℕ → Part
  -- a tag
  tags : ℕ → TagText → Part
  -- a local function is defined
  defines : ℕ → FunctionText → Part

abbrev pub definition_parts : Definitions → List Part
definition_parts no_definition = []
definition_parts (define p f n l ds) = defines f (record { name = Some n; place = p; lambda = l }) ∷ definition_parts ds

abbrev pub tag_parts : (tagbody : ℕ) → Items → List Part
tag_parts b no_item = []
tag_parts b (tag t v is) = tags t (record { tagbody = b; name = v }) ∷ tag_parts b is
tag_parts b (step e is) = tag_parts b is

abbrev pub tagbody_parts : Items → List Part
tagbody_parts is = tagbodies (tagbody_number is) ∷ tag_parts (tagbody_number is) is

abbrev pub node_parts : Core → List Part
node_parts (Labels p ds e) = definition_parts ds
node_parts (Block p b n e) = blocks b n ∷ []
node_parts (Tagbody p is) = tagbody_parts is
node_parts _ = []

abbrev pub function_parts : FunctionText → List Part
function_parts t = does t ∷ []

abbrev pub parts : Core → List Part
parts e = gather node_parts function_parts e

-- ---- what a part tells

abbrev pub function_of : Part → List FunctionText
function_of (does t) = t ∷ []
function_of _ = []

abbrev pub extent_of : Part → List ℕ
extent_of (blocks b n) = b ∷ []
extent_of (tagbodies b) = b ∷ []
extent_of _ = []

abbrev pub block_of : Part → List (ℕ × SymId)
block_of (blocks b n) = (b, n) ∷ []
block_of _ = []

abbrev pub tag_of : Part → List (ℕ × TagText)
tag_of (tags t x) = (t, x) ∷ []
tag_of _ = []

abbrev pub local_of : Part → List (ℕ × FunctionText)
local_of (defines f t) = (f, t) ∷ []
local_of _ = []
