-- What a form has to do with cells and words, in the order of its text. (This project's own.)
use Rattle.std.specs.Prelude.{ℕ, List, [], ◌∷◌, ◌++◌, if◌then◌else◌}
use Rattle.lisp_base.specs.declared.primitives.Primitive.{Primitive as Operation}
use Rattle.core_form.specs.Tree.{Core, Local, SetLocal, Let, Primitive, ReturnFrom, Go, Cores, Bindings, Lambda, lambda, Parameter}
use Rattle.core_form.specs.Facts.{FunctionText, lookup, has_number, gather, gather_optionals, binding_parameters, parameters_of, variable_under, variables_under}
use Rattle.core_form.specs.Arithmetic.{arithmetic}
use Rattle.closed_copies.specs.Table.{as_list}

pub data Part : Type 0 where
  -- a variable is read
  reads : ℕ → Part
  -- a variable is given the value of a form
  sets : ℕ → Core → Part
  -- a block is left
  leaves : (block : ℕ) → Part
  -- a tag is gone to
  goes : (tag : ℕ) → Part
  -- variables are bound
  binds : Bindings → Part
  -- an arithmetic primitive has these operands
  computes : Cores → Part
  -- a function is made or defined
  makes : Lambda → Part

abbrev pub operand_parts : Operation → Cores → List Part
operand_parts q es = if arithmetic q then computes es ∷ [] else []

abbrev pub node_parts : Core → List Part
node_parts (Local p x) = reads x ∷ []
node_parts (SetLocal p x e) = sets x e ∷ []
node_parts (ReturnFrom p b e) = leaves b ∷ []
node_parts (Go p t) = goes t ∷ []
node_parts (Let p bs e) = binds bs ∷ []
node_parts (Primitive p q es) = operand_parts q es
node_parts _ = []

abbrev pub function_parts : FunctionText → List Part
function_parts t = makes t.lambda ∷ []

abbrev pub parts : Core → List Part
parts e = gather node_parts function_parts e

-- the parts of a function, itself first
abbrev pub lambda_parts : Lambda → List Part
lambda_parts (lambda k xs os r e) = makes (lambda k xs os r e) ∷ [] ++ gather_optionals node_parts function_parts os ++ parts e

-- ---- what a part tells

abbrev pub read_by : Part → List ℕ
read_by (reads x) = x ∷ []
read_by _ = []

abbrev pub set_by : Part → List ℕ
set_by (sets x e) = x ∷ []
set_by _ = []

abbrev pub left_by : (tags : List (ℕ × ℕ)) → Part → List ℕ
left_by tags (leaves b) = b ∷ []
left_by tags (goes t) = as_list (lookup t tags)
left_by tags _ = []

abbrev pub bound_by : Part → List Parameter
bound_by (binds bs) = binding_parameters bs
bound_by (makes l) = parameters_of l
bound_by _ = []

abbrev pub made_by : Part → List Lambda
made_by (makes l) = l ∷ []
made_by _ = []

-- the references that a part takes as words, where these are the word variables
abbrev pub taken_by : (words : List ℕ) → Part → List ℕ
taken_by words (computes es) = variables_under es
taken_by words (sets x e) = if has_number x words then variable_under e else []
taken_by words _ = []
