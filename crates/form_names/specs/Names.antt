-- What stands under the numbers of a form, as the code holds it. (This project's own.)
use Rattle.std.specs.Prelude.{◌≡◌, ℕ, List, option_map}
use Rattle.lisp_base.specs.declared.values.SymId.{SymId}
use Rattle.lisp_base.specs.declared.values.Val.TheVariants.{Sym}
use Rattle.core_form.specs.Tree.{Core, Lambda, lambda}
use Rattle.core_form.specs.Facts.{FunctionText, TagText, has_number, lookup, at_nodes, extents, block_names, tag_texts, local_functions}
use Rattle.form_names.specs.declared.parts.TagName.{TagName}

pub record Names : Type 0 where
  -- blocks and tagbodies
  pub extents : List ℕ
  -- the names of blocks
  pub blocks : List (ℕ × SymId)
  pub tags : List (ℕ × TagName)
  -- local functions with the numbers of what they do
  pub locals : List (ℕ × ℕ)

abbrev pub make_names : List ℕ → List (ℕ × SymId) → List (ℕ × TagName) → List (ℕ × ℕ) → Names
make_names extents blocks tags locals = record { extents = extents; blocks = blocks; tags = tags; locals = locals }

abbrev pub tag_text : TagName → TagText
tag_text t = record { tagbody = t.tagbody; name = t.name }

abbrev pub lambda_number : Lambda → ℕ
lambda_number (lambda k xs os r e) = k

abbrev pub text_number : FunctionText → ℕ
text_number t = lambda_number t.lambda

-- these are the names of a form: under each number there is what its first node of this number has
pub record NamesOf (f : Names) (e : Core) : Type 0 where
  pub extents : (n : ℕ) → has_number n f.extents ≡ has_number n (at_nodes extents e)
  pub blocks : (n : ℕ) → option_map Sym (lookup n f.blocks) ≡ lookup n (at_nodes block_names e)
  pub tags : (n : ℕ) → option_map tag_text (lookup n f.tags) ≡ lookup n (at_nodes tag_texts e)
  pub locals : (n : ℕ) → lookup n f.locals ≡ option_map text_number (lookup n (at_nodes local_functions e))
