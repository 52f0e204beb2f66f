-- How what a walk over a form notes is read. (This project's own.)
use Rattle.std.specs.Prelude.{ℕ, List, map, flat_map, Some}
use Rattle.core_form.specs.declared.tree.Definition.{Definition as Definition'}
use Rattle.core_form.specs.declared.tree.Form.TheBlock as t
use Rattle.core_form.specs.Reading.{lambda_of}
use Rattle.core_form.specs.Facts.{FunctionText, TagText}
use Rattle.form_names.specs.declared.parts.Text.{Text}
use Rattle.form_names.specs.declared.parts.TagName.{TagName}
use Rattle.form_names.specs.declared.parts.Part.{Part as Part'}
use Rattle.form_names.specs.declared.parts.Part.TheVariants as variant
use Rattle.form_names.specs.Names.{tag_text, text_number}
use Rattle.form_names.specs.Parts.{Part, does, blocks, tagbodies, tags, defines, tag_of, local_of}

abbrev pub text_of : Text → FunctionText
text_of t = record { name = t.name; place = t.place; lambda = lambda_of t.lambda.now }

abbrev pub texts_list : List Text → List FunctionText
texts_list ts = map text_of ts

abbrev pub definition_part : Definition' → Part
definition_part (t.struct-Definition p f n l) = defines f (record { name = Some n; place = p; lambda = lambda_of l })

abbrev pub part_of : Part' → Part
part_of (variant.Function t) = does (text_of t)
part_of (variant.Block b n) = blocks b n
part_of (variant.Tagbody b) = tagbodies b
part_of (variant.Tag t x) = tags t (tag_text x)
part_of (variant.Local d) = definition_part d.now

abbrev pub parts_list : List Part' → List Part
parts_list ps = map part_of ps

abbrev pub tag_entry : ℕ × TagName → ℕ × TagText
tag_entry t = (t.0, tag_text t.1)

abbrev pub tags_list : List (ℕ × TagName) → List (ℕ × TagText)
tags_list ts = map tag_entry ts

abbrev pub tag_texts_of : List Part → List (ℕ × TagText)
tag_texts_of ps = flat_map tag_of ps

-- a local function with the number of what it does
abbrev pub numbered : ℕ × FunctionText → ℕ × ℕ
numbered f = (f.0, text_number f.1)

abbrev pub local_number_of : Part → List (ℕ × ℕ)
local_number_of p = map numbered (local_of p)
