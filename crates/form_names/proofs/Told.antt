-- What the parts of a form tell is what its functions and numbers are read from.
use Rattle.std.specs.Prelude.{◌≡◌, refl, ℕ, Some, List, [], ◌∷◌, ◌++◌, flat_map}
use Rattle.std.proofs.Common.{ap, ◌∙◌}
use Rattle.lisp_base.specs.declared.values.Val.{Val}
use Rattle.lisp_base.specs.declared.values.Val.TheVariants.{Sym}
use Rattle.core_form.specs.Tree.{Core, Labels, Tagbody, Definitions, no_definition, define, Items, no_item, tag, step}
use Rattle.core_form.specs.Facts.{FunctionText, TagText, no_node, no_function, one_function, functions_in, at_nodes, extents, block_names, tag_texts, item_tags, local_functions, definitions_of, tagbody_number}
use Rattle.form_names.specs.Parts.{Part, defines, tags, definition_parts, tag_parts, node_parts, function_parts, parts, function_of, extent_of, block_of, tag_of, local_of}
use Rattle.form_names.proofs.Carried.{carried}
use Rattle.form_names.proofs.Looked.{with_values, with_values_flat}

-- ---- where functions defined or tags tell nothing

no_definitions : {B : Type 0} (f : Part → List B) → ((n : ℕ) (t : FunctionText) → f (defines n t) ≡ []) → (ds : Definitions) → flat_map f (definition_parts ds) ≡ []
no_definitions f h no_definition = refl
no_definitions f h (define p n name l ds) = ap (λ xs. xs ++ flat_map f (definition_parts ds)) (h n _) ∙ no_definitions f h ds

no_tags : {B : Type 0} (f : Part → List B) → ((n : ℕ) (t : TagText) → f (tags n t) ≡ []) → (b : ℕ) (is : Items) → flat_map f (tag_parts b is) ≡ []
no_tags f h b no_item = refl
no_tags f h b (tag t v is) = ap (λ xs. xs ++ flat_map f (tag_parts b is)) (h t _) ∙ no_tags f h b is
no_tags f h b (step e is) = no_tags f h b is

-- ---- functions

functions_at : (e : Core) → flat_map function_of (node_parts e) ≡ no_node e
functions_at (Labels p ds e) = no_definitions function_of (λ n t. refl) ds
functions_at (Tagbody p is) = no_tags function_of (λ n t. refl) (tagbody_number is) is
functions_at _ = refl

pub functions_told : (e : Core) → flat_map function_of (parts e) ≡ functions_in e
functions_told e = carried function_of node_parts function_parts no_node one_function (record { nodes = functions_at; functions = λ t. refl }) e

-- ---- blocks and tagbodies

extents_at : (e : Core) → flat_map extent_of (node_parts e) ≡ extents e
extents_at (Labels p ds e) = no_definitions extent_of (λ n t. refl) ds
extents_at (Tagbody p is) = ap (λ (ns : List ℕ). tagbody_number is ∷ ns) (no_tags extent_of (λ n t. refl) (tagbody_number is) is)
extents_at _ = refl

pub extents_told : (e : Core) → flat_map extent_of (parts e) ≡ at_nodes extents e
extents_told e = carried extent_of node_parts function_parts extents no_function (record { nodes = extents_at; functions = λ t. refl }) e

-- ---- the names of blocks

abbrev named_block : Part → List (ℕ × Val)
named_block p = with_values (λ n. Sym n) (block_of p)

blocks_at : (e : Core) → flat_map named_block (node_parts e) ≡ block_names e
blocks_at (Labels p ds e) = no_definitions named_block (λ n t. refl) ds
blocks_at (Tagbody p is) = no_tags named_block (λ n t. refl) (tagbody_number is) is
blocks_at _ = refl

pub blocks_told : (e : Core) → with_values (λ n. Sym n) (flat_map block_of (parts e)) ≡ at_nodes block_names e
blocks_told e = with_values_flat (λ n. Sym n) block_of (parts e) ∙ carried named_block node_parts function_parts block_names no_function (record { nodes = blocks_at; functions = λ t. refl }) e

-- ---- tags

item_tags_are : (b : ℕ) (is : Items) → flat_map tag_of (tag_parts b is) ≡ item_tags b is
item_tags_are b no_item = refl
item_tags_are b (tag t v is) = ap (λ (xs : List (ℕ × TagText)). (t, record { tagbody = b; name = v }) ∷ xs) (item_tags_are b is)
item_tags_are b (step e is) = item_tags_are b is

tags_at : (e : Core) → flat_map tag_of (node_parts e) ≡ tag_texts e
tags_at (Labels p ds e) = no_definitions tag_of (λ n t. refl) ds
tags_at (Tagbody p is) = item_tags_are (tagbody_number is) is
tags_at _ = refl

pub tags_told : (e : Core) → flat_map tag_of (parts e) ≡ at_nodes tag_texts e
tags_told e = carried tag_of node_parts function_parts tag_texts no_function (record { nodes = tags_at; functions = λ t. refl }) e

-- ---- local functions

definitions_are : (ds : Definitions) → flat_map local_of (definition_parts ds) ≡ definitions_of ds
definitions_are no_definition = refl
definitions_are (define p f n l ds) = ap (λ (xs : List (ℕ × FunctionText)). (f, record { name = Some n; place = p; lambda = l }) ∷ xs) (definitions_are ds)

locals_at : (e : Core) → flat_map local_of (node_parts e) ≡ local_functions e
locals_at (Labels p ds e) = definitions_are ds
locals_at (Tagbody p is) = no_tags local_of (λ n t. refl) (tagbody_number is) is
locals_at _ = refl

pub locals_told : (e : Core) → flat_map local_of (parts e) ≡ at_nodes local_functions e
locals_told e = carried local_of node_parts function_parts local_functions no_function (record { nodes = locals_at; functions = λ t. refl }) e
