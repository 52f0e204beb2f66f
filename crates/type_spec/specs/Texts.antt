-- The text of a type specifier (ANSI Common Lisp 4.2.3; the choice of one text for each is this project's own).
use Rattle.std.specs.Prelude.{ℕ, ◌++◌, List, [], ◌∷◌, codes, decimal}
use Rattle.std.specs.Fmt.{signed_decimal}
use Rattle.lisp_base.specs.declared.values.Val.{Val}
use Rattle.lisp_base.specs.declared.types.Bound.{Bound}
use Rattle.lisp_base.specs.declared.types.Bound.TheVariants as bound
use Rattle.lisp_base.specs.Spec.{Spec, Named, Integer, Signed, Unsigned, Mod, Member, Eql, And, Or, Not, Specs, no_spec, spec}
use Rattle.lisp_base.specs.Names.{type_name_text}
use Rattle.lisp_base.specs.Tables.{Table}
use Rattle.lisp_base.specs.InStore.{make_store, store_shown}
use Rattle.lisp_print.specs.declared.printing.Limits.{Limits}
use Rattle.lisp_print.specs.Printing.{word_text}

-- the limits of the printer within which an item is whole
abbrev pub item_limits : Limits
item_limits = record { level = 1; length = 1; total = 1 }

-- an item as the printer shows it; it is in no store
abbrev pub item_text : Table → Val → List ℕ
item_text table v = word_text item_limits (store_shown (make_store [] table.symbols)) v

abbrev pub items_text : Table → List Val → List ℕ
items_text table [] = []
items_text table (x ∷ xs) = codes " " ++ item_text table x ++ items_text table xs

abbrev pub bound_text : Bound → List ℕ
bound_text bound.Open = codes "*"
bound_text (bound.At z) = signed_decimal z
bound_text (bound.Past z) = codes "(" ++ signed_decimal z ++ codes ")"

abbrev mutual
  pub spec_text : Table → Spec → List ℕ
  spec_text table (Named name) = type_name_text name
  spec_text table (Integer lo hi) = codes "(INTEGER " ++ bound_text lo ++ codes " " ++ bound_text hi ++ codes ")"
  spec_text table (Signed bits) = codes "(SIGNED-BYTE " ++ decimal bits ++ codes ")"
  spec_text table (Unsigned bits) = codes "(UNSIGNED-BYTE " ++ decimal bits ++ codes ")"
  spec_text table (Mod n) = codes "(MOD " ++ signed_decimal n ++ codes ")"
  spec_text table (Member items) = codes "(MEMBER" ++ items_text table items ++ codes ")"
  spec_text table (Eql item) = codes "(EQL " ++ item_text table item ++ codes ")"
  spec_text table (And specs) = codes "(AND" ++ specs_text table specs ++ codes ")"
  spec_text table (Or specs) = codes "(OR" ++ specs_text table specs ++ codes ")"
  spec_text table (Not part) = codes "(NOT " ++ spec_text table part ++ codes ")"

  pub specs_text : Table → Specs → List ℕ
  specs_text table no_spec = []
  specs_text table (spec t ts) = codes " " ++ spec_text table t ++ specs_text table ts
