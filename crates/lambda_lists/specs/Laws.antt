-- Laws that other crates can call: a lambda list is what its sections write, and no others without words write it (ANSI Common Lisp 3.4.1).
use Rattle.std.specs.Prelude.{◌≡◌, Bool, false, List, [], ◌∷◌, ◌++◌, Option, Some, None}
use Rattle.std.specs.List.{list_any}
use Rattle.lisp_base.specs.declared.values.SymId.{SymId}
use Rattle.lisp_base.specs.declared.values.Val.{Val}
use Rattle.lisp_base.specs.declared.values.Val.TheVariants.{Sym}
use Rattle.lisp_base.specs.declared.base_symbols.TheConstants as at
use Rattle.lisp_base.specs.Sort.{number_of}
use Rattle.lisp_base.specs.Membership.{is_symbol_number}
use Rattle.lambda_lists.specs.LambdaLists.{Sections, sections}

-- a section after its word
abbrev pub with_word : SymId → Option (List Val) → List Val
with_word word None = []
with_word word (Some vs) = Sym word ∷ vs

-- the list that sections write
abbrev pub written : Sections → List Val
written s =
    (((s.required ++ with_word at.LAMBDA_LIST_OPTIONAL s.optional) ++ with_word at.LAMBDA_LIST_REST s.rest) ++ with_word at.LAMBDA_LIST_KEY s.keys) ++ with_word at.LAMBDA_LIST_AUX s.auxiliary

abbrev pub SectionsWriteLists : Type 0
SectionsWriteLists = (vs : List Val) → written (sections vs) ≡ vs

abbrev pub has_word : SymId → List Val → Bool
has_word word vs = list_any (is_symbol_number (number_of word)) vs

pub record HasNoWord (vs : List Val) : Type 0 where
  pub optional : has_word at.LAMBDA_LIST_OPTIONAL vs ≡ false
  pub rest : has_word at.LAMBDA_LIST_REST vs ≡ false
  pub keys : has_word at.LAMBDA_LIST_KEY vs ≡ false
  pub auxiliary : has_word at.LAMBDA_LIST_AUX vs ≡ false

abbrev pub listed : Option (List Val) → List Val
listed None = []
listed (Some vs) = vs

-- no word stands in a section before that of &AUX
pub record AreApart (s : Sections) : Type 0 where
  pub required : HasNoWord s.required
  pub optional : HasNoWord (listed s.optional)
  pub rest : HasNoWord (listed s.rest)
  pub keys : HasNoWord (listed s.keys)

abbrev pub SectionsAreFound : Type 0
SectionsAreFound = (s : Sections) → AreApart s → sections (written s) ≡ s
