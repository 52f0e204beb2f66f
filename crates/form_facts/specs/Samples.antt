-- The values by which a type is seen to be within the integers, as the code has them. (This project's own.)
use Rattle.std.specs.Prelude.{ℕ, ◌+◌, max, Bool, not, List}
use Rattle.std.specs.List.{list_all}
use Rattle.lisp_base.specs.declared.values.Val.{Val}
use Rattle.lisp_base.specs.declared.values.Val.TheVariants.{Int, Char, Sym, Ref}
use Rattle.lisp_base.specs.declared.values.SymKind.{SymKind}
use Rattle.lisp_base.specs.declared.values.SymKind.TheVariants as symbol_kinds
use Rattle.lisp_base.specs.Sort.{symbol, object, number_of}
use Rattle.lisp_base.specs.Spec.{Specs, And}
use Rattle.lisp_base.specs.Membership.{SymbolKind, has_all}
use Rattle.core_form.specs.Facts.{sample_objects, sample_symbols, is_within_integers}
use Rattle.form_facts.specs.declared.samples.Sample.{Sample}
use Rattle.form_facts.specs.declared.samples.Sample.TheVariants as sample

-- the number of the symbol of a kind, above those that are named
abbrev pub other_symbol : (greatest : ℕ) → SymKind → ℕ
other_symbol g symbol_kinds.Plain = g + 1
other_symbol g symbol_kinds.Keyword = g + 2
other_symbol g symbol_kinds.Fresh = g + 3

abbrev pub value_of : (greatest : ℕ) → Sample → Val
value_of g sample.Cons = Ref (object 0)
value_of g sample.Vector = Ref (object 1)
value_of g sample.Text = Ref (object 2)
value_of g sample.Function = Ref (object 3)
value_of g (sample.Letter c) = Char c
value_of g (sample.Named n) = Sym (symbol n)
value_of g (sample.Other kind) = Sym (symbol (other_symbol g kind))

-- the greater of a number and that of a character, or a symbol
abbrev pub max_letter : Val → ℕ → ℕ
max_letter (Int z) n = n
max_letter (Char c) n = max c n
max_letter (Sym s) n = n
max_letter (Ref o) n = n

abbrev pub max_symbol : Val → ℕ → ℕ
max_symbol (Int z) n = n
max_symbol (Char c) n = n
max_symbol (Sym s) n = max (number_of s) n
max_symbol (Ref o) n = n

-- whether a sample is not in all of these types
abbrev pub lacks : (greatest : ℕ) → SymbolKind → Specs → Val → Bool
lacks g kinds ts v = not (has_all sample_objects (sample_symbols g kinds) ts v)

-- whether none of several values is in all of them
abbrev pub lacks_all : (greatest : ℕ) → SymbolKind → Specs → List Val → Bool
lacks_all g kinds ts vs = list_all (lacks g kinds ts) vs

-- whether types, all together, are within the integers
abbrev pub within_integers : SymbolKind → Specs → Bool
within_integers kinds ts = is_within_integers kinds (And ts)
