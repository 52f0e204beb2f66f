-- The built-in macros: their names (ANSI Common Lisp), and the macro of a symbol.
use Rattle.std.specs.Prelude.{◌≡◌, ℕ, ◌+◌, ◌==◌, Bool, true, not, ◌&&◌, if◌then◌else◌, List, [], ◌∷◌, codes, Option, Some, find, map, slice_get}
use Rattle.std.specs.List.{list_any}
use Rattle.std.specs.Str.{bytes_eq}
use Rattle.std.specs.Option.{is_some}
use Rattle.lisp_base.specs.BaseNames.{base_names, builtin_macros}
use Rattle.std_macros.specs.declared.macros.Macro.{Macro}
use Rattle.std_macros.specs.declared.macros.Macro.TheVariants as m

abbrev pub macro_name : Macro → List ℕ
macro_name m.And = codes "AND"
macro_name m.Or = codes "OR"
macro_name m.Cond = codes "COND"
macro_name m.When = codes "WHEN"
macro_name m.Unless = codes "UNLESS"
macro_name m.Case = codes "CASE"
macro_name m.Ecase = codes "ECASE"
macro_name m.Typecase = codes "TYPECASE"
macro_name m.Etypecase = codes "ETYPECASE"
macro_name m.Loop = codes "LOOP"
macro_name m.Do = codes "DO"
macro_name m.DoInOrder = codes "DO*"
macro_name m.Dotimes = codes "DOTIMES"
macro_name m.Dolist = codes "DOLIST"
macro_name m.Return = codes "RETURN"
macro_name m.Prog = codes "PROG"
macro_name m.ProgInOrder = codes "PROG*"
macro_name m.Prog1 = codes "PROG1"
macro_name m.Prog2 = codes "PROG2"
macro_name m.Psetq = codes "PSETQ"
macro_name m.Setf = codes "SETF"
macro_name m.Incf = codes "INCF"
macro_name m.Decf = codes "DECF"
macro_name m.Push = codes "PUSH"
macro_name m.Pop = codes "POP"
macro_name m.MultipleValueBind = codes "MULTIPLE-VALUE-BIND"
macro_name m.MultipleValueList = codes "MULTIPLE-VALUE-LIST"
macro_name m.MultipleValueSetq = codes "MULTIPLE-VALUE-SETQ"
macro_name m.NthValue = codes "NTH-VALUE"
macro_name m.Lambda = codes "LAMBDA"
macro_name m.Quasiquote = codes "QUASIQUOTE"

-- the place of its name among those that every symbol table begins with
abbrev pub macro_number : Macro → ℕ
macro_number m.And = 33
macro_number m.Or = 34
macro_number m.Cond = 131
macro_number m.When = 132
macro_number m.Unless = 133
macro_number m.Case = 134
macro_number m.Ecase = 135
macro_number m.Typecase = 137
macro_number m.Etypecase = 138
macro_number m.Loop = 139
macro_number m.Do = 140
macro_number m.DoInOrder = 141
macro_number m.Dotimes = 142
macro_number m.Dolist = 143
macro_number m.Return = 144
macro_number m.Prog = 145
macro_number m.ProgInOrder = 146
macro_number m.Prog1 = 147
macro_number m.Prog2 = 148
macro_number m.Psetq = 149
macro_number m.Setf = 150
macro_number m.Incf = 151
macro_number m.Decf = 152
macro_number m.Push = 153
macro_number m.Pop = 154
macro_number m.MultipleValueBind = 155
macro_number m.MultipleValueList = 156
macro_number m.MultipleValueSetq = 157
macro_number m.NthValue = 158
macro_number m.Lambda = 159
macro_number m.Quasiquote = 4

abbrev pub all_macros : List Macro
all_macros =
    m.And ∷ m.Or ∷ m.Cond ∷ m.When ∷ m.Unless ∷ m.Case ∷ m.Ecase ∷ m.Typecase ∷ m.Etypecase ∷ m.Loop ∷ m.Do ∷ m.DoInOrder ∷ m.Dotimes ∷ m.Dolist ∷ m.Return ∷ m.Prog ∷ m.ProgInOrder ∷ m.Prog1 ∷ m.Prog2 ∷ m.Psetq ∷ m.Setf ∷ m.Incf ∷ m.Decf ∷ m.Push ∷ m.Pop ∷ m.MultipleValueBind ∷ m.MultipleValueList ∷ m.MultipleValueSetq ∷ m.NthValue ∷ m.Lambda ∷ m.Quasiquote ∷ []

-- the macro of a symbol's number
abbrev pub macro_at : ℕ → Option Macro
macro_at n = find (λ m. macro_number m == n) all_macros

abbrev pub is_macro_number : ℕ → Bool
is_macro_number n = is_some (macro_at n)

-- each macro's name stands where its number says, and they are the names that the table of macros has
abbrev pub EachMacroIsNamed : Type 0
EachMacroIsNamed = (m : Macro) → slice_get base_names (macro_number m) ≡ Some (macro_name m)

abbrev pub AreTheMacros : Type 0
AreTheMacros = map macro_name all_macros ≡ builtin_macros

abbrev pub same_truth : Bool → Bool → Bool
same_truth a b = if a then b else not b

-- of these names, whose places begin at a number, exactly the names of macros have a macro
abbrev pub exactly_macros : ℕ → List (List ℕ) → Bool
exactly_macros n [] = true
exactly_macros n (name ∷ names) = same_truth (is_macro_number n) (list_any (bytes_eq name) builtin_macros) && exactly_macros (n + 1) names

abbrev pub OthersAreNone : Type 0
OthersAreNone = exactly_macros 0 base_names ≡ true
