-- The words that the forms of the macros are made of: their names (ANSI Common Lisp; those with `%` are this project's own) and their numbers.
use Rattle.std.specs.Prelude.{◌≡◌, ℕ, List, codes, Some, slice_get}
use Rattle.lisp_base.specs.declared.values.SymId.{SymId}
use Rattle.lisp_base.specs.Sort.{symbol}
use Rattle.lisp_base.specs.BaseNames.{base_names}
use Rattle.std_macros.specs.declared.words.Word.{Word}
use Rattle.std_macros.specs.declared.words.Word.TheVariants as w

abbrev pub word_name : Word → List ℕ
word_name w.Nil = codes "NIL"
word_name w.T = codes "T"
word_name w.Quote = codes "QUOTE"
word_name w.Function = codes "FUNCTION"
word_name w.Quasiquote = codes "QUASIQUOTE"
word_name w.Unquote = codes "UNQUOTE"
word_name w.UnquoteSplicing = codes "UNQUOTE-SPLICING"
word_name w.Integer = codes "INTEGER"
word_name w.Cons = codes "CONS"
word_name w.List = codes "LIST"
word_name w.Member = codes "MEMBER"
word_name w.And = codes "AND"
word_name w.Or = codes "OR"
word_name w.Declare = codes "DECLARE"
word_name w.Car = codes "CAR"
word_name w.Cdr = codes "CDR"
word_name w.Rplaca = codes "RPLACA"
word_name w.Rplacd = codes "RPLACD"
word_name w.Svref = codes "SVREF"
word_name w.Schar = codes "SCHAR"
word_name w.SetSvref = codes "%SVSET"
word_name w.SetSchar = codes "%SCHARSET"
word_name w.Add = codes "+"
word_name w.Subtract = codes "-"
word_name w.NotLess = codes ">="
word_name w.SymbolValue = codes "SYMBOL-VALUE"
word_name w.SetValue = codes "SET"
word_name w.Setq = codes "SETQ"
word_name w.If = codes "IF"
word_name w.Progn = codes "PROGN"
word_name w.Let = codes "LET"
word_name w.LetInOrder = codes "LET*"
word_name w.The = codes "THE"
word_name w.Block = codes "BLOCK"
word_name w.ReturnFrom = codes "RETURN-FROM"
word_name w.Tagbody = codes "TAGBODY"
word_name w.Go = codes "GO"
word_name w.MultipleValueCall = codes "MULTIPLE-VALUE-CALL"
word_name w.Typep = codes "TYPEP"
word_name w.Optional = codes "&OPTIONAL"
word_name w.RestOf = codes "&REST"
word_name w.Cond = codes "COND"
word_name w.Otherwise = codes "OTHERWISE"
word_name w.Return = codes "RETURN"
word_name w.Prog1 = codes "PROG1"
word_name w.Psetq = codes "PSETQ"
word_name w.Setf = codes "SETF"
word_name w.MultipleValueList = codes "MULTIPLE-VALUE-LIST"
word_name w.Lambda = codes "LAMBDA"
word_name w.Char = codes "CHAR"
word_name w.First = codes "FIRST"
word_name w.Rest = codes "REST"
word_name w.Nth = codes "NTH"
word_name w.Aref = codes "AREF"
word_name w.Append = codes "%APPEND"
word_name w.SetNth = codes "%NTHSET"
word_name w.SetAref = codes "%ASET"

-- the place of its name among those that every symbol table begins with
abbrev pub word_number : Word → ℕ
word_number w.Nil = 0
word_number w.T = 1
word_number w.Quote = 2
word_number w.Function = 3
word_number w.Quasiquote = 4
word_number w.Unquote = 5
word_number w.UnquoteSplicing = 6
word_number w.Integer = 7
word_number w.Cons = 22
word_number w.List = 23
word_number w.Member = 31
word_number w.And = 33
word_number w.Or = 34
word_number w.Declare = 37
word_number w.Car = 61
word_number w.Cdr = 62
word_number w.Rplaca = 63
word_number w.Rplacd = 64
word_number w.Svref = 67
word_number w.Schar = 68
word_number w.SetSvref = 69
word_number w.SetSchar = 70
word_number w.Add = 74
word_number w.Subtract = 75
word_number w.NotLess = 84
word_number w.SymbolValue = 97
word_number w.SetValue = 99
word_number w.Setq = 105
word_number w.If = 106
word_number w.Progn = 107
word_number w.Let = 108
word_number w.LetInOrder = 109
word_number w.The = 113
word_number w.Block = 114
word_number w.ReturnFrom = 115
word_number w.Tagbody = 116
word_number w.Go = 117
word_number w.MultipleValueCall = 121
word_number w.Typep = 126
word_number w.Optional = 127
word_number w.RestOf = 128
word_number w.Cond = 131
word_number w.Otherwise = 136
word_number w.Return = 144
word_number w.Prog1 = 147
word_number w.Psetq = 149
word_number w.Setf = 150
word_number w.MultipleValueList = 156
word_number w.Lambda = 159
word_number w.Char = 170
word_number w.First = 235
word_number w.Rest = 238
word_number w.Nth = 240
word_number w.Aref = 272
word_number w.Append = 288
word_number w.SetNth = 289
word_number w.SetAref = 290

abbrev pub word_symbol : Word → SymId
word_symbol w = symbol (word_number w)

abbrev pub EachWordIsNamed : Type 0
EachWordIsNamed = (w : Word) → slice_get base_names (word_number w) ≡ Some (word_name w)
