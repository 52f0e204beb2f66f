-- The Lisp names of operators and of functions whose calls are written otherwise, and that exactly the names of some lists are left out or
-- taken (ANSI Common Lisp; the lists are this project's own).
use Rattle.std.specs.Prelude.{◌≡◌, ℕ, Bool, true, false, List, ◌++◌, codes, Option, Some, None, map, slice_get, bytes_eq}
use Rattle.std.specs.List.{list_any, list_all}
use Rattle.lisp_base.specs.declared.values.SymId.{SymId}
use Rattle.lisp_base.specs.BaseNames.{base_names, primitive_names, special_operators, defining_macros, macro_names, direct_names, prelude_names, left_out_names, helper_names}
use Rattle.lisp_base.specs.Sort.{number_of}
use Rattle.expansion.specs.declared.operator.Operator.{Operator}
use Rattle.expansion.specs.declared.operator.Operator.TheVariants as op
use Rattle.expansion.specs.declared.operator.Direct.{Direct}
use Rattle.expansion.specs.declared.operator.Direct.TheVariants as direct
use Rattle.expansion.specs.Operators.{operator_symbol, all_operators, direct_number, all_directs, is_left_out, is_reserved}

abbrev pub operator_name : Operator → List ℕ
operator_name op.Quote = codes "QUOTE"
operator_name op.Function = codes "FUNCTION"
operator_name op.Setq = codes "SETQ"
operator_name op.If = codes "IF"
operator_name op.Progn = codes "PROGN"
operator_name op.Let = codes "LET"
operator_name op.LetInOrder = codes "LET*"
operator_name op.Flet = codes "FLET"
operator_name op.Labels = codes "LABELS"
operator_name op.Locally = codes "LOCALLY"
operator_name op.The = codes "THE"
operator_name op.Block = codes "BLOCK"
operator_name op.ReturnFrom = codes "RETURN-FROM"
operator_name op.Tagbody = codes "TAGBODY"
operator_name op.Go = codes "GO"
operator_name op.Catch = codes "CATCH"
operator_name op.Throw = codes "THROW"
operator_name op.UnwindProtect = codes "UNWIND-PROTECT"
operator_name op.MultipleValueCall = codes "MULTIPLE-VALUE-CALL"
operator_name op.MultipleValueProg1 = codes "MULTIPLE-VALUE-PROG1"
operator_name op.Values = codes "VALUES"
operator_name op.Funcall = codes "FUNCALL"
operator_name op.Apply = codes "APPLY"
operator_name op.Typep = codes "TYPEP"
operator_name op.Defun = codes "DEFUN"
operator_name op.Defvar = codes "DEFVAR"
operator_name op.Defparameter = codes "DEFPARAMETER"
operator_name op.Defconstant = codes "DEFCONSTANT"
operator_name op.Declaim = codes "DECLAIM"
operator_name op.InPackage = codes "IN-PACKAGE"

abbrev pub direct_name : Direct → List ℕ
direct_name direct.Add = codes "+"
direct_name direct.Subtract = codes "-"
direct_name direct.Multiply = codes "*"
direct_name direct.LogAnd = codes "LOGAND"
direct_name direct.LogIor = codes "LOGIOR"
direct_name direct.LogXor = codes "LOGXOR"
direct_name direct.Increment = codes "1+"
direct_name direct.Decrement = codes "1-"
direct_name direct.Truncate = codes "TRUNCATE"
direct_name direct.Floor = codes "FLOOR"
direct_name direct.ReadChar = codes "READ-CHAR"
direct_name direct.Error = codes "ERROR"
direct_name direct.Eql = codes "EQL"
direct_name direct.Char = codes "CHAR"
direct_name direct.Not = codes "NOT"
direct_name direct.Null = codes "NULL"
direct_name direct.Consp = codes "CONSP"
direct_name direct.Listp = codes "LISTP"
direct_name direct.Atom = codes "ATOM"
direct_name direct.Symbolp = codes "SYMBOLP"
direct_name direct.Keywordp = codes "KEYWORDP"
direct_name direct.Integerp = codes "INTEGERP"
direct_name direct.Numberp = codes "NUMBERP"
direct_name direct.Characterp = codes "CHARACTERP"
direct_name direct.Functionp = codes "FUNCTIONP"
direct_name direct.Stringp = codes "STRINGP"
direct_name direct.SimpleStringP = codes "SIMPLE-STRING-P"
direct_name direct.Vectorp = codes "VECTORP"
direct_name direct.SimpleVectorP = codes "SIMPLE-VECTOR-P"

-- the name of a symbol that every table begins with
abbrev pub name_at : ℕ → Option (List ℕ)
name_at n = slice_get base_names n

-- each operator's symbol has its name, and the operators are all special operators and all macros that define, declare or name a package
abbrev pub EachOperatorIsNamed : Type 0
EachOperatorIsNamed = (o : Operator) → name_at (number_of (operator_symbol o)) ≡ Some (operator_name o)

abbrev pub AreTheOperators : Type 0
AreTheOperators = map operator_name all_operators ≡ special_operators ++ defining_macros

-- each function whose calls are written otherwise stands at its name's place, and those of the list of direct calls are among them
abbrev pub EachDirectIsNamed : Type 0
EachDirectIsNamed = (d : Direct) → name_at (direct_number d) ≡ Some (direct_name d)

abbrev pub is_among : List (List ℕ) → List ℕ → Bool
is_among names name = list_any (bytes_eq name) names

abbrev pub DirectCallsAreDirect : Type 0
DirectCallsAreDirect = list_all (is_among (map direct_name all_directs)) direct_names ≡ true

-- whether a symbol's name is one of these: a symbol that not every table begins with has none of them
abbrev pub has_name : List (List ℕ) → Option (List ℕ) → Bool
has_name names None = false
has_name names (Some name) = is_among names name

abbrev pub LeftOutAreTheNames : Type 0
LeftOutAreTheNames = (s : SymId) → is_left_out s ≡ has_name left_out_names (name_at (number_of s))

abbrev pub taken_names : List (List ℕ)
taken_names = special_operators ++ macro_names ++ primitive_names ++ direct_names ++ prelude_names ++ left_out_names ++ helper_names

abbrev pub ReservedAreTheNames : Type 0
ReservedAreTheNames = (s : SymId) → is_reserved s ≡ has_name taken_names (name_at (number_of s))
