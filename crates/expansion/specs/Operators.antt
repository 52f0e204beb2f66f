-- The operators whose forms are read here, the functions whose calls are written otherwise, and the names that a file may not define (ANSI
-- Common Lisp; the lists are this project's own).
use Rattle.std.specs.Prelude.{ℕ, Bool, ◌==◌, ◌&&◌, List, [], ◌∷◌, Option, find, nat_le, nat_lt}
use Rattle.std.specs.List.{list_any}
use Rattle.lisp_base.specs.declared.values.SymId.{SymId}
use Rattle.lisp_base.specs.declared.base_symbols.TheConstants as at
use Rattle.lisp_base.specs.Sort.{number_of}
use Rattle.expansion.specs.declared.operator.Operator.{Operator}
use Rattle.expansion.specs.declared.operator.Operator.TheVariants as op
use Rattle.expansion.specs.declared.operator.Direct.{Direct}
use Rattle.expansion.specs.declared.operator.Direct.TheVariants as direct

-- ---- operators

abbrev pub operator_symbol : Operator → SymId
operator_symbol op.Quote = at.QUOTE
operator_symbol op.Function = at.FUNCTION
operator_symbol op.Setq = at.SETQ
operator_symbol op.If = at.IF
operator_symbol op.Progn = at.PROGN
operator_symbol op.Let = at.LET
operator_symbol op.LetInOrder = at.LET_STAR
operator_symbol op.Flet = at.FLET
operator_symbol op.Labels = at.LABELS
operator_symbol op.Locally = at.LOCALLY
operator_symbol op.The = at.THE
operator_symbol op.Block = at.BLOCK
operator_symbol op.ReturnFrom = at.RETURN_FROM
operator_symbol op.Tagbody = at.TAGBODY
operator_symbol op.Go = at.GO
operator_symbol op.Catch = at.CATCH
operator_symbol op.Throw = at.THROW
operator_symbol op.UnwindProtect = at.UNWIND_PROTECT
operator_symbol op.MultipleValueCall = at.MULTIPLE_VALUE_CALL
operator_symbol op.MultipleValueProg1 = at.MULTIPLE_VALUE_PROG1
operator_symbol op.Values = at.VALUES
operator_symbol op.Funcall = at.FUNCALL
operator_symbol op.Apply = at.APPLY
operator_symbol op.Typep = at.TYPEP
operator_symbol op.Defun = at.DEFUN
operator_symbol op.Defvar = at.DEFVAR
operator_symbol op.Defparameter = at.DEFPARAMETER
operator_symbol op.Defconstant = at.DEFCONSTANT
operator_symbol op.Declaim = at.DECLAIM
operator_symbol op.InPackage = at.IN_PACKAGE

abbrev pub all_operators : List Operator
all_operators =
    op.Quote ∷ op.Function ∷ op.Setq ∷ op.If ∷ op.Progn ∷ op.Let ∷ op.LetInOrder ∷ op.Flet ∷ op.Labels ∷ op.Locally ∷ op.The ∷ op.Block ∷ op.ReturnFrom ∷ op.Tagbody ∷ op.Go ∷ op.Catch ∷ op.Throw ∷ op.UnwindProtect ∷ op.MultipleValueCall ∷ op.MultipleValueProg1 ∷ op.Values ∷ op.Funcall ∷ op.Apply ∷ op.Typep ∷ op.Defun ∷ op.Defvar ∷ op.Defparameter ∷ op.Defconstant ∷ op.Declaim ∷ op.InPackage ∷ []

unfoldable pub operator_of : SymId → Option Operator
operator_of s = find (λ o. number_of (operator_symbol o) == number_of s) all_operators

-- ---- functions whose calls are written otherwise

-- the places of those names that have no constant of their own among the names that every table begins with
abbrev pub direct_number : Direct → ℕ
direct_number direct.Add = number_of at.ADD
direct_number direct.Subtract = number_of at.SUBTRACT
direct_number direct.Multiply = number_of at.STAR
direct_number direct.LogAnd = 85
direct_number direct.LogIor = 86
direct_number direct.LogXor = 87
direct_number direct.Increment = number_of at.INCREMENT
direct_number direct.Decrement = number_of at.DECREMENT
direct_number direct.Truncate = 76
direct_number direct.Floor = 77
direct_number direct.ReadChar = number_of at.READ_CHAR
direct_number direct.Error = number_of at.ERROR
direct_number direct.Eql = number_of at.EQL
direct_number direct.Char = number_of at.CHAR
direct_number direct.Not = number_of at.NOT
direct_number direct.Null = number_of at.NULL
direct_number direct.Consp = number_of at.CONSP
direct_number direct.Listp = number_of at.LISTP
direct_number direct.Atom = number_of at.ATOM
direct_number direct.Symbolp = number_of at.SYMBOLP
direct_number direct.Keywordp = number_of at.KEYWORDP
direct_number direct.Integerp = number_of at.INTEGERP
direct_number direct.Numberp = number_of at.NUMBERP
direct_number direct.Characterp = number_of at.CHARACTERP
direct_number direct.Functionp = number_of at.FUNCTIONP
direct_number direct.Stringp = number_of at.STRINGP
direct_number direct.SimpleStringP = number_of at.SIMPLE_STRING_P
direct_number direct.Vectorp = number_of at.VECTORP
direct_number direct.SimpleVectorP = number_of at.SIMPLE_VECTOR_P

abbrev pub all_directs : List Direct
all_directs =
    direct.Add ∷ direct.Subtract ∷ direct.Multiply ∷ direct.LogAnd ∷ direct.LogIor ∷ direct.LogXor ∷ direct.Increment ∷ direct.Decrement ∷ direct.Truncate ∷ direct.Floor ∷ direct.ReadChar ∷ direct.Error ∷ direct.Eql ∷ direct.Char ∷ direct.Not ∷ direct.Null ∷ direct.Consp ∷ direct.Listp ∷ direct.Atom ∷ direct.Symbolp ∷ direct.Keywordp ∷ direct.Integerp ∷ direct.Numberp ∷ direct.Characterp ∷ direct.Functionp ∷ direct.Stringp ∷ direct.SimpleStringP ∷ direct.Vectorp ∷ direct.SimpleVectorP ∷ []

unfoldable pub direct_of : SymId → Option Direct
direct_of s = find (λ d. direct_number d == number_of s) all_directs

-- ---- names that are taken

-- operators of the standard that are left out: DEFMACRO to ASSERT
unfoldable pub is_left_out : SymId → Bool
is_left_out s = nat_le 183 (number_of s) && nat_lt (number_of s) 205

-- the names of operators, macros, primitives and functions of the prelude, as ranges of their places among the names that every table begins
-- with, the upper end being the first place past them
abbrev pub reserved_ranges : List (ℕ × ℕ)
reserved_ranges =
    (2, 5) ∷ (15, 16) ∷ (20, 21) ∷ (22, 25) ∷ (27, 29) ∷ (31, 37) ∷ (38, 39) ∷ (61, 127) ∷ (131, 136) ∷ (137, 165) ∷ (167, 310) ∷ []

abbrev pub is_between : ℕ → ℕ × ℕ → Bool
is_between n r = nat_le r.0 n && nat_lt n r.1

-- whether a file may not give this name to a function
unfoldable pub is_reserved : SymId → Bool
is_reserved s = list_any (is_between (number_of s)) reserved_ranges
