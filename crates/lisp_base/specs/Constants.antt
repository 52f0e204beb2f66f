-- The names of the symbols that are constants (ANSI Common Lisp; those with `%` are this project's own).
use Rattle.std.specs.Prelude.{◌≡◌, ℕ, nat_eq, true, List, [], ◌∷◌, codes}
use Rattle.std.specs.List.{list_all}
use Rattle.lisp_base.specs.declared.values.SymId.{SymId}
use Rattle.lisp_base.specs.declared.base_symbols.TheConstants as at
use Rattle.lisp_base.specs.Sort.{number_of}
use Rattle.lisp_base.specs.Tables.{base_symbol}

unfoldable pub symbol_constants : List (SymId × List ℕ)
symbol_constants =
    (at.QUOTE, codes "QUOTE") ∷ (at.FUNCTION, codes "FUNCTION") ∷ (at.QUASIQUOTE, codes "QUASIQUOTE") ∷
    (at.UNQUOTE, codes "UNQUOTE") ∷ (at.UNQUOTE_SPLICING, codes "UNQUOTE-SPLICING") ∷ (at.INTEGER, codes "INTEGER") ∷
    (at.LIST, codes "LIST") ∷ (at.MEMBER, codes "MEMBER") ∷ (at.DECLARE, codes "DECLARE") ∷
    (at.DECLAIM, codes "DECLAIM") ∷ (at.TYPE, codes "TYPE") ∷ (at.SPECIAL, codes "SPECIAL") ∷
    (at.IGNORE, codes "IGNORE") ∷ (at.IGNORABLE, codes "IGNORABLE") ∷ (at.INLINE, codes "INLINE") ∷
    (at.NOTINLINE, codes "NOTINLINE") ∷ (at.DYNAMIC_EXTENT, codes "DYNAMIC-EXTENT") ∷
    (at.OPTIMIZE, codes "OPTIMIZE") ∷ (at.SPEED, codes "SPEED") ∷ (at.SAFETY, codes "SAFETY") ∷
    (at.SPACE, codes "SPACE") ∷ (at.DEBUG, codes "DEBUG") ∷ (at.COMPILATION_SPEED, codes "COMPILATION-SPEED") ∷
    (at.SETQ, codes "SETQ") ∷ (at.IF, codes "IF") ∷ (at.PROGN, codes "PROGN") ∷ (at.LET, codes "LET") ∷
    (at.LET_STAR, codes "LET*") ∷ (at.FLET, codes "FLET") ∷ (at.LABELS, codes "LABELS") ∷
    (at.LOCALLY, codes "LOCALLY") ∷ (at.THE, codes "THE") ∷ (at.BLOCK, codes "BLOCK") ∷
    (at.RETURN_FROM, codes "RETURN-FROM") ∷ (at.TAGBODY, codes "TAGBODY") ∷ (at.GO, codes "GO") ∷
    (at.CATCH, codes "CATCH") ∷ (at.THROW, codes "THROW") ∷ (at.UNWIND_PROTECT, codes "UNWIND-PROTECT") ∷
    (at.MULTIPLE_VALUE_CALL, codes "MULTIPLE-VALUE-CALL") ∷ (at.MULTIPLE_VALUE_PROG1, codes "MULTIPLE-VALUE-PROG1") ∷
    (at.VALUES, codes "VALUES") ∷ (at.FUNCALL, codes "FUNCALL") ∷ (at.APPLY, codes "APPLY") ∷
    (at.TYPEP, codes "TYPEP") ∷ (at.LAMBDA_LIST_OPTIONAL, codes "&OPTIONAL") ∷ (at.LAMBDA_LIST_REST, codes "&REST") ∷
    (at.LAMBDA_LIST_KEY, codes "&KEY") ∷ (at.LAMBDA_LIST_AUX, codes "&AUX") ∷ (at.AND, codes "AND") ∷
    (at.OR, codes "OR") ∷ (at.COND, codes "COND") ∷ (at.WHEN, codes "WHEN") ∷ (at.UNLESS, codes "UNLESS") ∷
    (at.CASE, codes "CASE") ∷ (at.ECASE, codes "ECASE") ∷ (at.OTHERWISE, codes "OTHERWISE") ∷
    (at.TYPECASE, codes "TYPECASE") ∷ (at.ETYPECASE, codes "ETYPECASE") ∷ (at.LOOP, codes "LOOP") ∷
    (at.DO, codes "DO") ∷ (at.DO_STAR, codes "DO*") ∷ (at.DOTIMES, codes "DOTIMES") ∷ (at.DOLIST, codes "DOLIST") ∷
    (at.RETURN, codes "RETURN") ∷ (at.PROG, codes "PROG") ∷ (at.PROG_STAR, codes "PROG*") ∷
    (at.PROG1, codes "PROG1") ∷ (at.PROG2, codes "PROG2") ∷ (at.PSETQ, codes "PSETQ") ∷ (at.SETF, codes "SETF") ∷
    (at.INCF, codes "INCF") ∷ (at.DECF, codes "DECF") ∷ (at.PUSH, codes "PUSH") ∷ (at.POP, codes "POP") ∷
    (at.MULTIPLE_VALUE_BIND, codes "MULTIPLE-VALUE-BIND") ∷ (at.MULTIPLE_VALUE_LIST, codes "MULTIPLE-VALUE-LIST") ∷
    (at.MULTIPLE_VALUE_SETQ, codes "MULTIPLE-VALUE-SETQ") ∷ (at.NTH_VALUE, codes "NTH-VALUE") ∷
    (at.LAMBDA, codes "LAMBDA") ∷ (at.DEFUN, codes "DEFUN") ∷ (at.DEFVAR, codes "DEFVAR") ∷
    (at.DEFPARAMETER, codes "DEFPARAMETER") ∷ (at.DEFCONSTANT, codes "DEFCONSTANT") ∷
    (at.IN_PACKAGE, codes "IN-PACKAGE") ∷ (at.CL_USER, codes "CL-USER") ∷
    (at.COMMON_LISP_USER, codes "COMMON-LISP-USER") ∷ (at.CONS, codes "CONS") ∷ (at.CAR, codes "CAR") ∷
    (at.CDR, codes "CDR") ∷ (at.RPLACA, codes "RPLACA") ∷ (at.RPLACD, codes "RPLACD") ∷ (at.SVREF, codes "SVREF") ∷
    (at.SCHAR, codes "SCHAR") ∷ (at.SET_SVREF, codes "%SVSET") ∷ (at.SET_SCHAR, codes "%SCHARSET") ∷
    (at.SYMBOL_VALUE, codes "SYMBOL-VALUE") ∷ (at.SET, codes "SET") ∷ (at.BOUNDP, codes "BOUNDP") ∷
    (at.READ_CHAR, codes "READ-CHAR") ∷ (at.ADD, codes "+") ∷ (at.SUBTRACT, codes "-") ∷ (at.STAR, codes "*") ∷
    (at.GREATER_OR_EQUAL, codes ">=") ∷ (at.FIRST, codes "FIRST") ∷ (at.REST, codes "REST") ∷ (at.NTH, codes "NTH") ∷
    (at.AREF, codes "AREF") ∷ (at.HELPER_KEYP, codes "%KEYP") ∷ (at.HELPER_KEY, codes "%KEY") ∷
    (at.HELPER_APPEND, codes "%APPEND") ∷ (at.HELPER_NTHSET, codes "%NTHSET") ∷ (at.HELPER_ASET, codes "%ASET") ∷
    (at.INCREMENT, codes "1+") ∷ (at.DECREMENT, codes "1-") ∷ (at.ERROR, codes "ERROR") ∷ (at.EQL, codes "EQL") ∷
    (at.CHAR, codes "CHAR") ∷ (at.NOT, codes "NOT") ∷ (at.NULL, codes "NULL") ∷ (at.ATOM, codes "ATOM") ∷
    (at.CONSP, codes "CONSP") ∷ (at.LISTP, codes "LISTP") ∷ (at.SYMBOLP, codes "SYMBOLP") ∷
    (at.KEYWORDP, codes "KEYWORDP") ∷ (at.INTEGERP, codes "INTEGERP") ∷ (at.NUMBERP, codes "NUMBERP") ∷
    (at.CHARACTERP, codes "CHARACTERP") ∷ (at.FUNCTIONP, codes "FUNCTIONP") ∷ (at.STRINGP, codes "STRINGP") ∷
    (at.SIMPLE_STRING_P, codes "SIMPLE-STRING-P") ∷ (at.VECTORP, codes "VECTORP") ∷
    (at.SIMPLE_VECTOR_P, codes "SIMPLE-VECTOR-P") ∷ []

-- each of them is the symbol of its base name
abbrev pub ConstantsAreBaseSymbols : Type 0
ConstantsAreBaseSymbols =
    list_all (λ (c : SymId × List ℕ). nat_eq (number_of c.0) (number_of (base_symbol c.1))) symbol_constants ≡ true
