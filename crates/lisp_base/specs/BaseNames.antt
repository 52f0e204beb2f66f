-- The names that every symbol table begins with (ANSI Common Lisp; those with `%` are this project's own).
use Rattle.std.specs.Prelude.{ℕ, List, [], ◌∷◌, ◌++◌, codes}

-- ---- the names in their order, each once

-- the false value, the true value, and what the reader writes for its prefixes
abbrev pub first_names : List (List ℕ)
first_names =
    codes "NIL" ∷ codes "T" ∷ codes "QUOTE" ∷ codes "FUNCTION" ∷ codes "QUASIQUOTE" ∷ codes "UNQUOTE" ∷
    codes "UNQUOTE-SPLICING" ∷ []

-- types, and what stands in them
abbrev pub type_names : List (List ℕ)
type_names =
    codes "INTEGER" ∷ codes "NUMBER" ∷ codes "REAL" ∷ codes "RATIONAL" ∷ codes "SIGNED-BYTE" ∷
    codes "UNSIGNED-BYTE" ∷ codes "FIXNUM" ∷ codes "BIT" ∷ codes "MOD" ∷ codes "CHARACTER" ∷ codes "BASE-CHAR" ∷
    codes "SYMBOL" ∷ codes "KEYWORD" ∷ codes "NULL" ∷ codes "BOOLEAN" ∷ codes "CONS" ∷ codes "LIST" ∷ codes "ATOM" ∷
    codes "SIMPLE-VECTOR" ∷ codes "SIMPLE-STRING" ∷ codes "STRING" ∷ codes "VECTOR" ∷ codes "ARRAY" ∷
    codes "SEQUENCE" ∷ codes "MEMBER" ∷ codes "EQL" ∷ codes "AND" ∷ codes "OR" ∷ codes "NOT" ∷ codes "*" ∷ []

-- declarations
abbrev pub declaration_names : List (List ℕ)
declaration_names =
    codes "DECLARE" ∷ codes "DECLAIM" ∷ codes "TYPE" ∷ codes "SPECIAL" ∷ codes "IGNORE" ∷ codes "IGNORABLE" ∷
    codes "INLINE" ∷ codes "NOTINLINE" ∷ codes "DYNAMIC-EXTENT" ∷ codes "OPTIMIZE" ∷ codes "SPEED" ∷ codes "SAFETY" ∷
    codes "SPACE" ∷ codes "DEBUG" ∷ codes "COMPILATION-SPEED" ∷ []

-- kinds of errors
abbrev pub error_names : List (List ℕ)
error_names =
    codes "TYPE-ERROR" ∷ codes "INTEGER-OVERFLOW" ∷ codes "DIVISION-BY-ZERO" ∷ codes "UNBOUND-VARIABLE" ∷
    codes "UNDEFINED-FUNCTION" ∷ codes "PROGRAM-ERROR" ∷ codes "CONTROL-ERROR" ∷ codes "END-OF-FILE" ∷
    codes "SIMPLE-ERROR" ∷ []

-- primitives whose names are no types'
abbrev pub further_primitives : List (List ℕ)
further_primitives =
    codes "CAR" ∷ codes "CDR" ∷ codes "RPLACA" ∷ codes "RPLACD" ∷ codes "%MAKE-VECTOR" ∷ codes "%MAKE-STRING" ∷
    codes "SVREF" ∷ codes "SCHAR" ∷ codes "%SVSET" ∷ codes "%SCHARSET" ∷ codes "%VECTOR-LENGTH" ∷
    codes "%STRING-LENGTH" ∷ codes "EQ" ∷ codes "+" ∷ codes "-" ∷ codes "TRUNCATE" ∷ codes "FLOOR" ∷ codes "REM" ∷
    codes "=" ∷ codes "/=" ∷ codes "<" ∷ codes ">" ∷ codes "<=" ∷ codes ">=" ∷ codes "LOGAND" ∷ codes "LOGIOR" ∷
    codes "LOGXOR" ∷ codes "LOGNOT" ∷ codes "ASH" ∷ codes "CHAR-CODE" ∷ codes "CODE-CHAR" ∷ codes "CHAR=" ∷
    codes "CHAR<" ∷ codes "READ-CHAR" ∷ codes "WRITE-CHAR" ∷ codes "SYMBOL-NAME" ∷ codes "SYMBOL-VALUE" ∷
    codes "SYMBOL-FUNCTION" ∷ codes "SET" ∷ codes "BOUNDP" ∷ codes "FBOUNDP" ∷ codes "%UNINTERNEDP" ∷
    codes "%ERROR" ∷ codes "VALUES-LIST" ∷ []

-- special operators that no prefix of the reader names
abbrev pub further_operators : List (List ℕ)
further_operators =
    codes "SETQ" ∷ codes "IF" ∷ codes "PROGN" ∷ codes "LET" ∷ codes "LET*" ∷ codes "FLET" ∷ codes "LABELS" ∷
    codes "LOCALLY" ∷ codes "THE" ∷ codes "BLOCK" ∷ codes "RETURN-FROM" ∷ codes "TAGBODY" ∷ codes "GO" ∷
    codes "CATCH" ∷ codes "THROW" ∷ codes "UNWIND-PROTECT" ∷ codes "MULTIPLE-VALUE-CALL" ∷
    codes "MULTIPLE-VALUE-PROG1" ∷ codes "VALUES" ∷ codes "FUNCALL" ∷ codes "APPLY" ∷ codes "TYPEP" ∷ []

-- words of lambda lists
unfoldable pub lambda_list_names : List (List ℕ)
lambda_list_names =
    codes "&OPTIONAL" ∷ codes "&REST" ∷ codes "&KEY" ∷ codes "&AUX" ∷ []

-- macros whose names are no types' and no prefix's, and what their forms hold
abbrev pub further_macros : List (List ℕ)
further_macros =
    codes "COND" ∷ codes "WHEN" ∷ codes "UNLESS" ∷ codes "CASE" ∷ codes "ECASE" ∷ codes "OTHERWISE" ∷
    codes "TYPECASE" ∷ codes "ETYPECASE" ∷ codes "LOOP" ∷ codes "DO" ∷ codes "DO*" ∷ codes "DOTIMES" ∷
    codes "DOLIST" ∷ codes "RETURN" ∷ codes "PROG" ∷ codes "PROG*" ∷ codes "PROG1" ∷ codes "PROG2" ∷ codes "PSETQ" ∷
    codes "SETF" ∷ codes "INCF" ∷ codes "DECF" ∷ codes "PUSH" ∷ codes "POP" ∷ codes "MULTIPLE-VALUE-BIND" ∷
    codes "MULTIPLE-VALUE-LIST" ∷ codes "MULTIPLE-VALUE-SETQ" ∷ codes "NTH-VALUE" ∷ codes "LAMBDA" ∷ codes "DEFUN" ∷
    codes "DEFVAR" ∷ codes "DEFPARAMETER" ∷ codes "DEFCONSTANT" ∷ codes "IN-PACKAGE" ∷ codes "CL-USER" ∷
    codes "COMMON-LISP-USER" ∷ []

-- direct calls and type predicates whose names are no types' and no primitives'
abbrev pub further_direct_calls : List (List ℕ)
further_direct_calls =
    codes "1+" ∷ codes "1-" ∷ codes "ERROR" ∷ codes "CHAR" ∷ codes "CONSP" ∷ codes "LISTP" ∷ codes "SYMBOLP" ∷
    codes "KEYWORDP" ∷ codes "INTEGERP" ∷ codes "NUMBERP" ∷ codes "CHARACTERP" ∷ codes "FUNCTIONP" ∷
    codes "STRINGP" ∷ codes "SIMPLE-STRING-P" ∷ codes "VECTORP" ∷ codes "SIMPLE-VECTOR-P" ∷ []

-- operators of the standard that are left out
unfoldable pub left_out_names : List (List ℕ)
left_out_names =
    codes "DEFMACRO" ∷ codes "MACROLET" ∷ codes "EVAL-WHEN" ∷ codes "SYMBOL-MACROLET" ∷ codes "PROGV" ∷
    codes "LOAD-TIME-VALUE" ∷ codes "DEFSTRUCT" ∷ codes "DEFCLASS" ∷ codes "DEFGENERIC" ∷ codes "DEFMETHOD" ∷
    codes "DEFPACKAGE" ∷ codes "DEFTYPE" ∷ codes "DEFSETF" ∷ codes "DESTRUCTURING-BIND" ∷ codes "HANDLER-CASE" ∷
    codes "HANDLER-BIND" ∷ codes "IGNORE-ERRORS" ∷ codes "RESTART-CASE" ∷ codes "WITH-OPEN-FILE" ∷
    codes "WITH-OUTPUT-TO-STRING" ∷ codes "CHECK-TYPE" ∷ codes "ASSERT" ∷ []

-- functions of the prelude whose names are no types', no primitives' and no direct calls'
abbrev pub further_functions : List (List ℕ)
further_functions =
    codes "ABS" ∷ codes "MAX" ∷ codes "MIN" ∷ codes "GCD" ∷ codes "EXPT" ∷ codes "EVENP" ∷ codes "ODDP" ∷
    codes "ZEROP" ∷ codes "PLUSP" ∷ codes "MINUSP" ∷ codes "SIGNUM" ∷ codes "CEILING" ∷ codes "CHAR/=" ∷
    codes "CHAR>" ∷ codes "CHAR<=" ∷ codes "CHAR>=" ∷ codes "CHAR-UPCASE" ∷ codes "CHAR-DOWNCASE" ∷
    codes "ALPHA-CHAR-P" ∷ codes "ALPHANUMERICP" ∷ codes "UPPER-CASE-P" ∷ codes "LOWER-CASE-P" ∷
    codes "DIGIT-CHAR-P" ∷ codes "DIGIT-CHAR" ∷ codes "CAAR" ∷ codes "CADR" ∷ codes "CDAR" ∷ codes "CDDR" ∷
    codes "CADDR" ∷ codes "CDDDR" ∷ codes "FIRST" ∷ codes "SECOND" ∷ codes "THIRD" ∷ codes "REST" ∷ codes "LAST" ∷
    codes "NTH" ∷ codes "NTHCDR" ∷ codes "LIST*" ∷ codes "APPEND" ∷ codes "NCONC" ∷ codes "COPY-LIST" ∷
    codes "BUTLAST" ∷ codes "ACONS" ∷ codes "ENDP" ∷ codes "ASSOC" ∷ codes "FIND" ∷ codes "POSITION" ∷
    codes "COUNT" ∷ codes "REMOVE" ∷ codes "FIND-IF" ∷ codes "REMOVE-IF" ∷ codes "REMOVE-IF-NOT" ∷ codes "MAPCAR" ∷
    codes "MAPC" ∷ codes "REDUCE" ∷ codes "EVERY" ∷ codes "SOME" ∷ codes "IDENTITY" ∷ codes "EQUAL" ∷
    codes "LENGTH" ∷ codes "REVERSE" ∷ codes "NREVERSE" ∷ codes "ELT" ∷ codes "SUBSEQ" ∷ codes "COPY-SEQ" ∷
    codes "COERCE" ∷ codes "MAKE-ARRAY" ∷ codes "AREF" ∷ codes "MAKE-STRING" ∷ codes "STRING=" ∷ codes "STRING<" ∷
    codes "STRING-UPCASE" ∷ codes "STRING-DOWNCASE" ∷ codes "PARSE-INTEGER" ∷ codes "READ-LINE" ∷
    codes "WRITE-STRING" ∷ codes "WRITE-LINE" ∷ codes "TERPRI" ∷ codes "PRINC" ∷ codes "PRIN1" ∷ codes "PRINT" ∷ []

-- functions that the prelude has for itself
unfoldable pub helper_names : List (List ℕ)
helper_names =
    codes "%KEYP" ∷ codes "%KEY" ∷ codes "%APPEND" ∷ codes "%NTHSET" ∷ codes "%ASET" ∷ codes "%+" ∷ codes "%-" ∷
    codes "%*" ∷ codes "%TRUNCATE" ∷ codes "%FLOOR" ∷ codes "%REM" ∷ codes "%MOD" ∷ codes "%ASH" ∷ codes "%RPLACD" ∷
    codes "%CHAR-CODE" ∷ codes "%CODE-CHAR" ∷ codes "%READ-CHAR" ∷ codes "%SYMBOL-VALUE" ∷ codes "%SYMBOL-FUNCTION" ∷
    codes "%SET" ∷ codes "%BOUNDP" ∷ codes "%FBOUNDP" ∷ codes "%VALUES-LIST" ∷ codes "%WRITE" ∷ []

-- names of the prelude's keyword parameters
abbrev pub key_names : List (List ℕ)
key_names =
    codes "TEST" ∷ codes "KEY" ∷ codes "INITIAL-VALUE" ∷ codes "INITIAL-ELEMENT" ∷ []

-- the names that every symbol table begins with, each once: NIL first, T second
unfoldable pub base_names : List (List ℕ)
base_names =
    first_names ++ type_names ++ declaration_names ++ error_names ++ further_primitives ++ further_operators ++ lambda_list_names ++ further_macros ++ further_direct_calls ++ left_out_names ++ further_functions ++ helper_names ++ key_names

-- ---- the sorts, each whole: a name may be of several

-- the primitives, in the order of their table
unfoldable pub primitive_names : List (List ℕ)
primitive_names =
    codes "CONS" ∷ codes "LIST" ∷ codes "CAR" ∷ codes "CDR" ∷ codes "RPLACA" ∷ codes "RPLACD" ∷ codes "%MAKE-VECTOR" ∷
    codes "%MAKE-STRING" ∷ codes "SVREF" ∷ codes "SCHAR" ∷ codes "%SVSET" ∷ codes "%SCHARSET" ∷
    codes "%VECTOR-LENGTH" ∷ codes "%STRING-LENGTH" ∷ codes "EQ" ∷ codes "+" ∷ codes "-" ∷ codes "*" ∷
    codes "TRUNCATE" ∷ codes "FLOOR" ∷ codes "REM" ∷ codes "MOD" ∷ codes "=" ∷ codes "/=" ∷ codes "<" ∷ codes ">" ∷
    codes "<=" ∷ codes ">=" ∷ codes "LOGAND" ∷ codes "LOGIOR" ∷ codes "LOGXOR" ∷ codes "LOGNOT" ∷ codes "ASH" ∷
    codes "CHAR-CODE" ∷ codes "CODE-CHAR" ∷ codes "CHAR=" ∷ codes "CHAR<" ∷ codes "READ-CHAR" ∷ codes "WRITE-CHAR" ∷
    codes "SYMBOL-NAME" ∷ codes "SYMBOL-VALUE" ∷ codes "SYMBOL-FUNCTION" ∷ codes "SET" ∷ codes "BOUNDP" ∷
    codes "FBOUNDP" ∷ codes "%UNINTERNEDP" ∷ codes "%ERROR" ∷ codes "VALUES-LIST" ∷ []

-- operators with a meaning of their own
unfoldable pub special_operators : List (List ℕ)
special_operators = codes "QUOTE" ∷ codes "FUNCTION" ∷ further_operators

-- macros that give one form for another
unfoldable pub builtin_macros : List (List ℕ)
builtin_macros =
    codes "AND" ∷ codes "OR" ∷ codes "COND" ∷ codes "WHEN" ∷ codes "UNLESS" ∷ codes "CASE" ∷ codes "ECASE" ∷
    codes "TYPECASE" ∷ codes "ETYPECASE" ∷ codes "LOOP" ∷ codes "DO" ∷ codes "DO*" ∷ codes "DOTIMES" ∷
    codes "DOLIST" ∷ codes "RETURN" ∷ codes "PROG" ∷ codes "PROG*" ∷ codes "PROG1" ∷ codes "PROG2" ∷ codes "PSETQ" ∷
    codes "SETF" ∷ codes "INCF" ∷ codes "DECF" ∷ codes "PUSH" ∷ codes "POP" ∷ codes "MULTIPLE-VALUE-BIND" ∷
    codes "MULTIPLE-VALUE-LIST" ∷ codes "MULTIPLE-VALUE-SETQ" ∷ codes "NTH-VALUE" ∷ codes "LAMBDA" ∷
    codes "QUASIQUOTE" ∷ []

-- macros that define, declare or name a package: the expander itself reads their forms
unfoldable pub defining_macros : List (List ℕ)
defining_macros =
    codes "DEFUN" ∷ codes "DEFVAR" ∷ codes "DEFPARAMETER" ∷ codes "DEFCONSTANT" ∷ codes "DECLAIM" ∷
    codes "IN-PACKAGE" ∷ []

-- all macros
unfoldable pub macro_names : List (List ℕ)
macro_names = builtin_macros ++ defining_macros

-- functions other than primitives whose calls are rewritten
unfoldable pub direct_names : List (List ℕ)
direct_names = codes "EQL" ∷ codes "NOT" ∷ codes "NULL" ∷ codes "ATOM" ∷ further_direct_calls

-- functions of the prelude that are no primitives, no direct calls and no helpers
unfoldable pub prelude_names : List (List ℕ)
prelude_names = codes "MEMBER" ∷ codes "VECTOR" ∷ codes "STRING" ∷ further_functions
