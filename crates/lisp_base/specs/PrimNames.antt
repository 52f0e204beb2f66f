-- The names of the primitives, and the primitive of a symbol (ANSI Common Lisp; those with `%` are this project's own).
use Rattle.std.specs.Prelude.{◌≡◌, ℕ, List, [], ◌∷◌, codes, find, bytes_eq, slice_get, Option, Some, None}
use Rattle.lisp_base.specs.declared.primitives.Primitive.{Primitive}
use Rattle.lisp_base.specs.declared.primitives.Primitive.TheVariants as op
use Rattle.lisp_base.specs.BaseNames.{base_names}

abbrev pub prim_name : Primitive → List ℕ
prim_name op.Cons = codes "CONS"
prim_name op.List = codes "LIST"
prim_name op.Car = codes "CAR"
prim_name op.Cdr = codes "CDR"
prim_name op.Rplaca = codes "RPLACA"
prim_name op.Rplacd = codes "RPLACD"
prim_name op.MakeVector = codes "%MAKE-VECTOR"
prim_name op.MakeString = codes "%MAKE-STRING"
prim_name op.Svref = codes "SVREF"
prim_name op.Schar = codes "SCHAR"
prim_name op.SetSvref = codes "%SVSET"
prim_name op.SetSchar = codes "%SCHARSET"
prim_name op.VectorLength = codes "%VECTOR-LENGTH"
prim_name op.StringLength = codes "%STRING-LENGTH"
prim_name op.Eq = codes "EQ"
prim_name op.Add = codes "+"
prim_name op.Subtract = codes "-"
prim_name op.Multiply = codes "*"
prim_name op.Truncate = codes "TRUNCATE"
prim_name op.Floor = codes "FLOOR"
prim_name op.Rem = codes "REM"
prim_name op.Mod = codes "MOD"
prim_name op.Equal = codes "="
prim_name op.NotEqual = codes "/="
prim_name op.Less = codes "<"
prim_name op.Greater = codes ">"
prim_name op.LessOrEqual = codes "<="
prim_name op.GreaterOrEqual = codes ">="
prim_name op.LogAnd = codes "LOGAND"
prim_name op.LogIor = codes "LOGIOR"
prim_name op.LogXor = codes "LOGXOR"
prim_name op.LogNot = codes "LOGNOT"
prim_name op.Ash = codes "ASH"
prim_name op.CharCode = codes "CHAR-CODE"
prim_name op.CodeChar = codes "CODE-CHAR"
prim_name op.CharEqual = codes "CHAR="
prim_name op.CharLess = codes "CHAR<"
prim_name op.ReadChar = codes "READ-CHAR"
prim_name op.WriteChar = codes "WRITE-CHAR"
prim_name op.SymbolName = codes "SYMBOL-NAME"
prim_name op.SymbolValue = codes "SYMBOL-VALUE"
prim_name op.SymbolFunction = codes "SYMBOL-FUNCTION"
prim_name op.SetValue = codes "SET"
prim_name op.Boundp = codes "BOUNDP"
prim_name op.Fboundp = codes "FBOUNDP"
prim_name op.Uninternedp = codes "%UNINTERNEDP"
prim_name op.Error = codes "%ERROR"
prim_name op.ValuesList = codes "VALUES-LIST"

abbrev pub all_primitives : List Primitive
all_primitives =
    op.Cons ∷ op.List ∷ op.Car ∷ op.Cdr ∷ op.Rplaca ∷ op.Rplacd ∷ op.MakeVector ∷ op.MakeString ∷ op.Svref ∷
    op.Schar ∷ op.SetSvref ∷ op.SetSchar ∷ op.VectorLength ∷ op.StringLength ∷ op.Eq ∷ op.Add ∷ op.Subtract ∷
    op.Multiply ∷ op.Truncate ∷ op.Floor ∷ op.Rem ∷ op.Mod ∷ op.Equal ∷ op.NotEqual ∷ op.Less ∷ op.Greater ∷
    op.LessOrEqual ∷ op.GreaterOrEqual ∷ op.LogAnd ∷ op.LogIor ∷ op.LogXor ∷ op.LogNot ∷ op.Ash ∷ op.CharCode ∷
    op.CodeChar ∷ op.CharEqual ∷ op.CharLess ∷ op.ReadChar ∷ op.WriteChar ∷ op.SymbolName ∷ op.SymbolValue ∷
    op.SymbolFunction ∷ op.SetValue ∷ op.Boundp ∷ op.Fboundp ∷ op.Uninternedp ∷ op.Error ∷ op.ValuesList ∷ []

-- the primitive of a name
abbrev pub prim_named : List ℕ → Option Primitive
prim_named name = find (λ p. bytes_eq (prim_name p) name) all_primitives

abbrev pub of_name : Option (List ℕ) → Option Primitive
of_name None = None
of_name (Some name) = prim_named name

-- the primitive of a symbol by its number: every symbol table begins with the base names
abbrev pub prim_at : ℕ → Option Primitive
prim_at n = of_name (slice_get base_names n)

-- each primitive is that of some symbol
abbrev pub EachPrimitiveIsNamed : Type 0
EachPrimitiveIsNamed = (p : Primitive) → (n : ℕ) × (prim_at n ≡ Some p)
