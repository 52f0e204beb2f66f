-- The table of primitives: arguments, result and own condition of each (ANSI Common Lisp; those with `%` are this project's own).
use Rattle.std.specs.Prelude.{ℕ, pos, List, [], ◌∷◌, length, Some, None}
use Rattle.lisp_base.specs.declared.primitives.Primitive.{Primitive}
use Rattle.lisp_base.specs.declared.primitives.Primitive.TheVariants as op
use Rattle.lisp_base.specs.declared.rows.PrimType.{PrimType}
use Rattle.lisp_base.specs.declared.rows.PrimType.TheVariants as types
use Rattle.lisp_base.specs.declared.rows.Own.{Own}
use Rattle.lisp_base.specs.declared.rows.Own.TheVariants as own
use Rattle.lisp_base.specs.declared.rows.PrimRow.{PrimRow}
use Rattle.lisp_base.specs.declared.types.TypeName.TheVariants as name
use Rattle.lisp_base.specs.declared.types.Bound.TheVariants.{At}
use Rattle.lisp_base.specs.Sort.{nil, truth}
use Rattle.lisp_base.specs.Shown.{most_elements}
use Rattle.lisp_base.specs.Spec.{Spec, Named, Integer, Member, And, Or, Not, spec, no_spec}

-- three places, T from the end on
abbrev pub padded : List PrimType → List PrimType
padded [] = types.T ∷ types.T ∷ types.T ∷ []
padded (a ∷ []) = a ∷ types.T ∷ types.T ∷ []
padded (a ∷ b ∷ []) = a ∷ b ∷ types.T ∷ []
padded (a ∷ b ∷ c ∷ rest) = a ∷ b ∷ c ∷ []

-- a row with these arguments and no further ones, the type of its first value, and its own condition
abbrev pub takes : List PrimType → PrimType → Own → PrimRow
takes arguments gives condition =
    record { args = padded arguments; count = length arguments; rest = None; gives = gives; own = condition }

-- LIST takes any number of arguments. Where the places of a vector's or string's index and length are T, what they must be
-- is the own condition.
abbrev pub prim_row : Primitive → PrimRow
prim_row op.Cons = takes (types.T ∷ types.T ∷ []) types.Cons own.Nothing
prim_row op.List = record (takes [] types.List own.Nothing) { rest = Some types.T }
prim_row op.Car = takes (types.List ∷ []) types.T own.Nothing
prim_row op.Cdr = takes (types.List ∷ []) types.T own.Nothing
prim_row op.Rplaca = takes (types.Cons ∷ types.T ∷ []) types.Cons own.Nothing
prim_row op.Rplacd = takes (types.Cons ∷ types.T ∷ []) types.Cons own.Nothing
prim_row op.MakeVector = takes (types.T ∷ types.T ∷ []) types.SimpleVector own.Length
prim_row op.MakeString = takes (types.T ∷ types.Character ∷ []) types.SimpleString own.Length
prim_row op.Svref = takes (types.SimpleVector ∷ types.T ∷ []) types.T own.Index
prim_row op.Schar = takes (types.SimpleString ∷ types.T ∷ []) types.Character own.Index
prim_row op.SetSvref = takes (types.SimpleVector ∷ types.T ∷ types.T ∷ []) types.T own.Index
prim_row op.SetSchar = takes (types.SimpleString ∷ types.T ∷ types.Character ∷ []) types.Character own.Index
prim_row op.VectorLength = takes (types.SimpleVector ∷ []) types.Length own.Nothing
prim_row op.StringLength = takes (types.SimpleString ∷ []) types.Length own.Nothing
prim_row op.Eq = takes (types.T ∷ types.T ∷ []) types.Boolean own.Nothing
prim_row op.Add = takes (types.Integer ∷ types.Integer ∷ []) types.Integer own.Overflow
prim_row op.Subtract = takes (types.Integer ∷ types.Integer ∷ []) types.Integer own.Overflow
prim_row op.Multiply = takes (types.Integer ∷ types.Integer ∷ []) types.Integer own.Overflow
prim_row op.Truncate = takes (types.Integer ∷ types.Integer ∷ []) types.Integer own.ZeroOrOverflow
prim_row op.Floor = takes (types.Integer ∷ types.Integer ∷ []) types.Integer own.ZeroOrOverflow
prim_row op.Rem = takes (types.Integer ∷ types.Integer ∷ []) types.Integer own.Zero
prim_row op.Mod = takes (types.Integer ∷ types.Integer ∷ []) types.Integer own.Zero
prim_row op.Equal = takes (types.Integer ∷ types.Integer ∷ []) types.Boolean own.Nothing
prim_row op.NotEqual = takes (types.Integer ∷ types.Integer ∷ []) types.Boolean own.Nothing
prim_row op.Less = takes (types.Integer ∷ types.Integer ∷ []) types.Boolean own.Nothing
prim_row op.Greater = takes (types.Integer ∷ types.Integer ∷ []) types.Boolean own.Nothing
prim_row op.LessOrEqual = takes (types.Integer ∷ types.Integer ∷ []) types.Boolean own.Nothing
prim_row op.GreaterOrEqual = takes (types.Integer ∷ types.Integer ∷ []) types.Boolean own.Nothing
prim_row op.LogAnd = takes (types.Integer ∷ types.Integer ∷ []) types.Integer own.Nothing
prim_row op.LogIor = takes (types.Integer ∷ types.Integer ∷ []) types.Integer own.Nothing
prim_row op.LogXor = takes (types.Integer ∷ types.Integer ∷ []) types.Integer own.Nothing
prim_row op.LogNot = takes (types.Integer ∷ []) types.Integer own.Nothing
prim_row op.Ash = takes (types.Integer ∷ types.Integer ∷ []) types.Integer own.Overflow
prim_row op.CharCode = takes (types.Character ∷ []) types.CodePoint own.Nothing
prim_row op.CodeChar = takes (types.CodePoint ∷ []) types.CharacterOrNull own.Nothing
prim_row op.CharEqual = takes (types.Character ∷ types.Character ∷ []) types.Boolean own.Nothing
prim_row op.CharLess = takes (types.Character ∷ types.Character ∷ []) types.Boolean own.Nothing
prim_row op.ReadChar = takes (types.NilOrT ∷ types.T ∷ types.T ∷ []) types.T own.EndOfFile
prim_row op.WriteChar = takes (types.Character ∷ []) types.Character own.Nothing
prim_row op.SymbolName = takes (types.Symbol ∷ []) types.SimpleString own.Nothing
prim_row op.SymbolValue = takes (types.Symbol ∷ []) types.T own.Unbound
prim_row op.SymbolFunction = takes (types.Symbol ∷ []) types.Function own.Undefined
prim_row op.SetValue = takes (types.Settable ∷ types.T ∷ []) types.T own.Nothing
prim_row op.Boundp = takes (types.Symbol ∷ []) types.Boolean own.Nothing
prim_row op.Fboundp = takes (types.Symbol ∷ []) types.Boolean own.Nothing
prim_row op.Uninternedp = takes (types.Symbol ∷ []) types.Boolean own.Nothing
prim_row op.Error = takes (types.T ∷ types.List ∷ []) types.Never own.SimpleError
prim_row op.ValuesList = takes (types.List ∷ []) types.T own.ProperList

-- ---- the types of the table

-- the greatest code point
unfoldable pub greatest_code : ℕ
greatest_code = 1114111

abbrev pub up_to : ℕ → Spec
up_to most = Integer (At (pos 0)) (At (pos most))

abbrev pub either_of : Spec → Spec → Spec
either_of a b = Or (spec a (spec b no_spec))

abbrev pub nil_or_truth : Spec
nil_or_truth = Member (nil ∷ truth ∷ [])

-- the symbols whose value may be set
abbrev pub settable_symbols : Spec
settable_symbols =
    And (spec (Named name.Symbol) (spec (Not (either_of nil_or_truth (Named name.Keyword))) no_spec))

abbrev pub prim_type_spec : PrimType → Spec
prim_type_spec types.T = Named name.T
prim_type_spec types.Never = Named name.Nil
prim_type_spec types.Integer = Named name.Integer
prim_type_spec types.CodePoint = up_to greatest_code
prim_type_spec types.Length = up_to most_elements
prim_type_spec types.Character = Named name.Character
prim_type_spec types.CharacterOrNull = either_of (Named name.Character) (Named name.Null)
prim_type_spec types.Boolean = Named name.Boolean
prim_type_spec types.NilOrT = nil_or_truth
prim_type_spec types.Symbol = Named name.Symbol
prim_type_spec types.Settable = settable_symbols
prim_type_spec types.List = Named name.List
prim_type_spec types.Cons = Named name.Cons
prim_type_spec types.SimpleVector = Named name.SimpleVector
prim_type_spec types.SimpleString = Named name.SimpleString
prim_type_spec types.Function = Named name.Function
