-- The text of a type that is written as a name alone, as code points.
use Rattle.std.specs.Prelude.{ℕ, List, codes}
use Rattle.lisp_base.specs.declared.types.TypeName.{TypeName}
use Rattle.lisp_base.specs.declared.types.TypeName.TheVariants as name

abbrev pub type_name_text : TypeName → List ℕ
type_name_text name.T = codes "T"
type_name_text name.Nil = codes "NIL"
type_name_text name.Integer = codes "INTEGER"
type_name_text name.Number = codes "NUMBER"
type_name_text name.Real = codes "REAL"
type_name_text name.Rational = codes "RATIONAL"
type_name_text name.Fixnum = codes "FIXNUM"
type_name_text name.Bit = codes "BIT"
type_name_text name.UnsignedByte = codes "UNSIGNED-BYTE"
type_name_text name.Character = codes "CHARACTER"
type_name_text name.BaseChar = codes "BASE-CHAR"
type_name_text name.Symbol = codes "SYMBOL"
type_name_text name.Keyword = codes "KEYWORD"
type_name_text name.Null = codes "NULL"
type_name_text name.Boolean = codes "BOOLEAN"
type_name_text name.Cons = codes "CONS"
type_name_text name.List = codes "LIST"
type_name_text name.Atom = codes "ATOM"
type_name_text name.SimpleVector = codes "SIMPLE-VECTOR"
type_name_text name.SimpleString = codes "SIMPLE-STRING"
type_name_text name.String = codes "STRING"
type_name_text name.Vector = codes "VECTOR"
type_name_text name.Array = codes "ARRAY"
type_name_text name.Sequence = codes "SEQUENCE"
type_name_text name.Function = codes "FUNCTION"
