-- The bytes of a line.
use Rattle.std.specs.Prelude.{ℕ, List, string_bytes}
use Rattle.pyc_cli.specs.declared.line.Line.{Line}
use Rattle.pyc_cli.specs.declared.line.Line.TheVariants as lines

abbrev pub line_bytes : Line → List ℕ
line_bytes (lines.Fixed text) = text.now
line_bytes (lines.Made text) = string_bytes text
