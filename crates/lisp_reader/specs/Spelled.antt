-- The tokens that the code's tokens stand for (this project's own).
use Rattle.std.specs.Prelude.{Option, Some, None, map, false}
use Rattle.lisp_reader.specs.declared.token.Atom.{Atom as Kept}
use Rattle.lisp_reader.specs.declared.token.Atom.TheVariants as a
use Rattle.lisp_reader.specs.declared.token.Token.{Token as KeptToken}
use Rattle.lisp_reader.specs.declared.token.Token.TheVariants as t
use Rattle.lisp_reader.specs.declared.token.Piece.{Piece as KeptPiece}
use Rattle.lisp_reader.specs.Tokens.{Atom, integer, character, string, symbol, keyword, Token, opening, vector, closing, dot, prefix, atom, bad, Piece, letters, upcase}

abbrev pub atom_of : Kept → Atom
atom_of (a.Integer n) = integer n
atom_of (a.Character c) = character c
atom_of (a.Text raw) = string (letters false raw.now)
atom_of (a.Symbol raw) = symbol (map upcase raw.now)
atom_of (a.Keyword raw) = keyword (map upcase raw.now)

abbrev pub token_of : KeptToken → Token
token_of t.Open = opening
token_of t.Vector = vector
token_of t.Close = closing
token_of t.Dot = dot
token_of (t.Prefix f) = prefix f
token_of (t.Atom x) = atom (atom_of x)
token_of (t.Bad kind) = bad kind

abbrev pub token_or_none : Option KeptToken → Option Token
token_or_none None = None
token_or_none (Some x) = Some (token_of x)

abbrev pub piece_of : KeptPiece → Piece
piece_of x = record { token = token_or_none x.token; size = x.size }
