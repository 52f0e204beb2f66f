-- What an error with which a machine ends prints as: its name, its data and the place of its form (this project's: docs/texts.md).
use Rattle.std.specs.Prelude.{ℕ, ℤ, pos, ◌-ℤ◌, int_lt, ◌==◌, if◌then◌else◌, List, [], ◌++◌, Option, Some, None, unwrap_or, option_and_then, codes, slice_get}
use Rattle.std.specs.Fmt.{decimal, signed_decimal}
use Rattle.lisp_base.specs.declared.shapes.Shape.{Shape}
use Rattle.lisp_base.specs.declared.shapes.Shape.TheVariants as shape
use Rattle.debug_info.specs.declared.rows.Site.{Site}
use Rattle.debug_info.specs.declared.rows.SitePlace.{SitePlace}
use Rattle.debug_info.specs.declared.rows.SitePlace.TheVariants.{File, Prelude}
use Rattle.debug_info.specs.Tables.{Tables}
use Rattle.debug_info.specs.Places.{place_of}
use Rattle.object_model.specs.Memory.{word_shape}
use Rattle.ending_texts.specs.declared.kinds.ErrorKind.{ErrorKind}
use Rattle.ending_texts.specs.declared.kinds.ErrorKind.TheVariants as e
use Rattle.ending_texts.specs.Values.{word_text}

-- the numbers of the kinds
abbrev pub kind_of : ℕ → ErrorKind
kind_of n =
    if n == 1 then e.Type else (
    if n == 2 then e.Index else (
    if n == 3 then e.Overflow else (
    if n == 4 then e.ZeroDivide else (
    if n == 5 then e.Unbound else (
    if n == 6 then e.Undefined else (
    if n == 7 then e.Arguments else (
    if n == 8 then e.Control else (
    if n == 9 then e.EndOfFile else (
    if n == 10 then e.Simple else e.Other)))))))))

abbrev pub name_of : ErrorKind → List ℕ
name_of e.Type = codes "TYPE-ERROR"
name_of e.Index = codes "TYPE-ERROR"
name_of e.Overflow = codes "INTEGER-OVERFLOW"
name_of e.ZeroDivide = codes "DIVISION-BY-ZERO"
name_of e.Unbound = codes "UNBOUND-VARIABLE"
name_of e.Undefined = codes "UNDEFINED-FUNCTION"
name_of e.Arguments = codes "PROGRAM-ERROR"
name_of e.Control = codes "CONTROL-ERROR"
name_of e.EndOfFile = codes "END-OF-FILE"
name_of e.Simple = codes "SIMPLE-ERROR"
name_of e.Other = codes "ERROR"

-- a text by its number, and none where there is no text
abbrev pub text_or_none : Tables → Option ℕ → List ℕ
text_or_none t number = unwrap_or (option_and_then (slice_get t.texts) number) (codes "none")

-- the operation of a site, or the type that is expected there
abbrev pub site_text : Tables → Option Site → List ℕ
site_text t None = codes "none"
site_text t (Some site) = text_or_none t site.text

-- where a site lies: the offset of its list in the file, and how many conses of the list are before it; or a function of the prelude
abbrev pub place_text : Tables → Option Site → List ℕ
place_text t None = codes "none"
place_text t (Some site) = text_at site.place
  where
    text_at : SitePlace → List ℕ
    text_at (File offset tail) = if tail == 0 then decimal offset else decimal offset ++ (codes "+" ++ decimal tail)
    text_at (Prelude text) = codes "prelude:" ++ text_or_none t (Some text)

-- the type of the indices below a length: there are none unless it is above 0
abbrev pub indices_below : ℤ → List ℕ
indices_below n =
    if int_lt (pos 0) n then codes "(INTEGER 0 " ++ (signed_decimal (n -ℤ pos 1) ++ codes ")") else codes "NIL"

-- the type of the indices into what has the length of this shape, which is that of an integer
abbrev pub index_type : Shape ℕ → List ℕ
index_type (shape.Int n) = indices_below n
index_type (shape.Char c) = codes "NIL"
index_type (shape.Sym kind n) = codes "NIL"
index_type (shape.Cons car cdr) = codes "NIL"
index_type (shape.Vector n) = codes "NIL"
index_type (shape.Str n) = codes "NIL"
index_type shape.Fun = codes "NIL"
index_type shape.Bad = codes "NIL"

-- a text behind a space
abbrev pub after_space : List ℕ → List ℕ
after_space text = codes " " ++ text

abbrev pub datum : (ℕ → Option ℕ) → ℕ → List ℕ
datum words word = after_space (word_text words word)

-- the data that are shown, of the site's text and the words a and b
abbrev pub data_text : (ℕ → Option ℕ) → List ℕ → ErrorKind → ℕ → ℕ → List ℕ
data_text words site e.Type a b = datum words a ++ after_space site
data_text words site e.Index a b = datum words a ++ after_space (index_type (word_shape words b))
data_text words site e.Overflow a b = after_space site ++ (datum words a ++ datum words b)
data_text words site e.ZeroDivide a b = after_space site ++ (datum words a ++ datum words b)
data_text words site e.Unbound a b = datum words a
data_text words site e.Undefined a b = datum words a
data_text words site e.Arguments a b = datum words a ++ datum words b
data_text words site e.Control a b = datum words a
data_text words site e.EndOfFile a b = []
data_text words site e.Simple a b = datum words a ++ datum words b
data_text words site e.Other a b = []

-- what an error prints as that was made at a site
abbrev pub shown_at : (ℕ → Option ℕ) → Tables → Option Site → ErrorKind → ℕ → ℕ → List ℕ
shown_at words t site kind a b =
    name_of kind ++ (data_text words (site_text t site) kind a b ++ (codes " form=" ++ place_text t site))

-- by the number of its kind, its three data, of which none shows the third, and the address of the call that ended the machine
unfoldable pub fault_text : (ℕ → Option ℕ) → Tables → ℕ → ℕ → ℕ → ℕ → ℕ → List ℕ
fault_text words t kind a b c pc = shown_at words t (place_of t.sites pc) (kind_of kind) a b
