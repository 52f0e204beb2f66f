-- What a value prints as within limits, as a function of its tree (ANSI Common Lisp 22.1.3; the limits are this project's own).
use Rattle.std.specs.Prelude.{ℕ, suc, ◌+◌, ◌-◌, ◌++◌, ◌==◌, nat_le, if◌then◌else◌, List, [], codes}
use Rattle.std.specs.Fmt.{signed_decimal}
use Rattle.lisp_base.specs.Seen.{Tree, Deep, Bad, Number, Letter, Name, Text, Function, Both, Row, Trees, no_tree, tree}
use Rattle.lisp_base.specs.Shown.{Shown, tree_of}
use Rattle.lisp_print.specs.declared.printing.Limits.{Limits}
use Rattle.lisp_print.specs.Texts.{character_text, name_text, string_text, is_nil}

-- a text in UTF-8, and how many objects may still be printed after it
pub record Written : Type 0 where
  pub text : List ℕ
  pub left : ℕ

abbrev pub written : List ℕ → ℕ → Written
written text left = record { text = text; left = left }

-- one text and then another, which begins with what the first one left
abbrev pub followed : Written → (ℕ → Written) → Written
followed first next = written (first.text ++ (next first.left).text) (next first.left).left

-- a text between two others
abbrev pub between : List ℕ → Written → List ℕ → Written
between before inner after = written (before ++ inner.text ++ after) inner.left

-- An object without parts. Each object is one of those that may be printed, and prints as ... where none is left.
abbrev pub plain : (left : ℕ) → List ℕ → Written
plain left text = if left == 0 then written (codes "...") 0 else written text (left - 1)

-- a list or a vector, in which this many others are open: # where these are as many as the level
abbrev pub group : Limits → (inside left : ℕ) → List ℕ → (ℕ → Written) → Written
group limits inside left opening parts =
    if left == 0 then written (codes "...") 0 else (
    if nat_le limits.level inside then written (codes "#") (left - 1) else between opening (parts (left - 1)) (codes ")"))

-- an element after so many others, with what comes behind it: cut off where these are as many as the length
abbrev pub element : Limits → (done left : ℕ) → Written → Written
element limits done left parts =
    if nat_le limits.length done then written (codes " ...") left else (
    if done == 0 then parts else between (codes " ") parts [])

-- a last CDR
abbrev pub dotted : Written → Written
dotted last = between (codes " . ") last []

abbrev mutual
  -- an object, where this many lists and vectors are open
  pub object : Limits → (inside left : ℕ) → Tree → Written
  object limits inside left Deep = plain left []
  object limits inside left Bad = plain left (codes "#<BAD>")
  object limits inside left (Number z) = plain left (signed_decimal z)
  object limits inside left (Letter c) = plain left (character_text c)
  object limits inside left (Name letters kind) = plain left (name_text letters kind)
  object limits inside left (Text letters) = plain left (string_text letters)
  object limits inside left Function = plain left (codes "#<FUNCTION>")
  object limits inside left (Both car cdr) =
      group limits inside left (codes "(") (λ n. element limits 0 n
      (followed (object limits (suc inside) n car) (λ m. list limits (suc inside) 1 m cdr)))
  object limits inside left (Row parts) =
      group limits inside left (codes "#(") (λ n. elements limits (suc inside) 0 n parts)

  -- what follows so many elements of a list, by the CDR there
  pub list : Limits → (inside done left : ℕ) → Tree → Written
  list limits inside done left Deep = dotted (plain left [])
  list limits inside done left Bad = dotted (plain left (codes "#<BAD>"))
  list limits inside done left (Number z) = dotted (plain left (signed_decimal z))
  list limits inside done left (Letter c) = dotted (plain left (character_text c))
  list limits inside done left (Name letters kind) =
      if is_nil letters kind then written [] left else dotted (plain left (name_text letters kind))
  list limits inside done left (Text letters) = dotted (plain left (string_text letters))
  list limits inside done left Function = dotted (plain left (codes "#<FUNCTION>"))
  list limits inside done left (Both car cdr) =
      element limits done left (followed (object limits inside left car) (λ m. list limits inside (suc done) m cdr))
  list limits inside done left (Row parts) =
      dotted (group limits inside left (codes "#(") (λ n. elements limits (suc inside) 0 n parts))

  -- what follows so many elements of a vector, by the elements there
  pub elements : Limits → (inside done left : ℕ) → Trees → Written
  elements limits inside done left no_tree = written [] left
  elements limits inside done left (tree part parts) =
      element limits done left (followed (object limits inside left part) (λ m. elements limits inside (suc done) m parts))

-- the depth from which on a tree's text doesn't change
abbrev pub depth_of : Limits → ℕ
depth_of limits = limits.total + limits.length + 3

-- what a tree prints as
abbrev pub tree_text : Limits → Tree → List ℕ
tree_text limits t = (object limits 0 limits.total t).text

-- what a word prints as
unfoldable pub word_text : {W : Type 0} → Limits → Shown W → W → List ℕ
word_text limits shown w = tree_text limits (tree_of (depth_of limits) shown w)
