-- The values that were seen so far, and what is so once all that some values reach was seen. (This project's own.)
use Rattle.std.specs.Prelude.{◌≡◌, ℕ, nat_eq, Bool, true, false, not, ◌&&◌, ◌||◌, if◌then◌else◌, List, [], filter, sum_by, Contains, Option, Some, None, is_some, slice_get}
use Rattle.std.specs.Ordering.{int_eq}
use Rattle.std.specs.HashSet as set
use Rattle.std.specs.List.{enumerate_from}
use Rattle.std.proofs.Common.{◌⊎◌}
use Rattle.lisp_base.specs.declared.values.Val.{Val}
use Rattle.lisp_base.specs.declared.values.Val.TheVariants.{Int, Char, Sym, Ref}
use Rattle.lisp_base.specs.Tables.{Object}
use Rattle.core_form.specs.State.{is_fixnum}
use Rattle.core_form.specs.Counting.{plus}
use Rattle.core_form.specs.Lawful.{Reaches, values_in}
use Rattle.program_size.specs.declared.marks.Marks.{Marks}
use Rattle.program_size.specs.Mentions.{data_of}
use Rattle.program_size.specs.Sizes.{object_words}

-- whether a value is kept where it is seen: symbols, integers outside the fixnums, and objects that are there
abbrev pub is_kept : List Object → Val → Bool
is_kept heap (Int z) = not (is_fixnum z)
is_kept heap (Char c) = false
is_kept heap (Sym s) = true
is_kept heap (Ref o) = is_some (slice_get heap o.0)

abbrev pub is_symbol : Val → Bool
is_symbol (Int z) = false
is_symbol (Char c) = false
is_symbol (Sym s) = true
is_symbol (Ref o) = false

abbrev pub is_object : Val → Bool
is_object (Int z) = false
is_object (Char c) = false
is_object (Sym s) = false
is_object (Ref o) = true

-- whether a value is among those that were seen
abbrev pub has : Marks → Val → Bool
has m (Int z) = set.contains int_eq m.integers z
has m (Char c) = false
has m (Sym s) = set.contains nat_eq m.symbols s.0
has m (Ref o) = set.contains nat_eq m.objects o.0

-- nothing was seen yet
pub record IsEmpty (m : Marks) : Type 0 where
  pub symbols : m.symbols.keys ≡ []
  pub objects : m.objects.keys ≡ []
  pub integers : m.integers.keys ≡ []
  pub words : m.words ≡ 0
  pub news : m.news ≡ false

-- one and the same value
abbrev pub is_same : Val → Val → Bool
is_same (Int a) (Int b) = int_eq a b
is_same (Int a) (Char d) = false
is_same (Int a) (Sym t) = false
is_same (Int a) (Ref p) = false
is_same (Char c) w = false
is_same (Sym s) (Int b) = false
is_same (Sym s) (Char d) = false
is_same (Sym s) (Sym t) = nat_eq s.0 t.0
is_same (Sym s) (Ref p) = false
is_same (Ref o) (Int b) = false
is_same (Ref o) (Char d) = false
is_same (Ref o) (Sym t) = false
is_same (Ref o) (Ref p) = nat_eq o.0 p.0

abbrev pub words_of : Option Object → ℕ
words_of None = 0
words_of (Some o) = object_words o

-- the words of an object that a value is
abbrev pub value_words : List Object → Val → ℕ
value_words heap (Int z) = 0
value_words heap (Char c) = 0
value_words heap (Sym s) = 0
value_words heap (Ref o) = words_of (slice_get heap o.0)

-- the words of the objects that were seen
abbrev pub words_seen : List Object → Marks → ℕ
words_seen heap m = sum_by (λ e. object_words e.1) (filter (λ e. set.contains nat_eq m.objects e.0) (enumerate_from 0 heap))

-- a value was seen; it is new where it is kept and was not seen before
pub record Notes (heap : List Object) (before : Marks) (v : Val) (new : Bool) (after : Marks) : Type 0 where
  pub is_new : new ≡ (is_kept heap v && not (has before v))
  pub marks : (w : Val) → has after w ≡ ((is_same v w && new) || has before w)
  pub news : after.news ≡ ((is_symbol v && new) || before.news)
  pub words : after.words ≡ (if is_object v && new then plus before.words (value_words heap v) else before.words)

-- the words are those of the objects that were seen, up to the greatest number
abbrev pub IsWeighed : List Object → Marks → Type 0
IsWeighed heap m = m.words ≡ plus 0 (words_seen heap m)

-- what must be kept of a value was seen
abbrev pub IsSettled : List Object → Marks → Val → Type 0
IsSettled heap m v = is_kept heap v ≡ true → has m v ≡ true

-- a value that some of these reach
abbrev pub IsReached : List Object → List Val → Val → Type 0
IsReached heap vs w = (v : Val) × Contains vs v × Reaches (data_of heap) v w

-- all that these values reach was seen, besides what was seen before
pub record Sees (heap : List Object) (vs : List Val) (before after : Marks) : Type 0 where
  pub grows : (w : Val) → has before w ≡ true → has after w ≡ true
  pub sound : (w : Val) → has after w ≡ true → (has before w ≡ true) ⊎ (IsReached heap vs w × (is_kept heap w ≡ true))
  pub seen : (v : Val) → Contains vs v → IsSettled heap after v
  pub closed : (u w : Val) → has after u ≡ true → Contains (values_in (data_of heap) u) w → (has before u ≡ true) ⊎ IsSettled heap after w
  pub words : IsWeighed heap before → IsWeighed heap after
  pub quiet : after.news ≡ false → before.news ≡ false
  pub no_news : after.news ≡ false → (w : Val) → is_symbol w ≡ true → has after w ≡ true → has before w ≡ true
