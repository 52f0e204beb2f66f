-- How large a program is, and when it is too large. (This project's own; the words of an object are those that it takes in memory.)
use Rattle.std.specs.Prelude.{◌≡◌, ◌≢◌, ◌↔◌, ℕ, ◌+◌, ◌*◌, ◌/◌, nat_lt, ℤ, Bool, true, false, ◌||◌, List, [], ◌∷◌, ◌++◌, length, map, sum_by, Contains, AllPairs}
use Rattle.std.specs.List.{enumerate_from}
use Rattle.lisp_base.specs.Tables.{Object, Cons, Vector, Str, Fun, Cell}
use Rattle.lisp_base.specs.declared.values.Val.TheVariants.{Int, Sym, Ref}
use Rattle.lisp_base.specs.Sort.{object}
use Rattle.core_form.specs.State.{is_fixnum}
use Rattle.program_size.specs.Mentions.{Sized, Function, Mentions}

-- how many nodes, closed copies and words of constants a program may have
unfoldable pub most_nodes : ℕ
most_nodes = 400000

unfoldable pub most_copies : ℕ
most_copies = 400000

unfoldable pub most_words : ℕ
most_words = 4194304

-- the words of a cons, a vector and a string; data have no other objects
abbrev pub object_words : Object → ℕ
object_words (Cons car cdr place) = 2
object_words (Vector items) = 1 + length items
object_words (Str letters) = 1 + (length letters + 1) / 2
object_words (Fun lambda cells) = 0
object_words (Cell v) = 0

-- those of a list of which P is so, in their order
pub data Chosen {A : Type 0} (P : A → Type 0) : List A → List A → Type 0 where
  none : Chosen P [] []
  taken : (x : A) (xs ys : List A) → P x → Chosen P xs ys → Chosen P (x ∷ xs) (x ∷ ys)
  passed : (x : A) (xs ys : List A) → (P x → ⊥) → Chosen P xs ys → Chosen P (x ∷ xs) ys

pub record Size : Type 0 where
  pub nodes : ℕ
  pub copies : ℕ
  pub words : ℕ

-- The nodes and copies are those of the forms and of the functions of the prelude that the program holds. The words are
-- those of the objects that it mentions, each once, and 2 for each different integer outside the fixnums.
pub record HasSize (heap : List Object) (prelude : List Function) (forms : List Sized) (size : Size) : Type 0 where
  pub functions : List Function
  pub objects : List (ℕ × Object)
  pub integers : List ℤ
  pub held : Chosen (λ f. Mentions heap prelude forms (Sym f.name)) prelude functions
  pub reached : Chosen (λ o. Mentions heap prelude forms (Ref (object o.0))) (enumerate_from 0 heap) objects
  pub boxed : (z : ℤ) → Contains integers z ↔ ((is_fixnum z ≡ false) × Mentions heap prelude forms (Int z))
  pub once : AllPairs (λ x y. x ≢ y) integers
  pub nodes : size.nodes ≡ sum_by (λ f. f.nodes) (forms ++ map (λ f. f.form) functions)
  pub copies : size.copies ≡ sum_by (λ f. f.copies) (forms ++ map (λ f. f.form) functions)
  pub words : size.words ≡ sum_by (λ o. object_words o.1) objects + 2 * length integers

abbrev pub is_past_limits : Size → Bool
is_past_limits size = nat_lt most_nodes size.nodes || (nat_lt most_copies size.copies || nat_lt most_words size.words)

abbrev pub IsTooLarge : List Object → List Function → List Sized → Type 0
IsTooLarge heap prelude forms = (size : Size) × HasSize heap prelude forms size × (is_past_limits size ≡ true)
