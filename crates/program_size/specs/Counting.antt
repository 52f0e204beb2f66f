-- What is known of the forms that were added, and how an addition changes it. (This project's own.)
use Rattle.std.specs.Prelude.{◌≡◌, ℕ, nat_eq, is_some, Bool, true, false, not, if◌then◌else◌, List, [], ◌∷◌, ◌++◌, filter, sum_by, Contains, Some, slice_get}
use Rattle.std.specs.HashSet as set
use Rattle.std.specs.List.{enumerate_from}
use Rattle.lisp_base.specs.declared.values.ObjId.{ObjId}
use Rattle.lisp_base.specs.declared.values.Val.{Val}
use Rattle.lisp_base.specs.declared.values.Val.TheVariants.{Sym, Ref}
use Rattle.lisp_base.specs.Sort.{index_of}
use Rattle.lisp_base.specs.Tables.{Object}
use Rattle.core_form.specs.Counting.{plus}
use Rattle.core_form.specs.Lawful.{values_in, quoted}
use Rattle.program_size.specs.declared.sizes.Sizes.{Sizes}
use Rattle.program_size.specs.Mentions.{Sized, Function, Mentions, data_of, mentioned}
use Rattle.program_size.specs.Marking.{is_kept, has, IsSettled, IsReached, IsWeighed, Sees}

-- all objects that these values reach are in the heap
abbrev pub AreThere : List Object → List Val → Type 0
AreThere heap vs = (o : ObjId) → IsReached heap vs (Ref o) → is_some (slice_get heap (index_of o)) ≡ true

-- the function of the prelude with this number was added
abbrev pub holds : Sizes → ℕ → Bool
holds s i = set.contains nat_eq s.held i

abbrev pub held_sum : (Sized → ℕ) → Sizes → List Function → ℕ
held_sum count s prelude = sum_by (λ e. count e.1.form) (filter (λ e. holds s e.0) (enumerate_from 0 prelude))

-- how many functions of the prelude were not added
abbrev pub unheld : Sizes → List Function → ℕ
unheld s prelude = sum_by (λ e. 1) (filter (λ e. not (holds s e.0)) (enumerate_from 0 prelude))

-- 1 where a name is news
abbrev pub news_count : Sizes → ℕ
news_count s = if s.marks.news then 1 else 0

-- what was seen is mentioned; all that the forms and the functions added mention was seen, and they are counted
pub record Agrees (heap : List Object) (prelude : List Function) (forms : List Sized) (s : Sizes) : Type 0 where
  pub sound : (w : Val) → has s.marks w ≡ true → Mentions heap prelude forms w
  pub kept : (w : Val) → has s.marks w ≡ true → is_kept heap w ≡ true
  pub seen : (f : Sized) (v : Val) → Contains forms f → Contains (mentioned f.core) v → IsSettled heap s.marks v
  pub held_named : (i : ℕ) (f : Function) → slice_get prelude i ≡ Some f → holds s i ≡ true → has s.marks (Sym f.name) ≡ true
  pub held_seen : (i : ℕ) (f : Function) (v : Val) → slice_get prelude i ≡ Some f → holds s i ≡ true → Contains (mentioned f.form.core) v → IsSettled heap s.marks v
  pub closed : (u w : Val) → has s.marks u ≡ true → Contains (values_in (data_of heap) u) w → IsSettled heap s.marks w
  pub words : IsWeighed heap s.marks
  pub nodes : s.nodes ≡ plus (sum_by (λ f. f.nodes) forms) (held_sum (λ f. f.nodes) s prelude)
  pub copies : s.copies ≡ plus (sum_by (λ f. f.copies) forms) (held_sum (λ f. f.copies) s prelude)

-- where no name is news, each function of the prelude whose name was seen was added
abbrev pub IsComplete : List Function → Sizes → Type 0
IsComplete prelude s = s.marks.news ≡ false → (i : ℕ) (f : Function) → slice_get prelude i ≡ Some f → has s.marks (Sym f.name) ≡ true → holds s i ≡ true

-- these forms were added, with just the functions of the prelude that a program of them holds
pub record Counts (s : Sizes) (prelude : List Function) (heap : List Object) (forms : List Sized) : Type 0 where
  pub agrees : Agrees heap prelude forms s
  pub complete : IsComplete prelude s
  pub quiet : s.marks.news ≡ false
  pub forms_there : (f : Sized) → Contains forms f → AreThere heap (mentioned f.core)
  pub prelude_there : (f : Function) → Contains prelude f → AreThere heap (mentioned f.form.core)

-- one form was added, and no function of the prelude
pub record Includes (heap : List Object) (form : Sized) (before after : Sizes) : Type 0 where
  pub sees : Sees heap (mentioned form.core) before.marks after.marks
  pub held : after.held ≡ before.held
  pub nodes : after.nodes ≡ plus before.nodes form.nodes
  pub copies : after.copies ≡ plus before.copies form.copies

-- all that the functions of a prelude quote is in the heap
abbrev pub PreludeIsThere : List Object → List Function → Type 0
PreludeIsThere heap prelude = (f : Function) → Contains prelude f → AreThere heap (quoted f.form.core)

-- at no form, functions of the prelude were added
abbrev pub Keeps : List Object → List Function → Sizes → Sizes → Type 0
Keeps heap prelude before after = (forms : List Sized) → Agrees heap prelude forms before → Agrees heap prelude forms after

-- A form was added, over a heap that holds what it held and maybe more, and all that the form's constants reach.
abbrev pub Adds : List Object → List Function → Sized → Sizes → Sizes → Type 0
Adds heap prelude form before after =
    (old more : List Object) (forms : List Sized) → heap ≡ old ++ more → AreThere heap (quoted form.core) → Counts before prelude old forms →
    Counts after prelude heap (forms ++ form ∷ [])
