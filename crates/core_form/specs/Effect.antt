-- Effects: the stretches of a run that take no fuel. (This project's own.)
use Rattle.std.specs.Prelude.{ℕ, suc, ◌+◌, ◌*◌, max, List, [], ◌∷◌, ◌++◌, length, slice_set}
use Rattle.lisp_base.specs.declared.values.Val.{Val}
use Rattle.lisp_base.specs.declared.values.Val.TheVariants.{Ref}
use Rattle.lisp_base.specs.declared.values.Place.{Place}
use Rattle.lisp_base.specs.Sort.{object}
use Rattle.core_form.specs.State.{Object, Fault, Counts, State, Exit, all_big}

-- how an effect ends
pub data Ended (A : Type 0) : Type 0 where
  Gave : A → State → Ended A
  Left : Exit → State → Ended A
  Failed : Fault → Place → State → Ended A

abbrev pub Effect : Type 0 → Type 0
Effect A = State → Ended A

abbrev pub and_then : {A B : Type 0} → Ended A → (A → Effect B) → Ended B
and_then (Gave a s) f = f a s
and_then (Left e s) f = Left e s
and_then (Failed x p s) f = Failed x p s

infixl 10 ◌>>=◌
unfoldable pub ◌>>=◌ : {A B : Type 0} → Effect A → (A → Effect B) → Effect B
m >>= f = λ s. and_then (m s) f

infixl 10 ◌>>◌
abbrev pub ◌>>◌ : {A B : Type 0} → Effect A → Effect B → Effect B
m >> k = m >>= (λ _. k)

unfoldable pub pure : {A : Type 0} → A → Effect A
pure a = λ s. Gave a s

unfoldable pub change : (State → State) → Effect (Unit {0})
change f = λ s. Gave tt (f s)

unfoldable pub read : {A : Type 0} → (State → A) → Effect A
read f = λ s. Gave (f s) s

unfoldable pub leave : {A : Type 0} → Exit → Effect A
leave e = λ s. Left e s

unfoldable pub fail : {A : Type 0} → Fault → Place → Effect A
fail x p = λ s. Failed x p s

-- ---- counting

unfoldable pub counting : (Counts → Counts) → Effect (Unit {0})
counting f = change (λ s. record s { counts = f s.counts })

unfoldable pub spend : ℕ → Effect (Unit {0})
spend n = counting (λ c. record c { cost = c.cost + n })

-- an allocation of so many words
unfoldable pub allot : ℕ → Effect (Unit {0})
allot n = counting (λ c. record c { cost = c.cost + n; heap_words = c.heap_words + n })

unfoldable pub boxes_more : (all apart : ℕ) → Effect (Unit {0})
boxes_more all apart =
    counting (λ c. record c { boxes = c.boxes + all; boxes_outside_words = c.boxes_outside_words + apart })

unfoldable pub deliver_more : ℕ → Effect (Unit {0})
deliver_more n = counting (λ c. record c { extra = c.extra + n })

unfoldable pub look_at : ℕ → Effect (Unit {0})
look_at n = counting (λ c. record c { looked = c.looked + n })

unfoldable pub walk_over : ℕ → Effect (Unit {0})
walk_over n = counting (λ c. record c { walked = c.walked + n })

unfoldable pub stack_at : ℕ → Effect (Unit {0})
stack_at n = counting (λ c. record c { stack_words = max c.stack_words n })

unfoldable pub hold : ℕ → Effect (Unit {0})
hold n = counting (λ c. record c { held = max c.held n })

unfoldable pub begin : ℕ → Effect (Unit {0})
begin n = counting (λ c. record c { begun = c.begun + n })

-- 2 words for each integer of these that is outside the fixnums
unfoldable pub box_all : List Val → Effect (Unit {0})
box_all vs = allot (2 * all_big vs)

-- ---- the store, the variables, the output

-- a new object
unfoldable pub add : Object → Effect Val
add o = λ s. Gave (Ref (object (length s.store))) (record s { store = s.store ++ o ∷ [] })

unfoldable pub put : (index : ℕ) → Object → Effect (Unit {0})
put a o = change (λ s. record s { store = slice_set s.store a o })

unfoldable pub bind_to : ℕ → Val → Effect (Unit {0})
bind_to x v = change (λ s. record s { frame = (x, v) ∷ s.frame })

-- a new entry of a block, a tagbody or a catch
unfoldable pub new_entry : Effect ℕ
new_entry = λ s. Gave s.next_entry (record s { next_entry = suc s.next_entry })

unfoldable pub write : ℕ → Effect (Unit {0})
write c = change (λ s. record s { output = c ∷ s.output })
