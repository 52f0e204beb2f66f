-- What it is for an image to do what its program does: on every input, with every size of heap and stacks, after every
-- number of instructions.
use Rattle.std.specs.Prelude.{◌≡◌, ◌≢◌, ℕ, ◌+◌, ◌*◌, ◌%◌, ◌<◌, ◌≤◌, ◌⊎◌, List, [], ◌∷◌, ◌++◌, length, slice_get, Option, Some, None, IsTrue}
use Rattle.std.specs.Option.{option_map}
use Rattle.lisp_base.specs.declared.values.Val.{Val}
use Rattle.lisp_base.specs.declared.values.SymId.{SymId}
use Rattle.lisp_base.specs.declared.values.Place.{Place}
use Rattle.lisp_base.specs.declared.values.Place.TheVariants as places
use Rattle.lisp_base.specs.declared.types.TypeName.TheVariants as name
use Rattle.lisp_base.specs.Sort.{number_of}
use Rattle.lisp_base.specs.Spec.{Spec, Named}
use Rattle.core_form.specs.State.{Fault, TypeError, Index, Overflow, ZeroDivide, Unbound, Undefined, Arguments, Control, EndOfFile, Simple, Object, data_of, work, heap_need, stack_need, Symbol}
use Rattle.core_form.specs.Run.{Outcome}
use Rattle.core_form.specs.Eval.{Program, program_nodes, evaluate, Ending as End, Value, Failed, Unfinished, Astray, ending_of, output_of, counts_of}
use Rattle.core_form.specs.Seen.{tree_of}
use Rattle.debug_info.specs.declared.rows.Site.{Site}
use Rattle.debug_info.specs.declared.rows.SitePlace.{SitePlace}
use Rattle.debug_info.specs.declared.rows.SitePlace.TheVariants as site
use Rattle.debug_info.specs.Places.{place_of}
use Rattle.image.specs.Content.{Content}
use Rattle.object_model.specs.Tags.{Layout, WellTagged}
use Rattle.rv_isa.specs.declared.ending.Ending.{Ending}
use Rattle.rv_isa.specs.declared.ending.Ending.TheVariants as ending
use Rattle.rv_isa.specs.Machine.{State, is_char}
use Rattle.rv_isa.specs.Start.{Setup, machine}
use Rattle.compiler.specs.SeenWords.{tree_of_word}

-- ---- the run of an image

-- the bytes of the heap and of each stack that a run may have
pub record AreSizes (heap stack : ℕ) : Type 0 where
  pub some_heap : 16 ≤ heap
  pub heap_limit : heap ≤ 268435456
  pub heap_whole : heap % 16 ≡ 0
  pub some_stack : 1024 ≤ stack
  pub stack_limit : stack ≤ 268435456
  pub stack_whole : stack % 16 ≡ 0

abbrev pub setup : Content → ℕ → ℕ → Setup
setup image heap stack = record { code = image.code; statics = image.statics; entry = image.entry; heap = heap; stack = stack }

abbrev pub layout : Content → ℕ → ℕ → Layout
layout image heap stack = record { code = length image.code; statics = length image.statics; heap = heap; stack = stack }

-- an input is any list of characters
abbrev pub AreChars : List ℕ → Type 0
AreChars [] = Unit {0}
AreChars (c ∷ cs) = IsTrue (is_char c) × AreChars cs

abbrev pub IsPrefix : List ℕ → List ℕ → Type 0
IsPrefix a b = (more : List ℕ) × (b ≡ a ++ more)

-- ---- the same values, errors and places

-- a word and a value of the program look alike to every depth
abbrev pub SameSeen : (ℕ → ℕ) → ℕ → List Symbol → List Object → Val → Type 0
SameSeen memory w symbols store v = (j : ℕ) → tree_of_word memory j w ≡ tree_of symbols store j v

abbrev pub AllSeen : (ℕ → ℕ) → List ℕ → List Symbol → List Object → List Val → Type 0
AllSeen memory ws symbols store [] = Unit {0}
AllSeen memory [] symbols store (v ∷ vs) = ⊥
AllSeen memory (w ∷ ws) symbols store (v ∷ vs) = SameSeen memory w symbols store v × AllSeen memory ws symbols store vs

-- the number by which an environment call tells the kind of an error
abbrev pub kind_of_fault : Fault → ℕ
kind_of_fault (TypeError v t) = 1
kind_of_fault (Index v n) = 2
kind_of_fault (Overflow op a b) = 3
kind_of_fault (ZeroDivide op a b) = 4
kind_of_fault (Unbound s) = 5
kind_of_fault (Undefined s) = 6
kind_of_fault (Arguments f n) = 7
kind_of_fault (Control v) = 8
kind_of_fault EndOfFile = 9
kind_of_fault (Simple a b) = 10

-- The text of a type that is expected. CHARACTER is the one type that a program of the first path names: no other has a
-- text here, so that no error with another type is alike to any.
abbrev pub type_text : Spec → Option (List ℕ)
type_text (Named name.Character) = Some (67 ∷ 72 ∷ 65 ∷ 82 ∷ 65 ∷ 67 ∷ 84 ∷ 69 ∷ 82 ∷ [])
type_text _ = None

abbrev pub symbol_text : List Symbol → SymId → Option (List ℕ)
symbol_text symbols s = option_map (λ x. x.name) (slice_get symbols (number_of s))

-- a text is stated: the site has that text
abbrev pub HasText : List (List ℕ) → Option ℕ → Option (List ℕ) → Type 0
HasText texts None text = ⊥
HasText texts (Some n) None = ⊥
HasText texts (Some n) (Some text) = slice_get texts n ≡ Some text

-- the expected type of a TYPE-ERROR, and the operation of an arithmetic error, stand as text in the row
abbrev pub SameText : List Symbol → List (List ℕ) → Option ℕ → Fault → Type 0
SameText symbols texts n (TypeError v t) = HasText texts n (type_text t)
SameText symbols texts n (Overflow op a b) = HasText texts n (symbol_text symbols op)
SameText symbols texts n (ZeroDivide op a b) = HasText texts n (symbol_text symbols op)
SameText symbols texts n _ = Unit {0}

-- a place of the file by its numbers, one of the prelude by the name of its function
abbrev pub SamePlace : List Symbol → List (List ℕ) → SitePlace → Place → Type 0
SamePlace symbols texts (site.File offset tail) (places.File offset' tail') = (offset ≡ offset') × (tail ≡ tail')
SamePlace symbols texts (site.File offset tail) (places.Prelude s) = ⊥
SamePlace symbols texts (site.Prelude n) (places.File offset tail) = ⊥
SamePlace symbols texts (site.Prelude n) (places.Prelude s) = HasText texts (Some n) (symbol_text symbols s)

-- the error that the machine tells at this address is this fault of the form at this place
pub record SameError (p : Program) (image : Content) (memory : ℕ → ℕ) (kind a b c pc : ℕ) (f : Fault) (place : Place) (store : List Object) : Type 0 where
  pub kind_is : kind ≡ kind_of_fault f
  pub seen : AllSeen memory (a ∷ b ∷ c ∷ []) p.symbols store (data_of f)
  pub site : Site
  pub site_is : place_of image.debug.sites pc ≡ Some site
  pub text_is : SameText p.symbols image.debug.texts site.text f
  pub place_is : SamePlace p.symbols image.debug.texts site.place place

-- the machine has ended as the program does
abbrev pub EndsAlike : Program → Content → (ℕ → ℕ) → Ending → Outcome Val → Type 0
EndsAlike p image memory (ending.Value w) (Outcome.Gives v l) = SameSeen memory w p.symbols l.store v
EndsAlike p image memory (ending.Error kind a b c pc) (Outcome.Fails f place l) = SameError p image memory kind a b c pc f place l.store
EndsAlike p image memory e o = ⊥

-- ---- the four parts

-- what an ended machine tells of the program's run: only a run that needs more ends for want of heap or stack
abbrev pub EndTells : Program → Content → ℕ → ℕ → State → Ending → Outcome Val → Type 0
EndTells p image heap stack m ending.Heap o = heap < heap_need (counts_of o)
EndTells p image heap stack m ending.Stack o = stack < stack_need (counts_of o)
EndTells p image heap stack m (ending.Value w) o = EndsAlike p image m.memory (ending.Value w) o × (m.output ≡ output_of o)
EndTells p image heap stack m (ending.Error k a b c pc) o = EndsAlike p image m.memory (ending.Error k a b c pc) o × (m.output ≡ output_of o)
EndTells p image heap stack m (ending.Trap pc) o = Unit {0}

abbrev pub OnEnd : Option Ending → (Ending → Type 0) → Type 0
OnEnd None P = Unit {0}
OnEnd (Some e) P = P e

-- the machine has shown nothing that the program doesn't show
pub record ShownBy (p : Program) (image : Content) (heap stack : ℕ) (m : State) (o : Outcome Val) : Type 0 where
  pub output : IsPrefix m.output (output_of o)
  pub tells : OnEnd m.ending (λ e. EndTells p image heap stack m e o)

-- it has ended, and as the program does
abbrev pub HasEnded : Program → Content → State → Outcome Val → Type 0
HasEnded p image m o = (e : Ending) × ((m.ending ≡ Some e) × EndsAlike p image m.memory e o)

abbrev pub WhereEnded : End → Type 0 → Type 0
WhereEnded (Value v) P = P
WhereEnded (Failed f place) P = P
WhereEnded Unfinished P = Unit {0}
WhereEnded Astray P = P

-- the program has shown nothing that the machine hasn't
pub record Reached (p : Program) (image : Content) (m : State) (o : Outcome Val) : Type 0 where
  pub output : IsPrefix (output_of o) m.output
  pub ended : WhereEnded (ending_of o) (HasEnded p image m o)

abbrev pub IsFull : State → Type 0
IsFull m = (m.ending ≡ Some ending.Heap) ⊎ (m.ending ≡ Some ending.Stack)

-- A let-converted call may take no instruction: so k instructions may stand for up to k + 1 times as many calls as the
-- program has nodes, and one more.
abbrev pub fuel_of : Program → ℕ → ℕ
fuel_of p k = (k + 1) * (program_nodes p + 1)

pub record Meets (p : Program) (image : Content) : Type 0 where
  -- what is shown is what the program shows
  pub shows : (heap stack : ℕ) → AreSizes heap stack → (input : List ℕ) → AreChars input → (k : ℕ) →
      ShownBy p image heap stack (machine (setup image heap stack) input k) (evaluate p input (fuel_of p k))
  -- and it is shown in time
  pub keeps_pace : (heap stack : ℕ) → AreSizes heap stack → (input : List ℕ) → AreChars input → (n : ℕ) →
      IsFull (machine (setup image heap stack) input (64 * work (counts_of (evaluate p input n)) + 1000)) ⊎
      Reached p image (machine (setup image heap stack) input (64 * work (counts_of (evaluate p input n)) + 1000)) (evaluate p input n)
  -- the machine never traps
  pub never_traps : (heap stack : ℕ) → AreSizes heap stack → (input : List ℕ) → AreChars input → (k pc : ℕ) →
      (machine (setup image heap stack) input k).ending ≢ Some (ending.Trap pc)
  -- where values stand there are values alone, in every state
  pub tagged : (heap stack : ℕ) → AreSizes heap stack → (input : List ℕ) → AreChars input → (k : ℕ) →
      WellTagged (layout image heap stack) (machine (setup image heap stack) input k).registers (machine (setup image heap stack) input k).memory
