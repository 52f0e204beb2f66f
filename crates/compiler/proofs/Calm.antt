-- What stays as it is while a form runs, and where a stretch of code leads.
use Rattle.std.specs.Prelude.{◌≡◌, ℕ, ◌<◌, pos, List, [], ◌∷◌, Option, Some, None, IsTrue}
use Rattle.lisp_base.specs.declared.values.Val.{Val}
use Rattle.lisp_base.specs.declared.values.Val.TheVariants.{Int, Char, Sym, Ref}
use Rattle.lisp_base.specs.Sort.{number_of}
use Rattle.object_model.specs.Tags.{EachOf}
use Rattle.rv_isa.specs.declared.ending.Ending.{Ending}
use Rattle.rv_isa.specs.Machine.{Space, State, is_char}
use Rattle.compiler.specs.Words.{word_of_value}
use Rattle.compiler.specs.Meets.{AreChars}
use Rattle.compiler.proofs.Paths.{Path}

-- the values that an image of these forms meets
abbrev pub Legal : Val → Type 0
Legal (Int z) = z ≡ pos 0
Legal (Char c) = IsTrue (is_char c)
Legal (Sym s) = number_of s < 2
Legal (Ref o) = ⊥

abbrev pub Chars : List ℕ → Type 0
Chars = AreChars

-- The values read of a state: stack pointer, end of the heap's objects, x10, x19, the other registers of values, memory,
-- ending.
pub record Calm (memory0 : ℕ → ℕ) (csp alloc a0 nil : ℕ) (others : List ℕ) (memory : ℕ → ℕ) (ended : Option Ending) : Type 0 where
  pub csp_is : csp ≡ 0x60000000
  pub alloc_is : alloc ≡ 0x40000000
  pub nil_is : nil ≡ 0x20000003
  pub others_are : EachOf (λ w. w ≡ 0) others
  pub memory_is : memory ≡ memory0
  pub going : ended ≡ None
  pub value : Val
  pub legal : Legal value
  pub a0_is : a0 ≡ word_of_value value

abbrev pub others : (ℕ → ℕ) → List ℕ
others f = f 11 ∷ f 12 ∷ f 13 ∷ f 14 ∷ f 15 ∷ f 18 ∷ f 20 ∷ f 21 ∷ f 22 ∷ f 23 ∷ f 24 ∷ f 25 ∷ []

abbrev pub Good : (ℕ → ℕ) → State → Type 0
Good memory0 s = Calm memory0 (s.registers 3) (s.registers 8) (s.registers 10) (s.registers 19) (others s.registers) s.memory s.ending

-- another value in x10
pub valued : (m0 : ℕ → ℕ) (csp alloc a nil : ℕ) (os : List ℕ) (m : ℕ → ℕ) (e : Option Ending) (b : ℕ) (v : Val) →
    Calm m0 csp alloc a nil os m e → Legal v → b ≡ word_of_value v → Calm m0 csp alloc b nil os m e
valued m0 csp alloc a nil os m e b v h l is = record {
  csp_is = h.csp_is;
  alloc_is = h.alloc_is;
  nil_is = h.nil_is;
  others_are = h.others_are;
  memory_is = h.memory_is;
  going = h.going;
  value = v;
  legal = l;
  a0_is = is;
}

-- In j steps the machine comes to an address with a value in x10, and with this output and input left.
pub record Comes (space : Space) (m0 : ℕ → ℕ) (j : ℕ) (s : State) (pc : ℕ) (v : Val) (output input : List ℕ) : Type 0 where
  pub t : State
  pub path : Path space (Good m0) j s t
  pub good : Good m0 t
  pub pc_is : t.pc ≡ pc
  pub a0_is : t.registers 10 ≡ word_of_value v
  pub legal : Legal v
  pub output_is : t.output ≡ output
  pub input_is : t.input ≡ input

-- In j steps the machine ends so; the state before differs in its ending alone.
pub record Halts (space : Space) (m0 : ℕ → ℕ) (j : ℕ) (s : State) (e : Ending) (output : List ℕ) : Type 0 where
  pub t : State
  pub last : State
  pub path : Path space (Good m0) j s t
  pub good : Good m0 last
  pub differs : t ≡ record last { ending = Some e }
  pub output_is : last.output ≡ output
