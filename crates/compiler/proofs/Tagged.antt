-- In every state of a run each word that stands where a value stands is a value.
use Rattle.std.proofs.Common.{refl, sym, subst, arith}
use Rattle.std.specs.Prelude.{◌≡◌, ℕ, zero, suc, ◌%◌, ◌<◌, ◌≤◌, List, [], ◌∷◌, IsTrue}
use Rattle.lisp_base.specs.declared.values.Val.{Val}
use Rattle.lisp_base.specs.declared.values.Val.TheVariants.{Int, Char, Sym, Ref}
use Rattle.lisp_base.specs.Sort.{number_of}
use Rattle.object_model.specs.declared.ObjKind.TheVariants as kinds
use Rattle.object_model.specs.Tags.{Object, Pair, Headed, Walk, IsDescriptor, fixnum, character, no_function, in_statics, EachOf, EachObject, HoldsValues, IsObject, WellTagged, letter_at, is_character}
use Rattle.rv_isa.specs.Machine.{State}
use Rattle.rv_isa.specs.Start.{statics_memory, words64}
use Rattle.compiler.specs.Words.{word_of_value, symbol_word}
use Rattle.compiler.specs.Parts.{statics_bytes, statics_words}
use Rattle.compiler.proofs.Calm.{Good, Legal}
use Rattle.std.proofs.Common.{inl, inr}

pub statics_read : words64 statics_bytes ≡ statics_words
statics_read = refl

-- the memory of a first state, and the objects of the statics
abbrev pub first_memory : ℕ → ℕ
first_memory = statics_memory statics_words

abbrev objects : List Object
objects = Pair ∷ Headed kinds.Symbol 4 ∷ Headed kinds.Symbol 4 ∷ Headed kinds.String 3 ∷ Headed kinds.String 1 ∷ []

abbrev Value : ℕ → Type 0
Value = IsDescriptor objects []

walk : Walk first_memory 0x20000000 0x20000088 objects
walk = (refl, (refl, (refl, (refl, (refl, refl)))))

symbol_is_value : (n : ℕ) → n < 2 → Value (symbol_word n)
symbol_is_value zero h = in_statics 0x20000000 Pair (inl (refl, refl)) refl
symbol_is_value (suc n) h = in_statics 0x20000038 (Headed kinds.Symbol 4) (inr (inr (inl (refl, refl)))) refl

value_is : (v : Val) → Legal v → Value (word_of_value v)
value_is (Int z) l = fixnum refl
value_is (Char c) l = character c l refl
value_is (Sym s) l = symbol_is_value (number_of s) l
value_is (Ref o) l = absurd l

zero_is : (w : ℕ) → w ≡ 0 → Value w
zero_is w h = fixnum (omega arith)

letters_nil : (i : ℕ) → i < 3 → IsTrue (is_character (letter_at first_memory 0x20000060 i))
letters_nil zero h = refl
letters_nil (suc zero) h = refl
letters_nil (suc (suc zero)) h = refl
letters_nil (suc (suc (suc i))) h = absurd (omega arith)

letters_truth : (i : ℕ) → i < 1 → IsTrue (is_character (letter_at first_memory 0x20000078 i))
letters_truth zero h = refl
letters_truth (suc i) h = absurd (omega arith)

lawful : (code : ℕ) → EachObject (IsObject code first_memory) 0x20000000 objects
lawful code = (tt, (refl, (refl, ((letters_nil, λ _. refl), ((letters_truth, λ _. refl), tt)))))

nil_value_is : Value 0x20000003
nil_value_is = symbol_is_value 0 (omega arith)

truth_value_is : Value 0x2000003F
truth_value_is = symbol_is_value 1 (omega arith)

name_is : Value 0x20000067
name_is = in_statics 0x20000060 (Headed kinds.String 3) (inr (inr (inr (inl (refl, refl))))) refl

truth_name_is : Value 0x2000007F
truth_name_is = in_statics 0x20000078 (Headed kinds.String 1) (inr (inr (inr (inr (inl (refl, refl)))))) refl

held : EachObject (HoldsValues Value first_memory) 0x20000000 objects
held = (
  (nil_value_is, (nil_value_is, tt)),
  (
    (nil_value_is, (no_function refl, (name_is, (fixnum refl, tt)))),
    ((truth_value_is, (no_function refl, (truth_name_is, (fixnum refl, tt)))), (tt, (tt, tt))),
  ),
)

-- the words of the registers: x10, eight that are 0, NIL in x19
registers_are : (a0 nil x11 x12 x13 x14 x15 x18 x20 x21 x22 x23 x24 x25 : ℕ) → Value a0 → Value nil →
    EachOf (λ w. w ≡ 0) (x11 ∷ x12 ∷ x13 ∷ x14 ∷ x15 ∷ x18 ∷ x20 ∷ x21 ∷ x22 ∷ x23 ∷ x24 ∷ x25 ∷ []) →
    EachOf Value (a0 ∷ x11 ∷ x12 ∷ x13 ∷ x14 ∷ x15 ∷ x18 ∷ nil ∷ x20 ∷ x21 ∷ x22 ∷ x23 ∷ x24 ∷ x25 ∷ [])
registers_are a0 nil x11 x12 x13 x14 x15 x18 x20 x21 x22 x23 x24 x25 a n h = (
  a,
  (
    zero_is x11 h.0,
    (
      zero_is x12 h.1.0,
      (
        zero_is x13 h.1.1.0,
        (
          zero_is x14 h.1.1.1.0,
          (
            zero_is x15 h.1.1.1.1.0,
            (
              zero_is x18 h.1.1.1.1.1.0,
              (
                n,
                (zero_is x20 h.1.1.1.1.1.1.0, (zero_is x21 h.1.1.1.1.1.1.1.0, (zero_is x22 h.1.1.1.1.1.1.1.1.0, (zero_is x23 h.1.1.1.1.1.1.1.1.1.0, (zero_is x24 h.1.1.1.1.1.1.1.1.1.1.0, (zero_is x25 h.1.1.1.1.1.1.1.1.1.1.1.0, tt)))))),
              ),
            ),
          ),
        ),
      ),
    ),
  ),
)

tagged_in : (code heap stack : ℕ) (m : State) → Good first_memory m →
    WellTagged (record { code = code; statics = 136; heap = heap; stack = stack }) m.registers first_memory
tagged_in code heap stack m h =
    let f = m.registers in
    let csp = h.csp_is in
    let alloc = h.alloc_is in
    record {
      statics = objects;
      heap = [];
      walk_of_statics = walk;
      walk_of_heap = sym alloc;
      heap_pointer = omega (arith, alloc);
      stack_pointer_above = omega (arith, csp);
      stack_pointer_below = omega (arith, csp);
      lawful_statics = lawful code;
      lawful_heap = tt;
      in_registers =
          registers_are (f 10) (f 19) (f 11) (f 12) (f 13) (f 14) (f 15) (f 18) (f 20) (f 21) (f 22) (f 23) (f 24) (f 25)
          (subst Value (sym h.a0_is) (value_is h.value h.legal)) (subst Value (sym h.nil_is) nil_value_is) h.others_are;
      in_statics = held;
      in_heap = tt;
      on_stack = λ (a : ℕ) (e : a % 8 ≡ 0) (low : 0x60000000 ≤ a) (below : a < f 3). absurd (omega (arith, csp, low, below));
    }

pub good_is_tagged : (code heap stack : ℕ) (m : State) → Good first_memory m →
    WellTagged (record { code = code; statics = 136; heap = heap; stack = stack }) m.registers m.memory
good_is_tagged code heap stack m h =
    subst (λ (x : ℕ → ℕ). WellTagged (record { code = code; statics = 136; heap = heap; stack = stack }) m.registers x) (sym h.memory_is) (tagged_in code heap stack m h)
