-- How code grows, and what code holds.
use Rattle.std.proofs.Common.{ℕ, ◌≡◌, ◌<◌, ◌^◌, List, [], ◌∷◌, ◌++◌, Some, refl, sym, ◌∙◌, ap, map, All, Option, subst, Result, Ok, Err, OnOk, IsSome, arith}
use Rattle.std.specs.Int.{w32, to_le_bytes}
use Rattle.std.proofs.lemmas.Grind.{flat_map-append}
use Rattle.std.proofs.lemmas.List.{append_assoc}
use Rattle.std.proofs.lemmas.List.Elements.{All-head, All-tail, All-cons, All-push}
use Rattle.std.proofs.lemmas.Nat.{from_le_bytes-to_le_bytes_4}
use Rattle.rv_isa.specs.declared.instr.Instr.{Instr}
use Rattle.rv_isa.specs.Encoding.{encoding, decoded}
use Rattle.rv_isa.specs.Start.{words32}
use Rattle.rv_asm.specs.declared.fault.AsmFault.{AsmFault}
use Rattle.rv_asm.specs.Assembly.{alone, at_place, upper_part, lower_part, address_of}
use Rattle.rv_asm.specs.declared.assembled.Mark.{Mark}
use Rattle.rv_asm.specs.Places.{place_in}
use Rattle.rv_asm.specs.Reach.{high_part, low_part}
use Rattle.rv_isa.specs.declared.instr.Instr.TheVariants as i
use Rattle.rv_isa.specs.declared.instr.Upper.TheVariants as upper
use Rattle.rv_isa.specs.declared.instr.ImmOp.TheVariants as imm
use Rattle.rv_asm.specs.Code.{bytes_of, IsLawful, Written, Grew, GrewMade, Holds, AreLawful}

pub Grew-instr : (code : List ℕ) (x : Instr) (w : ℕ) → w ≡ encoding x → decoded w ≡ Some x → w < 2 ^ 32 → Grew code (code ++ to_le_bytes w32 w) (x ∷ [])
Grew-instr code x w is back fits ys written = record {
  bytes = ap (λ (c : List ℕ). c ++ to_le_bytes w32 w) written.bytes
      ∙ ap (λ (v : ℕ). bytes_of ys ++ to_le_bytes w32 v) is
      ∙ sym (flat_map-append (λ y. to_le_bytes w32 (encoding y)) ys (x ∷ []));
  lawful = All-push IsLawful ys x written.lawful (subst (λ (v : ℕ). (v < 2 ^ 32) × (decoded v ≡ Some x)) is (fits, back));
}

Grew-then : (a b c : List ℕ) (xs ys : List Instr) → Grew a b xs → Grew b c ys → Grew a c (xs ++ ys)
Grew-then a b c xs ys first then zs written =
    subst (λ (all : List Instr). Written c all) (append_assoc zs xs ys) (then (zs ++ xs) (first zs written))

words32-bytes_of : (xs : List Instr) → All IsLawful xs → words32 (bytes_of xs) ≡ map encoding xs
words32-bytes_of [] lawful = refl
words32-bytes_of (x ∷ xs) lawful =
    let h : IsLawful x = All-head IsLawful x xs lawful in
    ap (λ (w : ℕ). w ∷ words32 (bytes_of xs)) (from_le_bytes-to_le_bytes_4 (encoding x) h.0)
    ∙ ap (λ (ws : List ℕ). encoding x ∷ ws) (words32-bytes_of xs (All-tail IsLawful x xs lawful))

decoded-encoding : (xs : List Instr) → All IsLawful xs → map decoded (map encoding xs) ≡ map Some xs
decoded-encoding [] lawful = refl
decoded-encoding (x ∷ xs) lawful =
    let h : IsLawful x = All-head IsLawful x xs lawful in
    ap (λ (o : Option Instr). o ∷ map decoded (map encoding xs)) h.1
    ∙ ap (λ (os : List (Option Instr)). Some x ∷ os) (decoded-encoding xs (All-tail IsLawful x xs lawful))

pub Holds-from_written : (code : List ℕ) (xs : List Instr) → Written code xs → Holds code xs
Holds-from_written code xs written =
    let words : words32 code ≡ map encoding xs = ap words32 written.bytes ∙ words32-bytes_of xs written.lawful in
    record {
      bytes = written.bytes;
      words = words;
      read = ap (λ (ws : List ℕ). map decoded ws) words ∙ decoded-encoding xs written.lawful;
    }

-- what is made of one instruction
GrewMade-alone : (old new : List ℕ) (r : Result Instr AsmFault) (x : Instr) → r ≡ Ok x → Grew old new (x ∷ []) → GrewMade old new (alone r)
GrewMade-alone old new r x e grew = (x ∷ [], ap alone e, grew)

pub OnOk-alone : (r : Result (Unit {0}) AsmFault) (old new : List ℕ) (given made : Result Instr AsmFault) (x : Instr) → given ≡ made → given ≡ Ok x → OnOk r (Grew old new (x ∷ [])) → OnOk r (GrewMade old new (alone made))
OnOk-alone (Ok u) old new given made x is e grew = GrewMade-alone old new made x (sym is ∙ e) grew
OnOk-alone (Err f) old new given made x is e grew = grew

-- what is made of two, one after the other
pub OnOk-two : (r : Result (Unit {0}) AsmFault) (old middle new : List ℕ) (made : Result (List Instr) AsmFault) (x y : Instr) → made ≡ Ok (x ∷ y ∷ []) → Grew old middle (x ∷ []) → OnOk r (Grew middle new (y ∷ [])) → OnOk r (GrewMade old new made)
OnOk-two (Ok u) old middle new made x y e first then =
    (x ∷ y ∷ [], e, Grew-then old middle new (x ∷ []) (y ∷ []) first then)
OnOk-two (Err f) old middle new made x y e first then = then

pub address_of-found : (labels : List Mark) (at r l to high low : ℕ) → place_in labels l ≡ Some to → high ≡ high_part at to → low ≡ low_part at to → address_of labels at r l ≡ Ok (i.Upper upper.Auipc r high ∷ i.Imm imm.Addi r r low ∷ [])
address_of-found labels at r l to high low found high-is low-is =
    ap (λ (o : Option ℕ). at_place o l (λ to. Ok (upper_part at to r ∷ lower_part at to r ∷ []))) found
    ∙ ap (λ (n : ℕ). Ok (i.Upper upper.Auipc r n ∷ lower_part at to r ∷ [])) (sym high-is)
    ∙ ap (λ (n : ℕ). Ok (i.Upper upper.Auipc r high ∷ i.Imm imm.Addi r r n ∷ [])) (sym low-is)

lawful-from_read : (ws : List ℕ) (xs : List Instr) → map decoded ws ≡ map Some xs → All (λ w. IsSome (decoded w)) ws
lawful-from_read [] xs e = λ k d within. absurd (omega arith)
lawful-from_read (w ∷ ws) [] e = absurd (cc)
lawful-from_read (w ∷ ws) (x ∷ xs) e =
    let head : decoded w ≡ Some x = cc in
    let tail : map decoded ws ≡ map Some xs = cc in
    All-cons (λ (v : ℕ). IsSome (decoded v)) w ws (rw head refl) (lawful-from_read ws xs tail)

pub AreLawful-from_holds : (code : List ℕ) (xs : List Instr) → Holds code xs → AreLawful code
AreLawful-from_holds code xs holds = lawful-from_read (words32 code) xs holds.read
