-- Reading rows one after the other, as a loop does.
use Rattle.std.proofs.Common.{◌≡◌, ℕ, suc, ◌-◌, ◌+◌, ◌≤◌, ◌<◌, List, [], ◌∷◌, ◌++◌, length, Option, Some, None, Result, Ok, Err, refl, sym, ap, ◌∙◌, append_assoc, arith}
use Rattle.std.proofs.lemmas.List.{append-nil}
use Rattle.image.specs.declared.fault.ImageKind.TheVariants as kinds
use Rattle.image.specs.Fields.{Fault, ◌>>=◌, fault}
use Rattle.image.specs.Rows.{rows}

-- what was read before, and what is still read
abbrev pub with_front : {X : Type 0} → List X → Result (List X × List ℕ) Fault → Result (List X × List ℕ) Fault
with_front front read = read >>= λ x. Ok (front ++ x.0, x.1)

regroup : {X : Type 0} (front : List X) (n : X) (read : Result (List X × List ℕ) Fault)
    → with_front front (read >>= λ x. Ok (n ∷ x.0, x.1)) ≡ with_front (front ++ n ∷ []) read
regroup {X} front n (Ok x) = ap (λ (ns : List X). Ok (ns, x.1)) (simp append_assoc)
regroup front n (Err f) = refl

module _ {X : Type 0} (row : Option ℕ → List ℕ → Option (X × List ℕ)) (address : X → Option ℕ) (end : ℕ) where
  pub goes_on : (front : List X) (count i : ℕ) (before : Option ℕ) (bytes : List ℕ) (n : X) (after : List ℕ) (total : Result (List X × List ℕ) Fault)
      → i < count → row before bytes ≡ Some (n, after)
      → with_front front (rows row address end (count - i) before bytes) ≡ total
      → with_front (front ++ n ∷ []) (rows row address end (count - (i + 1)) (address n) after) ≡ total
  unfolding rows
  goes_on front count i before bytes n after total lt h so_far =
      let k : count - i ≡ suc (count - (i + 1)) = omega arith in
      let one : with_front front (rows row address end (count - i) before bytes) ≡ with_front (front ++ n ∷ []) (rows row address end (count - (i + 1)) (address n) after)
      = rw (k, h) (regroup front n (rows row address end (count - (i + 1)) (address n) after)) in
      sym one ∙ so_far

  pub ends : (front : List X) (count i : ℕ) (before : Option ℕ) (bytes : List ℕ) (total : Result (List X × List ℕ) Fault)
      → i < count → row before bytes ≡ None
      → with_front front (rows row address end (count - i) before bytes) ≡ total
      → total ≡ fault (end - length bytes) kinds.Debug
  unfolding rows
  ends front count i before bytes total lt h so_far =
      let k : count - i ≡ suc (count - (i + 1)) = omega arith in
      let one : with_front front (rows row address end (count - i) before bytes) ≡ fault (end - length bytes) kinds.Debug = rw (k, h) refl in
      sym so_far ∙ one

  pub is_done : (front : List X) (count i : ℕ) (before : Option ℕ) (bytes : List ℕ) (total : Result (List X × List ℕ) Fault)
      → count ≤ i → with_front front (rows row address end (count - i) before bytes) ≡ total → total ≡ Ok (front, bytes)
  unfolding rows
  is_done front count i before bytes total le so_far =
      let k : count - i ≡ 0 = omega arith in
      let one : with_front front (rows row address end (count - i) before bytes) ≡ Ok (front, bytes)
      = rw k (ap (λ (ns : List X). Ok (ns, bytes)) (append-nil front)) in
      sym so_far ∙ one
