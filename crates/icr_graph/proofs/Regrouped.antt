-- What is read of parts that move from one block to another.
use Rattle.std.proofs.Common.{◌≡◌, ◌≢◌, ◌⊎◌, ℕ, Bool, true, false, ◌||◌, ◌==◌, List, [], ◌∷◌, map, Option, Some, None, option_map, if◌then◌else◌, refl, sym, ap, ◌∙◌, inl, inr, eq-eqb, ne_eqb}
use Rattle.std.proofs.lemmas.Bool.{cases_eq}
use Rattle.icr_graph.specs.declared.nodes.Node.{Node}
use Rattle.icr_graph.specs.declared.parts.Block.{Block}
use Rattle.icr_graph.specs.Lists.{has_number, renumber, renumbered, numbers_of, changed, touched}
use Rattle.icr_graph.specs.Edits.{behind_block, in_block}
use Rattle.icr_graph.proofs.Maps.{same_number}

-- ---- lists of one number

pub has_one : (x : ℕ) → has_number x (x ∷ []) ≡ true
has_one x = rw (same_number x) refl

pub has_another : (x y : ℕ) → x ≢ y → has_number x (y ∷ []) ≡ false
has_another x y other = rw (ne_eqb y x (λ e. other (sym e))) refl

-- a node is in no block but its own
pub one_block : (b x : ℕ) → x ≢ b → (o : Option Node) → has_number b (numbers_of (λ v. v.block ∷ []) o) ≡ true → has_number x (numbers_of (λ v. v.block ∷ []) o) ≡ false
one_block b x other None h = refl
one_block b x other (Some v) h = by_case (cases_eq v.block b) h
  where
    by_case : (v.block ≡ b) ⊎ (v.block ≢ b) → ((v.block == b) || false) ≡ true → ((v.block == x) || false) ≡ false
    by_case (inl is) e = rw (is, ne_eqb b x (λ q. other (sym q))) refl
    by_case (inr is_not) e = absurd_of (rw (ne_eqb v.block b is_not) at e)
      where
        absurd_of : false ≡ true → ((v.block == x) || false) ≡ false
        absurd_of q = cc

-- ---- renumbered lists

-- a list that doesn't have the number stays
pub renumbered_none : (old new : ℕ) (xs : List ℕ) → has_number old xs ≡ false → renumbered old new xs ≡ xs
renumbered_none old new [] h = refl
renumbered_none old new (x ∷ xs) h = by_case (x == old) refl (renumbered_none old new xs)
  where
    by_case : (b : Bool) → (x == old) ≡ b → (has_number old xs ≡ false → renumbered old new xs ≡ xs) → renumbered old new (x ∷ xs) ≡ x ∷ xs
    by_case true is ih = absurd_of (rw is at h)
      where
        absurd_of : true ≡ false → renumbered old new (x ∷ xs) ≡ x ∷ xs
        absurd_of e = cc
    by_case false is ih = rw is (ap (λ (ys : List ℕ). x ∷ ys) (ih (rw is at h)))

renumber_twice : (old new x : ℕ) → renumber old new (renumber old new x) ≡ renumber old new x
renumber_twice old new x = by_case (x == old) refl
  where
    again : (b : Bool) → (if b then new else new) ≡ new
    again true = refl
    again false = refl

    by_case : (b : Bool) → (x == old) ≡ b → renumber old new (renumber old new x) ≡ renumber old new x
    by_case true is = rw is (again (new == old))
    by_case false is = rw (is, is) refl

renumbered_twice : (old new : ℕ) (xs : List ℕ) → renumbered old new (renumbered old new xs) ≡ renumbered old new xs
renumbered_twice old new [] = refl
renumbered_twice old new (x ∷ xs) = ap (λ (y : ℕ). y ∷ renumbered old new (renumbered old new xs)) (renumber_twice old new x) ∙ ap (λ (ys : List ℕ). renumber old new x ∷ ys) (renumbered_twice old new xs)

pub behind_twice : (old new : ℕ) (v : Block) → behind_block old new (behind_block old new v) ≡ behind_block old new v
behind_twice old new v = ap (λ (xs : List ℕ). record v { before = xs }) (renumbered_twice old new v.before)

pub in_block_twice : (b : ℕ) (v : Node) → in_block b (in_block b v) ≡ in_block b v
in_block_twice b v = refl

-- ---- maps

-- what is read stays
pub still_read : {A : Type 0} (p : A → List ℕ) (F : A → A) (ks : List ℕ) (m : ℕ → Option A) → ((v : A) → p (F v) ≡ p v) → (n : ℕ) → numbers_of p (touched ks F m n) ≡ numbers_of p (m n)
still_read {A} p F ks m same n = by_case (has_number n ks) (m n)
  where
    by_case : (b : Bool) (o : Option A) → numbers_of p (if b then option_map F o else o) ≡ numbers_of p o
    by_case true None = refl
    by_case true (Some v) = same v
    by_case false o = refl

-- a node that moves is in the new block alone
pub read_moved : (ks : List ℕ) (b to : ℕ) (m : ℕ → Option Node) (n : ℕ) → has_number n ks ≡ true → has_number b (numbers_of (λ v. v.block ∷ []) (m n)) ≡ true → numbers_of (λ v. v.block ∷ []) (touched ks (in_block to) m n) ≡ to ∷ []
read_moved ks b to m n is there = rw is (by_case (m n) there)
  where
    by_case : (o : Option Node) → has_number b (numbers_of (λ v. v.block ∷ []) o) ≡ true → numbers_of (λ v. v.block ∷ []) (option_map (in_block to) o) ≡ to ∷ []
    by_case None h = cc
    by_case (Some v) h = refl
