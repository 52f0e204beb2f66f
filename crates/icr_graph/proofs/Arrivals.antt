-- The exits of a new node arrive at blocks.
use Rattle.std.proofs.Common.{◌≡◌, ℕ, Bool, true, false, not, ◌&&◌, ◌||◌, ◌==◌, ◌+◌, ◌<◌, List, [], ◌∷◌, ◌++◌, map, take, length, get_or, Option, Some, None, option_map, is_some, zero, suc, if◌then◌else◌, refl, sym, ap, ◌∙◌}
use Rattle.std.proofs.Math.Path.{fun_ext}
use Rattle.std.proofs.lemmas.List.{take_more, map-append}
use Rattle.icr_graph.specs.declared.nodes.Node.{Node}
use Rattle.icr_graph.specs.declared.nodes.Tag.{Tag}
use Rattle.icr_graph.specs.declared.parts.Block.{Block}
use Rattle.icr_graph.specs.Lists.{has_number, without, numbers_of, touched}
use Rattle.icr_graph.specs.Kinds.{arrivals_of}
use Rattle.icr_graph.specs.Plain.{FlowGraph}
use Rattle.icr_graph.specs.Whole.{IsWhole}
use Rattle.icr_graph.specs.Edits.{no_arrival_of}
use Rattle.icr_graph.specs.Building.{with_number, arriving_from, IsNew}
use Rattle.icr_graph.proofs.Maps.{same_number, or_false, has_pushed}
use Rattle.icr_graph.proofs.Distinct.{neither}

or_true : (b : Bool) → (b || true) ≡ true
or_true true = refl
or_true false = refl

with_there : (n : ℕ) (xs : List ℕ) → has_number n xs ≡ true → with_number n xs ≡ xs
with_there n xs e = rw e refl

with_new : (n : ℕ) (xs : List ℕ) → has_number n xs ≡ false → with_number n xs ≡ xs ++ n ∷ []
with_new n xs e = rw e refl

has_with : (n : ℕ) (xs : List ℕ) → has_number n (with_number n xs) ≡ true
has_with n xs = by_case (has_number n xs) refl
  where
    by_case : (b : Bool) → has_number n xs ≡ b → has_number n (with_number n xs) ≡ true
    by_case true e = ap (has_number n) (with_there n xs e) ∙ e
    by_case false e = ap (has_number n) (with_new n xs e) ∙ (has_pushed n n xs ∙ (ap (λ (t : Bool). has_number n xs || t) (same_number n) ∙ or_true (has_number n xs)))

pub arriving_twice : (n : ℕ) (v : Block) → arriving_from n (arriving_from n v) ≡ arriving_from n v
arriving_twice n v = ap (λ (xs : List ℕ). record v { arriving = xs }) (with_there n (with_number n v.arriving) (has_with n v.arriving))

without_absent : (n : ℕ) (xs : List ℕ) → has_number n xs ≡ false → without n xs ≡ xs
without_absent n [] h = refl
without_absent n (x ∷ xs) h =
    let apart = neither (x == n) (has_number n xs) h in
    rw apart.0 (ap (λ (ys : List ℕ). x ∷ ys) (without_absent n xs apart.1))

without_pushed : (n : ℕ) (xs : List ℕ) → has_number n xs ≡ false → without n (xs ++ n ∷ []) ≡ xs
without_pushed n [] h = rw (same_number n) refl
without_pushed n (x ∷ xs) h =
    let apart = neither (x == n) (has_number n xs) h in
    rw apart.0 (ap (λ (ys : List ℕ). x ∷ ys) (without_pushed n xs apart.1))

-- what the first elements have, the list has
pub has_take : (b i : ℕ) (xs : List ℕ) → has_number b (take i xs) ≡ true → has_number b xs ≡ true
has_take b zero xs h = cc
has_take b (suc i) [] h = cc
has_take b (suc i) (x ∷ xs) h = by_case (x == b) h (has_take b i xs)
  where
    by_case : (t : Bool) → (t || has_number b (take i xs)) ≡ true → (has_number b (take i xs) ≡ true → has_number b xs ≡ true) → (t || has_number b xs) ≡ true
    by_case true e ih = refl
    by_case false e ih = ih e

-- arrivals at some of these blocks that are taken back
pub arrivals_taken_back : (n : ℕ) (all some : List ℕ) (m : ℕ → Option Block) → ((b : ℕ) → has_number b some ≡ true → has_number b all ≡ true) → IsNew n m → touched all (no_arrival_of n) (touched some (arriving_from n) m) ≡ m
arrivals_taken_back n all some m within new = fun_ext (λ b. by_case (has_number b all) (has_number b some) (within b) (m b) (new b))
  where
    by_case : (t s : Bool) → (s ≡ true → t ≡ true) → (o : Option Block) → has_number n (numbers_of (λ x. x.arriving) o) ≡ false → (if t then option_map (no_arrival_of n) (if s then option_map (arriving_from n) o else o) else (if s then option_map (arriving_from n) o else o)) ≡ o
    by_case true true sub None fresh = refl
    by_case true true sub (Some v) fresh = ap Some (ap (λ (xs : List ℕ). record v { arriving = xs }) (ap (without n) (with_new n v.arriving fresh) ∙ without_pushed n v.arriving fresh))
    by_case true false sub None fresh = refl
    by_case true false sub (Some v) fresh = ap Some (ap (λ (xs : List ℕ). record v { arriving = xs }) (without_absent n v.arriving fresh))
    by_case false true sub o fresh = absurd_of (sub refl)
      where
        absurd_of : false ≡ true → option_map (arriving_from n) o ≡ o
        absurd_of e = cc
    by_case false false sub o fresh = refl

-- nothing arrives from a node that is not there
pub is_new : (g : FlowGraph) (n : ℕ) → g.node n ≡ None → IsWhole g → IsNew n g.block
is_new g n vacant w = λ b. sym (w.arrivals n b) ∙ ap (λ (o : Option Node). has_number b (numbers_of (λ x. arrivals_of x.kind) o)) vacant

-- what arrives at a block
pub reached_at : (n : ℕ) (ks : List ℕ) (m : ℕ → Option Block) (b a : ℕ) → (has_number b ks ≡ true → is_some (m b) ≡ true) → IsNew n m → has_number a (numbers_of (λ x. x.arriving) (touched ks (arriving_from n) m b)) ≡ (has_number a (numbers_of (λ x. x.arriving) (m b)) || (has_number b ks && (n == a)))
reached_at n ks m b a live new = by_case (has_number b ks) (m b) live (new b)
  where
    by_case : (t : Bool) (o : Option Block) → (t ≡ true → is_some o ≡ true) → has_number n (numbers_of (λ x. x.arriving) o) ≡ false → has_number a (numbers_of (λ x. x.arriving) (if t then option_map (arriving_from n) o else o)) ≡ (has_number a (numbers_of (λ x. x.arriving) o) || (t && (n == a)))
    by_case true None there fresh = absurd_of (there refl)
      where
        absurd_of : false ≡ true → false ≡ (false || (true && (n == a)))
        absurd_of e = cc
    by_case true (Some v) there fresh = ap (has_number a) (with_new n v.arriving fresh) ∙ has_pushed a n v.arriving
    by_case false o there fresh = sym (or_false (has_number a (numbers_of (λ x. x.arriving) o)))

-- one step of a loop that lists the blocks of tags
pub one_tag_more : (tags : List Tag) (i : ℕ) (t : Tag) → i < length tags → t ≡ get_or tags i t → map (λ (x : Tag). x.block) (take i tags) ++ t.block ∷ [] ≡ map (λ (x : Tag). x.block) (take (i + 1) tags)
one_tag_more tags i t within is =
    sym (ap (map (λ (x : Tag). x.block)) (take_more tags i t within ∙ ap (λ (y : Tag). take i tags ++ y ∷ []) (sym is)) ∙ map-append (λ (x : Tag). x.block) (take i tags) (t ∷ []))
