-- Entries that are changed one after another.
use Rattle.std.proofs.Common.{◌≡◌, ◌≢◌, ◌⊎◌, ℕ, Bool, true, false, ◌||◌, ◌==◌, List, [], ◌∷◌, ◌++◌, map, take, length, ◌+◌, ◌<◌, get_or, Option, Some, None, option_map, if◌then◌else◌, refl, sym, ap, ◌∙◌, inl, inr, ne_eqb}
use Rattle.std.proofs.Math.Path.{fun_ext}
use Rattle.std.proofs.lemmas.Bool.{cases_eq}
use Rattle.std.proofs.lemmas.List.{take_more, map-append}
use Rattle.icr_graph.specs.Lists.{has_number, without, other_than, listed, changed, touched, each}
use Rattle.icr_graph.specs.declared.nodes.NodeKind.{NodeKind}
use Rattle.icr_graph.specs.declared.nodes.NodeKind.TheVariants as kind
use Rattle.icr_graph.specs.declared.nodes.Node.{Node}
use Rattle.icr_graph.specs.declared.parts.Cont.{Cont}
use Rattle.icr_graph.specs.declared.parts.Block.{Block}
use Rattle.icr_graph.specs.Kinds.{apart_from}
use Rattle.icr_graph.specs.Edits.{alone, not_used_by, not_taken_by, not_holding, no_arrival_of}
use Rattle.icr_graph.proofs.Maps.{same_number, swapped, and_false, has_pushed, has_without}

module _ {A : Type 0} (F : A → A) (m : ℕ → Option A) where
  -- one more is touched
  pub touch_more : ((v : A) → F (F v) ≡ F v) → (ks : List ℕ) (k : ℕ) → changed F k (touched ks F m) ≡ touched (ks ++ k ∷ []) F m
  touch_more twice ks k = fun_ext (λ n. rw (has_pushed n k ks, swapped k n) (by_case (n == k) (has_number n ks) (m n)))
    where
      by_case : (is h : Bool) (o : Option A) → (if is then option_map F (if h then option_map F o else o) else (if h then option_map F o else o)) ≡ (if (h || is) then option_map F o else o)
      by_case true true None = refl
      by_case true true (Some v) = ap Some (twice v)
      by_case true false o = refl
      by_case false true o = refl
      by_case false false o = refl

  -- the others are such that a change leaves them as they are
  pub touched_all : (ks : List ℕ) → ((n : ℕ) (v : A) → m n ≡ Some v → has_number n ks ≡ false → F v ≡ v) → touched ks F m ≡ each F m
  touched_all ks same = fun_ext (λ n. by_case n (has_number n ks) (m n) refl refl)
    where
      by_case : (n : ℕ) (h : Bool) (o : Option A) → has_number n ks ≡ h → m n ≡ o → (if h then option_map F o else o) ≡ option_map F o
      by_case n true o is at = refl
      by_case n false None is at = refl
      by_case n false (Some v) is at = ap Some (sym (same n v at is))

  -- none is touched
  pub touched_none : touched [] F m ≡ m
  touched_none = refl

-- one step of a loop over the numbers
pub touch_step : {A : Type 0} (F : A → A) (m : ℕ → Option A) → ((v : A) → F (F v) ≡ F v) → (ks : List ℕ) (i k : ℕ) → i < length ks → k ≡ get_or ks i k → changed F k (touched (take i ks) F m) ≡ touched (take (i + 1) ks) F m
touch_step F m twice ks i k within is = touch_more F m twice (take i ks) k ∙ ap (λ (xs : List ℕ). touched xs F m) (sym (take_more ks i k within ∙ ap (λ (x : ℕ). take i ks ++ x ∷ []) (sym is)))

-- ---- changes that are the same when they are made twice

pub other_than_twice : (n : ℕ) (o : Option ℕ) → other_than n (other_than n o) ≡ other_than n o
other_than_twice n None = refl
other_than_twice n (Some m) = by_case (cases_eq m n)
  where
    by_case : (m ≡ n) ⊎ (m ≢ n) → other_than n (other_than n (Some m)) ≡ other_than n (Some m)
    by_case (inl same) = rw (same, same_number n) refl
    by_case (inr other) = rw (ne_eqb m n other, ne_eqb m n other) refl

-- a list that doesn't have the number stays
pub without_none : (n : ℕ) (xs : List ℕ) → has_number n xs ≡ false → without n xs ≡ xs
without_none n [] h = refl
without_none n (x ∷ xs) h = by_case (x == n) refl (without_none n xs)
  where
    by_case : (b : Bool) → (x == n) ≡ b → (has_number n xs ≡ false → without n xs ≡ xs) → without n (x ∷ xs) ≡ x ∷ xs
    by_case true is ih = absurd_of (rw is at h)
      where
        absurd_of : true ≡ false → without n (x ∷ xs) ≡ x ∷ xs
        absurd_of e = cc
    by_case false is ih = rw is (ap (λ (ys : List ℕ). x ∷ ys) (ih (rw is at h)))

pub without_twice : (n : ℕ) (xs : List ℕ) → without n (without n xs) ≡ without n xs
without_twice n xs = without_none n (without n xs) (has_without n n xs ∙ rw (same_number n) (and_false (has_number n xs)))

pub other_than_none : (n : ℕ) (o : Option ℕ) → has_number n (listed o) ≡ false → other_than n o ≡ o
other_than_none n None h = refl
other_than_none n (Some m) h = by_case (m == n) refl
  where
    by_case : (b : Bool) → (m == n) ≡ b → other_than n (Some m) ≡ Some m
    by_case true is = absurd_of (rw is at h)
      where
        absurd_of : true ≡ false → other_than n (Some m) ≡ Some m
        absurd_of e = cc
    by_case false is = rw is refl

module _ {A : Type 0} (F : A → A) (twice : (v : A) → F (F v) ≡ F v) (m : ℕ → Option A) where
  -- the first is touched, and then the others
  pub touch_first : (k : ℕ) (ks : List ℕ) → touched ks F (changed F k m) ≡ touched (k ∷ ks) F m
  touch_first k ks = fun_ext (λ n. rw (swapped n k) (by_case (k == n) (has_number n ks) (m n)))
    where
      by_case : (is h : Bool) (o : Option A) → (if h then option_map F (if is then option_map F o else o) else (if is then option_map F o else o)) ≡ (if (is || h) then option_map F o else o)
      by_case true true None = refl
      by_case true true (Some v) = ap Some (twice v)
      by_case true false o = refl
      by_case false true o = refl
      by_case false false o = refl

  -- one alone
  pub touch_one : (k : ℕ) → changed F k m ≡ touched (k ∷ []) F m
  touch_one k = touch_first k []

-- ---- the changes that go with a node, made twice

pub alone_twice : (n : ℕ) (k : NodeKind) → apart_from n (apart_from n k) ≡ apart_from n k
alone_twice n (kind.Ref l) = refl
alone_twice n (kind.Set v value) = refl
alone_twice n (kind.If test) = refl
alone_twice n (kind.Combination op operands) = refl
alone_twice n (kind.MvCombination function operands tail) = refl
alone_twice n (kind.Bind v value) = refl
alone_twice n (kind.Return value) = refl
alone_twice n (kind.Entry x exits) = ap (λ (xs : List ℕ). kind.Entry x xs) (without_twice n exits)
alone_twice n (kind.Exit l entry) = ap (λ (e : Option ℕ). kind.Exit l e) (other_than_twice n entry)

pub node_alone_twice : (n : ℕ) (v : Node) → alone n (alone n v) ≡ alone n v
node_alone_twice n v = ap (λ (k : NodeKind). record v { kind = k }) (alone_twice n v.kind)

pub not_taken_twice : (n : ℕ) (v : Cont) → not_taken_by n (not_taken_by n v) ≡ not_taken_by n v
not_taken_twice n v = ap (λ (d : Option ℕ). record v { dest = d }) (other_than_twice n v.dest)

pub no_arrival_twice : (n : ℕ) (v : Block) → no_arrival_of n (no_arrival_of n v) ≡ no_arrival_of n v
no_arrival_twice n v = ap (λ (xs : List ℕ). record v { arriving = xs }) (without_twice n v.arriving)

pub not_used_twice : (n : ℕ) (v : Cont) → not_used_by n (not_used_by n v) ≡ not_used_by n v
not_used_twice n v = ap (λ (xs : List ℕ). record v { uses = xs }) (without_twice n v.uses)

pub not_holding_twice : (n : ℕ) (v : Block) → not_holding n (not_holding n v) ≡ not_holding n v
not_holding_twice n v = ap (λ (xs : List ℕ). record v { nodes = xs }) (without_twice n v.nodes)

-- one step of a loop over elements that have numbers
pub touch_step_by : {A T : Type 0} (F : A → A) (m : ℕ → Option A) → ((v : A) → F (F v) ≡ F v) → (f : T → ℕ) (xs : List T) (i : ℕ) (x : T) → i < length xs → x ≡ get_or xs i x → changed F (f x) (touched (map f (take i xs)) F m) ≡ touched (map f (take (i + 1) xs)) F m
touch_step_by {A} {T} F m twice f xs i x within is =
    let longer : map f (take (i + 1) xs) ≡ map f (take i xs) ++ f x ∷ [] =
    ap (map f) (take_more xs i x within ∙ ap (λ (y : T). take i xs ++ y ∷ []) (sym is)) ∙ map-append f (take i xs) (x ∷ []) in
    touch_more F m twice (map f (take i xs)) (f x) ∙ ap (λ (ys : List ℕ). touched ys F m) (sym longer)
