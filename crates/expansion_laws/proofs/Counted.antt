-- Counts that are made one after another.
use Rattle.std.specs.Prelude.{◌≡◌, ℕ, suc, ◌+◌, ◌<◌, ◌≤◌, List, [], ◌∷◌, ◌++◌, length, map, refl}
use Rattle.std.proofs.Common.{◌∙◌, ap, sym, subst, arith, length-append, zero-add}
use Rattle.std.proofs.lemmas.List.{map-append}
use Rattle.core_form.specs.Facts.{FunctionText}
use Rattle.core_form.specs.Lawful.{CountFrom, function_number}
use Rattle.expansion.specs.Steps.{World, most_nodes}
use Rattle.expansion_laws.specs.Made.{Fits, counted}
use Rattle.expansion_laws.proofs.KeptCounts.{SameCounts}

-- From a world to another so many nodes have been counted; the next numbers are those of what is bound here, and of these functions.
pub record Counted (w : World) (n : ℕ) (bs : List ℕ) (fs : List FunctionText) (after : World) : Type 0 where
  pub nodes : after.nodes ≡ w.nodes + n
  pub binders : CountFrom w.next bs
  pub next : after.next ≡ w.next + length bs
  pub numbers : CountFrom w.functions (map function_number fs)
  pub functions : after.functions ≡ w.functions + length fs
  pub few : 0 < n → after.nodes ≤ most_nodes

-- ---- numbers one after another

pub count_append : (n : ℕ) (xs ys : List ℕ) → CountFrom n xs → CountFrom (n + length xs) ys → CountFrom n (xs ++ ys)
count_append n [] ys h k = subst (λ (m : ℕ). CountFrom m ys) (omega arith) k
count_append n (x ∷ xs) ys h k = (h.0, count_append (suc n) xs ys h.1 (subst (λ (m : ℕ). CountFrom m ys) (omega arith) k))

count_at : (n m : ℕ) (xs : List ℕ) → m ≡ n → CountFrom m xs → CountFrom n xs
count_at n m xs is h = subst (λ (m : ℕ). CountFrom m xs) is h

-- ---- counts

pub none_counted : {w : World} → Counted w 0 [] [] w
none_counted = record { nodes = omega arith; binders = tt; next = omega arith; numbers = tt; functions = omega arith; few = λ h. absurd (omega arith) }

pub same_counted : {w u : World} → SameCounts w u → Counted w 0 [] [] u
same_counted h =
    let n = h.next in let f = h.functions in let c = h.nodes in
    record { nodes = omega arith; binders = tt; next = omega arith; numbers = tt; functions = omega arith; few = λ h. absurd (omega arith) }

pub begins : {w : World} (count : ℕ) → Fits count w → Counted w count [] [] (counted count w)
begins count h = record { nodes = refl; binders = tt; next = omega arith; numbers = tt; functions = omega arith; few = λ k. h }

few_after : (a b c n m : ℕ) → (0 < n → b ≤ most_nodes) → (0 < m → c ≤ most_nodes) → c ≡ b + m → 0 < n + m → c ≤ most_nodes
few_after a b c n m h k is there = grind arith

pub then : {w u after : World} {n m : ℕ} {bs cs : List ℕ} {fs gs : List FunctionText} →
    Counted w n bs fs u → Counted u m cs gs after → Counted w (n + m) (bs ++ cs) (fs ++ gs) after
then {w = w} {u = u} {after = after} {n = n} {m = m} {bs = bs} {cs = cs} {fs = fs} {gs = gs} h k =
    let hn = h.nodes in let kn = k.nodes in let hb = h.next in let kb = k.next in let hf = h.functions in let kf = k.functions in
    record {
      nodes = omega arith;
      binders = count_append w.next bs cs h.binders (count_at (w.next + length bs) u.next cs h.next k.binders);
      next = omega (arith, length-append bs cs);
      numbers = subst (CountFrom w.functions) (sym (map-append function_number fs gs)) (count_append w.functions (map function_number fs) (map function_number gs) h.numbers (count_at (w.functions + length (map function_number fs)) u.functions (map function_number gs) (h.functions ∙ ap (λ (n : ℕ). w.functions + n) (sym (map_length fs))) k.numbers));
      functions = omega (arith, length-append fs gs);
      few = few_after w.nodes u.nodes after.nodes n m h.few k.few kn;
    }
  where
    map_length : (fs : List FunctionText) → length (map function_number fs) ≡ length fs
    map_length [] = refl
    map_length (f ∷ fs) = ap suc (map_length fs)

-- the same counts, written otherwise
pub recount : {w after : World} {n m : ℕ} {bs : List ℕ} {fs : List FunctionText} → n ≡ m → Counted w n bs fs after → Counted w m bs fs after
recount {w = w} {after = after} {bs = bs} {fs = fs} is h = subst (λ (n : ℕ). Counted w n bs fs after) is h

pub rebind : {w after : World} {n : ℕ} {bs cs : List ℕ} {fs : List FunctionText} → bs ≡ cs → Counted w n bs fs after → Counted w n cs fs after
rebind {w = w} {after = after} {n = n} {fs = fs} is h = subst (λ (bs : List ℕ). Counted w n bs fs after) is h

pub refunction : {w after : World} {n : ℕ} {bs : List ℕ} {fs gs : List FunctionText} → fs ≡ gs → Counted w n bs fs after → Counted w n bs gs after
refunction {w = w} {after = after} {n = n} {bs = bs} is h = subst (λ (fs : List FunctionText). Counted w n bs fs after) is h

-- after a step that counts nothing
pub after_same : {w u after : World} {n : ℕ} {bs : List ℕ} {fs : List FunctionText} → SameCounts w u → Counted u n bs fs after → Counted w n bs fs after
after_same {n = n} h k = recount (zero-add n) (then (same_counted h) k)
