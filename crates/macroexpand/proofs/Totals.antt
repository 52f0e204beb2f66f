-- A program that has grown is small.
use Rattle.std.proofs.Common.{◌≡◌, ◌∙◌, ap, sym, subst, refl, ℕ, ◌+◌, ◌≤◌, List, [], ◌∷◌, ◌++◌, map, arith}
use Rattle.std.specs.Prelude.{sum_by}
use Rattle.std.specs.List.{All}
use Rattle.std.proofs.lemmas.List.Elements.{All-map, All-nil, All-cons, All-head, All-tail}
use Rattle.std.proofs.lemmas.List.Sums.{sum_by-append, sum_by-cons}
use Rattle.lisp_base.specs.declared.values.Val.TheVariants.{Sym}
use Rattle.core_form.specs.Tree.{Top}
use Rattle.core_form.specs.Eval.{nodes_of_all}
use Rattle.core_form.specs.Reading.{tops_of}
use Rattle.program_size.specs.Mentions.{Sized, Function, Mentions}
use Rattle.program_size.specs.Sizes.{Chosen, none, taken, passed}
use Rattle.expansion.specs.Steps.{gives}
use Rattle.expansion_laws.specs.Counts.{TreesAreCounted}
use Rattle.file_expansion.specs.Tops.{measured}
use Rattle.file_expansion.specs.Files.{Helper, functions_of}
use Rattle.macroexpand.specs.Going.{helpers_from, prelude_of, trees_of, HeldForms}
use Rattle.macroexpand.specs.Small.{GrownAreSmall}
use Rattle.macroexpand.proofs.Few.{IsFew, AreFew, answers_few}
use Rattle.macroexpand.proofs.Holding.{chosen_helpers, forms_held}
use Rattle.macroexpand.proofs.Sized.{chosen_along, few_nodes}

chosen_few : {A : Type 0} {P : A → Type 0} (Q : A → Type 0) (xs ys : List A) → Chosen P xs ys → All Q xs → All Q ys
chosen_few Q _ _ none h = All-nil Q
chosen_few Q _ _ (taken x xs ys p c) h = All-cons Q x ys (All-head Q x xs h) (chosen_few Q xs ys c (All-tail Q x xs h))
chosen_few Q _ _ (passed x xs ys n c) h = chosen_few Q xs ys c (All-tail Q x xs h)

abbrev made : Helper → Function
made h = record { name = h.name; form = measured h.form }

nodes_of_trees : (ts : List Top) → sum_by (λ (f : Sized). f.nodes) (map measured ts) ≡ nodes_of_all ts
nodes_of_trees [] = refl
nodes_of_trees (t ∷ ts) = sum_by-cons (λ (f : Sized). f.nodes) (measured t) (map measured ts) ∙ ap (λ (n : ℕ). t.nodes + n) (nodes_of_trees ts)

nodes_of_helpers : (hs : List Helper) → sum_by (λ (f : Sized). f.nodes) (map (λ (f : Function). f.form) (functions_of hs)) ≡ nodes_of_all (map (λ (h : Helper). h.form) hs)
nodes_of_helpers [] = refl
nodes_of_helpers (h ∷ hs) =
    sum_by-cons (λ (f : Sized). f.nodes) (measured h.form) (map (λ (f : Function). f.form) (functions_of hs)) ∙ ap (λ (n : ℕ). h.form.nodes + n) (nodes_of_helpers hs)

plus_back : (a b c : ℕ) → a + b ≤ c → b + a ≤ c
plus_back a b c l = omega (arith, l)

pub grown_are_small : TreesAreCounted → GrownAreSmall
grown_are_small counted forms before g w held answered going holds =
    let h : HeldForms w.heap (prelude_of g) (map measured (trees_of g)) g.prelude.items held = holds w.heap (prelude_of g) (map measured (trees_of g)) going.counts in
    let hs : List Helper = helpers_from h.functions in
    let few : AreFew counted (helpers_from g.prelude.items, trees_of g) = answers_few counted forms before (gives (helpers_from g.prelude.items, trees_of g) w) (helpers_from g.prelude.items, trees_of g) w answered refl in
    let chosen : Chosen (λ k. Mentions w.heap (prelude_of g) (map measured (trees_of g)) (Sym k.name)) (helpers_from g.prelude.items) hs =
    chosen_helpers (λ (k : Helper). Mentions w.heap (prelude_of g) (map measured (trees_of g)) (Sym k.name)) g.prelude.items h.functions h.chosen in
    let tops : tops_of held ≡ map (λ (k : Helper). k.form) hs = ap tops_of h.are ∙ forms_held h.functions in
    let functions : Chosen (λ f. Mentions w.heap (prelude_of g) (map measured (trees_of g)) (Sym f.name)) (prelude_of g) (functions_of hs) =
    chosen_along made (λ (f : Function). Mentions w.heap (prelude_of g) (map measured (trees_of g)) (Sym f.name)) (helpers_from g.prelude.items) hs chosen in
    let total : sum_by (λ (f : Sized). f.nodes) (map measured (trees_of g) ++ map (λ (f : Function). f.form) (functions_of hs)) ≤ 400000 =
    few_nodes g.sizes (prelude_of g) w.heap (map measured (trees_of g)) going.counts going.small (functions_of hs) functions in
    let sums : sum_by (λ (f : Sized). f.nodes) (map measured (trees_of g) ++ map (λ (f : Function). f.form) (functions_of hs)) ≡ nodes_of_all (trees_of g) + nodes_of_all (map (λ (k : Helper). k.form) hs) =
    sum_by-append (λ (f : Sized). f.nodes) (map measured (trees_of g)) (map (λ (f : Function). f.form) (functions_of hs))
    ∙ (ap (λ (n : ℕ). n + sum_by (λ (f : Sized). f.nodes) (map (λ (f : Function). f.form) (functions_of hs))) (nodes_of_trees (trees_of g))
    ∙ ap (λ (n : ℕ). nodes_of_all (trees_of g) + n) (nodes_of_helpers hs)) in
    record {
      prelude = subst (All IsFew) (sym tops) (All-map IsFew (λ (k : Helper). k.form) hs (chosen_few (λ (k : Helper). IsFew k.form) (helpers_from g.prelude.items) hs chosen few.helpers));
      forms = few.trees;
      total =
          subst (λ (ts : List Top). nodes_of_all ts + nodes_of_all (trees_of g) ≤ 400000) (sym tops)
          (plus_back (nodes_of_all (trees_of g)) (nodes_of_all (map (λ (k : Helper). k.form) hs)) 400000 (subst (λ (n : ℕ). n ≤ 400000) sums total));
    }
