-- What the code knows of a form is what its facts say.
use Rattle.std.specs.Prelude.{◌≡◌, refl, ℕ, List, [], ◌∷◌, ◌++◌, flat_map, filter, map}
use Rattle.std.proofs.Common.{ap, ◌∙◌}
use Rattle.lisp_base.specs.Membership.{SymbolKind}
use Rattle.core_form.specs.Tree.{Core, Top}
use Rattle.core_form.specs.Facts.{names_in, functions_in, has_number, union, closed_in, closed_somewhere, changed_somewhere, facts_of}
use Rattle.form_facts.specs.View.{View, Knows}
use Rattle.form_facts.specs.Parts.{Part, parts, set_by, left_by}
use Rattle.form_facts.specs.Lists.{tags_in, locals_in, local_lists, closed_of_parts, joined}
use Rattle.form_facts.specs.Words.{settled_words}
use Rattle.form_facts.proofs.Closed.{closed_are, tags_in_are}
use Rattle.form_facts.proofs.NumberLaws.{has_once, has_changed}
use Rattle.form_facts.proofs.NumberSets.{filter_same}
use Rattle.form_facts.proofs.WordRounds.{words_are}

joined_map : {A : Type 0} (f : A → List ℕ) (xs : List A) → joined (map f xs) ≡ flat_map f xs
joined_map f [] = refl
joined_map f (x ∷ xs) = ap (λ (ys : List ℕ). f x ++ ys) (joined_map f xs)

all_closed : (e : Core) (closed : List (List ℕ)) (all : List ℕ) → closed ≡ map (closed_in (names_in e)) (functions_in e) → all ≡ union [] (joined closed) → all ≡ closed_somewhere e
all_closed e closed all h a =
    a ∙ ap (λ ls. union [] (joined ls)) h ∙ ap (union []) (joined_map (closed_in (names_in e)) (functions_in e))

all_changed : (e : Core) (ps : List Part) (tags : List (ℕ × ℕ)) (changed : List ℕ) → ps ≡ parts e → tags ≡ tags_in e → changed ≡ union (union [] (flat_map set_by ps)) (flat_map (left_by tags) ps) →
    (n : ℕ) → has_number n changed ≡ has_number n (changed_somewhere e)
all_changed e ps tags changed p t h n =
    ap (has_number n) h
    ∙ ap (λ (qs : List Part). has_number n (union (union [] (flat_map set_by qs)) (flat_map (left_by tags) qs))) p
    ∙ ap (λ (ts : List (ℕ × ℕ)). has_number n (union (union [] (flat_map set_by (parts e))) (flat_map (left_by ts) (parts e)))) (t ∙ tags_in_are e)
    ∙ has_changed n e (names_in e).tags refl

-- the numbers that the code has computed for a form are those of its facts
pub known : (t : Top) (start : ℕ) (kinds : SymbolKind) (f : View) (ps : List Part) (tags : List (ℕ × ℕ)) (locals : List ℕ) (lists : List (List ℕ)) (all changed : List ℕ) →
    ps ≡ parts t.core → tags ≡ tags_in t.core → locals ≡ locals_in t.core → lists ≡ local_lists t.core → f.closed ≡ closed_of_parts tags locals lists ps → all ≡ union [] (joined f.closed) →
    changed ≡ union (union [] (flat_map set_by ps)) (flat_map (left_by tags) ps) → f.cells ≡ union [] (filter (λ x. has_number x changed) all) → f.words ≡ union [] (settled_words kinds all ps) →
    Knows f (facts_of kinds start t) (functions_in t.core)
unfolding facts_of
known t start kinds f ps tags locals lists all changed p tags_h locals_h lists_h closed_h all_h changed_h cells_h words_h =
    let e : Core = t.core in
    let closed : f.closed ≡ map (closed_in (names_in e)) (functions_in e) =
    closed_h ∙ ap (closed_of_parts tags locals lists) p ∙ closed_are e tags locals lists tags_h locals_h lists_h in
    let everywhere : all ≡ closed_somewhere e = all_closed e f.closed all closed all_h in
    record {
      cells = λ n.
          ap (has_number n) cells_h ∙ has_once n (filter (λ x. has_number x changed) all)
          ∙ ap (λ (xs : List ℕ). has_number n (filter (λ x. has_number x changed) xs)) everywhere
          ∙ ap (has_number n) (filter_same (λ x. has_number x changed) (λ x. has_number x (changed_somewhere e)) (all_changed e ps tags changed p tags_h changed_h) (closed_somewhere e));
      words = λ n.
          ap (has_number n) words_h ∙ has_once n (settled_words kinds all ps)
          ∙ ap (λ (qs : List Part). has_number n (settled_words kinds all qs)) p
          ∙ ap (λ (xs : List ℕ). has_number n (settled_words kinds xs (parts e))) everywhere
          ∙ ap (has_number n) (words_are kinds (closed_somewhere e) e);
      closed = closed;
    }
