-- The words that the code keeps are the word variables.
use Rattle.std.specs.Prelude.{◌≡◌, refl, ℕ, zero, suc, ◌+◌, ◌-◌, ◌<◌, Bool, if◌then◌else◌, List, [], ◌∷◌, ◌++◌, length, flat_map}
use Rattle.std.proofs.Common.{ap, sym, ◌∙◌, arith}
use Rattle.lisp_base.specs.Membership.{SymbolKind}
use Rattle.core_form.specs.Tree.{Core}
use Rattle.core_form.specs.Facts.{union, without, repeat, narrowed, word_variables, declared_integer, parameters_in, at_nodes, variables_read, variable_under}
use Rattle.form_facts.specs.Parts.{Part, sets, parts, read_by, taken_by}
use Rattle.form_facts.specs.Words.{taken_in, kept_words, next_words, declared_of, open_words, settled_words}
use Rattle.form_facts.proofs.Gathered.{reads_are, bound_are, taken_are}
use Rattle.form_facts.proofs.NumberLaws.{has_once}

-- ---- words once are the same words

taken_at : (words : List ℕ) (p : Part) → taken_by (union [] words) p ≡ taken_by words p
taken_at words (sets x e) = ap (λ (b : Bool). if b then variable_under e else []) (has_once x words)
taken_at words _ = refl

pub taken_once : (words : List ℕ) (ps : List Part) → taken_in (union [] words) ps ≡ taken_in words ps
taken_once words [] = refl
taken_once words (p ∷ ps) =
    ap (λ (xs : List ℕ). xs ++ taken_in (union [] words) ps) (taken_at words p) ∙ ap (λ (xs : List ℕ). taken_by words p ++ xs) (taken_once words ps)

-- ---- one round

round_is : (e : Core) (words : List ℕ) → next_words (flat_map read_by (parts e)) (parts e) words ≡ narrowed e words
round_is e words =
    ap (λ rs. kept_words rs (taken_in words (parts e)) words) (reads_are e) ∙ ap (λ ts. kept_words (at_nodes variables_read e) ts words) (taken_are words e)

-- ---- all rounds

repeat_same : (n : ℕ) (f g : List ℕ → List ℕ) → ((xs : List ℕ) → f xs ≡ g xs) → (xs : List ℕ) → repeat n f xs ≡ repeat n g xs
repeat_same zero f g h xs = refl
repeat_same (suc n) f g h xs = repeat_same n f g h (f xs) ∙ ap (repeat n g) (h xs)

pub words_are : (kinds : SymbolKind) (closed : List ℕ) (e : Core) → settled_words kinds closed (parts e) ≡ word_variables kinds closed e
unfolding word_variables
words_are kinds closed e =
    let ps : List Part = parts e in
    let declared : open_words kinds closed ps ≡ without (flat_map (declared_integer kinds) (parameters_in e)) closed =
    ap (λ xs. without (declared_of kinds xs) closed) (bound_are e) in
    ap (λ (xs : List ℕ). repeat (length xs) (next_words (flat_map read_by ps) ps) xs) declared
    ∙ repeat_same (length (without (flat_map (declared_integer kinds) (parameters_in e)) closed)) (next_words (flat_map read_by ps) ps) (narrowed e) (round_is e)
    (without (flat_map (declared_integer kinds) (parameters_in e)) closed)

-- ---- the loop over the rounds

settled : (n : ℕ) (f : List ℕ → List ℕ) (words : List ℕ) → f words ≡ words → repeat n f words ≡ words
settled zero f words h = refl
settled (suc n) f words h = ap (repeat n f) h ∙ settled n f words h

pub round_passed : (n i : ℕ) (f : List ℕ → List ℕ) (words next all : List ℕ) → i < n → repeat (n - i) f words ≡ all → next ≡ f words → repeat (n - (i + 1)) f next ≡ all
round_passed n i f words next all lt so_far h =
    let e : n - i ≡ suc (n - (i + 1)) = omega arith in
    ap (repeat (n - (i + 1)) f) h ∙ sym (ap (λ (k : ℕ). repeat k f words) e) ∙ so_far

pub no_change : (n i : ℕ) (f : List ℕ → List ℕ) (words next all : List ℕ) → repeat (n - i) f words ≡ all → next ≡ f words → next ≡ words → words ≡ all
no_change n i f words next all so_far h same = sym (settled (n - i) f words (sym h ∙ same)) ∙ so_far
