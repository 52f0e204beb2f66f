-- From what was found of the parts of a node to whether it is checked.
use Rattle.std.specs.Prelude.{◌≡◌, ℕ, ◌+◌, ◌<◌, Bool, true, false, ◌&&◌, List, [], ◌∷◌, ◌++◌, length, take, drop, get_or, option_map}
use Rattle.std.proofs.Common.{ap, sym, ◌∙◌, arith, zero, suc, append-nil, append_assoc, ◌⊎◌, inl, inr}
use Rattle.std.proofs.lemmas.List.{at_drop_more}
use Rattle.core_form.specs.declared.tree.Core.{Core as Core'}
use Rattle.core_form.specs.declared.tree.Form.{Form as Form'}
use Rattle.core_form.specs.declared.tree.Optional.{Optional as Optional'}
use Rattle.core_form.specs.declared.tree.Lambda.{Lambda as Lambda'}
use Rattle.core_form.specs.Tree.{Core, Lambda}
use Rattle.core_form.specs.Reading.{parameter_of, form_of, core_of, lambda_of}
use Rattle.core_form.specs.Checked.{Scope, with_variables, is_checked, lambda_checked, optional_numbers, optionals_numbers, optionals_checked}
use Rattle.core_form.specs.ListReading.{optionals_list}

-- a node by its form, read as k
pub by_form : (sc : Scope) (c : Core') (f : Form') (k : Core) (b : Bool) → c.form ≡ f → form_of c.place f ≡ k → b ≡ is_checked sc k → b ≡ is_checked sc (core_of c)
by_form sc c f k b e r h = h ∙ sym (ap (λ (g : Form'). is_checked sc (form_of c.place g)) e ∙ ap (λ (x : Core). is_checked sc x) r)

-- what is so of a list, so of the same
pub by_list : {A : Type 0} (f : List A → Bool) (b : Bool) (xs ys : List A) → xs ≡ ys → b ≡ f xs → b ≡ f ys
by_list f b xs ys e h = h ∙ ap f e

-- the first of two tests was true, or false
pub then_both : (a x y b : Bool) → a ≡ x → a ≡ true → b ≡ y → b ≡ (x && y)
then_both a x y b e t h = h ∙ sym (ap (λ (z : Bool). z && y) (sym e ∙ t))

pub not_both : (a x y : Bool) → a ≡ x → a ≡ false → a ≡ (x && y)
not_both a x y e f = f ∙ sym (ap (λ (z : Bool). z && y) (sym e ∙ f))

-- what is so of two, so of the same
pub by_both : {A B : Type 0} (f : A → B → Bool) (b : Bool) (x x' : A) (y y' : B) → x ≡ x' → y ≡ y' → b ≡ f x y → b ≡ f x' y'
by_both f b x x' y y' e k h = h ∙ ap (λ z. f z y) e ∙ ap (f x') k

pub by_three : {A B C : Type 0} (f : A → B → C → Bool) (b : Bool) (x x' : A) (y y' : B) (z z' : C) → x ≡ x' → y ≡ y' → z ≡ z' → b ≡ f x y z → b ≡ f x' y' z'
by_three f b x x' y y' z z' e k l h = by_both (f x') b y y' z z' k l (h ∙ ap (λ w. f w y z) e)

pub false_both : (a x y : Bool) → a ≡ x → a ≡ false → false ≡ (x && y)
false_both a x y e f = sym (ap (λ (z : Bool). z && y) (sym e ∙ f))

-- a node of one of two forms, of which the same is so
pub by_forms : (sc : Scope) (c : Core') (f g : Form') (k l : Core) (b : Bool) → (c.form ≡ f) ⊎ (c.form ≡ g) → form_of c.place f ≡ k → form_of c.place g ≡ l →
    b ≡ is_checked sc k → b ≡ is_checked sc l → b ≡ is_checked sc (core_of c)
by_forms sc c f g k l b (inl e) r q h j = by_form sc c f k b e r h
by_forms sc c f g k l b (inr e) r q h j = by_form sc c g l b e q j

-- a function, read as k
pub by_lambda : (sc : Scope) (l : Lambda') (k : Lambda) (b : Bool) → lambda_of l ≡ k → b ≡ lambda_checked sc k → b ≡ lambda_checked sc (lambda_of l)
by_lambda sc l k b e h = h ∙ sym (ap (λ (x : Lambda). lambda_checked sc x) e)

-- ---- optional parameters, one more at a time

abbrev numbers_of : List Optional' → List ℕ
numbers_of os = optionals_numbers (optionals_list os)

abbrev own_numbers : Optional' → List ℕ
own_numbers o = optional_numbers (parameter_of o.parameter) (option_map parameter_of o.supplied)

one_more : (os : List Optional') (i : ℕ) (d : Optional') → i < length os → numbers_of (take (suc i) os) ≡ numbers_of (take i os) ++ own_numbers (get_or os i d)
one_more [] i d lt = absurd (omega arith)
one_more (o ∷ os) zero d lt = append-nil (own_numbers o)
one_more (o ∷ os) (suc i) d lt =
    ap (λ (xs : List ℕ). own_numbers o ++ xs) (one_more os i d (omega arith)) ∙ sym (append_assoc (own_numbers o) (numbers_of (take i os)) (own_numbers (get_or os i d)))

abbrev goes_on : Scope → List ℕ → Bool → Optional' → List Optional' → Bool
goes_on sc before found x rest = found && optionals_checked sc (before ++ own_numbers x) (optionals_list rest)

pub optional_passed : (sc : Scope) (os : List Optional') (i : ℕ) (x : Optional') (b : Bool) → i < length os → x ≡ get_or os i x → b ≡ true →
    b ≡ is_checked (with_variables (numbers_of (take i os)) sc) (core_of x.default) →
    optionals_checked sc (numbers_of (take i os)) (optionals_list (drop i os)) ≡ optionals_checked sc [] (optionals_list os) →
    optionals_checked sc (numbers_of (take (i + 1) os)) (optionals_list (drop (i + 1) os)) ≡ optionals_checked sc [] (optionals_list os)
optional_passed sc os i x b lt is t found so_far =
    let before = numbers_of (take i os) in
    let rest = drop (i + 1) os in
    let next : (i + 1) ≡ suc i = omega arith in
    let more : numbers_of (take (i + 1) os) ≡ before ++ own_numbers x = ap (λ (n : ℕ). numbers_of (take n os)) next ∙ one_more os i x lt ∙ ap (λ (y : Optional'). before ++ own_numbers y) (sym is) in
    let split : optionals_checked sc before (optionals_list (drop i os)) ≡ goes_on sc before (is_checked (with_variables before sc) (core_of x.default)) x rest =
    at_drop_more (λ (xs : List Optional'). optionals_checked sc before (optionals_list xs)) os i x lt
    ∙ ap (λ (y : Optional'). goes_on sc before (is_checked (with_variables before sc) (core_of y.default)) y rest) (sym is) in
    ap (λ (ns : List ℕ). optionals_checked sc ns (optionals_list rest)) more
    ∙ sym (ap (λ (z : Bool). goes_on sc before z x rest) (sym found ∙ t)) ∙ sym split ∙ so_far
