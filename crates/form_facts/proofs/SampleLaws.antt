-- What is so of each sample, which is no integer.
use Rattle.std.specs.Prelude.{◌≡◌, refl, ℕ, ◌+◌, ◌≤◌, Bool, true, false, ◌&&◌, ◌==◌, if◌then◌else◌, List, [], ◌∷◌, ◌++◌, map, flat_map, Some}
use Rattle.std.proofs.Common.{ap, sym, ◌∙◌, arith}
use Rattle.std.proofs.lemmas.Bool.{eq-eqb, eqb-true}
use Rattle.std.proofs.lemmas.List.Folds.{list_all-append}
use Rattle.lisp_base.specs.declared.types.Bound.{Bound}
use Rattle.lisp_base.specs.declared.types.TypeSpec.{TypeSpec}
use Rattle.lisp_base.specs.declared.values.Val.{Val}
use Rattle.lisp_base.specs.declared.values.Val.TheVariants.{Int, Char, Sym, Ref}
use Rattle.lisp_base.specs.declared.values.SymId.{SymId}
use Rattle.lisp_base.specs.declared.values.SymKind.{SymKind}
use Rattle.lisp_base.specs.declared.values.SymKind.TheVariants as symbol_kinds
use Rattle.lisp_base.specs.Reading.{spec_of}
use Rattle.lisp_base.specs.Laws.{specs_list}
use Rattle.lisp_base.specs.Spec.{Specs, spec, And}
use Rattle.lisp_base.specs.Membership.{SymbolKind, in_range, is_integer}
use Rattle.core_form.specs.declared.tree.Parameter.{Parameter as Parameter'}
use Rattle.core_form.specs.declared.tree.Variable.{Variable}
use Rattle.core_form.specs.declared.tree.Variable.TheVariants.{Lexical}
use Rattle.core_form.specs.Reading.{parameter_of}
use Rattle.core_form.specs.Facts.{declared_integer, lexical_number, together, is_within_integers, samples, sample_symbols, greatest_letter, greatest_symbol, not_integer}
use Rattle.form_facts.specs.declared.samples.Sample.{Sample}
use Rattle.form_facts.specs.declared.samples.Sample.TheVariants as sample
use Rattle.form_facts.specs.Samples.{value_of, other_symbol, lacks_all, within_integers}

pub none_in_range : (lo hi : Bound) (g : ℕ) (s : Sample) → in_range lo hi (value_of g s) ≡ false
none_in_range lo hi g sample.Cons = refl
none_in_range lo hi g sample.Vector = refl
none_in_range lo hi g sample.Text = refl
none_in_range lo hi g sample.Function = refl
none_in_range lo hi g (sample.Letter c) = refl
none_in_range lo hi g (sample.Named n) = refl
none_in_range lo hi g (sample.Other kind) = refl

pub no_integer : (g : ℕ) (s : Sample) → is_integer (value_of g s) ≡ false
no_integer g sample.Cons = refl
no_integer g sample.Vector = refl
no_integer g sample.Text = refl
no_integer g sample.Function = refl
no_integer g (sample.Letter c) = refl
no_integer g (sample.Named n) = refl
no_integer g (sample.Other kind) = refl

-- ---- the three symbols above those that are named

taken : {A : Type 0} (b : Bool) (x y : A) → b ≡ true → (if b then x else y) ≡ x
taken b x y h = ap (λ (c : Bool). if c then x else y) h

passed : {A : Type 0} (b : Bool) (x y : A) → b ≡ false → (if b then x else y) ≡ y
passed b x y h = ap (λ (c : Bool). if c then x else y) h

apart : (a b : ℕ) (c : Bool) → (a == b) ≡ c → (a ≡ b → ⊥) → c ≡ false
apart a b true h k = absurd (k (eqb-true a b h))
apart a b false h k = refl

pub other_kind : (g : ℕ) (kinds : SymbolKind) (kind : SymKind) → sample_symbols g kinds (other_symbol g kind) ≡ Some kind
other_kind g kinds symbol_kinds.Plain = taken (g + 1 == g + 1) _ _ (eq-eqb (g + 1) (g + 1) refl)
other_kind g kinds symbol_kinds.Keyword =
    passed (g + 2 == g + 1) _ _ (apart (g + 2) (g + 1) (g + 2 == g + 1) refl (λ e. omega arith)) ∙ taken (g + 2 == g + 2) _ _ (eq-eqb (g + 2) (g + 2) refl)
other_kind g kinds symbol_kinds.Fresh =
    passed (g + 3 == g + 1) _ _ (apart (g + 3) (g + 1) (g + 3 == g + 1) refl (λ e. omega arith))
    ∙ passed (g + 3 == g + 2) _ _ (apart (g + 3) (g + 2) (g + 3 == g + 2) refl (λ e. omega arith))
    ∙ taken (g + 3 == g + 3) _ _ (eq-eqb (g + 3) (g + 3) refl)

-- ---- all samples

abbrev pub first_samples : (letter : ℕ) → List Sample
first_samples letter =
    sample.Cons ∷ sample.Vector ∷ sample.Text ∷ sample.Function ∷ sample.Letter letter ∷ sample.Named 0 ∷ sample.Named 1 ∷ sample.Other symbol_kinds.Plain ∷ sample.Other symbol_kinds.Keyword ∷ sample.Other symbol_kinds.Fresh ∷ []

pub samples_are : (named : List Val) → map (value_of (greatest_symbol named)) (first_samples (greatest_letter named + 1)) ++ flat_map not_integer named ≡ samples named
samples_are named = refl

pub lacks_both : (g : ℕ) (kinds : SymbolKind) (ts : Specs) (xs ys : List Val) → lacks_all g kinds ts (xs ++ ys) ≡ (lacks_all g kinds ts xs && lacks_all g kinds ts ys)
lacks_both g kinds ts xs ys = list_all-append _ xs ys

pub least_symbol : (vs : List Val) → 1 ≤ greatest_symbol vs
least_symbol [] = omega arith
least_symbol (Int z ∷ vs) = least_symbol vs
least_symbol (Char c ∷ vs) = least_symbol vs
least_symbol (Sym s ∷ vs) = let h = least_symbol vs in omega arith
least_symbol (Ref o ∷ vs) = least_symbol vs

-- the types of a variable, all together
pub together_are : (ts : List TypeSpec) → specs_list ts ≡ together (map spec_of ts)
together_are [] = refl
together_are (t ∷ ts) = ap (λ (us : Specs). spec (spec_of t) us) (together_are ts)

-- a variable of these types, of which this was found
pub declared_are : (kinds : SymbolKind) (x : Parameter') (number : ℕ) (name : SymId) (types : List TypeSpec) (b : Bool) → x.variable ≡ Lexical number name → types ≡ x.types.items → b ≡ within_integers kinds (specs_list types) →
    declared_integer kinds (parameter_of x) ≡ (if b then number ∷ [] else [])
declared_are kinds x number name types b v t h =
    let within : Bool = is_within_integers kinds (And (together (map spec_of x.types.items))) in
    let same : b ≡ within = h ∙ ap (λ ts. within_integers kinds (specs_list ts)) t ∙ ap (within_integers kinds) (together_are x.types.items) in
    ap (λ (y : Variable). if within then lexical_number y else []) v ∙ sym (ap (λ (c : Bool). if c then number ∷ [] else []) same)
