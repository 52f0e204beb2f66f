-- The sets of lists of items and of parts, one more at a time.
use Rattle.std.proofs.Common.{◌≡◌, ℕ, zero, suc, ◌+◌, ◌<◌, Bool, true, false, ◌&&◌, ◌||◌, List, [], ◌∷◌, ◌++◌, length, take, drop, slice_index_or, Result, IfOk, arith, refl, sym, ap, ◌∙◌, subst}
use Rattle.std.specs.Prelude.{Some}
use Rattle.std.specs.declared.alloc.AllocError.{AllocError}
use Rattle.std.proofs.lemmas.Result.{IfOk-weaker}
use Rattle.std.proofs.lemmas.List.{at_drop_more, take-append-drop}
use Rattle.std.proofs.lemmas.Bool.{and_parts}
use Rattle.lisp_base.specs.declared.values.Val.{Val}
use Rattle.lisp_base.specs.declared.types.TypeSpec.{TypeSpec}
use Rattle.lisp_base.specs.Spec.{Spec, Member}
use Rattle.lisp_base.specs.Sort.{same}
use Rattle.lisp_base.specs.Membership.{KindAt, SymbolKind, is_one_of, has}
use Rattle.lisp_base.specs.Tables.{Table}
use Rattle.lisp_base.specs.Reading.{spec_of}
use Rattle.lisp_base.specs.Laws.{specs_list}
use Rattle.lisp_base.specs.Lawful.{has_lawful_parts, all_lawful_parts}
use Rattle.type_lattice.specs.declared.ty.Ty.{Ty}
use Rattle.type_lattice.specs.declared.walk.Combination.{Combination}
use Rattle.type_lattice.specs.declared.walk.Combination.TheVariants.{Union, Meet}
use Rattle.type_lattice.specs.Walks.{combined}
use Rattle.type_lattice.specs.Values.{Value, is_value}
use Rattle.type_lattice.specs.Members.{is_in}
use Rattle.type_lattice.specs.Described.{value_of, IsOver, Describes, DescribesAll, has_combined}

-- ---- items

pub joined : (xs ys zs : List Val) (k : ℕ) → xs ≡ take k zs → ys ≡ drop k zs → xs ++ ys ≡ zs
joined xs ys zs k e f = ap (λ (x : List Val). x ++ ys) e ∙ ap (λ (x : List Val). take k zs ++ x) f ∙ take-append-drop k zs

or_assoc : (a b c : Bool) → ((a || b) || c) ≡ (a || (b || c))
or_assoc true b c = refl
or_assoc false b c = refl

one_of_append : (xs ys : List Val) (v : Val) → is_one_of (xs ++ ys) v ≡ (is_one_of xs v || is_one_of ys v)
one_of_append [] ys v = refl
one_of_append (x ∷ xs) ys v = ap (λ (t : Bool). same x v || t) (one_of_append xs ys v) ∙ sym (or_assoc (same x v) (is_one_of xs v) (is_one_of ys v))

pub describes_halves : (table : Table) (xs ys zs : List Val) (a b t : Ty) → xs ++ ys ≡ zs → Describes table (Member xs) a → Describes table (Member ys) b →
    ((v : Value) → is_in t v ≡ (is_in a v || is_in b v)) → Describes table (Member zs) t
describes_halves table xs ys zs a b t s h k u = subst (λ (x : List Val). Describes table (Member x) t) s
    (λ objects symbols over v x e l.
    u x ∙ ap (λ (y : Bool). y || is_in b x) (h objects symbols over v x e l) ∙ ap (λ (y : Bool). is_one_of xs v || y) (k objects symbols over v x e l) ∙ sym (one_of_append xs ys v))

-- ---- parts

-- what is known of the first parts, with the rest, says what all do
abbrev pub GoesOn : Combination → Table → List TypeSpec → Ty → List TypeSpec → Type 0
GoesOn how table all t rest =
    (objects : KindAt) (symbols : SymbolKind) → IsOver table symbols → (v : Val) (x : Value) →
    value_of objects symbols v ≡ Some x → is_value x ≡ true →
    combined how (is_in t x) (has_combined how objects symbols (specs_list rest) v) ≡ has_combined how objects symbols (specs_list all) v

pub begins_union : (table : Table) (all : List TypeSpec) (t : Ty) → ((v : Value) → is_value v ≡ true → is_in t v ≡ false) → GoesOn Union table all t all
begins_union table all t h objects symbols over v x e l = ap (λ (y : Bool). y || has_combined Union objects symbols (specs_list all) v) (h x l)

pub begins_meet : (table : Table) (all : List TypeSpec) (t : Ty) → ((v : Value) → is_value v ≡ true → is_in t v ≡ true) → GoesOn Meet table all t all
begins_meet table all t h objects symbols over v x e l = ap (λ (y : Bool). y && has_combined Meet objects symbols (specs_list all) v) (h x l)

combined_assoc : (how : Combination) (a b c : Bool) → combined how (combined how a b) c ≡ combined how a (combined how b c)
combined_assoc Union true b c = refl
combined_assoc Union false b c = refl
combined_assoc Meet true b c = refl
combined_assoc Meet false b c = refl

first_part : (how : Combination) (objects : KindAt) (symbols : SymbolKind) (p : TypeSpec) (ps : List TypeSpec) (v : Val) →
    has_combined how objects symbols (specs_list (p ∷ ps)) v ≡ combined how (has objects symbols (spec_of p) v) (has_combined how objects symbols (specs_list ps) v)
first_part Union objects symbols p ps v = refl
first_part Meet objects symbols p ps v = refl

pub one_part_more : (how : Combination) (table : Table) (all : List TypeSpec) (i : ℕ) (p : TypeSpec) (t one both : Ty) → i < length all → p ≡ slice_index_or all i p →
    GoesOn how table all t (drop i all) → Describes table (spec_of p) one → ((v : Value) → is_in both v ≡ combined how (is_in t v) (is_in one v)) →
    GoesOn how table all both (drop (i + 1) all)
one_part_more how table all i p t one both lt is m h u objects symbols over v x e l =
    let rest = drop (i + 1) all in
    let opened : has_combined how objects symbols (specs_list (drop i all)) v ≡ has_combined how objects symbols (specs_list (p ∷ rest)) v =
    at_drop_more (λ (ps : List TypeSpec). has_combined how objects symbols (specs_list ps) v) all i p lt ∙ ap (λ (y : TypeSpec). has_combined how objects symbols (specs_list (y ∷ rest)) v) (sym is) in
    ap (λ (y : Bool). combined how y (has_combined how objects symbols (specs_list rest) v)) (u x ∙ ap (λ (y : Bool). combined how (is_in t x) y) (h objects symbols over v x e l)) ∙
    combined_assoc how (is_in t x) (has objects symbols (spec_of p) v) (has_combined how objects symbols (specs_list rest) v) ∙
    ap (λ (y : Bool). combined how (is_in t x) y) (sym (opened ∙ first_part how objects symbols p rest v)) ∙
    m objects symbols over v x e l

or_false : (a : Bool) → (a || false) ≡ a
or_false true = refl
or_false false = refl

and_true : (a : Bool) → (a && true) ≡ a
and_true true = refl
and_true false = refl

combined_none : (how : Combination) (objects : KindAt) (symbols : SymbolKind) (a : Bool) (v : Val) → combined how a (has_combined how objects symbols (specs_list []) v) ≡ a
combined_none Union objects symbols a v = or_false a
combined_none Meet objects symbols a v = and_true a

none_left : (all : List TypeSpec) (i : ℕ) → length all ≡ i → drop i all ≡ []
none_left [] zero h = refl
none_left [] (suc i) h = absurd (omega arith)
none_left (p ∷ ps) zero h = absurd (omega arith)
none_left (p ∷ ps) (suc i) h = none_left ps i (omega arith)

pub all_parts : (how : Combination) (table : Table) (all : List TypeSpec) (i : ℕ) (t : Ty) → length all ≡ i → GoesOn how table all t (drop i all) → DescribesAll how table (specs_list all) t
all_parts how table all i t n m objects symbols over v x e l =
    sym (combined_none how objects symbols (is_in t x) v) ∙
    ap (λ (ps : List TypeSpec). combined how (is_in t x) (has_combined how objects symbols (specs_list ps) v)) (sym (none_left all i n)) ∙
    m objects symbols over v x e l

pub part_lawful : (table : Table) (ps : List TypeSpec) (i : ℕ) (d : TypeSpec) → i < length ps → all_lawful_parts table (specs_list ps) ≡ true → has_lawful_parts table (spec_of (slice_index_or ps i d)) ≡ true
part_lawful table [] i d lt h = absurd (omega arith)
part_lawful table (p ∷ ps) zero d lt h = (and_parts (has_lawful_parts table (spec_of p)) (all_lawful_parts table (specs_list ps)) h).0
part_lawful table (p ∷ ps) (suc i) d lt h = part_lawful table ps i d (omega arith) (and_parts (has_lawful_parts table (spec_of p)) (all_lawful_parts table (specs_list ps)) h).1

-- ---- a specifier by its variant

pub lift : (table : Table) (s : TypeSpec) (t : Spec) (r : Result Ty AllocError) → spec_of s ≡ t → IfOk r (λ (set : Ty). (table : Table) → Describes table t set) → IfOk r (Describes table (spec_of s))
lift table s t r e h = subst (λ (x : Spec). IfOk r (Describes table x)) (sym e) (IfOk-weaker r _ _ (λ (set : Ty) k. k table) h)
