-- Items and parts one at a time.
use Rattle.std.proofs.Common.{◌≡◌, ℕ, zero, suc, ◌+◌, ◌<◌, ◌≤◌, Bool, true, false, ◌&&◌, ◌||◌, List, [], ◌∷◌, length, drop, slice_index_or, arith, sym, ap, ◌∙◌}
use Rattle.std.proofs.lemmas.List.{at_drop_more}
use Rattle.std.proofs.lemmas.Bool.{and_parts}
use Rattle.lisp_base.specs.declared.values.Val.{Val}
use Rattle.lisp_base.specs.declared.types.TypeSpec.{TypeSpec}
use Rattle.lisp_base.specs.Spec.{spec_size, specs_size}
use Rattle.lisp_base.specs.Sort.{same}
use Rattle.lisp_base.specs.Membership.{KindAt, SymbolKind, is_one_of, has, has_all, has_some}
use Rattle.lisp_base.specs.Tables.{Table}
use Rattle.lisp_base.specs.Reading.{spec_of}
use Rattle.lisp_base.specs.Laws.{specs_list}
use Rattle.lisp_base.specs.Lawful.{has_lawful_parts, all_lawful_parts}

-- ---- items

one_of_more : (items : List Val) (i : ℕ) (x v : Val) → i < length items → x ≡ slice_index_or items i x → is_one_of (drop i items) v ≡ (same x v || is_one_of (drop (i + 1) items) v)
one_of_more items i x v lt is = at_drop_more (λ (xs : List Val). is_one_of xs v) items i x lt ∙ ap (λ (y : Val). same y v || is_one_of (drop (i + 1) items) v) (sym is)

pub item_found : (items : List Val) (i : ℕ) (x v : Val) → i < length items → x ≡ slice_index_or items i x → is_one_of (drop i items) v ≡ is_one_of items v → same x v ≡ true → is_one_of items v ≡ true
item_found items i x v lt is so_far s = sym so_far ∙ one_of_more items i x v lt is ∙ ap (λ (b : Bool). b || is_one_of (drop (i + 1) items) v) s

pub item_passed : (items : List Val) (i : ℕ) (x v : Val) → i < length items → x ≡ slice_index_or items i x → is_one_of (drop i items) v ≡ is_one_of items v → same x v ≡ false → is_one_of (drop (i + 1) items) v ≡ is_one_of items v
item_passed items i x v lt is so_far s = sym (ap (λ (b : Bool). b || is_one_of (drop (i + 1) items) v) s) ∙ sym (one_of_more items i x v lt is) ∙ so_far

-- ---- parts

pub part_lawful : (table : Table) (ps : List TypeSpec) (i : ℕ) (d : TypeSpec) → i < length ps → all_lawful_parts table (specs_list ps) ≡ true → has_lawful_parts table (spec_of (slice_index_or ps i d)) ≡ true
part_lawful table [] i d lt h = absurd (omega arith)
part_lawful table (p ∷ ps) zero d lt h = (and_parts (has_lawful_parts table (spec_of p)) (all_lawful_parts table (specs_list ps)) h).0
part_lawful table (p ∷ ps) (suc i) d lt h = part_lawful table ps i d (omega arith) (and_parts (has_lawful_parts table (spec_of p)) (all_lawful_parts table (specs_list ps)) h).1

pub part_size_within : (ps : List TypeSpec) (i : ℕ) (d : TypeSpec) → i < length ps → spec_size (spec_of (slice_index_or ps i d)) ≤ specs_size (specs_list ps)
part_size_within [] i d lt = absurd (omega arith)
part_size_within (p ∷ ps) zero d lt = omega arith
part_size_within (p ∷ ps) (suc i) d lt = omega (arith, part_size_within ps i d (omega arith))

pub size_more : (ps : List TypeSpec) (i : ℕ) (x : TypeSpec) → i < length ps → x ≡ slice_index_or ps i x → specs_size (specs_list (drop i ps)) ≡ spec_size (spec_of x) + specs_size (specs_list (drop (i + 1) ps))
size_more ps i x lt is = at_drop_more (λ (xs : List TypeSpec). specs_size (specs_list xs)) ps i x lt ∙ ap (λ (y : TypeSpec). spec_size (spec_of y) + specs_size (specs_list (drop (i + 1) ps))) (sym is)

all_more : (objects : KindAt) (symbols : SymbolKind) (ps : List TypeSpec) (i : ℕ) (x : TypeSpec) (v : Val) → i < length ps → x ≡ slice_index_or ps i x →
    has_all objects symbols (specs_list (drop i ps)) v ≡ (has objects symbols (spec_of x) v && has_all objects symbols (specs_list (drop (i + 1) ps)) v)
all_more objects symbols ps i x v lt is =
    at_drop_more (λ (xs : List TypeSpec). has_all objects symbols (specs_list xs) v) ps i x lt ∙
    ap (λ (y : TypeSpec). has objects symbols (spec_of y) v && has_all objects symbols (specs_list (drop (i + 1) ps)) v) (sym is)

some_more : (objects : KindAt) (symbols : SymbolKind) (ps : List TypeSpec) (i : ℕ) (x : TypeSpec) (v : Val) → i < length ps → x ≡ slice_index_or ps i x →
    has_some objects symbols (specs_list (drop i ps)) v ≡ (has objects symbols (spec_of x) v || has_some objects symbols (specs_list (drop (i + 1) ps)) v)
some_more objects symbols ps i x v lt is =
    at_drop_more (λ (xs : List TypeSpec). has_some objects symbols (specs_list xs) v) ps i x lt ∙
    ap (λ (y : TypeSpec). has objects symbols (spec_of y) v || has_some objects symbols (specs_list (drop (i + 1) ps)) v) (sym is)

-- what is known after one part more
pub all_passed : (objects : KindAt) (symbols : SymbolKind) (ps : List TypeSpec) (i : ℕ) (x : TypeSpec) (v : Val) (b : Bool) → i < length ps → x ≡ slice_index_or ps i x →
    has_all objects symbols (specs_list (drop i ps)) v ≡ has_all objects symbols (specs_list ps) v → b ≡ has objects symbols (spec_of x) v → b ≡ true →
    has_all objects symbols (specs_list (drop (i + 1) ps)) v ≡ has_all objects symbols (specs_list ps) v
all_passed objects symbols ps i x v b lt is so_far e t =
    sym (ap (λ (y : Bool). y && has_all objects symbols (specs_list (drop (i + 1) ps)) v) (sym e ∙ t)) ∙ sym (all_more objects symbols ps i x v lt is) ∙ so_far

pub all_fails : (objects : KindAt) (symbols : SymbolKind) (ps : List TypeSpec) (i : ℕ) (x : TypeSpec) (v : Val) (b : Bool) → i < length ps → x ≡ slice_index_or ps i x →
    has_all objects symbols (specs_list (drop i ps)) v ≡ has_all objects symbols (specs_list ps) v → b ≡ has objects symbols (spec_of x) v → b ≡ false →
    false ≡ has_all objects symbols (specs_list ps) v
all_fails objects symbols ps i x v b lt is so_far e t =
    sym (ap (λ (y : Bool). y && has_all objects symbols (specs_list (drop (i + 1) ps)) v) (sym e ∙ t)) ∙ sym (all_more objects symbols ps i x v lt is) ∙ so_far

pub some_passed : (objects : KindAt) (symbols : SymbolKind) (ps : List TypeSpec) (i : ℕ) (x : TypeSpec) (v : Val) (b : Bool) → i < length ps → x ≡ slice_index_or ps i x →
    has_some objects symbols (specs_list (drop i ps)) v ≡ has_some objects symbols (specs_list ps) v → b ≡ has objects symbols (spec_of x) v → b ≡ false →
    has_some objects symbols (specs_list (drop (i + 1) ps)) v ≡ has_some objects symbols (specs_list ps) v
some_passed objects symbols ps i x v b lt is so_far e t =
    sym (ap (λ (y : Bool). y || has_some objects symbols (specs_list (drop (i + 1) ps)) v) (sym e ∙ t)) ∙ sym (some_more objects symbols ps i x v lt is) ∙ so_far

pub some_holds : (objects : KindAt) (symbols : SymbolKind) (ps : List TypeSpec) (i : ℕ) (x : TypeSpec) (v : Val) (b : Bool) → i < length ps → x ≡ slice_index_or ps i x →
    has_some objects symbols (specs_list (drop i ps)) v ≡ has_some objects symbols (specs_list ps) v → b ≡ has objects symbols (spec_of x) v → b ≡ true →
    true ≡ has_some objects symbols (specs_list ps) v
some_holds objects symbols ps i x v b lt is so_far e t =
    sym (ap (λ (y : Bool). y || has_some objects symbols (specs_list (drop (i + 1) ps)) v) (sym e ∙ t)) ∙ sym (some_more objects symbols ps i x v lt is) ∙ so_far
