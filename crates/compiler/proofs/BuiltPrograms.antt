-- A program whose nodes are all built is served, holds no function of the prelude, and its image does what it does.
use Rattle.std.proofs.Common.{refl, sym, ap, subst, ◌∙◌, arith}
use Rattle.std.specs.Prelude.{◌≡◌, ℕ, zero, suc, ◌+◌, ◌≤◌, Bool, true, false, ◌&&◌, All, List, [], ◌∷◌, ◌++◌, map, slice_get, codes, Option, Some, None}
use Rattle.std.specs.Str.{chars}
use Rattle.std.specs.Option.{option_or}
use Rattle.lisp_base.specs.declared.values.Place.{Place}
use Rattle.lisp_base.specs.declared.values.Place.TheVariants as places
use Rattle.lisp_base.specs.declared.values.SymId.{SymId}
use Rattle.lisp_base.specs.declared.primitives.Primitive.{Primitive as Operation}
use Rattle.lisp_base.specs.declared.primitives.Primitive.TheVariants as op
use Rattle.lisp_base.specs.BaseNames.{base_names}
use Rattle.lisp_base.specs.Tables.{base_symbols}
use Rattle.core_form.specs.Tree.{Core, Quote, If, Progn, Primitive, The, Cores, no_core, core, place_of, Lambda, Top}
use Rattle.core_form.specs.State.{Symbol}
use Rattle.core_form.specs.Eval.{nodes_of_all}
use Rattle.core_form.specs.Checked.{TopsAreBuilt}
use Rattle.core_form.specs.Lawful.{symbol_of, definition, AreDefinitions, BeginWithNames}
use Rattle.compiler.specs.Code.{is_constant, is_file, is_character_type, is_one, is_served_call, is_served, are_served, forms_served}
use Rattle.compiler.specs.Parts.{plain_symbol, BeginsWithNames}
use Rattle.compiler.specs.Compiled.{IsNear}
use Rattle.compiler.specs.BuiltNodes.{is_built_call, unless_built, first_in, first_among, first_of_forms, BuiltProgramsMeet}
use Rattle.compiler.proofs.Nodes.{and_left, and_right}
use Rattle.compiler.proofs.Sizes.{all_nodes, is_near, is_short}
use Rattle.compiler.proofs.Theorem.{image_meets}

both : (a b : Bool) → a ≡ true → b ≡ true → (a && b) ≡ true
both a b h k = ap (λ (x : Bool). x && b) h ∙ k

-- ---- where there is none

none_left : (x y : Option Place) → option_or x y ≡ None → x ≡ None
none_left None y h = refl
none_left (Some p) y h = absurd (cc)

none_right : (x y : Option Place) → option_or x y ≡ None → y ≡ None
none_right None y h = h
none_right (Some p) y h = absurd (cc)

is_one_built : (b : Bool) (p : Place) (inside : Option Place) → unless_built b p inside ≡ None → b ≡ true
is_one_built true p inside h = refl
is_one_built false p inside h = absurd (cc)

none_inside : (b : Bool) (p : Place) (inside : Option Place) → unless_built b p inside ≡ None → inside ≡ None
none_inside true p inside h = h
none_inside false p inside h = absurd (cc)

never : (p : Place) → Some p ≡ None → ⊥
never p h = absurd (cc)

-- ---- where all nodes are built all forms are served

call_served : (p : Place) (q : Operation) (es : Cores) → is_built_call p q es ≡ true → are_served es ≡ true → is_served_call p q es (are_served es) ≡ true
call_served p op.ReadChar es h k = h
call_served p op.WriteChar es h k =
    both (is_file p) (is_one es && are_served es) (and_left (is_file p) (is_one es) h) (both (is_one es) (are_served es) (and_right (is_file p) (is_one es) h) k)
call_served p _ es h k = absurd (cc)

mutual
  node_served : (e : Core) → first_in e ≡ None → is_served e ≡ true
  node_served (Quote p v) h = is_one_built (is_constant v) p None h
  node_served (If p a b c) h =
      let rest = none_right (first_in a) (option_or (first_in b) (first_in c)) h in
      both (is_served a) (is_served b && is_served c) (node_served a (none_left (first_in a) (option_or (first_in b) (first_in c)) h))
      (both (is_served b) (is_served c) (node_served b (none_left (first_in b) (first_in c) rest)) (node_served c (none_right (first_in b) (first_in c) rest)))
  node_served (Progn p es) h = parts_served es h
  node_served (Primitive p q es) h =
      call_served p q es (is_one_built (is_built_call p q es) p (first_among es) h) (parts_served es (none_inside (is_built_call p q es) p (first_among es) h))
  node_served (The p t e) h =
      let k = is_one_built (is_file p && is_character_type t) p (first_in e) h in
      both (is_file p) (is_character_type t && is_served e) (and_left (is_file p) (is_character_type t) k)
      (both (is_character_type t) (is_served e) (and_right (is_file p) (is_character_type t) k) (node_served e (none_inside (is_file p && is_character_type t) p (first_in e) h)))
  node_served e h = absurd (never (place_of e) h)

  parts_served : (es : Cores) → first_among es ≡ None → are_served es ≡ true
  parts_served no_core h = refl
  parts_served (core e es) h =
      both (is_served e) (are_served es) (node_served e (none_left (first_in e) (first_among es) h)) (parts_served es (none_right (first_in e) (first_among es) h))

tops_served : (ts : List Top) → first_of_forms ts ≡ None → forms_served ts ≡ true
tops_served [] h = refl
tops_served (t ∷ ts) h =
    both (is_served t.core) (forms_served ts) (node_served t.core (none_left (first_in t.core) (first_of_forms ts) h)) (tops_served ts (none_right (first_in t.core) (first_of_forms ts) h))

-- ---- a definition has a node that isn't built

definition_unbuilt : (p : Place) (n : SymId) (k : ℕ) (l : Lambda) → first_in (definition p n k l) ≡ None → ⊥
definition_unbuilt p n k l h = never p h

no_prelude : (ts : List Top) → AreDefinitions ts → first_of_forms ts ≡ None → ts ≡ []
no_prelude [] d h = refl
no_prelude (t ∷ ts) d h =
    let k : first_in t.core ≡ None = none_left (first_in t.core) (first_of_forms ts) h in
    let is = d.0.is in
    absurd (definition_unbuilt (places.Prelude d.0.name) d.0.name d.0.function d.0.does (subst (λ (e : Core). first_in e ≡ None) is k))

-- ---- few nodes

same_nodes : (ts : List Top) → TopsAreBuilt ts → all_nodes ts ≡ nodes_of_all ts
same_nodes [] h = refl
same_nodes (t ∷ ts) h = let e = h.0.counted in let rest = same_nodes ts h.1 in omega (arith, e, rest)

are_near : (ts : List Top) → TopsAreBuilt ts → All (λ t. t.nodes ≤ 4000) ts → All IsNear ts
are_near [] b h k d lt = absurd (omega (arith, lt))
are_near (t ∷ ts) b h zero d lt = let e = b.0.counted in let few : t.nodes ≤ 4000 = h 0 t (omega arith) in is_near t (omega (arith, e, few))
are_near (t ∷ ts) b h (suc k) d lt = are_near ts b.1 (λ i x l. h (suc i) x (omega (arith, l))) k d (omega (arith, lt))

-- ---- the names NIL and T

nil_named : chars (codes "NIL") ≡ codes "NIL"
unfolding chars
nil_named = refl

truth_named : chars (codes "T") ≡ codes "T"
unfolding chars
truth_named = refl

first_named : (rest : List Symbol) → slice_get (map symbol_of base_symbols ++ rest) 0 ≡ Some (plain_symbol (chars (codes "NIL")))
unfolding base_names
first_named rest = refl

second_named : (rest : List Symbol) → slice_get (map symbol_of base_symbols ++ rest) 1 ≡ Some (plain_symbol (chars (codes "T")))
unfolding base_names
second_named rest = refl

begin_with_names : (symbols : List Symbol) → BeginWithNames symbols → BeginsWithNames symbols
begin_with_names symbols h = subst BeginsWithNames (sym h.1) (record {
  nil = first_named h.0 ∙ ap (λ (n : List ℕ). Some (plain_symbol n)) nil_named;
  truth = second_named h.0 ∙ ap (λ (n : List ℕ). Some (plain_symbol n)) truth_named;
})

-- ---- programs

pub built_programs_meet : BuiltProgramsMeet
built_programs_meet p lawful small none =
    let served = tops_served p.forms (none_right (first_of_forms p.prelude) (first_of_forms p.forms) none) in
    let near = are_near p.forms lawful.forms_built small.forms in
    let total = small.total in
    let same = same_nodes p.forms lawful.forms_built in
    let short = is_short p.forms (omega (arith, total, same)) in
    record {
      alone = no_prelude p.prelude lawful.prelude_defines (none_left (first_of_forms p.prelude) (first_of_forms p.forms) none);
      served = record { served = served; near = near; short = short };
      meets = image_meets p (begin_with_names p.symbols lawful.begins) served near short;
    }
