-- The tree of a form at the top is lawful, and stays lawful as objects and symbols are added.
use Rattle.std.specs.Prelude.{◌≡◌, refl, ℕ, ◌<◌, List, [], ◌++◌, length, map, slice_get, Contains, Option, Some, None}
use Rattle.std.proofs.Common.{ap, sym, subst, ◌∙◌, arith}
use Rattle.std.proofs.lemmas.List.{map-append}
use Rattle.lisp_base.specs.declared.values.ObjId.{ObjId}
use Rattle.lisp_base.specs.declared.values.Place.{Place}
use Rattle.lisp_base.specs.declared.values.SymId.{SymId}
use Rattle.lisp_base.specs.declared.values.Val.{Val}
use Rattle.lisp_base.specs.declared.values.Val.TheVariants.{Int, Char, Sym, Ref}
use Rattle.lisp_base.specs.Sort.{number_of, index_of}
use Rattle.core_form.specs.Tree.{Core}
use Rattle.core_form.specs.State.{Object, Pair, Vector, Str, Fun, Cell}
use Rattle.core_form.specs.Facts.{functions_in}
use Rattle.core_form.specs.Checked.{no_scope, TopIsBuilt}
use Rattle.core_form.specs.Eval.{Program}
use Rattle.core_form.specs.Lawful.{object_of, top_symbols, types_in, IsDatum, Reaches, itself, within, values_in, values_within, CountFrom, function_number, bound_in, TopIsLawful}
use Rattle.expansion.specs.Scopes.{Scope}
use Rattle.expansion.specs.Steps.{World, gives}
use Rattle.expansion.specs.Expanding.{expand}
use Rattle.expansion_laws.specs.Counts.{IsCounted}
use Rattle.expansion_laws.specs.There.{Stores, stores, stores_of, Grown, Holds, HasData, IsExpanded}
use Rattle.expansion_laws.specs.LawfulTrees.{top_of, IsCountedAnew, IsAtTop, TreesAreLawful, LawfulTreesStay, ProgramsHold}
use Rattle.expansion_laws.proofs.Counting.{trees_are_counted}
use Rattle.expansion_laws.proofs.CheckedMaking.{trees_are_checked, symbols_have_functions}
use Rattle.expansion_laws.proofs.TestedMaking.{types_are_tested}
use Rattle.expansion_laws.proofs.ThereLists.{all_map}
use Rattle.expansion_laws.proofs.ThereStores.{get_kept, type_kept, symbol_stays, place_stays}
use Rattle.expansion_laws.proofs.ThereLaws.{data_are_there, tops_have_data, as_many}
use Rattle.expansion_laws.proofs.LawfulTops.{tops_are_bound}

-- ---- one form at the top

counted_from : (n m : ℕ) (ns : List ℕ) → n ≡ m → CountFrom n ns → CountFrom m ns
counted_from n m ns is h = subst (λ (k : ℕ). CountFrom k ns) is h

module _ (fuel levels chain : ℕ) (sc : Scope) (v : Val) (w after : World) (e : Core) (is : expand fuel levels chain sc v w ≡ gives e after) (anew : IsCountedAnew w) (top : IsAtTop sc) where
  counted : IsCounted w e after
  counted = trees_are_counted fuel levels chain sc v w e after is

  binders_count : CountFrom 1 (bound_in e)
  binders_count = counted_from w.next 1 (bound_in e) anew.next counted.binders

  functions_count : CountFrom 0 (map function_number (functions_in e))
  functions_count = counted_from w.functions 0 (map function_number (functions_in e)) anew.functions counted.numbers

  is_built : (place : Place) → TopIsBuilt (top_of place e after)
  is_built place = record {
    checked = trees_are_checked fuel levels chain sc no_scope v w after e (tops_are_bound sc no_scope top) is;
    counted = omega (arith, counted.nodes, anew.nodes);
  }

  is_lawful : (place : Place) (p : Program) → HasData p (top_of place e after) → TopIsLawful p (top_of place e after)
  is_lawful place p h = record {
    symbols = h.symbols;
    types = h.types;
    data_there = h.data_there;
    tags = h.tags;
    binders = binders_count;
    functions = functions_count;
    tested = types_are_tested fuel levels chain sc v w after e 1 top.variables binders_count is;
    functions_set = symbols_have_functions fuel levels chain sc v w after e is;
  }

pub trees_are_lawful : TreesAreLawful
trees_are_lawful fuel levels chain sc v w after e place is anew world scope top there here =
    let made : IsExpanded w after e = data_are_there fuel levels chain sc v w after e is world scope there in
    let few : IsCounted w e after = trees_are_counted fuel levels chain sc v w e after is in
    record {
      sound = made.sound;
      grown = made.grown;
      built = is_built fuel levels chain sc v w after e is anew top place;
      few = few.few;
      lawful = λ p h. is_lawful fuel levels chain sc v w after e is anew top place p (tops_have_data p (stores_of after) (top_of place e after) h (place_stays made.grown place here) made.tree);
    }

-- ---- programs: one begins with the objects of another, and has its symbols

module _ (p q : Program) (more : List Object) (begins : q.heap ≡ p.heap ++ more) (symbol_kept : (x : SymId) → number_of x < length p.symbols → number_of x < length q.symbols) where
  object_kept : (o : ObjId) (x : Object) → slice_get p.heap (index_of o) ≡ Some x → slice_get q.heap (index_of o) ≡ Some x
  object_kept o x e = ap (λ (xs : List Object). slice_get xs (index_of o)) begins ∙ get_kept p.heap more (index_of o) x e

  object_datum : (x : Option Object) (o : ObjId) → slice_get p.heap (index_of o) ≡ x → IsDatum p (Ref o) → IsDatum q (Ref o)
  object_datum None o e d = elim (rw e at d) [ ]
  object_datum (Some (Pair car cdr)) o e d = rw (object_kept o (Pair car cdr) e) tt
  object_datum (Some (Vector items)) o e d = rw (object_kept o (Vector items) e) (rw e at d)
  object_datum (Some (Str letters)) o e d = rw (object_kept o (Str letters) e) (rw e at d)
  object_datum (Some (Fun k closed)) o e d = elim (rw e at d) [ ]
  object_datum (Some (Cell u)) o e d = elim (rw e at d) [ ]

  datum_kept : (v : Val) → IsDatum p v → IsDatum q v
  datum_kept (Int z) d = d
  datum_kept (Char c) d = d
  datum_kept (Sym x) d = symbol_kept x d
  datum_kept (Ref o) d = object_datum (slice_get p.heap (index_of o)) o refl d

  object_values : (x : Option Object) (o : ObjId) → slice_get p.heap (index_of o) ≡ x → IsDatum p (Ref o) → values_in q (Ref o) ≡ values_in p (Ref o)
  object_values None o e d = elim (rw e at d) [ ]
  object_values (Some x) o e d = ap values_within (object_kept o x e ∙ sym e)

  values_kept : (v : Val) → IsDatum p v → values_in q v ≡ values_in p v
  values_kept (Int z) d = refl
  values_kept (Char c) d = refl
  values_kept (Sym x) d = refl
  values_kept (Ref o) d = object_values (slice_get p.heap (index_of o)) o refl d

  -- a value of data reaches nothing new
  reached_before : (v u : Val) → ((x : Val) → Reaches p v x → IsDatum p x) → Reaches q v u → Reaches p v u
  reached_before v u all_data itself = itself
  reached_before v x all_data (within u w r c) =
      let before : Reaches p v u = reached_before v u all_data r in
      within u w before (subst (λ (vs : List Val). Contains vs w) (values_kept u (all_data u before)) c)

  data_kept : (v u : Val) → ((x : Val) → Reaches p v x → IsDatum p x) → Reaches q v u → IsDatum q u
  data_kept v u all_data r = datum_kept u (all_data u (reached_before v u all_data r))

-- ---- growth

heap_begins : (old new : Stores) (p q : Program) (g : Grown old new) → Holds p old → Holds q new → q.heap ≡ p.heap ++ map object_of g.objects.0
heap_begins old new p q g hp hq =
    hq.heap ∙ (ap (map object_of) g.objects.1 ∙ (map-append object_of old.heap g.objects.0 ∙ ap (λ (xs : List Object). xs ++ map object_of g.objects.0) (sym hp.heap)))

symbol_held : (old new : Stores) (p q : Program) → Grown old new → Holds p old → Holds q new → (x : SymId) → number_of x < length p.symbols → number_of x < length q.symbols
symbol_held old new p q g hp hq x l = rw (as_many q new hq) (symbol_stays g x (rw (as_many p old hp) at l))

pub lawful_trees_stay : LawfulTreesStay
lawful_trees_stay old new p q t g hp hq h =
    let kept : (x : SymId) → number_of x < length p.symbols → number_of x < length q.symbols = symbol_held old new p q g hp hq in
    record {
      symbols = all_map (top_symbols t) kept h.symbols;
      types = λ table e. all_map (types_in t.core) (type_kept old (stores table []) (λ x l. rw e (kept x (rw (as_many p old hp) l)))) (h.types old.table (sym (as_many p old hp)));
      data_there = λ v u c r. data_kept p q (map object_of g.objects.0) (heap_begins old new p q g hp hq) kept v u (λ x s. h.data_there v x c s) r;
      tags = h.tags;
      binders = h.binders;
      functions = h.functions;
      tested = h.tested;
      functions_set = h.functions_set;
    }

pub programs_hold : ProgramsHold
programs_hold s = record { heap = refl; symbols = refl }
