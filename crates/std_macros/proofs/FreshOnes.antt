-- Fresh symbols, made one after another.
use Rattle.std.proofs.Common.{◌≡◌, ◌<◌, ◌≤◌, ◌+◌, ◌-◌, ℕ, zero, suc, Bool, true, false, List, [], ◌∷◌, ◌++◌, Option, Some, None, Result, Ok, Err, nat_lt, length, refl, sym, ap, ◌∙◌, subst, arith, append_assoc, if◌then◌else◌}
use Rattle.std.proofs.lemmas.List.{append-nil}
use Rattle.std.specs.Option.{option_map, option_and_then}
use Rattle.lisp_base.specs.declared.values.Val.{Val}
use Rattle.lisp_base.specs.declared.values.Val.TheVariants.{Sym}
use Rattle.lisp_base.specs.declared.values.SymId.{SymId}
use Rattle.lisp_base.specs.declared.symbols.SymFault.{SymFault}
use Rattle.lisp_base.specs.Sort.{symbol}
use Rattle.lisp_base.specs.Tables.{Table, Symbol, make_table, most_symbols, added, made_fresh}
use Rattle.std_macros.specs.Expanding.{KeepsSymbols, fresh_symbols}

-- ---- what a table keeps

pub keeps_same : (t : Table) → KeepsSymbols t t
keeps_same t = ([], sym (append-nil t.symbols))

pub keeps_on : (t u v : Table) → KeepsSymbols t u → KeepsSymbols u v → KeepsSymbols t v
keeps_on t u v (m, is) (n, js) = (m ++ n, js ∙ (ap (λ (l : List Symbol). l ++ n) is ∙ append_assoc t.symbols m n))

abbrev table_in : Table → Option (SymId × Table) → Table
table_in t None = t
table_in t (Some found) = found.1

added_keeps : (s : Symbol) (n : ℕ) (t u : Table) (id : SymId) → added s n t ≡ Some (id, u) → KeepsSymbols t u
added_keeps s n t u id e = by (nat_lt (length t.symbols) most_symbols) e
  where
    by : (b : Bool) → if◌then◌else◌ {A = Option (SymId × Table)} b (Some (symbol (length t.symbols), make_table (t.symbols ++ s ∷ []) n)) None ≡ Some (id, u) → KeepsSymbols t u
    by true e = subst (KeepsSymbols t) (ap (table_in t) e) (s ∷ [], refl)
    by false e = subst (KeepsSymbols t) (ap (table_in t) e) (keeps_same t)

pub fresh_keeps : (t u : Table) (id : SymId) → made_fresh t ≡ Some (id, u) → KeepsSymbols t u
fresh_keeps t u id e = added_keeps _ _ t u id e

-- ---- the fault of a result

abbrev fault_or : {S : Type 0} → SymFault → Result S SymFault → SymFault
fault_or f (Ok v) = f
fault_or f (Err g) = g

pub same_fault : {S T : Type 0} (f g : SymFault) → ◌≡◌ {A = Result S SymFault} (Err f) (Err g) → ◌≡◌ {A = Result T SymFault} (Err f) (Err g)
same_fault f g e = ap Err (ap (fault_or f) e)

-- ---- several

abbrev after_first : SymId → List Val × Table → List Val × Table
after_first id others = (Sym id ∷ others.0, others.1)

abbrev after_made : List Val → List Val × Table → List Val × Table
after_made vs others = (vs ++ others.0, others.1)

one_more : (n : ℕ) (t : Table) (found : Option (SymId × Table)) → made_fresh t ≡ found → fresh_symbols (suc n) t ≡ option_and_then (λ made. option_map (after_first made.0) (fresh_symbols n made.1)) found
unfolding fresh_symbols
one_more n t found is = ap (option_and_then (λ (made : SymId × Table). option_map (after_first made.0) (fresh_symbols n made.1))) is

none_more : (t : Table) → fresh_symbols zero t ≡ Some ([], t)
unfolding fresh_symbols
none_more t = refl

joins : (vs new : List Val) (id : SymId) (o : Option (List Val × Table)) → new ≡ vs ++ Sym id ∷ [] → option_map (after_made vs) (option_map (after_first id) o) ≡ option_map (after_made new) o
joins vs new id None is = refl
joins vs new id (Some r) is = ap (λ (l : List Val). Some (l, r.1)) (sym (append_assoc vs (Sym id ∷ []) r.0) ∙ ap (λ (l : List Val). l ++ r.0) (sym is))

joins_none : (o : Option (List Val × Table)) → option_map (after_made []) o ≡ o
joins_none None = refl
joins_none (Some r) = refl

-- what is known when some of so many are made
pub record IsMaking (count : ℕ) (first : Table) (made : List Val) (now : Table) (index : ℕ) : Type 0 where
  pub so_far : option_map (after_made made) (fresh_symbols (count - index) now) ≡ fresh_symbols count first
  pub kept : KeepsSymbols first now

module _ (count : ℕ) (first : Table) where
  pub making_first : IsMaking count first [] first 0
  making_first =
      let whole : count - 0 ≡ count = omega arith in
      record {
        so_far = joins_none (fresh_symbols (count - 0) first) ∙ ap (λ (n : ℕ). fresh_symbols n first) whole;
        kept = keeps_same first;
      }

  module _ (made : List Val) (now : Table) (index : ℕ) (making : IsMaking count first made now index) where
    pub making_more : (id : SymId) (after : Table) (new : List Val) → index < count → made_fresh now ≡ Some (id, after) → new ≡ made ++ Sym id ∷ [] → IsMaking count first new after (index + 1)
    making_more id after new inside is added =
        let left : count - index ≡ suc (count - (index + 1)) = omega arith in
        record {
          so_far = sym (joins made new id (fresh_symbols (count - (index + 1)) after) added)
              ∙ (ap (option_map (after_made made)) (sym (ap (λ (n : ℕ). fresh_symbols n now) left ∙ one_more (count - (index + 1)) now (Some (id, after)) is)) ∙ making.so_far);
          kept = keeps_on first now after making.kept (fresh_keeps now after id is);
        }

    pub making_full : index < count → made_fresh now ≡ None → fresh_symbols count first ≡ None
    making_full inside is =
        let left : count - index ≡ suc (count - (index + 1)) = omega arith in
        sym making.so_far ∙ ap (option_map (after_made made)) (ap (λ (n : ℕ). fresh_symbols n now) left ∙ one_more (count - (index + 1)) now None is)

    pub making_ends : count ≤ index → fresh_symbols count first ≡ Some (made, now)
    making_ends past =
        let none : count - index ≡ zero = omega arith in
        sym making.so_far ∙ (ap (option_map (after_made made)) (ap (λ (n : ℕ). fresh_symbols n now) none ∙ none_more now)
        ∙ ap (λ (l : List Val). Some (l, now)) (append-nil made))
