-- Lists of conses, made from the last cons on; and what lists keep at their front.
use Rattle.std.proofs.Common.{◌≡◌, ◌+◌, ℕ, List, [], ◌∷◌, ◌++◌, length, refl, sym, ap, ◌∙◌, subst, arith, append_assoc, Option, Some, None, nat_lt, Bool, true, false, if◌then◌else◌}
use Rattle.std.proofs.lemmas.List.{append-nil}
use Rattle.std.specs.List.{position}
use Rattle.lisp_base.specs.declared.values.Val.{Val}
use Rattle.lisp_base.specs.declared.values.Place.TheVariants.{File}
use Rattle.lisp_base.specs.declared.values.SymId.{SymId}
use Rattle.lisp_base.specs.declared.values.SymKind.{SymKind}
use Rattle.lisp_base.specs.Sort.{symbol}
use Rattle.lisp_base.specs.Tables.{Object, Cons, Table, Symbol, make_symbol, make_table, most_symbols, is_symbol, interned, found_or_added}
use Rattle.lisp_reader.specs.Building.{chain, made}
use Rattle.lisp_reader.specs.Held.{Grows, KeepsTable, KeepsAll}

abbrev pub linked : ℕ → ℕ → Val → Val → List Object → Object
linked at k x tail os = Cons x tail (Some (File at k))

pub chain_push : (at k : ℕ) (xs : List Val) (x tail : Val) (os : List Object) → chain at k (xs ++ x ∷ []) tail os ≡ chain at k xs (made (linked at (k + length xs) x tail os) os).0 (made (linked at (k + length xs) x tail os) os).1
chain_push at k [] x tail os = λ i. made (linked at (here i) x tail os) os
  where
    here : k ≡ k + 0
    here = omega arith
chain_push at k (y ∷ xs) x tail os =
    ap (λ r. made (Cons y r.0 (Some (File at k))) r.1) (chain_push at (k + 1) xs x tail os)
    ∙ (λ i. let m = made (linked at (place i) x tail os) os in made (Cons y (chain at (k + 1) xs m.0 m.1).0 (Some (File at k))) (chain at (k + 1) xs m.0 m.1).1)
  where
    place : k + 1 + length xs ≡ k + length (y ∷ xs)
    place = omega arith

pub grows_same : {X : Type 0} (xs : List X) → Grows xs xs
grows_same xs = ([], sym (append-nil xs))

pub grows_more : {X : Type 0} (xs ys : List X) (more : List X) → Grows xs ys → Grows xs (ys ++ more)
grows_more {X} xs ys more (front, is) = (front ++ more, ap (λ (l : List X). l ++ more) is ∙ append_assoc xs front more)

pub grows_on : {X : Type 0} (xs ys zs : List X) → Grows xs ys → Grows ys zs → Grows xs zs
grows_on {X} xs ys zs (m, is) (n, js) = (m ++ n, js ∙ (ap (λ (l : List X). l ++ n) is ∙ append_assoc xs m n))

abbrev table_in : Table → Option (SymId × Table) → Table
table_in t None = t
table_in t (Some found) = found.1

pub table_same : (t : Table) → KeepsTable t t
table_same t = record { symbols = grows_same t.symbols; fresh = refl }

pub table_on : (t u v : Table) → KeepsTable t u → KeepsTable u v → KeepsTable t v
table_on t u v h k = record { symbols = grows_on t.symbols u.symbols v.symbols h.symbols k.symbols; fresh = k.fresh ∙ h.fresh }

pub all_same : (t : Table) (os : List Object) → KeepsAll t os t os
all_same t os = record { table = table_same t; objects = grows_same os }

pub all_on : (t u v : Table) (os ps qs : List Object) → KeepsAll t os u ps → KeepsAll u ps v qs → KeepsAll t os v qs
all_on t u v os ps qs h k = record { table = table_on t u v h.table k.table; objects = grows_on os ps qs h.objects k.objects }

-- interning keeps what was there
found_keeps : (o : Option ℕ) (s : Symbol) (t u : Table) (id : SymId) → found_or_added o s t ≡ Some (id, u) → KeepsTable t u
found_keeps (Some n) s t u id e = subst (KeepsTable t) (ap (table_in t) e) (table_same t)
found_keeps None s t u id e = by (nat_lt (length t.symbols) most_symbols) e
  where
    by : (b : Bool) → if◌then◌else◌ {A = Option (SymId × Table)} b (Some (symbol (length t.symbols), make_table (t.symbols ++ s ∷ []) t.fresh)) None ≡ Some (id, u) → KeepsTable t u
    by true e = subst (KeepsTable t) (ap (table_in t) e) (record { symbols = (s ∷ [], refl); fresh = refl })
    by false e = absurd (cc)

pub interned_keeps : (name : List ℕ) (kind : SymKind) (t u : Table) (id : SymId) → interned name kind t ≡ Some (id, u) → KeepsTable t u
interned_keeps name kind t u id e = found_keeps (position (is_symbol name kind) t.symbols) (make_symbol name kind) t u id e
