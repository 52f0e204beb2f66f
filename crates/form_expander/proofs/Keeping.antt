-- Tables of symbols, and worlds, that hold what they held.
use Rattle.std.proofs.Common.{◌≡◌, Bool, true, false, List, [], ◌∷◌, ◌++◌, Option, Some, None, nat_lt, length, refl, sym, ap, ◌∙◌, subst, append_assoc, if◌then◌else◌}
use Rattle.std.specs.Prelude.{ℕ}
use Rattle.std.proofs.lemmas.List.{append-nil}
use Rattle.lisp_base.specs.declared.values.SymId.{SymId}
use Rattle.lisp_base.specs.Sort.{symbol}
use Rattle.lisp_base.specs.Tables.{Table, Symbol, make_table, most_symbols, added, made_fresh}
use Rattle.lambda_lists.specs.Readings.{KeepsSymbols}
use Rattle.form_expander.specs.declared.world.World.{World as World'}
use Rattle.form_expander.specs.Keeping.{Keeps}

-- ---- tables

pub symbols_same : (t : Table) → KeepsSymbols t t
symbols_same t = ([], sym (append-nil t.symbols))

pub symbols_on : (t u v : Table) → KeepsSymbols t u → KeepsSymbols u v → KeepsSymbols t v
symbols_on t u v (m, is) (n, js) = (m ++ n, js ∙ (ap (λ (l : List Symbol). l ++ n) is ∙ append_assoc t.symbols m n))

-- a table that is the same
pub symbols_still : (t u : Table) → u ≡ t → KeepsSymbols t u
symbols_still t u is = subst (KeepsSymbols t) (sym is) (symbols_same t)

abbrev table_in : Table → Option (SymId × Table) → Table
table_in t None = t
table_in t (Some found) = found.1

added_keeps : (s : Symbol) (n : ℕ) (t u : Table) (id : SymId) → added s n t ≡ Some (id, u) → KeepsSymbols t u
added_keeps s n t u id e = by (nat_lt (length t.symbols) most_symbols) e
  where
    by : (b : Bool) → if◌then◌else◌ {A = Option (SymId × Table)} b (Some (symbol (length t.symbols), make_table (t.symbols ++ s ∷ []) n)) None ≡ Some (id, u) → KeepsSymbols t u
    by true e = subst (KeepsSymbols t) (ap (table_in t) e) (s ∷ [], refl)
    by false e = subst (KeepsSymbols t) (ap (table_in t) e) (symbols_same t)

pub fresh_keeps : (t u : Table) (id : SymId) → made_fresh t ≡ Some (id, u) → KeepsSymbols t u
fresh_keeps t u id e = added_keeps _ _ t u id e

-- ---- worlds

pub keeps_same : (w : World') → Keeps w w
keeps_same w = symbols_same w.symbols

pub keeps_on : (w v u : World') → Keeps w v → Keeps v u → Keeps w u
keeps_on w v u = symbols_on w.symbols v.symbols u.symbols

-- a world with the same table
pub keeps_still : (w v : World') → v.symbols ≡ w.symbols → Keeps w v
keeps_still w v = symbols_still w.symbols v.symbols
