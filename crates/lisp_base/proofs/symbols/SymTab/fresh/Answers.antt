use Rattle.std.proofs.Common.{ℕ, ◌+◌, arith, sym, subst}
use Rattle.lisp_base.specs.declared.symbols.Entry.TheVariants as entry
use Rattle.lisp_base.specs.Kept.{AllNumberedBelow}
use Rattle.lisp_base.specs.Tables.{most_symbols}
use Rattle.lisp_base.proofs.Entries.{kept_more, new_number}
use Rattle.lisp_base.proofs.symbols.SymTab.fresh.Goals as goal

pub overflow_add-fresh : goal.overflow_add-fresh
unfolding most_symbols
overflow_add-fresh c = omega arith

pub add-requires : goal.add-requires
add-requires c = new_number c.self.inside.entries.keys c.in_ok-name.name c.len-number.result (subst (λ (n : ℕ). AllNumberedBelow n c.self.inside.entries.keys) (sym c.len-number.ensures.len) c.self.invariant.numbered)

pub invariant_of-self-2 : goal.invariant_of-self-2
invariant_of-self-2 c =
    kept_more c.self.inside.entries.keys c.add.new.entries.keys (entry.Fresh c.in_ok-name.name c.len-number.result) c.self.inside.fresh (c.self.inside.fresh + 1) c.self.invariant c.in_ok-id.ensures.ok.1 (omega arith) (omega arith) c.in_ok-id.ensures.ok.2
