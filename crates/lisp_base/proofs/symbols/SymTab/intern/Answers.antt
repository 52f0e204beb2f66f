use Rattle.std.proofs.Common.{◌≡◌, ◌≤◌, length, None, Some, arith, ap, sym, ◌∙◌, subst}
use Rattle.lisp_base.specs.Kept.{symbol_of, symbols_of, IsKept}
use Rattle.lisp_base.specs.Tables.{Table, interned, make_table, most_symbols}
use Rattle.lisp_base.proofs.Entries.{kept_more, interned_number, added_last, none_added, interned_found, interned_new}
use Rattle.std.proofs.lemmas.Result.{err_from_is_err_and}
use Rattle.lisp_base.specs.declared.values.SymId.{SymId}
use Rattle.lisp_base.proofs.symbols.SymTab.intern.Goals as goal

pub overflow_cast-result : goal.overflow_cast-result
unfolding most_symbols
overflow_cast-result c = omega (arith, c.in-Some.ensures.within, c.self.invariant.few)

pub returns-in-Some-clause-ok : goal.returns-in-Some-clause-ok
returns-in-Some-clause-ok c =
    subst (λ (t : Table). interned c.args.name.now c.args.kind t ≡ Some (record { 0 = c.in-Some.index }, t)) c.self.view_is
    (interned_found c.in_ok-entry.entry _ _ c.requires c.in_ok-entry.ensures c.self.inside.entries.keys c.self.inside.fresh c.in-Some.index (sym c.in-Some.ensures.index))

pub invariant_of-self : goal.invariant_of-self
invariant_of-self c = subst (λ es. IsKept es c.self.inside.fresh) (sym c.in_err-id.ensures.err) c.self.invariant

pub returns-in_err-id-clause-too_many : goal.returns-in_err-id-clause-too_many
returns-in_err-id-clause-too_many c = λ many.
    let p = err_from_is_err_and c.from_residual-in_err-id.result c.from_residual-in_err-id.ensures.1 in
    let full : most_symbols ≤ length c.self.inside.entries.keys = c.in_err-id.ensures.too_many (cc (many, p.1, p.2)) in
    subst (λ (t : Table). interned c.args.name.now c.args.kind t ≡ None) c.self.view_is
    (interned_new c.in_ok-entry.entry c.args.name.now c.args.kind c.requires c.in_ok-entry.ensures c.self.inside.entries.keys c.self.inside.fresh (sym c.in_default.ensures.index)
    ∙ none_added c.self.inside.entries.keys (symbol_of c.in_ok-entry.entry) c.self.inside.fresh c.self.inside.fresh full)

pub invariant_of-self-2 : goal.invariant_of-self-2
invariant_of-self-2 c = kept_more c.self.inside.entries.keys c.add.new.entries.keys c.in_ok-entry.entry c.self.inside.fresh c.self.inside.fresh c.self.invariant c.in_ok-id.ensures.ok.1 (omega arith) (interned_number _ c.in_ok-entry.entry c.args.name.now c.args.kind c.requires c.in_ok-entry.ensures) c.in_ok-id.ensures.ok.2

pub returns-clause-ok : goal.returns-clause-ok
returns-clause-ok c =
    let before = interned_new c.in_ok-entry.entry c.args.name.now c.args.kind c.requires c.in_ok-entry.ensures c.self.inside.entries.keys c.self.inside.fresh (sym c.in_default.ensures.index) in
    let after = added_last c.self.inside.entries.keys c.add.new.entries.keys c.in_ok-entry.entry c.self.inside.fresh c.self.inside.fresh c.in_ok-id.ensures.ok.1 c.in_ok-id.ensures.ok.2 in
    let numbered : record { 0 = length c.self.inside.entries.keys } ≡ c.in_ok-id.id = λ i. record { 0 = sym c.in_ok-id.ensures.ok.0 i } in
    subst (λ (t : Table). interned c.args.name.now c.args.kind t ≡ Some (c.in_ok-id.id, make_table (symbols_of c.add.new.entries.keys) c.self.inside.fresh)) c.self.view_is
    (before ∙ (after ∙ ap (λ (id : SymId). Some (id, make_table (symbols_of c.add.new.entries.keys) c.self.inside.fresh)) numbered))
