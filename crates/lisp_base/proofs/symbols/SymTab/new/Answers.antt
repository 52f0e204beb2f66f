use Rattle.std.proofs.Common.{◌≡◌, [], ℕ, List, arith, ap, sym, refl, ◌∙◌, take, get_or, Bor}
use Rattle.lisp_base.specs.declared.values.SymKind.TheVariants as kinds
use Rattle.lisp_base.specs.Tables.{Symbol, make_table}
use Rattle.lisp_base.proofs.BaseTable.{with_name, with_names, first_symbols}
use Rattle.lisp_base.proofs.Entries.{kept_first, interned_number, inserted_name, numbered_insert}
use Rattle.std.proofs.lemmas.List.Sums.{fold_more}
use Rattle.std.proofs.lemmas.List.{take_all}
use Rattle.lisp_base.proofs.symbols.SymTab.new.Goals as goal

pub loop-name-preserved : goal.loop-name-preserved
loop-name-preserved c =
    let names : List (Bor (List ℕ)) = c.base_names-name-items.result.now in
    let i : ℕ = c.loop-name.name-index in
    let name : Bor (List ℕ) = get_or names i (record { ref_ptr = (0, 0); now = [] }) in
    record {
      used = inserted_name c.in_ok-interned.field-0 name.now c.loop-name.entries.keys c.insert.new.self.keys c.in_ok-interned.ensures c.in_ok-insert.ensures.keys ∙ (ap (λ ss. with_name ss name.now) c.loop-name.invariant.used ∙ sym (fold_more (λ (ss : List Symbol) (n : Bor (List ℕ)). with_name ss n.now) [] names i (record { ref_ptr = (0, 0); now = [] }) (omega arith)));
      numbered = numbered_insert c.in_ok-interned.field-0 c.loop-name.entries.keys c.insert.new.self.keys (interned_number 0 c.in_ok-interned.field-0 _ kinds.Plain refl c.in_ok-interned.ensures) c.loop-name.invariant.numbered c.in_ok-insert.ensures.keys;
    }

pub invariant_of-result : goal.invariant_of-result
invariant_of-result c =
    let names : List (Bor (List ℕ)) = c.base_names-name-items.result.now in
    let all : take c.loop-name.name-index names ≡ names = take_all c.loop-name.name-index names (omega arith) in
    kept_first c.loop-name.entries.keys (c.loop-name.invariant.used ∙ (ap (with_names []) all ∙ first_symbols names c.base_names-name-items.ensures.names)) c.loop-name.invariant.numbered

pub returns : goal.returns
returns c =
    let names : List (Bor (List ℕ)) = c.base_names-name-items.result.now in
    let all : take c.loop-name.name-index names ≡ names = take_all c.loop-name.name-index names (omega arith) in
    ap (λ ss. make_table ss 0) (c.loop-name.invariant.used ∙ (ap (with_names []) all ∙ first_symbols names c.base_names-name-items.ensures.names))
