use Rattle.std.proofs.Common.{Some, subst, ap, sym, ◌∙◌}
use Rattle.outside_io.specs.Memory.{IsFirst, found, StoreTold}
use Rattle.outside_io.proofs.Entries.{found_first, Entries}
use Rattle.outside_io.proofs.in_memory.MemStore.look.Goals as goal

pub returns-in-Some : goal.returns-in-Some
returns-in-Some c =
    let IsThere : Entries → Type 0 = λ es. IsFirst es c.args.name.now c.in-Some.index in
    let first : IsThere c.self.inside.entries.items = subst IsThere c.deref.ensures.value c.in-Some.ensures in
    ap Some c.bytes.ensures
    ∙ sym (found_first _ _ _ c.index.result.now first c.index.ensures)
    ∙ ap (λ (s : StoreTold). found s.entries c.args.name.now) c.self.view_is
