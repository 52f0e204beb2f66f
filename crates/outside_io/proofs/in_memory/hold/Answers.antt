use Rattle.std.proofs.Common.{◌≡◌, None, subst}
use Rattle.outside_io.specs.Memory.{IsFirst, found}
use Rattle.outside_io.proofs.Entries.{found_set, found_push, Entries}
use Rattle.outside_io.proofs.in_memory.hold.Goals as goal

pub returns-in-Some-clause-held : goal.returns-in-Some-clause-held
returns-in-Some-clause-held c =
    let IsThere : Entries → Type 0 = λ es. IsFirst es c.args.name.now c.in-Some.index in
    let first : IsThere c.args.entries.now.items = subst IsThere c.deref.ensures.value c.in-Some.ensures in
    rw c.hold.ensures (found_set _ _ _ _ _ first c.index_mut-entry.ensures.value)

pub returns-in_ok-push-in-None-clause-held : goal.returns-in_ok-push-in-None-clause-held
returns-in_ok-push-in-None-clause-held c =
    let IsAbsent : Entries → Type 0 = λ es. found es c.args.name.now ≡ None in
    let absent : IsAbsent c.args.entries.now.items = subst IsAbsent c.deref.ensures.value c.in-None.ensures in
    rw (c.in_ok-push-in-None.ensures.items, c.in_ok-entry-in-None.ensures) (found_push _ _ _ absent)
