use Rattle.std.specs.Prelude.{◌≡◌, length}
use Rattle.std.proofs.Common.{ap, ◌∙◌, arith}
use Rattle.std.proofs.lemmas.List.{length-map}
use Rattle.closed_copies.specs.Walked.{entry_of, entries_list}
use Rattle.closed_copies.proofs.Rounds.{marks_length}
use Rattle.closed_copies.proofs.copies.copies_of.Goals as goal

pub count_copies-requires : goal.count_copies-requires
count_copies-requires c =
    let all : length c.deref.result.now ≡ length c.args.table.now =
    ap length (c.deref.ensures.value ∙ c.in_ok-marks.ensures) ∙ marks_length c.args.locals c.args.variable (entries_list c.args.table.now) ∙ length-map c.args.table.now entry_of in
    omega (arith, all, c.requires)
