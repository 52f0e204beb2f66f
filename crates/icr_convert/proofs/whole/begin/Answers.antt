use Rattle.std.proofs.Common.{[], ap, ◌∙◌}
use Rattle.core_form.specs.Reading.{core_of}
use Rattle.graph_meaning.specs.Reading.{defined_by}
use Rattle.icr_convert.proofs.Defining.{given_is}
use Rattle.icr_convert.proofs.whole.begin.Goals as goal

pub returns : goal.returns
returns c =
    record { copies = _; defines = _; begun = c.in_ok-built.ensures; given = ap (λ q. defined_by 0 q []) c.defined.ensures ∙ given_is (core_of c.args.form.now.core) }
