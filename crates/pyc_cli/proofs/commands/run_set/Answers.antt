use Rattle.std.proofs.Common.{refl}
use Rattle.pyc_cli.specs.View.{order}
use Rattle.pyc_cli.proofs.Works.{does_set, does_torn}
use Rattle.pyc_cli.proofs.commands.run_set.Goals as goal

pub returns-in-Set : goal.returns-in-Set
returns-in-Set g c =
    let s = c.in-Set.ensures in
    does_set (order c.args.command.now) _ _ _ _ _ _ _ _ _ c.as_str.ensures.value c.as_str-in-Set.ensures.value c.requires s.sets s.cause.later s.gets c.run_name.ensures

pub returns-in-Failed : goal.returns-in-Failed
returns-in-Failed g c =
    let s = c.in-Failed.ensures in
    does_torn (order c.args.command.now) _ _ _ _ _ _ c.as_str.ensures.value s.sets s.cause.later (s.cause.rose refl) s.gets
