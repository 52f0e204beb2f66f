use Rattle.std.proofs.Common.{arith}
use Rattle.form_expander.specs.Reading.{scope_of}
use Rattle.macroexpand.proofs.Steps.{parts_next, parts_none}
use Rattle.macroexpand.proofs.shapes.parts_within.Goals as goal

pub returns-in-Some-clause-follows : goal.returns-in-Some-clause-follows
returns-in-Some-clause-follows c = λ inner w.
    parts_next (scope_of c.args.scope.now) inner c.args.has_policy c.args.chain c.in-Some.chain c.args.forms.items w (omega arith)

pub returns-in-None-clause-follows : goal.returns-in-None-clause-follows
returns-in-None-clause-follows c = λ inner w.
    parts_none (scope_of c.args.scope.now) inner c.args.has_policy c.args.chain c.args.forms.items w (omega arith)
