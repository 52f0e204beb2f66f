use Rattle.declarations.specs.Declarations.{declared_of, read_specifiers}
use Rattle.form_expander.specs.Reading.{scope_of, world_of}
use Rattle.form_expander.proofs.Declaring.{declared_so, refused_as}
use Rattle.form_expander.proofs.plans_of_definitions.declaimed_in.Goals as goal

pub returns-in-Ok : goal.returns-in-Ok
returns-in-Ok c =
    declared_so (scope_of c.args.scope.now) (read_specifiers c.args.world.now.heap c.args.world.now.symbols c.args.world.now.policy c.args.specifiers) (world_of c.args.world.now)
    (declared_of c.in-Ok.declared) c.in-Ok.ensures.gives

pub returns-in-Err : goal.returns-in-Err
returns-in-Err c =
    refused_as (scope_of c.args.scope.now) (read_specifiers c.args.world.now.heap c.args.world.now.symbols c.args.world.now.policy c.args.specifiers) (world_of c.args.world.now)
    c.in-Err.fault c.fault_of.result c.fault_of.ensures c.in-Err.ensures.gives
