use Rattle.declarations.specs.Declarations.{declared_of, read_declarations}
use Rattle.form_expander.specs.Reading.{scope_of, world_of}
use Rattle.form_expander.proofs.Declaring.{declared_so, refused_as}
use Rattle.form_expander.proofs.bodies.declared_by.Goals as goal

pub returns-in-Ok : goal.returns-in-Ok
returns-in-Ok c =
    declared_so (scope_of c.args.scope.now) (read_declarations c.args.world.now.heap c.args.world.now.symbols c.args.scope.now.policy c.args.declarations.now) (world_of c.args.world.now)
    (declared_of c.in-Ok.declared) c.in-Ok.ensures.gives

pub returns-in-Err : goal.returns-in-Err
returns-in-Err c =
    refused_as (scope_of c.args.scope.now) (read_declarations c.args.world.now.heap c.args.world.now.symbols c.args.scope.now.policy c.args.declarations.now) (world_of c.args.world.now)
    c.in-Err.fault c.fault_of.result c.fault_of.ensures c.in-Err.ensures.gives
