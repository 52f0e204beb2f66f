-- The code of a new function begins at a new block.
use Rattle.std.proofs.Common.{refl}
use Rattle.graph_building.proofs.Parts.{function_told}
use Rattle.graph_building.proofs.builder.Builder.function.Goals as goal

pub invariant_of-self : goal.invariant_of-self
invariant_of-self c = record { sound = c.begin_function.ensures.sound c.self.inside.half_forked c.self.inside.block c.self.invariant.sound; owned = c.begin_function.ensures.owned c.self.invariant.owned }

pub returns : goal.returns
returns c =
    rw (← c.self.view_is) (function_told _ _ refl refl c.begin_function.result c.args.function c.requires c.begin_function.ensures.added)
