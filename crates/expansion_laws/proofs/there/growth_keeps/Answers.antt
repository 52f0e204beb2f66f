use Rattle.expansion_laws.proofs.ThereLaws.{trees_are_kept}
use Rattle.expansion_laws.proofs.TherePartLaws.{scopes_are_kept, declarations_are_kept}
use Rattle.expansion_laws.proofs.ThereStores.{values_are_kept}
use Rattle.expansion_laws.proofs.there.growth_keeps.Goals as goal

pub returns-clause-trees : goal.returns-clause-trees
returns-clause-trees c = trees_are_kept

pub returns-clause-values : goal.returns-clause-values
returns-clause-values c = values_are_kept

pub returns-clause-scopes : goal.returns-clause-scopes
returns-clause-scopes c = scopes_are_kept

pub returns-clause-declarations : goal.returns-clause-declarations
returns-clause-declarations c = declarations_are_kept
