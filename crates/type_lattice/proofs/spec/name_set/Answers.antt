use Rattle.std.proofs.lemmas.Result.{IfOk-weaker}
use Rattle.type_lattice.specs.declared.ty.Ty.{Ty}
use Rattle.type_lattice.proofs.Names.{describes_name}
use Rattle.type_lattice.proofs.spec.name_set.Goals as goal

pub returns : goal.returns
returns c = IfOk-weaker c.of_name.result _ _ (λ (t : Ty) h. describes_name c.args.name t h) c.of_name.ensures
