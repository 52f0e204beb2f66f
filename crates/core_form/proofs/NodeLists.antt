-- The lists that nodes hold.
use Rattle.std.specs.Prelude.{◌≡◌, refl, List, [], ◌∷◌, length}
use Rattle.std.proofs.Common.{arith}
use Rattle.core_form.specs.declared.tree.Core.{Core as Core'}
use Rattle.core_form.specs.Tree.{cores_length}
use Rattle.core_form.specs.Reading.{cores_list}

pub cores_length_is : (cs : List Core') → cores_length (cores_list cs) ≡ length cs
cores_length_is [] = refl
cores_length_is (c ∷ cs) = let k = cores_length_is cs in omega (arith, k)
