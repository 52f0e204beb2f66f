use Rattle.std.proofs.Common.{ℕ, List, subst}
use Rattle.core_form.specs.Reading.{cores_list}
use Rattle.icr_convert.specs.Converting.{ReleasesTo}
use Rattle.icr_convert.proofs.Operands.{all_released}
use Rattle.icr_convert.proofs.converter.Converter.release_all.Goals as goal

pub returns : goal.returns
returns c =
    all_released c.args.place (cores_list c.args.parts.now) c.in_ok-operands.operands c.in_ok-operands.ensures
    (subst (λ (ks : List ℕ). ReleasesTo c.args.place ks c.conts_for.new.self.built c.release_to.new.self.built) c.as_slice.ensures c.in_ok-release_to.ensures)
