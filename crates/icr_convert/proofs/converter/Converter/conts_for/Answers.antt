use Rattle.std.proofs.Common.{ℕ, List, [], ◌∷◌, append-nil, subst, arith}
use Rattle.core_form.specs.Reading.{cores_list}
use Rattle.icr_convert.specs.Converting.{NewConts}
use Rattle.icr_convert.proofs.Operands.{conts_more, conts_end, pushed}
use Rattle.icr_convert.proofs.converter.Converter.conts_for.Goals as goal

pub loop-part-preserved : goal.loop-part-preserved
loop-part-preserved c b ks rest =
    let k = c.in_ok-cont.field-0 in
    let es = c.args.parts.now in
    let all = c.loop-part.invariant b (k ∷ ks) (conts_more es c.loop-part._part-index c._part-item.result k ks (omega arith) c.in_ok-cont.ensures rest) in
    subst (λ (xs : List ℕ). NewConts (cores_list es) c.args.self.now.built b xs) (pushed c.loop-part.operands c.push.new.self k ks c.in_ok-push.ensures.ok) all

pub returns : goal.returns
returns c =
    let es = c.args.parts.now in
    let all = c.loop-part.invariant c.loop-part.self.built [] (conts_end es c.loop-part._part-index c.loop-part.self.built (omega arith)) in
    subst (λ (xs : List ℕ). NewConts (cores_list es) c.args.self.now.built c.loop-part.self.built xs) (append-nil c.loop-part.operands) all
