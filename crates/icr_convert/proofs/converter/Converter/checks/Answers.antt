use Rattle.std.proofs.Common.{subst, List, ◌+◌}
use Rattle.std.proofs.lemmas.List.{take_rest}
use Rattle.std.specs.Prelude.{map}
use Rattle.lisp_base.specs.declared.types.TypeSpec.{TypeSpec}
use Rattle.lisp_base.specs.Reading.{spec_of}
use Rattle.graph_building.specs.Built.{NewCont}
use Rattle.icr_convert.specs.Coding.{FirstAsserted}
use Rattle.icr_convert.proofs.Entering.{all_checked, next_checked}
use Rattle.icr_convert.proofs.converter.Converter.checks.Goals as goal

pub loop-number-init : goal.loop-number-init
loop-number-init c = λ b j h. h

pub loop-number-preserved : goal.loop-number-preserved
loop-number-preserved c = λ b j rest.
    let ts = c.args.types.now in
    let n = c.loop-number.number in
    let cont = subst (λ (xs : List TypeSpec). NewCont (FirstAsserted c.args.place (map spec_of xs)) c.loop-number.self.built c.checked_cont.new.self.built c.in_ok-next.next) (take_rest ts (n + 1)) c.in_ok-next.ensures in
    c.loop-number.invariant b j
    (next_checked c.args.place ts n c.loop-number.value c.in_ok-next.next j c.in_ok-plain.field-0 c.index-types-number.result c.in_ok-size_of.field-0 c.one.result c.loop-number.self.built c.checked_cont.new.self.built
    c.plain.new.self.built b c.loop-number-test.true c.index-types-number.is c.in_ok-size_of.ensures c.one.ensures cont c.in_ok-plain.ensures rest)

pub returns : goal.returns
returns c = c.loop-number.invariant _ _ (all_checked c.args.place c.args.types.now c.loop-number.number c.loop-number.value c.loop-number.self.built c.loop-number-test.false)
