use Rattle.std.proofs.Common.{◌∷◌, [], Bool, length, ap, subst, sym, ◌∙◌, length-append}
use Rattle.core_form.specs.Lawful.{values_in}
use Rattle.program_size.specs.Mentions.{data_of}
use Rattle.program_size.specs.Marking.{Notes}
use Rattle.program_size.proofs.Seen.{begins, ends, nil_of, step_old, step_new, left, left_falls, left_stays, measure_new, measure_old}
use Rattle.program_size.proofs.marks.Marks.see_all.Goals as goal

pub loop-value-init : goal.loop-value-init
loop-value-init c = begins c.args.heap.now c.args.values.items c.args.self.now

pub loop-value-preserved-in-Continue-branch-2 : goal.loop-value-preserved-in-Continue-branch-2
loop-value-preserved-in-Continue-branch-2 c =
    let heap = c.args.heap.now in
    let value = c.in-Some.value in
    let noted = subst (λ (b : Bool). Notes heap c.loop-value.self value b c.note.new.self) c.if-branch.true c.in_ok-note.ensures in
    let next = step_new heap c.args.values.items c.args.self.now c.loop-value.self c.note.new.self value c.loop-value.work.items c.pop.new.self.items c.in-Some.ensures.items noted c.loop-value.invariant in
    rw c.in_ok-add_parts.ensures next

pub loop-value-smaller-in-Continue-branch-2 : goal.loop-value-smaller-in-Continue-branch-2
loop-value-smaller-in-Continue-branch-2 c =
    let heap = c.args.heap.now in
    let value = c.in-Some.value in
    let rest = c.pop.new.self.items in
    let noted = subst (λ (b : Bool). Notes heap c.loop-value.self value b c.note.new.self) c.if-branch.true c.in_ok-note.ensures in
    measure_new (left heap c.note.new.self) (left heap c.loop-value.self) (length c.add_parts.new.work.items) (length (values_in (data_of heap) value))
    (length c.loop-value.work.items) (length rest) (left_falls heap c.loop-value.self c.note.new.self value noted)
    (ap length c.in-Some.ensures.items ∙ length-append rest (value ∷ []))
    (ap length c.in_ok-add_parts.ensures ∙ length-append rest (values_in (data_of heap) value))

pub loop-value-preserved : goal.loop-value-preserved
loop-value-preserved c =
    let heap = c.args.heap.now in
    let value = c.in-Some.value in
    let noted = subst (λ (b : Bool). Notes heap c.loop-value.self value b c.note.new.self) c.if-branch.false c.in_ok-note.ensures in
    step_old heap c.args.values.items c.args.self.now c.loop-value.self c.note.new.self value c.loop-value.work.items c.pop.new.self.items c.in-Some.ensures.items noted c.loop-value.invariant

pub loop-value-smaller : goal.loop-value-smaller
loop-value-smaller c =
    let heap = c.args.heap.now in
    let value = c.in-Some.value in
    let rest = c.pop.new.self.items in
    let noted = subst (λ (b : Bool). Notes heap c.loop-value.self value b c.note.new.self) c.if-branch.false c.in_ok-note.ensures in
    measure_old (left heap c.note.new.self) (left heap c.loop-value.self) (length c.loop-value.work.items) (length rest)
    (left_stays heap c.loop-value.self c.note.new.self value noted)
    (ap length c.in-Some.ensures.items ∙ length-append rest (value ∷ []))

pub returns : goal.returns
returns c = ends c.args.heap.now c.args.values.items c.args.self.now c.loop-value.self c.loop-value.work.items
    (nil_of c.loop-value.work.items (sym c.loop-value.work.ok.0 ∙ c.in_default.ensures.cases.0)) c.loop-value.invariant
