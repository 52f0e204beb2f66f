use Rattle.std.proofs.Common.{rules, arith, ◌≡◌, ◌∙◌, sym, subst, length, IfOk, ◌==◌, ◌+◌, ◌++◌, drop, List, ◌<◌, true, false}
use denote.Param.Weighed.{at_most}
use Rattle.core_form.specs.declared.tree.Core.{Core, the_lemmas}
use Rattle.compiler.specs.declared.slot.Slot.{Slot}
use Rattle.core_form.specs.Reading.{core_of, cores_list}
use Rattle.compiler.specs.Code.{code_of, codes_of, is_served}
use Rattle.compiler.proofs.Parted.{is_none, is_some, progn_parts, empty_progn, some_progn, write_parts, write_is, part_served, part_within, one_more_part, last_part, checked_part}
use Rattle.compiler.proofs.code.+code.Goals as goal

pub node_code-part_codes-requires : goal.node_code-part_codes-requires
node_code-part_codes-requires t c =
    let k = progn_parts c.reads_lists.ensures.sequence c.args.core.now c.in-Progn.parts c.deref-else-is_empty.result.now c.in-Progn.is c.deref-else-is_empty.ensures.value c.requires.served c.requires.near in
    (search (rules, the_lemmas, c.in-Progn.is, c.deref-else-is_empty.ensures.value), (k.served, k.near))

pub node_code-part_codes-requires-in-WriteChar :
    goal.node_code-part_codes-requires-in-WriteChar
node_code-part_codes-requires-in-WriteChar t c =
    let at = c.in-Primitive in
    let parts = c.deref-in-WriteChar in
    let k = write_parts c.reads_lists.ensures.call c.args.core.now at.operation at.arguments parts.result.now at.is c.in-WriteChar.is parts.ensures.value c.requires.served c.requires.near in
    (search (rules, the_lemmas, c.in-Primitive.is), (k.served, k.near))

pub node_code-returns-then-is_empty : goal.node_code-returns-then-is_empty
node_code-returns-then-is_empty t c =
    let none : length c.in-Progn.parts.items ≡ 0 = is_none _ _ c.is_empty.result c.is_empty.ensures c.if-is_empty.true c.in-Progn.parts.ok.0 in
    subst (λ (x : List Slot). IfOk c.from_slice.result (λ v. v.items ≡ x))
    (c.nil_slots.ensures ∙ empty_progn c.reads_lists.ensures.sequence c.args.core.now c.in-Progn.parts c.in-Progn.is none)
    c.from_slice.ensures.items

pub node_code-returns-else-is_empty : goal.node_code-returns-else-is_empty
node_code-returns-else-is_empty t c =
    let some : (length c.in-Progn.parts.items == 0) ≡ false = is_some _ _ c.is_empty.result c.is_empty.ensures c.if-is_empty.false c.in-Progn.parts.ok.0 in
    subst (λ (x : List Slot). IfOk c.part_codes.result (λ v. v.items ≡ x))
    (some_progn c.reads_lists.ensures.sequence c.args.core.now c.in-Progn.parts c.deref-else-is_empty.result.now c.in-Progn.is c.deref-else-is_empty.ensures.value some)
    c.part_codes.ensures

pub node_code-returns-in_ok-part_codes-in-WriteChar :
    goal.node_code-returns-in_ok-part_codes-in-WriteChar
node_code-returns-in_ok-part_codes-in-WriteChar t c =
    let at = c.in-Primitive in
    let parts = c.deref-in-WriteChar in
    subst (λ (x : List Slot). IfOk c.write_code.result (λ v. v.items ≡ x))
    (write_is c.reads_lists.ensures.call c.args.core.now at.operation at.arguments parts.result.now c.in_ok-part_codes-in-WriteChar.field-0.items at.is c.in-WriteChar.is parts.ensures.value c.in_ok-part_codes-in-WriteChar.ensures)
    c.write_code.ensures

pub part_codes-node_code-requires : goal.part_codes-node_code-requires
part_codes-node_code-requires t c = (
  search (rules, the_lemmas, c.part-item.is, at_most),
  (
    subst (λ (x : Core). is_served (core_of x) ≡ true) (sym c.part-item.is) (part_served c.args.parts.now c.loop-part.part-index c.part-item.result c.loop-part-test.true c.requires.served),
    subst (λ (x : Core). length (code_of (core_of x)) < 262144) (sym c.part-item.is) (let w = part_within c.args.parts.now c.loop-part.part-index c.part-item.result c.loop-part-test.true in omega (arith, w)),
  ),
)

pub node_code-node_code-requires-in-If-2 : goal.node_code-node_code-requires-in-If-2
node_code-node_code-requires-in-If-2 t c =
    let at = c.in-If in
    let k = last_part c.args.core.now at.test at.yes at.no c.deref-in-If-2.result.now at.is c.deref-in-If-2.ensures c.requires.served c.requires.near in
    (search (rules, the_lemmas, c.in-If.is, c.deref-in-If-2.ensures), (k.served, k.near))

pub node_code-node_code-requires-in-The : goal.node_code-node_code-requires-in-The
node_code-node_code-requires-in-The t c =
    let at = c.in-The in
    let k = checked_part c.args.core.now at.field-0 at.form c.deref-in-The.result.now at.is c.deref-in-The.ensures c.requires.served c.requires.near in
    (search (rules, the_lemmas, c.in-The.is, c.deref-in-The.ensures), (k.served, k.near))

pub part_codes-loop-part-preserved : goal.part_codes-loop-part-preserved
part_codes-loop-part-preserved t c =
    let made : c.deref.result.now ≡ code_of (core_of c.part-item.result) = c.deref.ensures.value ∙ c.in_ok-next.ensures in
    subst (λ (x : List Slot). x ++ codes_of (cores_list (drop (c.loop-part.part-index + 1) c.args.parts.now)) ≡ codes_of (cores_list c.args.parts.now))
    (sym c.in_ok-extend_from_slice.ensures.items)
    (one_more_part c.args.parts.now c.loop-part.part-index c.part-item.result c.loop-part.code.items c.deref.result.now _ c.loop-part-test.true c.part-item.is made c.loop-part.invariant)
