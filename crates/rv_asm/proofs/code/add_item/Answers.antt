-- The instruction of the item.
use Rattle.std.proofs.Common.{ℕ, ◌∙◌, ap, refl, Ok}
use Rattle.rv_asm.proofs.Growth.{OnOk-alone}
use Rattle.rv_asm.specs.Assembly.{branch_to, jump_to}
use Rattle.rv_asm.proofs.code.add_item.Goals as goal

pub returns-in-Plain-clause-grew : goal.returns-in-Plain-clause-grew
returns-in-Plain-clause-grew c =
    rw c.in-Plain.is (OnOk-alone c.add_instr.result c.args.code.now.items c.add_instr.new.code.items (Ok c.in-Plain.instr) (Ok c.in-Plain.instr) c.in-Plain.instr refl refl c.add_instr.ensures.grew)

pub returns-in_ok-instr-in-BranchTo-clause-grew : goal.returns-in_ok-instr-in-BranchTo-clause-grew
returns-in_ok-instr-in-BranchTo-clause-grew c =
    let b = c.in-BranchTo in
    let made = c.branch_to.ensures ∙ ap (λ (n : ℕ). branch_to c.args.labels.now n b.test b.a b.b b.label) c.len-at.ensures in
    rw c.in-BranchTo.is (OnOk-alone c.add_instr-in-BranchTo.result c.args.code.now.items c.add_instr-in-BranchTo.new.code.items _ _ c.in_ok-instr-in-BranchTo.instr made c.in_ok-instr-in-BranchTo.was c.add_instr-in-BranchTo.ensures.grew)

pub returns-in_ok-instr-in-JumpTo-clause-grew : goal.returns-in_ok-instr-in-JumpTo-clause-grew
returns-in_ok-instr-in-JumpTo-clause-grew c =
    let j = c.in-JumpTo in
    let made = c.jump_to.ensures ∙ ap (λ (n : ℕ). jump_to c.args.labels.now n j.link j.label) c.len-at.ensures in
    rw c.in-JumpTo.is (OnOk-alone c.add_instr-in-JumpTo.result c.args.code.now.items c.add_instr-in-JumpTo.new.code.items _ _ c.in_ok-instr-in-JumpTo.instr made c.in_ok-instr-in-JumpTo.was c.add_instr-in-JumpTo.ensures.grew)
