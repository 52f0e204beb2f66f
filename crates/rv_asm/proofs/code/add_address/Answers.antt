-- Two instructions, one after the other.
use Rattle.std.proofs.Common.{ℕ, ◌≡◌, ◌∙◌, ap, vec_len}
use Rattle.rv_asm.proofs.Growth.{OnOk-two, address_of-found}
use Rattle.rv_asm.specs.Reach.{high_part, low_part}
use Rattle.rv_asm.proofs.code.add_address.Goals as goal

pub returns-clause-grew : goal.returns-clause-grew
returns-clause-grew c =
    let at = vec_len c.args.code.now in
    let to = c.in_ok-place.place in
    let high : c.high_bits.result ≡ high_part at to = c.high_bits.ensures ∙ ap (λ (n : ℕ). high_part n to) c.len-at.ensures in
    let low : c.low_bits.result ≡ low_part at to = c.low_bits.ensures ∙ ap (λ (n : ℕ). low_part n to) c.len-at.ensures in
    let found = address_of-found c.args.labels.now at c.args.to c.args.label to c.high_bits.result c.low_bits.result c.in_ok-place.ensures.place high low in
    OnOk-two _ c.args.code.now.items c.add_instr.new.code.items c.add_instr-2.new.code.items _ _ _ found c.in_ok-add_instr.ensures.grew c.add_instr-2.ensures.grew
