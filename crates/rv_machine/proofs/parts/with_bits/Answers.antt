use Rattle.std.proofs.Common.{◌%◌, ◌^◌, arith}
use Rattle.std.proofs.lemmas.Nat.{mod_below, pow_pos}
use Rattle.rv_machine.proofs.Bits.{shifts_put, bits_fit}
use Rattle.rv_machine.proofs.parts.with_bits.Goals as goal

pub overflow_add-result : goal.overflow_add-result
overflow_add-result c =
    let a = c.args in
    let fit = bits_fit a.word a.from a.bits (a.number % 2 ^ a.bits) (omega arith) c.requires.inside (mod_below a.number (2 ^ a.bits) (pow_pos a.bits)) in
    omega (arith, fit, shifts_put a.word a.from a.bits a.number c.requires.from c.requires.bits c.requires.inside)

pub returns : goal.returns
returns c = shifts_put c.args.word c.args.from c.args.bits c.args.number c.requires.from c.requires.bits c.requires.inside
