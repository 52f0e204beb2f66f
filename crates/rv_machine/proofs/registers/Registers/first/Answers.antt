use Rattle.rv_machine.proofs.StateLaws.{put_known}
use Rattle.rv_machine.proofs.registers.Registers.first.Goals as goal

pub returns : goal.returns
returns c =
    put_known 2 _ c.set-8.ensures c.of-8.ensures
    (put_known 3 _ c.set-7.ensures c.of-7.ensures
    (put_known 4 _ c.set-6.ensures c.of-6.ensures
    (put_known 8 _ c.set-5.ensures c.of-5.ensures
    (put_known 9 _ c.set-4.ensures c.of-4.ensures
    (put_known 28 _ c.set-3.ensures c.of-3.ensures
    (put_known 29 _ c.set-2.ensures c.of-2.ensures
    (put_known 19 _ c.set.ensures c.of.ensures
    c.zero-registers.ensures)))))))
