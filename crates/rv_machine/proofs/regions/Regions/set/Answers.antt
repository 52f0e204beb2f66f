use Rattle.std.proofs.Common.{◌<◌, length, subst}
use Rattle.rv_machine.specs.Memory.{words_of}
use Rattle.rv_machine.specs.declared.regions.Region.{Region}
use Rattle.rv_machine.proofs.MemoryLaws.{put_statics, put_heap, put_control, put_number}
use Rattle.rv_machine.proofs.regions.Regions.set.Goals as goal

pub returns-in-Statics-clause-word : goal.returns-in-Statics-clause-word
returns-in-Statics-clause-word c =
    let m = c.args.self.now in
    let below = subst (λ (r : Region). c.args.slot.index < length (words_of m r)) c.in-Statics.is c.requires in
    rw c.in-Statics.is (put_statics m.statics.items m.heap.items m.control.items m.number.items c.args.slot.index c.args.word below m.statics_end)

pub returns-in-Heap-clause-word : goal.returns-in-Heap-clause-word
returns-in-Heap-clause-word c =
    let m = c.args.self.now in
    let below = subst (λ (r : Region). c.args.slot.index < length (words_of m r)) c.in-Heap.is c.requires in
    rw c.in-Heap.is (put_heap m.statics.items m.heap.items m.control.items m.number.items c.args.slot.index c.args.word below m.heap_end)

pub returns-in-Control-clause-word : goal.returns-in-Control-clause-word
returns-in-Control-clause-word c =
    let m = c.args.self.now in
    let below = subst (λ (r : Region). c.args.slot.index < length (words_of m r)) c.in-Control.is c.requires in
    rw c.in-Control.is (put_control m.statics.items m.heap.items m.control.items m.number.items c.args.slot.index c.args.word below m.control_end)

pub returns-in-Number-clause-word : goal.returns-in-Number-clause-word
returns-in-Number-clause-word c =
    let m = c.args.self.now in
    let below = subst (λ (r : Region). c.args.slot.index < length (words_of m r)) c.in-Number.is c.requires in
    rw c.in-Number.is (put_number m.statics.items m.heap.items m.control.items m.number.items c.args.slot.index c.args.word below)
