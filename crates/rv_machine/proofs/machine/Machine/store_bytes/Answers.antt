use Rattle.std.proofs.Common.{◌≡◌, ℕ, refl, sym, ap, ◌∙◌}
use Rattle.rv_machine.proofs.DoesLaws.{does_as, does_from, stored_none, stores_none}
use Rattle.std.proofs.Common.{false}
use Rattle.rv_isa.specs.Machine.{Space, is_writable}
use Rattle.rv_machine.specs.Memory.{memory_of}
use Rattle.rv_machine.specs.View.{space, state}
use Rattle.rv_machine.proofs.machine.Machine.store_bytes.Goals as goal

pub returns-else-store : goal.returns-else-store
returns-else-store c = λ input.
    let old = c.args.self.now in
    let answer : is_writable (space old) c.args.address c.store_bytes.result ≡ false = sym c.store.ensures.answer ∙ c.if-store.false in
    let memory = c.store.ensures.stored ∙ stored_none (space old) c.args.address c.store_bytes.result c.args.word (memory_of old.memory) answer in
    let quiet = does_from old (c.trap.ensures input) (λ output. ap (λ (f : ℕ → ℕ). record (state output input old) { memory = f }) memory) (ap (λ (s : Space). record s { code = old.code.items }) c.store.ensures.sizes) refl in
    does_as quiet (λ output. stores_none (space old) (state output input old) c.args.op c.args.address c.args.word (ap (λ (k : ℕ). is_writable (space old) c.args.address k) (sym c.store_bytes.ensures.count) ∙ answer))
