use Rattle.std.proofs.Common.{ℕ, ◌*◌, List, [], None, length, refl, ap, ◌∙◌, arith}
use Rattle.rv_isa.specs.Start.{statics_memory}
use Rattle.rv_machine.proofs.StateLaws.{same_states, same_spaces}
use Rattle.rv_machine.proofs.machine.Machine.load_parts.Goals as goal

pub returns : goal.returns
returns c =
    let made = c.in_ok-memory.ensures in
    record {
      first = λ input. same_states _ _ _ _ c.args.entry [] input None c.first-2.ensures (made.words ∙ ap statics_memory c.in_ok-statics.ensures.words);
      stays = same_spaces c.in_ok-code.ensures.words (ap (λ (xs : List ℕ). 8 * length xs) made.statics_length ∙ c.in_ok-statics.ensures.len) (omega (arith, made.heap_length)) (omega (arith, made.stack_length));
      fresh = refl;
    }
