-- What a run of an image writes and how it ends, by the machine's definition.
use Rattle.std.specs.Prelude.{ℕ, List, Option, Some, None}
use Rattle.std.specs.Str.{encode_utf8_all}
use Rattle.image.specs.Content.{Content}
use Rattle.rv_isa.specs.declared.ending.Ending.{Ending as Stop}
use Rattle.rv_isa.specs.declared.ending.Ending.TheVariants as stop
use Rattle.rv_isa.specs.Machine.{Space, State}
use Rattle.rv_isa.specs.Start.{Setup, setup_space, machine}
use Rattle.pyc_cli.specs.Ending.{Ending, value, error, heap, stack, step_limit, trap}
use Rattle.pyc_cli.specs.Order.{Limits}
use Rattle.ending_texts.specs.Texts.{value_text, error_text}

abbrev pub setup : Limits → Content → Setup
setup limits image = record { code = image.code; statics = image.statics; entry = image.entry; heap = limits.heap; stack = limits.stack }

-- the state in which the run ended, or at which its instructions had passed
abbrev pub last_state : Limits → Content → List ℕ → State
last_state limits image input = machine (setup limits image) input limits.steps

abbrev pub ending_at : Content → Space → State → Option Stop → Ending
ending_at image space s (Some (stop.Value word)) = value (value_text space s word)
ending_at image space s (Some (stop.Error kind a b c pc)) = error (error_text image space s kind a b c pc)
ending_at image space s (Some stop.Heap) = heap
ending_at image space s (Some stop.Stack) = stack
ending_at image space s (Some (stop.Trap pc)) = trap pc
ending_at image space s None = step_limit

-- the bytes that it writes: its characters in UTF-8
unfoldable pub shown : Limits → Content → List ℕ → List ℕ
shown limits image input = encode_utf8_all (last_state limits image input).output

unfoldable pub end_of : Limits → Content → List ℕ → Ending
end_of limits image input =
    let s = last_state limits image input in
    ending_at image (setup_space (setup limits image)) s s.ending
