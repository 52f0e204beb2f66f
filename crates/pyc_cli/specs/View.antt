-- The code's types, without where they lie in memory.
use Rattle.std.specs.Prelude.{string_bytes}
use Rattle.pyc_cli.specs.Ending.{Close, told, value, error, usage, refused, absent, heap, stack, step_limit, bad_image, trap, not_text, too_long, written, read_fault, write_fault, memory}
use Rattle.pyc_cli.specs.Order.{Order, Limits}
use Rattle.pyc_cli.specs.declared.command.Command.{Command}
use Rattle.pyc_cli.specs.declared.outcome.Outcome.{Outcome}
use Rattle.pyc_cli.specs.declared.outcome.Outcome.TheVariants as outcome

abbrev pub close_of : Outcome → Close
close_of (outcome.Value text) = told (value (string_bytes text))
close_of (outcome.Error text) = told (error (string_bytes text))
close_of outcome.Usage = told usage
close_of (outcome.Refused text) = told (refused (string_bytes text))
close_of (outcome.Absent name) = told (absent name.now)
close_of outcome.ReadFault = read_fault
close_of outcome.WriteFault = write_fault
close_of outcome.Heap = told heap
close_of outcome.Stack = told stack
close_of outcome.StepLimit = told step_limit
close_of (outcome.BadImage kind offset) = told (bad_image kind offset)
close_of (outcome.Trap pc) = told (trap pc)
close_of (outcome.NotText offset) = told (not_text offset)
close_of outcome.TooLong = told too_long
close_of outcome.Written = told written
close_of outcome.Memory = memory

abbrev pub limits : Command → Limits
limits command = record { steps = command.steps; heap = command.heap; stack = command.stack }

abbrev pub order : Command → Order
order command = record { verb = command.verb; first = string_bytes command.first; second = string_bytes command.second; count = command.count; limits = limits command }
