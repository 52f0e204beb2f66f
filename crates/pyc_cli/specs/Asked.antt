-- What the reading of words answers (this project's own).
use Rattle.std.specs.Prelude.{◌≡◌, Option, Some, None, Result, Ok, Err}
use Rattle.pyc_cli.specs.Order.{Order, Given}
use Rattle.pyc_cli.specs.View.{order}
use Rattle.pyc_cli.specs.declared.command.Command.{Command}
use Rattle.pyc_cli.specs.declared.options.Options.{Options}
use Rattle.pyc_cli.specs.declared.words.WordFault.{WordFault}
use Rattle.pyc_cli.specs.declared.words.WordFault.TheVariants as faults

-- what options give, without the facts about them
abbrev pub given : Options → Given
given options = record { steps = options.steps; heap = options.heap; stack = options.stack }

-- the words are refused for this
abbrev pub IsOutside : Option Order → WordFault → Type 0
IsOutside asked faults.Usage = asked ≡ None
IsOutside asked faults.Memory = Unit {0}

-- the command that is asked for, or Usage where none is
abbrev pub Parses : Option Order → Result Command WordFault → Type 0
Parses asked (Ok command) = asked ≡ Some (order command)
Parses asked (Err fault) = IsOutside asked fault
