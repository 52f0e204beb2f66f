-- What words ask for: the grammar of the command line (this project's own).
use Rattle.std.specs.Prelude.{ℕ, ◌+◌, ◌-◌, ◌*◌, ◌%◌, ◌^◌, List, [], ◌∷◌, Option, Some, None, is_none, option_map, option_and_then, unwrap_or, Bool, true, false, ◌&&◌, not, nat_lt, nat_le, nat_eq, length, take, drop, slice_get, codes, if◌then◌else◌}
use Rattle.std.specs.List.{starts_with, list_all, fold}
use Rattle.std.specs.Str.{bytes_eq, all_ascii_digits}
use Rattle.pyc_cli.specs.declared.command.Verb.{Verb}
use Rattle.pyc_cli.specs.declared.command.Verb.TheVariants as verbs
use Rattle.pyc_cli.specs.declared.options.Span.{Span}
use Rattle.pyc_cli.specs.declared.words.Shape.{Shape}

-- how far a run may go: its instructions, and the bytes of the heap and of each stack
pub record Limits : Type 0 where
  pub steps : ℕ
  pub heap : ℕ
  pub stack : ℕ

-- a command, its operands, the number of a bench, and the limits of its run
pub record Order : Type 0 where
  pub verb : Verb
  pub first : List ℕ
  pub second : List ℕ
  pub count : ℕ
  pub limits : Limits

-- ---- numbers

-- 1 to 19 digits, of which the first isn't 0
abbrev pub is_decimal : List ℕ → Bool
is_decimal word = nat_lt 0 (length word) && (nat_le (length word) 19 && (all_ascii_digits word && not (starts_with nat_eq word (codes "0"))))

-- the number that digits write
abbrev pub value_of : List ℕ → ℕ
value_of digits = fold (λ n digit. n * 10 + (digit - 48)) 0 digits

-- a multiple of the unit, from the least to the most
abbrev pub is_within : Span → ℕ → Bool
is_within span n = nat_le span.least n && (nat_le n span.most && nat_eq (n % span.unit) 0)

-- the number that a word writes, where the span has it
abbrev pub number_of : Span → List ℕ → Option ℕ
number_of span word = if is_decimal word && is_within span (value_of word) then Some (value_of word) else None

-- ---- the options of a run

unfoldable pub steps_span : Span
steps_span = record { least = 1; most = 10 ^ 18; unit = 1 }

unfoldable pub heap_span : Span
heap_span = record { least = 16; most = 268435456; unit = 16 }

unfoldable pub stack_span : Span
stack_span = record { least = 1024; most = 268435456; unit = 16 }

-- what options give
pub record Given : Type 0 where
  pub steps : Option ℕ
  pub heap : Option ℕ
  pub stack : Option ℕ

abbrev pub nothing_given : Given
nothing_given = record { steps = None; heap = None; stack = None }

-- the limits that are given, or else the usual ones
abbrev pub limits_of : Given → Limits
limits_of given = record { steps = unwrap_or given.steps 1000000000; heap = unwrap_or given.heap 67108864; stack = unwrap_or given.stack 67108864 }

-- an option, which is a name and a number, gives one thing more
abbrev pub with_option : List ℕ → List ℕ → Given → Option Given
with_option name number given =
    if bytes_eq name (codes "--steps") && is_none given.steps then option_map (λ n. record given { steps = Some n }) (number_of steps_span number)
    else (if bytes_eq name (codes "--heap") && is_none given.heap then option_map (λ n. record given { heap = Some n }) (number_of heap_span number)
    else (if bytes_eq name (codes "--stack") && is_none given.stack then option_map (λ n. record given { stack = Some n }) (number_of stack_span number)
    else None))

-- options, one after another
abbrev pub with_options : List (List ℕ) → Given → Option Given
with_options [] given = Some given
with_options (name ∷ []) given = None
with_options (name ∷ number ∷ words) given = option_and_then (with_options words) (with_option name number given)

-- ---- commands

-- run IN OUT, exec IMAGE, expand IN, disasm IMAGE: how many operands they have, and whether they take the options of a run
abbrev pub shape_of : List ℕ → Option Shape
shape_of word =
    if bytes_eq word (codes "run") then Some (record { verb = verbs.Run; operands = 2; runs = true })
    else (if bytes_eq word (codes "exec") then Some (record { verb = verbs.Exec; operands = 1; runs = true })
    else (if bytes_eq word (codes "expand") then Some (record { verb = verbs.Expand; operands = 1; runs = false })
    else (if bytes_eq word (codes "disasm") then Some (record { verb = verbs.Disasm; operands = 1; runs = false })
    else None)))

abbrev pub is_operand : List ℕ → Bool
is_operand word = nat_lt 0 (length word) && (nat_le (length word) 255 && not (starts_with nat_eq word (codes "--")))

-- the operand with this number from 0, empty where there is none
abbrev pub operand : List (List ℕ) → ℕ → List ℕ
operand operands n = unwrap_or (slice_get operands n) []

-- what words give after the operands
abbrev pub given_by : Bool → List (List ℕ) → Option Given
given_by true words = with_options words nothing_given
given_by false [] = Some nothing_given
given_by false (word ∷ words) = None

-- the order of a command with these operands and options
abbrev pub ordered : Verb → List (List ℕ) → Given → Order
ordered verb operands given = record { verb = verb; first = operand operands 0; second = operand operands 1; count = 0; limits = limits_of given }

-- the order of a command, from the words after it
abbrev pub shaped : Shape → List (List ℕ) → Option Order
shaped shape words =
    if nat_le shape.operands (length words) && list_all is_operand (take shape.operands words)
    then option_map (ordered shape.verb (take shape.operands words)) (given_by shape.runs (drop shape.operands words))
    else None

abbrev pub order_of : List (List ℕ) → Option Order
order_of [] = None
order_of (word ∷ words) = option_and_then (λ shape. shaped shape words) (shape_of word)
