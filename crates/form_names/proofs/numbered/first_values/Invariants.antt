use Rattle.std.proofs.Common.{◌≡◌, ℕ, drop}
use Rattle.std.specs.Option.{option_or}
use Rattle.core_form.specs.Facts.{lookup}
use Rattle.form_names.proofs.numbered.first_values.Given as goal

abbrev pub invariant-loop-entry : goal.invariant-loop-entry
invariant-loop-entry g l =
    (q : ℕ) → option_or (lookup q l.map.entries) (lookup q (drop l.entry-index l.entries)) ≡ lookup q l.entries
