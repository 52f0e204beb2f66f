use Rattle.std.proofs.Common.{◌≡◌, drop}
use Rattle.core_form.specs.TextNames.{last_with, name_of}
use Rattle.core_form.proofs.text_page.Page.find.Given as goal

abbrev pub invariant-loop-known : goal.invariant-loop-known
invariant-loop-known l = last_with l.found (drop l.known-index l.self.names.items) l.number ≡ name_of l.self.names.items l.number
