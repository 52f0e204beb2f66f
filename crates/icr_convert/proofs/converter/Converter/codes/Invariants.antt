use Rattle.std.proofs.Common.{map}
use Rattle.form_names.specs.Read.{text_of}
use Rattle.icr_convert.specs.Whole.{CodesAll}
use Rattle.icr_convert.proofs.converter.Converter.codes.Given as goal

abbrev pub invariant-loop-number : goal.invariant-loop-number
invariant-loop-number l = CodesAll l.names (map text_of l.texts) l.number l.initial.self.built l.self.built
