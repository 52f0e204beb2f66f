use Rattle.std.proofs.Common.{◌≡◌, ◌++◌, drop}
use Rattle.form_facts.specs.Read.{those_parameters}
use Rattle.form_facts.specs.Words.{kinds_of, declared_of}
use Rattle.form_facts.proofs.words.declared_in.Given as goal

abbrev pub invariant-loop-parameter : goal.invariant-loop-parameter
invariant-loop-parameter l =
    l.numbers.items ++ declared_of (kinds_of l.symbols) (those_parameters (drop l.parameter-index l.parameters)) ≡ declared_of (kinds_of l.symbols) (those_parameters l.parameters)
