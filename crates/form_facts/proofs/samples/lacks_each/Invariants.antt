use Rattle.std.proofs.Common.{◌≡◌, map, drop}
use Rattle.lisp_base.specs.Laws.{specs_list}
use Rattle.form_facts.specs.Samples.{value_of, lacks_all}
use Rattle.form_facts.specs.Words.{kinds_of}
use Rattle.form_facts.proofs.samples.lacks_each.Given as goal

abbrev pub invariant-loop-sample : goal.invariant-loop-sample
invariant-loop-sample l =
    lacks_all l.greatest (kinds_of l.symbols) (specs_list l.types) (map (value_of l.greatest) (drop l.sample-index l.samples)) ≡ lacks_all l.greatest (kinds_of l.symbols) (specs_list l.types) (map (value_of l.greatest) l.samples)
