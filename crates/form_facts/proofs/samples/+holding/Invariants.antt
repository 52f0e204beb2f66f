use Rattle.std.proofs.Common.{◌≡◌, drop}
use Rattle.lisp_base.specs.Laws.{specs_list}
use Rattle.lisp_base.specs.Membership.{has_all, has_some}
use Rattle.core_form.specs.Facts.{sample_objects, sample_symbols}
use Rattle.form_facts.specs.Samples.{value_of}
use Rattle.form_facts.specs.Words.{kinds_of}
use Rattle.form_facts.proofs.samples.+holding.Given as goal

abbrev pub invariant-all_hold-loop-spec : goal.invariant-all_hold-loop-spec
invariant-all_hold-loop-spec l =
    has_all sample_objects (sample_symbols l.greatest (kinds_of l.symbols)) (specs_list (drop l.spec-index l.types)) (value_of l.greatest l.sample) ≡ has_all sample_objects (sample_symbols l.greatest (kinds_of l.symbols)) (specs_list l.types) (value_of l.greatest l.sample)

abbrev pub invariant-some_holds-loop-spec : goal.invariant-some_holds-loop-spec
invariant-some_holds-loop-spec l =
    has_some sample_objects (sample_symbols l.greatest (kinds_of l.symbols)) (specs_list (drop l.spec-index l.types)) (value_of l.greatest l.sample) ≡ has_some sample_objects (sample_symbols l.greatest (kinds_of l.symbols)) (specs_list l.types) (value_of l.greatest l.sample)
