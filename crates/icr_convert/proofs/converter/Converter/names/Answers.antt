use Rattle.std.proofs.Common.{sym, subst, map, length, List, Option, ℕ}
use Rattle.std.proofs.lemmas.List.{length-map}
use Rattle.core_form.specs.Facts.{FunctionText, facts_of, functions_in}
use Rattle.core_form.specs.Force.{symbol_kinds_of}
use Rattle.core_form.specs.Lawful.{symbol_of}
use Rattle.core_form.specs.Reading.{core_of, top_of}
use Rattle.lisp_base.specs.Tables.{Symbol}
use Rattle.form_facts.specs.View.{Knows}
use Rattle.form_names.specs.Read.{text_of}
use Rattle.icr_convert.specs.Whole.{FunctionsMade}
use Rattle.icr_convert.proofs.converter.Converter.names.Goals as goal

pub returns : goal.returns
returns c texts =
    let facts = c.in_ok-facts.facts in
    let form = c.args.form.now in
    let before = c.variables.new.self.built in
    let after = c.functions.new.self.built in
    let made = c.in_ok-functions.functions.items in
    let all = map text_of c.args.all.now in
    record {
      knows = λ start. subst (λ (symbols : List Symbol). Knows facts (facts_of (symbol_kinds_of (map symbol_of symbols)) start (top_of form)) (functions_in (core_of form.core))) c.symbols.ensures (c.in_ok-facts.ensures start);
      named = c.in_ok-texts.ensures;
      between = _;
      variables = c.in_ok-variables.ensures;
      functions =
          subst (λ (ts : List FunctionText). FunctionsMade facts c.in_ok-variables.variables.items ts (length ts) before after made) texts
          (subst (λ (n : ℕ). FunctionsMade facts c.in_ok-variables.variables.items all n before after made) (sym (length-map c.args.all.now text_of))
          (subst (λ (vs : List (Option ℕ)). FunctionsMade facts vs all (length c.args.all.now) before after made) c.deref-2.ensures.value c.in_ok-functions.ensures));
    }
