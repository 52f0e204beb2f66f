use Rattle.std.proofs.Common.{◌∙◌, List, map}
use Rattle.std.proofs.lemmas.List.Elements.{All-weaker}
use Rattle.std.proofs.lemmas.Result.{err_from_is_err_and}
use Rattle.lisp_reader.specs.declared.forms.TopRead.{TopRead}
use Rattle.expansion.specs.Steps.{World}
use Rattle.form_expander.specs.Reading.{scope_of, world_of}
use Rattle.file_expansion.specs.Files.{file_form}
use Rattle.file_expansion.specs.Laws.{IsThere}
use Rattle.file_expansion.specs.Tops.{Pending}
use Rattle.macroexpand.proofs.Coming.{part_leads, part_refuses}
use Rattle.macroexpand.proofs.FileForms.{keeps_on, file_comes, file_refuses}
use Rattle.macroexpand.proofs.Growth.{there_stays}
use Rattle.macroexpand.proofs.tops.Growing.expand_forms.Goals as goal

pub returns-in_err-expand-clause-refused : goal.returns-in_err-expand-clause-refused
returns-in_err-expand-clause-refused c =
    let p = err_from_is_err_and c.from_residual.result c.from_residual.ensures.1 in
    let w : World = world_of c.args.expander.now.world in
    let u : World = world_of c.loop-read.expander.world in
    let ps : List Pending = map file_form c.args.forms.now in
    rw (p.1, p.2)
    (part_refuses file_form c.args.forms.now c.loop-read.read-index c.args.self.now c.loop-read.self w u ps c.loop-read.invariant.prelude c.loop-read.invariant.leads _ c.in_err-expand.field-0.0 c.loop-read-test.true
    (file_refuses c.loop-read.self u (scope_of c.empty_scope.result) _ c.in_err-expand.field-0.0 (rw c.file_place.ensures at c.empty_scope.ensures) c.in_err-expand.ensures.refused))

pub loop-read-preserved : goal.loop-read-preserved
loop-read-preserved c =
    let w : World = world_of c.args.expander.now.world in
    let u : World = world_of c.loop-read.expander.world in
    let v : World = world_of c.expand.new.expander.world in
    let ps : List Pending = map file_form c.args.forms.now in
    record {
      leads =
          part_leads file_form c.args.forms.now c.loop-read.read-index c.args.self.now c.loop-read.self w u ps c.loop-read.invariant.prelude c.loop-read.invariant.leads _ c.expand.new.self v c.loop-read-test.true
          (file_comes c.loop-read.self c.expand.new.self u v (scope_of c.empty_scope.result) _ (rw c.file_place.ensures at c.empty_scope.ensures) c.in_ok-expand.ensures.comes);
      going = c.in_ok-expand.ensures.going;
      prelude = c.in_ok-expand.ensures.prelude ∙ c.loop-read.invariant.prelude;
      there = All-weaker (λ (f : TopRead). IsThere u f.form) (λ (f : TopRead). IsThere v f.form) (λ f h. there_stays u v c.in_ok-expand.ensures.grows f.form h) c.args.forms.now c.loop-read.invariant.there;
      keeps = keeps_on c.args.expander.now.world c.loop-read.expander.world c.expand.new.expander.world c.loop-read.invariant.keeps c.expand.ensures.keeps;
    }
