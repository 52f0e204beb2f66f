use Rattle.std.proofs.Common.{◌≡◌, ap, arith, sym, subst, List, []}
use Rattle.std.proofs.lemmas.Result.{err_from_is_err_and}
use Rattle.program_size.specs.declared.prelude_functions.PreludeFunction.{PreludeFunction}
use Rattle.expansion.specs.Steps.{World}
use Rattle.form_expander.specs.Reading.{world_of}
use Rattle.file_expansion.specs.Files.{helpers}
use Rattle.macroexpand.specs.Going.{helpers_from}
use Rattle.macroexpand.specs.Preludes.{IsSoundPrelude}
use Rattle.macroexpand.proofs.FileForms.{keeps_same, keeps_on}
use Rattle.macroexpand.proofs.Filed.{prelude_begins, forms_there}
use Rattle.macroexpand.proofs.Read.{helpers_next, helpers_fail, helpers_all, prelude_next}
use Rattle.macroexpand.proofs.preludes.expand_helpers.Goals as goal

pub loop-read-init : goal.loop-read-init
loop-read-init c =
    let none : c.new-prelude.result.items ≡ [] = c.new-prelude.ensures.items in
    let w : World = world_of c.args.expander.now.world in
    record {
      follows = ap (λ (fs : List PreludeFunction). helpers (helpers_from fs) c.args.forms.now w) none;
      sound = subst (λ (fs : List PreludeFunction). IsSoundPrelude w w fs) (sym none) (prelude_begins w c.requires.world);
      there = c.requires.there;
      keeps = keeps_same c.args.expander.now.world;
    }

pub loop-read-preserved : goal.loop-read-preserved
loop-read-preserved c =
    let s : World = world_of c.args.expander.now.world in
    let w : World = world_of c.loop-read.expander.world in
    let u : World = world_of c.expand_helper.new.expander.world in
    record {
      follows =
          helpers_next c.args.forms.now c.loop-read.read-index s w c.loop-read.prelude.items c.loop-read.invariant.follows _ c.in_ok-function.function c.deref.result.now c.push.new.self.items u
          c.loop-read-test.true c.deref.ensures.value c.in_ok-push.ensures.items c.in_ok-function.ensures.follows;
      sound =
          prelude_next s w u c.loop-read.prelude.items c.deref.result.now c.push.new.self.items c.in_ok-function.function c.deref.ensures.value c.in_ok-push.ensures.items
          c.loop-read.invariant.sound c.in_ok-function.ensures.measured c.in_ok-function.ensures.sound;
      there = forms_there w u c.args.forms.now c.in_ok-function.ensures.sound.grows c.loop-read.invariant.there;
      keeps = keeps_on c.args.expander.now.world c.loop-read.expander.world c.expand_helper.new.expander.world c.loop-read.invariant.keeps c.expand_helper.ensures.keeps;
    }

pub returns-in_err-function-clause-follows : goal.returns-in_err-function-clause-follows
returns-in_err-function-clause-follows c =
    let p = err_from_is_err_and c.from_residual.result c.from_residual.ensures.1 in
    rw (p.1, p.2)
    (helpers_fail c.args.forms.now c.loop-read.read-index (world_of c.args.expander.now.world) (world_of c.loop-read.expander.world) c.loop-read.prelude.items c.loop-read.invariant.follows _
    c.deref.result.now c.in_err-function.field-0.0 c.loop-read-test.true c.deref.ensures.value c.in_err-function.ensures.follows)

pub returns-clause-follows : goal.returns-clause-follows
returns-clause-follows c =
    helpers_all c.args.forms.now c.loop-read.read-index (world_of c.args.expander.now.world) (world_of c.loop-read.expander.world) c.loop-read.prelude.items c.loop-read.invariant.follows
    (omega (arith, c.loop-read-test.false))
