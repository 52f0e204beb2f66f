use Rattle.std.proofs.Common.{◌≡◌, ap, sym, subst, List, [], ◌++◌, map}
use Rattle.std.specs.List.{All}
use Rattle.std.proofs.lemmas.Result.{err_from_is_err_and}
use Rattle.lisp_base.specs.declared.values.Place.{Place}
use Rattle.lisp_base.specs.Tables.{Symbol, Table}
use Rattle.lisp_reader.specs.declared.forms.TopRead.{TopRead}
use Rattle.core_form.specs.Reading.{tops_of}
use Rattle.expansion.specs.Steps.{World}
use Rattle.form_expander.specs.declared.world.World.{World as World'}
use Rattle.form_expander.specs.Reading.{world_of}
use Rattle.file_expansion.specs.Files.{file_form}
use Rattle.file_expansion.specs.Laws.{Grows, IsThere}
use Rattle.macroexpand.specs.declared.tops.Growing.{Growing}
use Rattle.macroexpand.specs.Going.{Comes, IsGoing, RefusesAll, trees_of}
use Rattle.macroexpand.specs.Preludes.{RefusesPrelude, stock_of}
use Rattle.macroexpand.proofs.FileForms.{keeps_on}
use Rattle.macroexpand.proofs.Filed.{answered, file_refused, given_after, going_begins, prelude_fails, restarted_world}
use Rattle.macroexpand.proofs.files.expand_all.Goals as goal

pub returns-in_err-prelude-clause-refused : goal.returns-in_err-prelude-clause-refused
returns-in_err-prelude-clause-refused c =
    let p = err_from_is_err_and c.from_residual.result c.from_residual.ensures.1 in
    rw (p.1, p.2)
    (prelude_fails c.args.forms.now (stock_of c.args.expander.now.world) c.in_err-prelude.field-0.0
    (subst (λ (place : Place). RefusesPrelude (stock_of c.args.expander.now.world) place c.in_err-prelude.field-0.0) c.first_place-first.ensures c.in_err-prelude.ensures.refused))

pub expand_forms-requires-clause-going : goal.expand_forms-requires-clause-going
expand_forms-requires-clause-going c =
    let mid : World' = c.expand_prelude.new.expander.world in
    let first : Growing = record { prelude = c.in_ok-prelude.prelude; sizes = c.new.result; forms = c.new-2.result } in
    let none : trees_of first ≡ [] = ap tops_of c.new-2.ensures.items in
    subst (IsGoing first) (sym (restarted_world mid c.restart.new.self c.restart.ensures))
    (going_begins first (world_of c.args.expander.now.world) (world_of mid) c.new.ensures none c.in_ok-prelude.ensures.made.sound)

pub expand_forms-requires-clause-there : goal.expand_forms-requires-clause-there
expand_forms-requires-clause-there c =
    let mid : World' = c.expand_prelude.new.expander.world in
    let grown : Grows _ (world_of mid) = subst (λ (w : World). Grows w (world_of mid)) c.requires.fresh c.in_ok-prelude.ensures.made.sound.grows in
    subst (λ (w : World). All (λ (f : TopRead). IsThere w f.form) c.args.forms.now) (sym (restarted_world mid c.restart.new.self c.restart.ensures))
    (given_after (stock_of c.args.expander.now.world) (world_of mid) c.args.forms.now grown c.requires.given)

pub returns-in_err-expand_forms-clause-refused : goal.returns-in_err-expand_forms-clause-refused
returns-in_err-expand_forms-clause-refused c =
    let p = err_from_is_err_and c.from_residual-in_err-expand_forms.result c.from_residual-in_err-expand_forms.ensures.1 in
    let mid : World' = c.expand_prelude.new.expander.world in
    let first : Growing = record { prelude = c.in_ok-prelude.prelude; sizes = c.new.result; forms = c.new-2.result } in
    let none : trees_of first ≡ [] = ap tops_of c.new-2.ensures.items in
    rw (p.1, p.2)
    (file_refused c.args.forms.now c.args.expander.now.world mid first c.in_ok-prelude.ensures.made none c.in_err-expand_forms.field-0.0
    (subst (λ (w : World). RefusesAll first w (map file_form c.args.forms.now) c.in_err-expand_forms.field-0.0)
    (restarted_world mid c.restart.new.self c.restart.ensures) c.in_err-expand_forms.ensures.refused))

pub returns-clause-answered : goal.returns-clause-answered
returns-clause-answered c =
    let mid : World' = c.expand_prelude.new.expander.world in
    let first : Growing = record { prelude = c.in_ok-prelude.prelude; sizes = c.new.result; forms = c.new-2.result } in
    let none : trees_of first ≡ [] = ap tops_of c.new-2.ensures.items in
    let after : World = world_of c.expand_forms.new.expander.world in
    answered c.args.forms.now c.args.expander.now.world mid first c.in_ok-prelude.ensures.made none c.expand_forms.new.self after c.in_ok-expand_forms.ensures.prelude
    (subst (λ (w : World). Comes first w (map file_form c.args.forms.now) c.expand_forms.new.self after [])
    (restarted_world mid c.restart.new.self c.restart.ensures) c.in_ok-expand_forms.ensures.comes)

pub returns-clause-keeps : goal.returns-clause-keeps
returns-clause-keeps c =
    let same : c.restart.new.self.symbols ≡ c.expand_prelude.new.expander.world.symbols.symbols = ap (λ (t : Table). t.symbols) c.restart.ensures in
    keeps_on c.args.expander.now.world c.expand_prelude.new.expander.world c.expand_forms.new.expander.world c.expand_prelude.ensures.keeps
    (subst (λ (l : List Symbol). (more : List Symbol) × (c.expand_forms.new.expander.world.symbols.symbols ≡ l ++ more)) same c.expand_forms.ensures.keeps)
