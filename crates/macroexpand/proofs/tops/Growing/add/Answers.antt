use Rattle.std.proofs.Common.{◌≡◌, ◌∙◌, ap, refl, [], ◌∷◌, ◌++◌}
use Rattle.std.proofs.lemmas.List.{map-append}
use Rattle.core_form.specs.Reading.{top_of, tops_of}
use Rattle.macroexpand.specs.Going.{trees_of}
use Rattle.macroexpand.proofs.Adding.{added, too_large_with}
use Rattle.macroexpand.proofs.tops.Growing.add.Goals as goal

pub returns-then-is_too_large-clause-refused : goal.returns-then-is_too_large-clause-refused
returns-then-is_too_large-clause-refused c =
    let same : c.deref.result.now ≡ c.args.self.now.prelude.items = cc in
    too_large_with c.args.self.now c.args.heap.now c.args.tree c.add.new.self c.is_too_large.result c.deref.result.now same
    c.requires.counted c.requires.there c.requires.measured c.in_ok-add.ensures c.is_too_large.ensures c.if-is_too_large.true

pub returns-clause-ok : goal.returns-clause-ok
returns-clause-ok c =
    let same : c.deref.result.now ≡ c.args.self.now.prelude.items = cc in
    let forms : tops_of c.push.new.self.items ≡ trees_of c.args.self.now ++ top_of c.args.tree.form ∷ [] =
    ap tops_of c.in_ok-push.ensures.items ∙ map-append top_of c.args.self.now.forms.items (c.args.tree.form ∷ []) in
    added c.args.self.now (record { prelude = c.args.self.now.prelude; sizes = c.add.new.self; forms = c.push.new.self }) c.args.heap.now c.args.tree
    c.is_too_large.result c.deref.result.now same c.requires.counted c.requires.there c.requires.measured c.in_ok-add.ensures c.is_too_large.ensures
    c.if-is_too_large.false refl forms
