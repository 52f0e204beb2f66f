-- The map and the list each have the label more.
use Rattle.std.proofs.Common.{◌≡◌, None, ◌++◌, [], ◌∷◌, sym, ◌∙◌, subst, List}
use Rattle.rv_asm.specs.declared.assembled.Mark.{Mark}
use Rattle.rv_asm.specs.Places.{mark, place_in}
use Rattle.rv_asm.specs.Table.{Agrees}
use Rattle.rv_asm.proofs.Tables.{Agrees-push, None-from_is_some}
use Rattle.rv_asm.proofs.labels.Labels.add.Goals as goal

pub invariant_of-self-2 : goal.invariant_of-self-2
invariant_of-self-2 c =
    let marks = c.self.inside.marks.items in
    let absent : place_in marks c.args.label ≡ None =
    sym (c.self.invariant.same c.args.label) ∙ None-from_is_some _ (sym c.contains_key.ensures ∙ c.if-contains_key.false) in
    let pushed : marks ++ mark c.args.label c.args.at ∷ [] ≡ c.push.new.self.items = cc (c.in_ok-push.ensures.items, c.reserve.ensures.items) in
    subst (λ (xs : List Mark). Agrees xs c.insert.new.self) pushed
    (Agrees-push marks c.self.inside.places c.insert.new.self c.args.label c.args.at c.self.invariant absent c.requires c.in_ok-insert.ensures.updates.0)
