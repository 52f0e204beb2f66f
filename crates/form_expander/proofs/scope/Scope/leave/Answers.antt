use Rattle.std.proofs.Common.{◌≡◌, take, map, ap, sym, ◌∙◌}
use Rattle.std.proofs.lemmas.List.{take-map}
use Rattle.form_expander.specs.Reading.{check_of}
use Rattle.form_expander.proofs.scope.Scope.leave.Goals as goal

pub returns : goal.returns
returns c =
    let checks : map check_of c.truncate-2.new.self.items ≡ take c.args.mark.checks (map check_of c.args.self.now.checks.items) =
    ap (map check_of) c.truncate-2.ensures.items ∙ sym (take-map check_of c.args.mark.checks c.args.self.now.checks.items) in
    cc (checks, c.truncate.ensures.items, c.truncate-3.ensures.items, c.truncate-4.ensures.items, c.truncate-5.ensures.items)
