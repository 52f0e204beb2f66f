use Rattle.std.proofs.Common.{◌≡◌, ◌++◌}
use Rattle.std.proofs.lemmas.Result.{IfOk-weaker}
use Rattle.type_lattice.specs.declared.ty.Ty.{Ty}
use Rattle.type_lattice.proofs.Parts.{describes_halves, joined}
use Rattle.type_lattice.proofs.spec.+items_set.Goals as goal

pub returns : goal.returns
returns t c =
    let xs = c.split_at.result.0.now in
    let ys = c.split_at.result.1.now in
    let whole : xs ++ ys ≡ c.args.items.now = joined xs ys c.args.items.now _ c.split_at.ensures.front c.split_at.ensures.back in
    IfOk-weaker c.union.result _ _ (λ (t : Ty) u. describes_halves _ xs ys c.args.items.now c.in_ok-front.front c.in_ok-back.back t whole c.in_ok-front.ensures c.in_ok-back.ensures u) c.union.ensures
