use Rattle.std.proofs.Common.{◌≡◌, ℕ, Some, slice_get, sym, ap, subst}
use Rattle.core_form.specs.Reading.{lambda_of}
use Rattle.form_graphs.specs.Standing.{lambda_number}
use Rattle.icr_convert.proofs.Atoms.{function_converts}
use Rattle.icr_convert.proofs.converter.Converter.function.Goals as goal

pub returns : goal.returns
returns c =
    let read = ap lambda_number (c.reads_nodes.ensures.lambda c.args.lambda.now) in
    function_converts c.args.names.now c.args.setting (lambda_of c.args.lambda.now) c.in_ok-made.made
    (subst (λ (k : ℕ). slice_get c.args.names.now.functions.items k ≡ Some c.in_ok-made.made) (sym read) c.in_ok-made.ensures)
    c.in_ok-one_more.ensures c.in_ok-leaf.ensures
