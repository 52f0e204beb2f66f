use Rattle.std.proofs.Common.{refl, ◌∙◌, arith}
use Rattle.core_form.specs.declared.tree.Lambda.{out-Lambda}
use Rattle.icr_convert.proofs.Tables.{makes, lambda_read}
use Rattle.icr_convert.proofs.converter.Converter.declare_function.Goals as goal

pub returns : goal.returns
returns c =
    let read = lambda_read c.reads_nodes.ensures.lambda c.args.text.lambda.now in
    makes _ _ c.in_ok-made.ensures c.in_ok-add_lambda.ensures refl refl read.number refl refl (omega (arith, c.in_ok-required.ensures, c.len.ensures, (out-Lambda c.args.text.lambda.now).required.ok.0, read.required)) (omega (arith, c.in_ok-optional.ensures, c.len-2.ensures, (out-Lambda c.args.text.lambda.now).optional.ok.0, read.optional)) (c.is_some-rest.ensures ∙ read.rest) refl refl refl
