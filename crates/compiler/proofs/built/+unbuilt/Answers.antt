use Rattle.std.proofs.Common.{◌∙◌}
use Rattle.compiler.proofs.Unbuilt.{progn_first, call_found}
use Rattle.compiler.proofs.built.+unbuilt.Goals as goal

pub first_in-returns-in-Progn : goal.first_in-returns-in-Progn
first_in-returns-in-Progn t c =
    c.first_among.ensures ∙ progn_first c.reads_lists.ensures.sequence c.args.core.now c.in-Progn.parts c.deref-in-Progn.result.now c.in-Progn.is c.deref-in-Progn.ensures.value

pub first_in-returns-in-Primitive : goal.first_in-returns-in-Primitive
first_in-returns-in-Primitive t c =
    let at = c.in-Primitive in
    call_found c.reads_lists.ensures.call c.args.core.now at.operation at.arguments c.deref-in-Primitive.result.now c.deref-in-Primitive-2.result.now
    c.is_built_call-is_built.result c.first_among-in-Primitive.result c.unless_built-in-Primitive.result
    at.is c.deref-in-Primitive.ensures.value c.deref-in-Primitive-2.ensures.value
    c.is_built_call-is_built.ensures c.first_among-in-Primitive.ensures c.unless_built-in-Primitive.ensures
