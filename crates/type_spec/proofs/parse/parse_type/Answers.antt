use Rattle.std.proofs.Common.{arith}
use Rattle.std.proofs.lemmas.Result.{IfOk-weaker}
use Rattle.lisp_base.specs.declared.types.TypeSpec.{TypeSpec}
use Rattle.lisp_base.specs.Lawful.{most_parts}
use Rattle.type_spec.proofs.Lawfulness.{lawful}
use Rattle.type_spec.proofs.Parsed.{one_found, none_found}
use Rattle.type_spec.proofs.parse.parse_type.Goals as goal

pub returns-clause-lawful : goal.returns-clause-lawful
unfolding most_parts
returns-clause-lawful c =
    IfOk-weaker c.tree.result _ _ (λ (t : TypeSpec) r. record { parts = lawful _ _ _ _ r.writes; size = omega (arith, r.counted) }) c.tree.ensures.ok

pub returns-clause-found : goal.returns-clause-found
unfolding most_parts
returns-clause-found c =
    IfOk-weaker c.tree.result _ _ (λ (t : TypeSpec) r. one_found _ _ _ _ r.writes (omega (arith, r.counted))) c.tree.ensures.ok

pub returns-clause-none : goal.returns-clause-none
unfolding most_parts
returns-clause-none c = λ e. none_found _ _ _ (c.tree.ensures.bad e)
