use Rattle.lisp_base.proofs.PrimNamesLemmas.{named_at, none_at}
use Rattle.lisp_base.proofs.prim_names.prim_of.Goals as goal

pub returns-in-Some : goal.returns-in-Some
returns-in-Some c =
    let found = c.in-Some.ensures.lookup in
    named_at c.base_names.result.now c.base_names.ensures.names c.args.name.0 c.in-Some.text.now c.named.result found.3.0 (found.3.1 c.in-Some.text.now) c.named.ensures

pub returns-in-None : goal.returns-in-None
returns-in-None c =
    let missing = c.in-None.ensures.lookup in
    none_at c.base_names.result.now c.base_names.ensures.names c.args.name.0 missing.3
