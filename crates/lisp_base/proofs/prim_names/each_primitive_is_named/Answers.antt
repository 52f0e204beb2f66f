use Rattle.lisp_base.proofs.PrimNamesLemmas as lemmas
use Rattle.lisp_base.proofs.prim_names.each_primitive_is_named.Goals as goal

pub returns : goal.returns
returns c = lemmas.each_primitive_is_named
