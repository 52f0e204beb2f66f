use Rattle.core_form.proofs.NodeReading.{reads_let, reads_labels, reads_call_local, reads_call_global, reads_funcall, reads_apply, reads_mv_call, reads_tagbody, reads_values, reads_lambda}
use Rattle.core_form.proofs.node_laws.reads_nodes.Goals as goal

pub returns-clause-bindings : goal.returns-clause-bindings
returns-clause-bindings c = reads_let

pub returns-clause-functions : goal.returns-clause-functions
returns-clause-functions c = reads_labels

pub returns-clause-local : goal.returns-clause-local
returns-clause-local c = reads_call_local

pub returns-clause-global : goal.returns-clause-global
returns-clause-global c = reads_call_global

pub returns-clause-funcall : goal.returns-clause-funcall
returns-clause-funcall c = reads_funcall

pub returns-clause-apply : goal.returns-clause-apply
returns-clause-apply c = reads_apply

pub returns-clause-with_values : goal.returns-clause-with_values
returns-clause-with_values c = reads_mv_call

pub returns-clause-items : goal.returns-clause-items
returns-clause-items c = reads_tagbody

pub returns-clause-values : goal.returns-clause-values
returns-clause-values c = reads_values

pub returns-clause-lambda : goal.returns-clause-lambda
returns-clause-lambda c = reads_lambda
