-- How the nodes that hold lists are read.
use Rattle.std.specs.Prelude.{◌≡◌, refl, option_map}
use Rattle.std.proofs.Common.{ap, ◌∙◌, rules}
use Rattle.core_form.specs.declared.tree.Core.{the_lemmas}
use Rattle.core_form.specs.declared.tree.Form.TheBlock as t
use Rattle.core_form.specs.declared.tree.Lambda.{is-Lambda'}
use Rattle.core_form.specs.Tree.{binding, optional, define, tag, step}
use Rattle.core_form.specs.Reading.{parameter_of, form_of, bindings_of, optionals_of, definitions_of, items_of, lambda_of}
use Rattle.core_form.specs.ListReading.{bindings_list, optionals_list, definitions_list, items_list, ReadsLet, ReadsLabels, ReadsCallLocal, ReadsCallGlobal, ReadsFuncall, ReadsApply, ReadsMvCall, ReadsTagbody, ReadsValues, ReadsLambda}
use Rattle.core_form.proofs.ReadingLemmas.{rows}

bindings : (n : _) (k : t.Row_of-Binding n) → bindings_of k ≡ bindings_list (t.items-the_row-Binding n k)
bindings _ t.end_of-Binding = refl
bindings _ (t.more_of-Binding {n = n} x q e rest) = ap (binding (parameter_of x) (form_of q e)) (bindings n rest)

optionals : (n : _) (k : t.Row_of-Optional n) → optionals_of k ≡ optionals_list (t.items-the_row-Optional n k)
optionals _ t.end_of-Optional = refl
optionals _ (t.more_of-Optional {n = n} x q e s rest) = ap (optional (parameter_of x) (form_of q e) (option_map parameter_of s)) (optionals n rest)

definitions : (n : _) (k : t.Row_of-Definition n) → definitions_of k ≡ definitions_list (t.items-the_row-Definition n k)
definitions _ t.end_of-Definition = refl
definitions _ (t.more_of-Definition {n = n} (t.struct-Definition p f name l) rest) = ap (define p f name (lambda_of l)) (definitions n rest)

items : (n : _) (k : t.Row_of-Item n) → items_of k ≡ items_list (t.items-the_row-Item n k)
items _ t.end_of-Item = refl
items _ (t.more_of-Item {n = n} (t.Tag k v) rest) = ap (tag k v) (items n rest)
items _ (t.more_of-Item {n = n} (t.Step' q e) rest) = ap (step (form_of q e)) (items n rest)

pub reads_let : ReadsLet
reads_let p v b = search (rules, bindings, the_lemmas)

pub reads_labels : ReadsLabels
reads_labels p v b = search (rules, definitions, the_lemmas)

pub reads_call_local : ReadsCallLocal
reads_call_local p f v = search (rules, rows, the_lemmas)

pub reads_call_global : ReadsCallGlobal
reads_call_global p s v = search (rules, rows, the_lemmas)

pub reads_funcall : ReadsFuncall
reads_funcall p f v = search (rules, rows, the_lemmas)

pub reads_apply : ReadsApply
reads_apply p f v = search (rules, rows, the_lemmas)

pub reads_mv_call : ReadsMvCall
reads_mv_call p f v = search (rules, rows, the_lemmas)

pub reads_tagbody : ReadsTagbody
reads_tagbody p v = search (rules, items, the_lemmas)

pub reads_values : ReadsValues
reads_values p v = search (rules, rows, the_lemmas)

pub reads_lambda : ReadsLambda
reads_lambda l = ap lambda_of (is-Lambda' l) ∙ search (rules, optionals, the_lemmas)
