use Rattle.std.proofs.Common.{ap, ◌∙◌}
use Rattle.lisp_forms.specs.Trees.{tree_of}
use Rattle.lisp_forms.proofs.Chains.{each_more, each_all, list_built}
use Rattle.lisp_forms.proofs.Growths.{grows_on}
use Rattle.lisp_forms.proofs.template.+build.Goals as goal

pub build-returns-in_ok-values-in-List-clause-ok :
    goal.build-returns-in_ok-values-in-List-clause-ok
build-returns-in_ok-values-in-List-clause-ok t c = list_built _ _ _ _ _ _ _ _ _ _ _ _ (ap tree_of c.in-List.is ∙ c.reads_templates.ensures c.in-List.elements c.in-List.tail) c.deref.ensures.value c.in_ok-values-in-List.ensures.ok c.deref-in-List.ensures.value c.make_list.ensures.ok

pub build_each-loop-element-preserved : goal.build_each-loop-element-preserved
build_each-loop-element-preserved t c = record {
  so_far = each_more _ _ _ _ _ c.element-item.result _ _ _ _ c.in_ok-build.field-0 c.loop-element.invariant.so_far c.loop-element-test.true c.element-item.is c.in_ok-build.ensures.ok c.in_ok-push.ensures.items;
  grown = grows_on _ _ _ c.loop-element.invariant.grown c.in_ok-build.ensures.grown;
}

pub build_each-returns-clause-ok : goal.build_each-returns-clause-ok
build_each-returns-clause-ok t c = each_all _ _ _ _ _ _ _ c.loop-element.invariant.so_far c.loop-element-test.false
