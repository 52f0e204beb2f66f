use Rattle.std.proofs.Common.{◌≡◌, ◌+◌, ◌-◌, ◌++◌, ◌∷◌, [], ℕ, List, None, length, sym, ap, ◌∙◌, subst, arith, take, get_or, pos}
use Rattle.std.proofs.lemmas.List.{take_more}
use Rattle.lisp_base.specs.declared.values.Val.{Val}
use Rattle.lisp_base.specs.declared.values.Val.TheVariants.{Int, Ref}
use Rattle.lisp_base.specs.Tables.{Cons}
use Rattle.lisp_forms.specs.Building.{made_list, made_cons}
use Rattle.lisp_forms.specs.Growth.{Grows}
use Rattle.lisp_forms.proofs.Chains.{list_push}
use Rattle.lisp_forms.proofs.Growths.{grows_more}
use Rattle.lisp_forms.proofs.template.make_list.Goals as goal

pub returns-in_err-add-clause-grown : goal.returns-in_err-add-clause-grown
returns-in_err-add-clause-grown c = subst (Grows c.args.heap.now) (sym c.in_err-add.ensures.err) c.loop-index.invariant.grown

pub loop-index-preserved : goal.loop-index-preserved
loop-index-preserved c =
    let items : List Val = c.args.items.now in
    let j : ℕ = c.loop-index.index - 1 in
    let item : Val = get_or items j (Int (pos 0)) in
    let next : c.loop-index.index ≡ j + 1 = omega arith in
    let split : take c.loop-index.index items ≡ take j items ++ item ∷ [] = ap (λ (n : ℕ). take n items) next ∙ take_more items j (Int (pos 0)) (omega arith) in
    let added = c.in_ok-add.ensures.ok in
    let cell = Cons item c.loop-index.value None in
    let first : made_list items c.args.tail c.args.heap.now ≡ made_list (take j items) (made_cons item c.loop-index.value c.loop-index.heap).0 (made_cons item c.loop-index.value c.loop-index.heap).1 =
    c.loop-index.invariant.rest ∙ (ap (λ (xs : List Val). made_list xs c.loop-index.value c.loop-index.heap) split ∙ list_push (take j items) item c.loop-index.value c.loop-index.heap) in
    let number : record { 0 = length c.loop-index.heap } ≡ c.in_ok-add.field-0 = λ i. record { 0 = sym added.0 i } in
    let heap : c.loop-index.heap ++ cell ∷ [] ≡ c.add.new.self = sym added.1 in
    record {
      rest = first ∙ (λ i. made_list (take j items) (Ref (number i)) (heap i));
      grown = subst (Grows c.args.heap.now) (sym added.1) (grows_more c.args.heap.now c.loop-index.heap _ c.loop-index.invariant.grown);
      within = omega arith;
    }
