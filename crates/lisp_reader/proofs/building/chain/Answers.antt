use Rattle.std.proofs.Common.{◌≡◌, ◌+◌, ◌-◌, ◌++◌, ◌∷◌, [], ℕ, List, length, sym, ap, ◌∙◌, subst, arith, take, get_or, pos}
use Rattle.std.proofs.lemmas.List.{take_more, length-take-le}
use Rattle.lisp_base.specs.declared.values.Val.{Val}
use Rattle.lisp_base.specs.declared.values.Val.TheVariants.{Int, Ref}
use Rattle.lisp_base.specs.Tables.{Object}
use Rattle.lisp_reader.specs.Building.{chain, made}
use Rattle.lisp_reader.proofs.Chains.{chain_push, grows_more, linked}
use Rattle.lisp_reader.proofs.building.chain.Goals as goal

pub loop-index-preserved : goal.loop-index-preserved
loop-index-preserved c =
    let items : List Val = c.args.items.now in
    let j : ℕ = c.loop-index.index - 1 in
    let item : Val = get_or items j (Int (pos 0)) in
    let next : c.loop-index.index ≡ j + 1 = omega arith in
    let at : ℕ = c.args.at in
    let split : take c.loop-index.index items ≡ take j items ++ item ∷ [] = ap (λ (n : ℕ). take n items) next ∙ take_more items j (Int (pos 0)) (omega arith) in
    let long : length (take j items) ≡ j = length-take-le j items (omega arith) in
    let place : 0 + length (take j items) ≡ j = omega arith in
    let added = c.in_ok-add.ensures.ok in
    let first : chain at 0 items c.args.tail c.args.heap.now ≡ chain at 0 (take j items) (made (linked at (0 + length (take j items)) item c.loop-index.value c.loop-index.heap) c.loop-index.heap).0 (made (linked at (0 + length (take j items)) item c.loop-index.value c.loop-index.heap) c.loop-index.heap).1 =
    c.loop-index.invariant.rest ∙ (ap (λ (xs : List Val). chain at 0 xs c.loop-index.value c.loop-index.heap) split ∙ chain_push at 0 (take j items) item c.loop-index.value c.loop-index.heap) in
    let number : record { 0 = length c.loop-index.heap } ≡ c.in_ok-add.field-0 = λ i. record { 0 = sym added.0 i } in
    let heap : c.loop-index.heap ++ linked at (0 + length (take j items)) item c.loop-index.value c.loop-index.heap ∷ [] ≡ c.add.new.self =
    ap (λ (k : ℕ). c.loop-index.heap ++ linked at k item c.loop-index.value c.loop-index.heap ∷ []) place ∙ sym added.1 in
    record {
      rest = first ∙ (λ i. chain at 0 (take j items) (Ref (number i)) (heap i));
      grown = subst (λ (os : List Object). (more : List Object) × (os ≡ c.args.heap.now ++ more)) (sym added.1) (grows_more c.args.heap.now c.loop-index.heap _ c.loop-index.invariant.grown);
      within = omega arith;
    }
