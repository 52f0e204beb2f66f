use Rattle.std.proofs.Common.{◌+◌, refl, arith, ap, sym, ◌∙◌}
use Rattle.std.proofs.lemmas.List.{length-map}
use Rattle.std.specs.HashSet as set
use Rattle.std.specs.Prelude.{nat_eq}
use Rattle.program_size.specs.Mentions.{functions_of, function_of}
use Rattle.program_size.specs.Counting.{holds}
use Rattle.program_size.proofs.Agreed.{AddsFunction}
use Rattle.program_size.proofs.Looking.{Looking, element, not_before, step_added, step_held, step_unnamed, ends}
use Rattle.program_size.proofs.sizes.Sizes.look_through.Goals as goal
use Rattle.program_size.proofs.sizes.Sizes.look_through.Goals.{then-has_symbol+in_ok-insert+then-branch+in_ok-include, else-has_symbol, else-has_symbol-via-then-has_symbol+in_ok-insert+else-branch, else-has_symbol-via-else-has_symbol}

pub loop-i-preserved : goal.loop-i-preserved
loop-i-preserved c =
    let heap = c.args.heap.now in
    let prelude = functions_of c.args.prelude.now in
    let s0 = c.args.self.now in
    let s = c.loop-i.self in
    let i = c.loop-i.i in
    let x = c.index-prelude-i.result in
    let is = element c.args.prelude.now i x c.loop-i-test.true c.index-prelude-i.is in
    elim c.if-has_symbol.branch as (λ _. Looking heap prelude s0 c.if-has_symbol.self (i + 1)) [
      | then-has_symbol+in_ok-insert+then-branch+in_ok-include w ↦
          let k = w.in_ok-include.ensures in
          let d : AddsFunction heap prelude i (function_of x) s w.include.new.self =
          record {
            is = is;
            named = sym c.has_symbol.ensures ∙ w.if-has_symbol.true;
            before = not_before w.in_ok-insert.field-0 (holds s i) w.in_ok-insert.ensures.added w.if-branch.true;
            held = λ q. ap (λ h. set.contains nat_eq h q) k.held ∙ w.in_ok-insert.ensures.updates.0 q;
            sees = k.sees;
            nodes = k.nodes;
            copies = k.copies;
          } in
          rw w.self-is (step_added heap prelude s0 s w.include.new.self i (function_of x) d c.loop-i.invariant)
      | else-has_symbol w ↦
          rw w.self-is
          (elim w.else-has_symbol.branch as (λ _. Looking heap prelude s0 w.else-has_symbol.self (i + 1)) [
            | else-has_symbol-via-then-has_symbol+in_ok-insert+else-branch v ↦
                rw v.self-is
                (step_held heap prelude s0 s (record c.loop-i.self { held = v.insert.new.self }) i v.in_ok-insert.field-0 refl refl refl v.in_ok-insert.ensures.added v.if-branch.false (λ q. v.in_ok-insert.ensures.updates.0 q) c.loop-i.invariant)
            | else-has_symbol-via-else-has_symbol v ↦
                rw v.self-is (step_unnamed heap prelude s0 s i (function_of x) is (sym c.has_symbol.ensures ∙ v.if-has_symbol.false) c.loop-i.invariant)
          ])
    ]

pub returns-clause-complete : goal.returns-clause-complete
returns-clause-complete c = ends c.args.heap.now (functions_of c.args.prelude.now) c.args.self.now c.loop-i.self c.loop-i.i (simp length-map (omega arith)) c.loop-i.invariant
