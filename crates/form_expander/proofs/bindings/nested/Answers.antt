use Rattle.std.proofs.Common.{◌≡◌, ◌<◌, ◌+◌, ◌-◌, ℕ, List, length, drop, pos, ap, ◌∙◌, arith}
use Rattle.lisp_base.specs.declared.values.SymId.{SymId}
use Rattle.lisp_base.specs.declared.values.Val.{Val}
use Rattle.lisp_base.specs.declared.values.Val.TheVariants.{Int}
use Rattle.lisp_base.specs.Sort.{symbol}
use Rattle.declarations.specs.Declarations.{Declared, declared_of}
use Rattle.expansion.specs.Bindings.{nested}
use Rattle.form_expander.specs.Reading.{sketch_of}
use Rattle.form_expander.proofs.Nested.{nested_more}
use Rattle.form_expander.proofs.bindings.nested.Goals as goal

pub loop-index-preserved : goal.loop-index-preserved
loop-index-preserved c =
    let d : Declared = declared_of c.args.declared.now in
    let bs : List (SymId × Val) = c.args.bindings.now in
    let j : ℕ = c.loop-index.index - 1 in
    let next : c.loop-index.index ≡ j + 1 = omega arith in
    let inside : j < length bs = omega arith in
    record {
      so_far = nested_more d bs j (symbol 0, Int (pos 0)) c.deref.result.now (sketch_of c.args.body) (sketch_of c.loop-index.made) (sketch_of c.in_ok-made.made) inside
          (c.deref.ensures.value ∙ c.in_ok-variables.ensures)
          (c.loop-index.invariant.so_far ∙ ap (λ (n : ℕ). nested d (drop n bs) (sketch_of c.args.body)) next)
          c.in_ok-made.ensures;
      within = omega arith;
    }
