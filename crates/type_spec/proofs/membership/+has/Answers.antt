use Rattle.std.proofs.Common.{rules, ◌≡◌, true, sym, subst}
use denote.Param.Weighed.{at_most}
use Rattle.lisp_base.specs.declared.types.TypeSpec.{TypeSpec, the_lemmas}
use Rattle.lisp_base.specs.Reading.{spec_of}
use Rattle.lisp_base.specs.Lawful.{has_lawful_parts}
use Rattle.type_spec.proofs.Loops.{part_lawful}
use Rattle.type_spec.proofs.membership.+has.Goals as goal

pub all_have-part_has-requires : goal.all_have-part_has-requires
all_have-part_has-requires t c = (
  search (rules, the_lemmas, c.part-item.is, at_most),
  subst (λ (x : TypeSpec). has_lawful_parts c.args.symbols.now (spec_of x) ≡ true) (sym c.part-item.is) (part_lawful c.args.symbols.now c.args.parts.now c.loop-part.part-index c.part-item.result c.loop-part-test.true c.requires),
)

pub some_has-part_has-requires : goal.some_has-part_has-requires
some_has-part_has-requires t c = (
  search (rules, the_lemmas, c.part-item.is, at_most),
  subst (λ (x : TypeSpec). has_lawful_parts c.args.symbols.now (spec_of x) ≡ true) (sym c.part-item.is) (part_lawful c.args.symbols.now c.args.parts.now c.loop-part.part-index c.part-item.result c.loop-part-test.true c.requires),
)
