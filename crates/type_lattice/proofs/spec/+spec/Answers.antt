use Rattle.std.proofs.Common.{rules, arith, ap, sym, subst, ◌≡◌, true}
use Rattle.std.proofs.lemmas.Int.{to_z-of_z}
use denote.Param.Weighed.{at_most}
use mir.Val.{SFits}
use mir.Syntax.{w128}
use Rattle.lisp_base.specs.declared.types.TypeSpec.{TypeSpec, the_lemmas}
use Rattle.lisp_base.specs.Lawful.{has_lawful_parts}
use Rattle.lisp_base.specs.Spec.{Named, Integer, Signed, Unsigned, Mod}
use Rattle.lisp_base.specs.Reading.{spec_of}
use Rattle.type_lattice.proofs.Parts.{lift, part_lawful, one_part_more, all_parts}
use Rattle.type_lattice.proofs.spec.+spec.Goals as goal

pub tree_set-returns-in-Named : goal.tree_set-returns-in-Named
tree_set-returns-in-Named t c = lift _ _ (Named c.in-Named.name) _ (ap spec_of c.in-Named.is) c.name_set.ensures

pub tree_set-returns-in-Integer : goal.tree_set-returns-in-Integer
tree_set-returns-in-Integer t c = lift _ _ (Integer c.in-Integer.lo c.in-Integer.hi) _ (ap spec_of c.in-Integer.is) c.range_set.ensures

pub tree_set-returns-in-Signed : goal.tree_set-returns-in-Signed
tree_set-returns-in-Signed t c = lift _ _ (Signed c.in-Signed.bits) _ (ap spec_of c.in-Signed.is) c.signed_set.ensures

pub tree_set-returns-in-Unsigned : goal.tree_set-returns-in-Unsigned
tree_set-returns-in-Unsigned t c = lift _ _ (Unsigned c.in-Unsigned.bits) _ (ap spec_of c.in-Unsigned.is) c.unsigned_set.ensures

pub tree_set-returns-in-Mod : goal.tree_set-returns-in-Mod
tree_set-returns-in-Mod t c =
    let fits : SFits w128 c.in-Mod.below = search rules in
    let h = simp to_z-of_z at c.below_set.ensures in
    lift _ _ (Mod c.in-Mod.below) _ (ap spec_of c.in-Mod.is) h

pub parts_set-tree_set-requires : goal.parts_set-tree_set-requires
parts_set-tree_set-requires t c = (
  search (rules, the_lemmas, c.part-item.is, at_most),
  subst (λ (x : TypeSpec). has_lawful_parts c.args.symbols.now (spec_of x) ≡ true) (sym c.part-item.is) (part_lawful c.args.symbols.now c.args.parts.now c.loop-part.part-index c.part-item.result c.loop-part-test.true c.requires),
)

pub parts_set-loop-part-preserved : goal.parts_set-loop-part-preserved
parts_set-loop-part-preserved t c =
    one_part_more c.args.how c.args.symbols.now c.args.parts.now c.loop-part.part-index c.part-item.result c.loop-part.all c.in_ok-one.one c.in_ok-all.all c.loop-part-test.true c.part-item.is c.loop-part.invariant c.in_ok-one.ensures c.in_ok-all.ensures

pub parts_set-returns : goal.parts_set-returns
parts_set-returns t c =
    all_parts c.args.how c.args.symbols.now c.args.parts.now c.loop-part.part-index c.loop-part.all (omega arith) c.loop-part.invariant
