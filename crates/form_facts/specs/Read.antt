-- How what a walk over a form notes is read. (This project's own.)
use Rattle.std.specs.Prelude.{List, map}
use Rattle.std.specs.Borrow.{Bor}
use Rattle.core_form.specs.declared.tree.Parameter.{Parameter as Parameter'}
use Rattle.core_form.specs.Tree.{Parameter}
use Rattle.core_form.specs.Reading.{core_of, cores_list, lambda_of, parameter_of}
use Rattle.core_form.specs.ListReading.{bindings_list}
use Rattle.form_facts.specs.declared.parts.Part.{Part as Part'}
use Rattle.form_facts.specs.declared.parts.Part.TheVariants as variant
use Rattle.form_facts.specs.Parts.{Part, reads, sets, leaves, goes, binds, computes, makes}

abbrev pub part_of : Part' → Part
part_of (variant.Read x) = reads x
part_of (variant.Set x c) = sets x (core_of c.now)
part_of (variant.Leave b) = leaves b
part_of (variant.Go t) = goes t
part_of (variant.Bind bs) = binds (bindings_list bs.now)
part_of (variant.Compute cs) = computes (cores_list cs.now)
part_of (variant.Make l) = makes (lambda_of l.now)

abbrev pub parts_list : List Part' → List Part
parts_list ps = map part_of ps

abbrev pub those_parameters : List (Bor Parameter') → List Parameter
those_parameters xs = map (λ x. parameter_of x.now) xs
