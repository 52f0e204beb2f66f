use Rattle.std.proofs.Common.{◌≡◌, ◌++◌, drop}
use Rattle.std.specs.Prelude.{flat_map}
use Rattle.form_names.specs.Read.{local_number_of, parts_list}
use Rattle.form_names.proofs.lists.locals_in.Given as goal

abbrev pub invariant-loop-part : goal.invariant-loop-part
invariant-loop-part l =
    l.locals.items ++ flat_map local_number_of (parts_list (drop l.part-index l.parts)) ≡ flat_map local_number_of (parts_list l.parts)
