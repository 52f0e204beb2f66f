use Rattle.std.proofs.Common.{◌≡◌, ◌++◌, drop}
use Rattle.std.specs.Prelude.{flat_map}
use Rattle.form_names.specs.Parts.{function_of}
use Rattle.form_names.specs.Read.{texts_list, parts_list}
use Rattle.form_names.proofs.lists.texts_in.Given as goal

abbrev pub invariant-loop-part : goal.invariant-loop-part
invariant-loop-part l =
    texts_list l.texts.items ++ flat_map function_of (parts_list (drop l.part-index l.parts)) ≡ flat_map function_of (parts_list l.parts)
