-- One name that opens all that a run of graphs computes with: `unfolding everything`. (This project's own.)
use Rattle.core_form.specs.Everything.{everything as everything_of_programs}
use Rattle.graph_meaning.specs.Effects.{delivered_by, test, test_all, test_operands, box_for, bind, assign, captured, new_function, closed_values, leaf_values, box_before, operate}
use Rattle.graph_meaning.specs.Extents.{enter_by, rebind, take_one, leave_extent}

unfoldable pub everything : Unit {0}
unfolding everything_of_programs delivered_by test test_all test_operands box_for bind assign captured new_function closed_values leaf_values box_before operate enter_by rebind take_one leave_extent
everything = tt
