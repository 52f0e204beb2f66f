use Rattle.std.proofs.Common.{◌≡◌, ◌++◌}
use Rattle.std.specs.List.{flat_map}
use Rattle.std.specs.String.{string_bytes}
use Rattle.lisp_base.specs.Shown.{in_order}
use Rattle.lisp_print.specs.Texts.{spelled}
use Rattle.lisp_print.proofs.letters.write_letters.Given as goal

abbrev pub invariant-loop-i : goal.invariant-loop-i
invariant-loop-i g l =
    string_bytes l.text ≡ string_bytes l.fn.text ++ flat_map (spelled l.spelling) (in_order ((g.V.View.shown l.view).letter l.w) 0 l.i)
