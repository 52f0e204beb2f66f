use Rattle.std.proofs.Common.{◌≡◌, drop}
use Rattle.std.specs.Option.{is_some}
use Rattle.std.specs.List.{list_all}
use Rattle.lisp_forms.specs.Conses.{cons_at}
use Rattle.std_macros.proofs.loops.all_conses.Given as goal

abbrev pub invariant-loop-form : goal.invariant-loop-form
invariant-loop-form l = list_all (λ e. is_some (cons_at l.heap e)) (drop l.form-index l.forms) ≡ list_all (λ e. is_some (cons_at l.heap e)) l.forms
