use Rattle.std.proofs.Common.{◌≡◌, ◌++◌, drop}
use Rattle.std.specs.Option.{option_map}
use Rattle.lisp_base.specs.declared.values.SymId.{SymId}
use Rattle.lisp_base.specs.declared.values.Val.{Val}
use Rattle.std.specs.Prelude.{List}
use Rattle.expansion.specs.Forms.{bindings_among}
use Rattle.form_expander.proofs.plans_of_variables.bindings_among.Given as goal

abbrev pub invariant-loop-form : goal.invariant-loop-form
invariant-loop-form l =
    option_map (λ (bs : List (SymId × Val)). l.bindings.items ++ bs) (bindings_among l.heap l.symbols (drop l.form-index l.forms)) ≡ bindings_among l.heap l.symbols l.forms
