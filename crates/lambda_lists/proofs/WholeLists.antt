-- A lambda list, by its sections.
use Rattle.std.proofs.Common.{◌≡◌, List, Option, Some, Result, Ok, Err, IfOk, sym, ap, ◌∙◌}
use Rattle.std.specs.Option.{option_map, option_and_then}
use Rattle.std.specs.declared.alloc.AllocError.{AllocError}
use Rattle.std.specs.declared.alloc.Global.{Global}
use Rattle.std.specs.declared.vec.Vec.{Vec}
use Rattle.lisp_base.specs.declared.values.Val.{Val}
use Rattle.lisp_base.specs.Tables.{Table, Object}
use Rattle.lisp_forms.specs.Conses.{elements}
use Rattle.lambda_lists.specs.declared.lists.LambdaList as rust
use Rattle.lambda_lists.specs.LambdaLists.{Sections, sections, list_of_sections, lambda_list}
use Rattle.lambda_lists.specs.Readings.{list_of}

pub list_read : (heap : List Object) (table : Table) (v : Val) (found : Option (Vec Val Global)) (values : Vec Val Global) (vs : List Val) (s : Sections) (r : Result (Option rust.LambdaList) AllocError) → option_map (λ xs. xs.items) found ≡ elements heap v → found ≡ Some values → vs ≡ values.items → s ≡ sections vs → IfOk r (λ l. option_map list_of l ≡ list_of_sections heap table s) → IfOk r (λ l. option_map list_of l ≡ lambda_list heap table v)
unfolding lambda_list
list_read heap table v found values vs s (Err e) here is same cut made = tt
list_read heap table v found values vs s (Ok l) here is same cut made =
    made ∙ (ap (list_of_sections heap table) (cut ∙ ap sections same)
    ∙ ap (option_and_then (λ (xs : List Val). list_of_sections heap table (sections xs))) (sym (ap (option_map (λ (xs : Vec Val Global). xs.items)) is) ∙ here))
