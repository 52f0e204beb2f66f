-- Keywords, made one after another.
use Rattle.std.proofs.Common.{◌≡◌, List, ◌++◌, map}
use Rattle.std.specs.Option.{option_map}
use Rattle.lisp_base.specs.Tables.{Table}
use Rattle.lambda_lists.specs.declared.lists.Defaulted.{Defaulted}
use Rattle.lambda_lists.specs.declared.key_forms.Keyed as rust
use Rattle.lambda_lists.specs.LambdaLists.{Keyed, keyed}
use Rattle.lambda_lists.specs.Readings.{KeepsSymbols, defaults_of, keyed_of}

abbrev pub after_made : List Keyed → List Keyed × Table → List Keyed × Table
after_made ks others = (ks ++ others.0, others.1)

-- what is known when the keywords of some parameters are made, and these are left
pub record IsKeying (ps : List Defaulted) (first : Table) (made : List rust.Keyed) (now : Table) (left : List Defaulted) : Type 0 where
  pub so_far : option_map (after_made (map keyed_of made)) (keyed (defaults_of left) now) ≡ keyed (defaults_of ps) first
  pub kept : KeepsSymbols first now
