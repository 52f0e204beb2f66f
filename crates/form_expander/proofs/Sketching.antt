-- The sketch of a function, by what its parts give.
use Rattle.std.specs.Prelude.{◌≡◌, List, ◌++◌, Option, Some, refl}
use Rattle.lisp_base.specs.declared.values.SymId.{SymId}
use Rattle.lisp_base.specs.declared.values.Val.{Val}
use Rattle.lambda_lists.specs.LambdaLists.{LambdaList, KeyForms}
use Rattle.expansion.specs.Sketches.{Sketch, form, choice}
use Rattle.expansion.specs.Bindings.{Contents, names, nested, let_in_order, parameter_names, parameters_round, body_within, plain_function, keyed_function}

module _ (l : LambdaList) (name : Option SymId) (c : Contents) (bs : List (SymId × Val)) (later bound : List SymId) (x y : Sketch) (are : later ≡ names bs) where
  -- without &KEY
  pub plain_made : bs ≡ l.auxiliary → bound ≡ parameter_names l l.rest ++ later → x ≡ body_within bound name c → y ≡ nested c.declared bs x → parameters_round l l.rest later c.declared y ≡ plain_function l name c
  unfolding plain_function
  plain_made from_list all inner round = rw (round, inner, all, are, from_list) refl

  -- with &KEY
  pub keyed_made : (rest : SymId) (k : KeyForms) → bs ≡ k.bindings ++ l.auxiliary → bound ≡ parameter_names l (Some rest) ++ later → x ≡ body_within bound name c → y ≡ let_in_order c.declared bs x → parameters_round l (Some rest) later c.declared (choice (form k.test) y (form k.refusal)) ≡ keyed_function l rest name c k
  unfolding keyed_function
  keyed_made rest k from_keys all inner round = rw (round, inner, all, are, from_keys) refl
