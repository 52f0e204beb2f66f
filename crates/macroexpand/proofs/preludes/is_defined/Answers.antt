use Rattle.std.proofs.Common.{rules, ◌≡◌, ◌∙◌, true, false}
use Rattle.std.proofs.lemmas.Iterator.{YieldsList-from_slice, cases_from_any}
use borrow.Author.Tests.{tests}
use Rattle.expansion.specs.Scopes.{same_symbol}
use Rattle.macroexpand.proofs.Naming.{any_is, named_among}
use Rattle.macroexpand.proofs.preludes.is_defined.Goals as goal

pub returns : goal.returns
returns c =
    any_is c.args.prelude.now c.args.name c.any.result
    (cases_from_any _ _ c.any.result (λ f. same_symbol c.args.name f.name ≡ true) (λ f. same_symbol c.args.name f.name ≡ false) c.any.ensures.ran (YieldsList-from_slice c.args.prelude.now cc)
    (λ x q k. search (rules, tests)) (λ x q k. search (rules, tests)))
    ∙ named_among c.args.prelude.now c.args.name
