use Rattle.std.proofs.Common.{sym, subst}
use Rattle.std.proofs.lemmas.Result.{err_from_is_err_and}
use Rattle.lisp_reader.specs.declared.token.Token.{Token}
use Rattle.lisp_reader.specs.Held.{IsFull}
use Rattle.lisp_reader.specs.Spelled.{token_of}
use Rattle.lisp_reader.proofs.progress.Progress.take.Goals as goal

pub returns-in_err-value-in-Atom-clause-full : goal.returns-in_err-value-in-Atom-clause-full
returns-in_err-value-in-Atom-clause-full c = λ many.
    let p = err_from_is_err_and c.from_residual-in_err-value-in-Atom.result c.from_residual-in_err-value-in-Atom.ensures.1 in
    subst (λ (t : Token). IsFull c.args.symbols.now (token_of t)) (sym c.in-Atom.is) (c.in_err-value-in-Atom.ensures.full (cc (many, p.1, p.2)))
