use Rattle.std.specs.Prelude.{[], ◌∷◌, if◌then◌else◌}
use Rattle.std.proofs.Common.{ap, sym, ◌∙◌, ◌++◌, append-nil}
use Rattle.form_facts.specs.Words.{kinds_of}
use Rattle.form_facts.proofs.SampleLaws.{declared_are}
use Rattle.form_facts.proofs.words.note_declared.Goals as goal

pub returns-in_ok-push : goal.returns-in_ok-push
returns-in_ok-push c =
    let found = declared_are (kinds_of c.args.symbols.now) c.args.parameter.now c.in-Lexical.number c.in-Lexical.name c.deref.result.now c.in_ok-is_within_integers.field-0 c.in-Lexical.is c.deref.ensures.value c.in_ok-is_within_integers.ensures in
    c.in_ok-push.ensures.items ∙ ap (λ xs. c.args.numbers.now.items ++ xs) (sym (found ∙ ap (λ b. if b then c.in-Lexical.number ∷ [] else []) c.if-branch.true))

pub returns-else-branch : goal.returns-else-branch
returns-else-branch c =
    let found = declared_are (kinds_of c.args.symbols.now) c.args.parameter.now c.in-Lexical.number c.in-Lexical.name c.deref.result.now c.in_ok-is_within_integers.field-0 c.in-Lexical.is c.deref.ensures.value c.in_ok-is_within_integers.ensures in
    sym (append-nil c.args.numbers.now.items) ∙ ap (λ xs. c.args.numbers.now.items ++ xs) (sym (found ∙ ap (λ b. if b then c.in-Lexical.number ∷ [] else []) c.if-branch.false))
