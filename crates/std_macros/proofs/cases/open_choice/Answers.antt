use Rattle.std.proofs.Common.{◌≡◌, ◌-◌, List, length, take, subst, sym, ap, ◌∙◌, map, IfOk}
use Rattle.std.specs.Option.{option_map}
use Rattle.lisp_forms.specs.Trees.{Tree}
use Rattle.std_macros.specs.declared.cases.Clause as rust
use Rattle.std_macros.specs.declared.words.Word.TheVariants as w
use Rattle.std_macros.specs.Rules.{call, expansion_of}
use Rattle.std_macros.specs.Cases.{Clause, clause_of, open_choice}
use Rattle.std_macros.proofs.Defaults.{last_default, last_ordinary, ends_with}
use Rattle.std_macros.proofs.cases.open_choice.Goals as goal

pub returns-then-is_default : goal.returns-then-is_default
returns-then-is_default c =
    let cs : List rust.Clause = c.args.clauses.now in
    let front : List rust.Clause = take (length cs - 1) cs in
    let split = last_default cs front c.last-item.result (ends_with cs c.last-item.result c.in-len1-up.len_at_least c.last-item.is) (sym c.is_default.ensures ∙ c.if-is_default.true) in
    let end = c.in_ok-end.ensures ∙ ap (call w.Progn) c.deref.ensures.value in
    subst (λ (p : List Clause × Tree). IfOk c.closed_choice-then-is_default.result (λ found. option_map expansion_of found ≡ open_choice c.args.by c.args.value p))
    (sym (split ∙ ap (λ (t : Tree). (map clause_of front, t)) (sym end))) c.closed_choice-then-is_default.ensures

pub returns : goal.returns
returns c =
    let cs : List rust.Clause = c.args.clauses.now in
    let front : List rust.Clause = take (length cs - 1) cs in
    let split = last_ordinary cs front c.last-item.result (ends_with cs c.last-item.result c.in-len1-up.len_at_least c.last-item.is) (sym c.is_default.ensures ∙ c.if-is_default.false) in
    subst (λ (p : List Clause × Tree). IfOk c.closed_choice-2.result (λ found. option_map expansion_of found ≡ open_choice c.args.by c.args.value p))
    (sym (split ∙ ap (λ (t : Tree). (map clause_of cs, t)) (sym c.word-2.ensures))) c.closed_choice-2.ensures
