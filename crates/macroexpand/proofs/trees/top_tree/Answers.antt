use Rattle.std.proofs.Common.{ap, sym, ◌∙◌}
use Rattle.std.proofs.lemmas.Result.{err_from_is_err_and}
use Rattle.lisp_base.specs.declared.values.Place.{Place}
use Rattle.closed_copies.specs.Copies.{closed_copies}
use Rattle.core_form.specs.Reading.{core_of}
use Rattle.expansion.specs.Scopes.{Scope}
use Rattle.expansion.specs.Steps.{gives, refused}
use Rattle.expansion.specs.declared.kind.ExpandKind.TheVariants as kind
use Rattle.form_expander.specs.Reading.{scope_of, world_of}
use Rattle.file_expansion.specs.Tops.{top_with}
use Rattle.macroexpand.proofs.Steps.{tree_given, tree_many, tree_refused, few_copies, many_copies}
use Rattle.macroexpand.proofs.trees.top_tree.Goals as goal

pub returns-in_err-core-clause-follows : goal.returns-in_err-core-clause-follows
returns-in_err-core-clause-follows c =
    let p = err_from_is_err_and c.from_residual.result c.from_residual.ensures.1 in
    rw (p.1, p.2)
    (tree_refused c.args.chain (scope_of c.args.expander.now.scope) c.args.form (world_of c.args.expander.now.world) c.in_err-core.field-0.0 c.in_err-core.ensures.follows)

pub returns-in-Some-clause-follows : goal.returns-in-Some-clause-follows
returns-in-Some-clause-follows c =
    tree_given c.args.chain (scope_of c.args.expander.now.scope) c.args.form (world_of c.args.expander.now.world) (core_of c.in_ok-core.core) (world_of c.tree_of.new.self.world) c.in_ok-core.ensures.follows (few_copies (closed_copies (core_of c.in_ok-core.core)) c.in-Some.copies (sym c.in_ok-copies.ensures ∙ c.in-Some.is))
    ∙ ap (λ (p : Place). gives (top_with p (core_of c.in_ok-core.core) c.tree_of.new.self.world.nodes) (world_of c.tree_of.new.self.world)) (sym (ap (λ (sc : Scope). sc.place) c.in_ok-core.ensures.scope))

pub returns-in-None-clause-follows : goal.returns-in-None-clause-follows
returns-in-None-clause-follows c =
    tree_many c.args.chain (scope_of c.args.expander.now.scope) c.args.form (world_of c.args.expander.now.world) (core_of c.in_ok-core.core) (world_of c.tree_of.new.self.world) c.in_ok-core.ensures.follows (many_copies (closed_copies (core_of c.in_ok-core.core)) (sym c.in_ok-copies.ensures ∙ c.in-None.is))
    ∙ ap (λ (p : Place). refused kind.TooManyClosed p) (sym (ap (λ (sc : Scope). sc.place) c.in_ok-core.ensures.scope))
