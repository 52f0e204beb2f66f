use Rattle.std.proofs.Common.{◌≡◌, sym, ◌∙◌, refl, subst, true, false, Some, None}
use Rattle.std.proofs.lemmas.Result.{err_from_is_err_and}
use Rattle.core_form.specs.Reading.{top_of}
use Rattle.expansion.specs.Scopes.{Scope}
use Rattle.expansion.specs.Steps.{World, gives, most_chain}
use Rattle.form_expander.specs.Reading.{scope_of, world_of}
use Rattle.file_expansion.specs.Files.{helper_name, helper_scope}
use Rattle.file_expansion.specs.Tops.{top_tree}
use Rattle.macroexpand.specs.Going.{helpers_from, names_from}
use Rattle.macroexpand.proofs.Helpers.{helper_none, helper_twice, helper_given, helper_refused}
use Rattle.macroexpand.proofs.Naming.{refused_name, helper_sound}
use Rattle.macroexpand.proofs.preludes.expand_helper.Goals as goal

pub returns-in_default-clause-follows : goal.returns-in_default-clause-follows
returns-in_default-clause-follows c =
    let name : helper_name c.args.expander.now.world.heap c.args.form ≡ None = cc in
    helper_none (helpers_from c.args.prelude.now) c.args.form (world_of c.args.expander.now.world) name

pub returns-then-is_refused-clause-follows : goal.returns-then-is_refused-clause-follows
returns-then-is_refused-clause-follows c =
    let name : helper_name c.args.expander.now.world.heap c.args.form ≡ Some c.in-Some.name = cc in
    helper_twice (helpers_from c.args.prelude.now) c.args.form (world_of c.args.expander.now.world) c.in-Some.name name
    (refused_name c.args.prelude.now c.in-Some.name true (sym c.is_refused.ensures ∙ c.if-is_refused.true))

-- the scope is helper_scope, and 1000 is most_chain: unfolding most_chain under the signature
pub returns-in_err-tree-clause-follows : goal.returns-in_err-tree-clause-follows
unfolding most_chain
returns-in_err-tree-clause-follows c =
    let p = err_from_is_err_and c.from_residual.result c.from_residual.ensures.1 in
    let name : helper_name c.args.expander.now.world.heap c.args.form ≡ Some c.in-Some.name = cc in
    let scope : scope_of c.empty_scope.result ≡ helper_scope c.in-Some.name = c.empty_scope.ensures in
    rw (p.1, p.2)
    (helper_refused (helpers_from c.args.prelude.now) c.args.form (world_of c.args.expander.now.world) c.in-Some.name c.in_err-tree.field-0.0 name
    (refused_name c.args.prelude.now c.in-Some.name false (sym c.is_refused.ensures ∙ c.if-is_refused.false)) (rw scope at c.in_err-tree.ensures.follows))

pub returns-clause-follows : goal.returns-clause-follows
unfolding most_chain
returns-clause-follows c =
    let name : helper_name c.args.expander.now.world.heap c.args.form ≡ Some c.in-Some.name = cc in
    let w : World = world_of c.args.expander.now.world in
    let u : World = world_of c.top_tree.new.expander.world in
    let e : top_tree most_chain (helper_scope c.in-Some.name) c.args.form w ≡ gives (top_of c.in_ok-tree.tree.form) u =
    subst (λ (s : Scope). top_tree most_chain s c.args.form w ≡ gives (top_of c.in_ok-tree.tree.form) u) c.empty_scope.ensures c.in_ok-tree.ensures.follows in
    helper_given (helpers_from c.args.prelude.now) c.args.form w c.in-Some.name (top_of c.in_ok-tree.tree.form) u name
    (refused_name c.args.prelude.now c.in-Some.name false (sym c.is_refused.ensures ∙ c.if-is_refused.false)) e

pub returns-clause-sound : goal.returns-clause-sound
unfolding most_chain
returns-clause-sound c =
    let name : helper_name c.args.expander.now.world.heap c.args.form ≡ Some c.in-Some.name = cc in
    let w : World = world_of c.args.expander.now.world in
    let u : World = world_of c.top_tree.new.expander.world in
    let e : top_tree most_chain (helper_scope c.in-Some.name) c.args.form w ≡ gives (top_of c.in_ok-tree.tree.form) u =
    subst (λ (s : Scope). top_tree most_chain s c.args.form w ≡ gives (top_of c.in_ok-tree.tree.form) u) c.empty_scope.ensures c.in_ok-tree.ensures.follows in
    helper_sound c.trees_are_lawful.ensures c.preludes_define.ensures (names_from c.args.prelude.now) w u c.args.form c.in-Some.name
    (record { name = c.in-Some.name; form = c.in_ok-tree.tree.form; copies = c.in_ok-tree.tree.copies }) c.requires.world c.requires.there name
    (sym c.is_refused.ensures ∙ c.if-is_refused.false) refl e
