use Rattle.std.proofs.Common.{◌≡◌, ap, sym, ◌∙◌, refl, subst}
use Rattle.std.specs.List.{All}
use Rattle.std.proofs.lemmas.Result.{err_from_is_err_and}
use Rattle.core_form.specs.Reading.{top_of}
use Rattle.declarations.specs.Declarations.{declared_of}
use Rattle.expansion.specs.Scopes.{Scope, declared_in}
use Rattle.std.specs.Prelude.{◌||◌, not}
use Rattle.expansion.specs.Steps.{World, gives}
use Rattle.file_expansion.specs.Tops.{parts_within, same_policy}
use Rattle.macroexpand.specs.declared.shapes.Shape.TheVariants as shape
use Rattle.form_expander.specs.Contained.{contents_from}
use Rattle.form_expander.specs.Extending.{Extends}
use Rattle.form_expander.specs.Reading.{scope_of, world_of}
use Rattle.file_expansion.specs.Laws.{IsThere, IsTopScope, MadeLawfully}
use Rattle.macroexpand.specs.Going.{IsSoundShape, parts_from}
use Rattle.macroexpand.proofs.Growth.{grows_same}
use Rattle.macroexpand.proofs.Within.{declared_extends}
use Rattle.macroexpand.proofs.Sound.{declared_scope}
use Rattle.macroexpand.proofs.Steps.{refused_along, other_given, other_refused, progn_shaped, locally_shaped}
use Rattle.macroexpand.proofs.shapes.shaped.Goals as goal

pub returns-in_err-tree-in-Other-clause-follows : goal.returns-in_err-tree-in-Other-clause-follows
returns-in_err-tree-in-Other-clause-follows c =
    let p = err_from_is_err_and c.from_residual.result c.from_residual.ensures.1 in
    rw (c.in-Other.is, p.1, p.2)
    (other_refused (scope_of c.args.expander.now.scope) c.args.has_policy c.args.chain c.args.form (world_of c.args.expander.now.world) c.in_err-tree-in-Other.field-0.0 c.in_err-tree-in-Other.ensures.follows)

pub returns-in_err-parts-in-Progn-clause-follows : goal.returns-in_err-parts-in-Progn-clause-follows
returns-in_err-parts-in-Progn-clause-follows c =
    let p = err_from_is_err_and c.from_residual-in_err-parts-in-Progn.result c.from_residual-in_err-parts-in-Progn.ensures.1 in
    rw (c.in-Progn.is, p.1, p.2)
    (refused_along _ _ c.in_err-parts-in-Progn.field-0.0 (progn_shaped (scope_of c.args.expander.now.scope) c.args.has_policy c.args.chain c.args.form (world_of c.args.expander.now.world) c.in-Progn.forms.items) (c.in_err-parts-in-Progn.ensures.follows (scope_of c.args.expander.now.scope) (world_of c.args.expander.now.world)))

pub returns-in_err-parts-in-Locally-clause-follows : goal.returns-in_err-parts-in-Locally-clause-follows
returns-in_err-parts-in-Locally-clause-follows c =
    let p = err_from_is_err_and c.from_residual-in_err-parts-in-Locally.result c.from_residual-in_err-parts-in-Locally.ensures.1 in
    rw (c.in-Locally.is, p.1, p.2)
    (refused_along _ _ c.in_err-parts-in-Locally.field-0.0 (locally_shaped (scope_of c.args.expander.now.scope) c.args.has_policy c.args.chain c.args.form (world_of c.args.expander.now.world) (contents_from c.in-Locally.contents)) (rw (← c.states_policy-has_policy.ensures) (c.in_err-parts-in-Locally.ensures.follows (declared_in (declared_of c.in-Locally.contents.declared) (scope_of c.args.expander.now.scope)) (world_of c.args.expander.now.world))))

pub returns-in_ok-tree-in-Other-clause-follows : goal.returns-in_ok-tree-in-Other-clause-follows
returns-in_ok-tree-in-Other-clause-follows c =
    rw c.in-Other.is
    (other_given (scope_of c.args.expander.now.scope) c.args.has_policy c.args.chain c.args.form (world_of c.args.expander.now.world) (top_of c.in_ok-tree-in-Other.tree.form) (world_of c.top_tree.new.expander.world) c.in_ok-tree-in-Other.ensures.follows)

pub returns-in_ok-tree-in-Other-clause-sound : goal.returns-in_ok-tree-in-Other-clause-sound
returns-in_ok-tree-in-Other-clause-sound c =
    let made : MadeLawfully (world_of c.args.expander.now.world) (world_of c.top_tree.new.expander.world) (top_of c.in_ok-tree-in-Other.tree.form) =
    c.trees_are_lawful.ensures c.args.chain (scope_of c.args.expander.now.scope) c.args.form (world_of c.args.expander.now.world) (world_of c.top_tree.new.expander.world) (top_of c.in_ok-tree-in-Other.tree.form) c.in_ok-tree-in-Other.ensures.follows c.requires.world c.requires.scope c.requires.there in
    record { grows = made.grows; world = made.sound; given = made.tree }

pub returns-in_ok-parts-in-Progn-clause-follows : goal.returns-in_ok-parts-in-Progn-clause-follows
returns-in_ok-parts-in-Progn-clause-follows c =
    rw c.in-Progn.is
    (progn_shaped (scope_of c.args.expander.now.scope) c.args.has_policy c.args.chain c.args.form (world_of c.args.expander.now.world) c.in-Progn.forms.items
    ∙ c.in_ok-parts-in-Progn.ensures.follows (scope_of c.args.expander.now.scope) (world_of c.args.expander.now.world))

pub returns-in_ok-parts-in-Progn-clause-sound : goal.returns-in_ok-parts-in-Progn-clause-sound
returns-in_ok-parts-in-Progn-clause-sound c =
    let there : All (IsThere (world_of c.args.expander.now.world)) c.in-Progn.forms.items =
    subst (IsSoundShape (world_of c.args.expander.now.world)) c.in-Progn.is c.requires.shape in
    record {
      grows = grows_same (world_of c.args.expander.now.world);
      world = c.requires.world;
      given = record { same = refl; scope = c.requires.scope; forms = rw c.in_ok-parts-in-Progn.ensures.forms there };
    }

pub returns-in_ok-add_declared-in-Locally-clause-follows : goal.returns-in_ok-add_declared-in-Locally-clause-follows
returns-in_ok-add_declared-in-Locally-clause-follows c =
    let sc : Scope = scope_of c.args.expander.now.scope in
    let inner : Scope = declared_in (declared_of c.in-Locally.contents.declared) sc in
    let w : World = world_of c.args.expander.now.world in
    let e : parts_within sc inner (c.args.has_policy || not (same_policy c.in-Locally.contents.declared.policy sc.policy)) c.args.chain c.in-Locally.contents.forms.items w ≡ gives (parts_from inner c.in_ok-parts-in-Locally.parts) w =
    rw (← c.states_policy-has_policy.ensures) (c.in_ok-parts-in-Locally.ensures.follows inner w) in
    rw c.in-Locally.is
    (locally_shaped sc c.args.has_policy c.args.chain c.args.form w (contents_from c.in-Locally.contents)
    ∙ (e ∙ ap (λ (s : Scope). gives (parts_from s c.in_ok-parts-in-Locally.parts) w) (sym c.in_ok-add_declared-in-Locally.ensures)))

pub returns-in_ok-add_declared-in-Locally-clause-extends : goal.returns-in_ok-add_declared-in-Locally-clause-extends
returns-in_ok-add_declared-in-Locally-clause-extends c =
    subst (Extends (scope_of c.args.expander.now.scope)) (sym c.in_ok-add_declared-in-Locally.ensures) (declared_extends (declared_of c.in-Locally.contents.declared) (scope_of c.args.expander.now.scope))

pub returns-in_ok-add_declared-in-Locally-clause-sound : goal.returns-in_ok-add_declared-in-Locally-clause-sound
returns-in_ok-add_declared-in-Locally-clause-sound c =
    let w : World = world_of c.args.expander.now.world in
    let held : IsSoundShape w (shape.Locally c.in-Locally.contents) = subst (IsSoundShape w) c.in-Locally.is c.requires.shape in
    record {
      grows = grows_same w;
      world = c.requires.world;
      given = record {
        same = refl;
        scope = subst (IsTopScope w) (sym c.in_ok-add_declared-in-Locally.ensures) (declared_scope w (declared_of c.in-Locally.contents.declared) (scope_of c.args.expander.now.scope) held.0 c.requires.scope);
        forms = rw c.in_ok-parts-in-Locally.ensures.forms held.1;
      };
    }
