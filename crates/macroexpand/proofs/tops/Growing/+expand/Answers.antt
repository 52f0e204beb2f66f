use Rattle.std.proofs.Common.{◌≡◌, ap, sym, ◌∙◌, refl, subst, ◌+◌, List, [], ◌∷◌, map, drop, arith}
use Rattle.std.proofs.lemmas.Result.{err_from_is_err_and}
use Rattle.lisp_base.specs.declared.values.Val.{Val}
use Rattle.core_form.specs.Reading.{top_of}
use Rattle.expansion.specs.Scopes.{Scope}
use Rattle.expansion.specs.Steps.{World, gives}
use Rattle.form_expander.specs.Reading.{scope_of, world_of}
use Rattle.file_expansion.specs.Tops.{Pending, pending, at_top, tree}
use Rattle.file_expansion.specs.Laws.{IsLawfulTree}
use Rattle.macroexpand.specs.Going.{at_top_from, parts_from, IsSoundGiven, AreSoundParts, IsGoing, Leads, form_pending, prelude_of, trees_of}
use Rattle.macroexpand.proofs.Coming.{tree_comes, tree_large, parts_come, form_refused, part_leads, part_refuses, all_lead}
use Rattle.macroexpand.proofs.FileForms.{keeps_on, scope_next}
use Rattle.macroexpand.proofs.Going.{going_tree}
use Rattle.macroexpand.proofs.Growth.{grows_on, all_there_stay}
use Rattle.macroexpand.proofs.Whole.{tree_there}
use Rattle.macroexpand.proofs.tops.Growing.+expand.Goals as goal
use Rattle.macroexpand.proofs.tops.Growing.+expand.Goals.{in-Tree+in_ok-add-in-Tree, in-Parts+else-loop-part-test}

pub returns-in_err-tree-clause-refused : goal.returns-in_err-tree-clause-refused
returns-in_err-tree-clause-refused t c =
    let p = err_from_is_err_and c.from_residual.result c.from_residual.ensures.1 in
    rw (p.1, p.2)
    (form_refused c.args.self.now (world_of c.args.expander.now.world) (pending (scope_of c.args.expander.now.scope) c.args.has_policy c.args.chain c.args.form) c.in_err-tree.field-0.0 c.in_err-tree.ensures.follows)

pub add-requires-clause-there : goal.add-requires-clause-there
add-requires-clause-there t c =
    let w : World = world_of c.args.expander.now.world in
    let u : World = world_of c.at_top.new.expander.world in
    let lawful : IsLawfulTree u (top_of c.in-Tree.tree.form) = subst (IsSoundGiven w u (scope_of c.at_top.new.expander.scope)) c.in-Tree.is c.in_ok-tree.ensures.sound.given in
    tree_there u (top_of c.in-Tree.tree.form) lawful

pub returns-in_err-add-in-Tree-clause-refused : goal.returns-in_err-add-in-Tree-clause-refused
returns-in_err-add-in-Tree-clause-refused t c =
    let p = err_from_is_err_and c.from_residual-in_err-add-in-Tree.result c.from_residual-in_err-add-in-Tree.ensures.1 in
    let w : World = world_of c.args.expander.now.world in
    let u : World = world_of c.at_top.new.expander.world in
    let form : Pending = pending (scope_of c.args.expander.now.scope) c.args.has_policy c.args.chain c.args.form in
    let e : at_top form w ≡ gives (tree (top_of c.in-Tree.tree.form)) u =
    c.in_ok-tree.ensures.follows ∙ ap (λ (a : _). gives (at_top_from (scope_of c.at_top.new.expander.scope) a) u) c.in-Tree.is in
    rw (p.1, p.2) (tree_large c.args.self.now w u form c.in-Tree.tree c.in_err-add-in-Tree.field-0.0 e c.in_err-add-in-Tree.ensures.refused)

pub loop-part-init : goal.loop-part-init
loop-part-init t c =
    let w : World = world_of c.args.expander.now.world in
    let u : World = world_of c.at_top.new.expander.world in
    let sc : Scope = scope_of c.at_top.new.expander.scope in
    let form : Pending = pending (scope_of c.args.expander.now.scope) c.args.has_policy c.args.chain c.args.form in
    let e : at_top form w ≡ gives (parts_from sc c.in-Parts.parts) u =
    c.in_ok-tree.ensures.follows ∙ ap (λ (a : _). gives (at_top_from sc a) u) c.in-Parts.is in
    let sound : AreSoundParts w u sc c.in-Parts.parts.forms.items = subst (IsSoundGiven w u sc) c.in-Parts.is c.in_ok-tree.ensures.sound.given in
    record {
      leads =
          subst (λ (vs : List Val). Leads (prelude_of c.args.self.now) w (trees_of c.args.self.now) (form ∷ []) u (trees_of c.args.self.now) (map (pending sc c.in-Parts.parts.has_policy c.in-Parts.parts.chain) vs))
          (sym c.deref-part-items.ensures.value) (parts_come c.args.self.now w u form sc c.in-Parts.parts e);
      going = subst (IsGoing c.args.self.now) (sym sound.same) c.requires.going;
      grows = c.in_ok-tree.ensures.sound.grows;
      prelude = refl;
      scope = refl;
      top = sound.scope;
      there = rw c.deref-part-items.ensures.value sound.forms;
      keeps = c.at_top.ensures.keeps;
    }

pub returns-in_err-expand-in-Parts-clause-refused : goal.returns-in_err-expand-in-Parts-clause-refused
returns-in_err-expand-in-Parts-clause-refused t c =
    let p = err_from_is_err_and c.from_residual-in_err-expand-in-Parts.result c.from_residual-in_err-expand-in-Parts.ensures.1 in
    let w : World = world_of c.args.expander.now.world in
    let u : World = world_of c.loop-part.expander.world in
    let sc : Scope = scope_of c.loop-part.expander.scope in
    let ps : List Pending = form_pending (scope_of c.args.expander.now.scope) c.args.has_policy c.args.chain c.args.form in
    rw (p.1, p.2)
    (part_refuses (pending sc c.in-Parts.parts.has_policy c.in-Parts.parts.chain) c.deref-part-items.result.now c.loop-part.part-index c.args.self.now c.loop-part.self w u ps
    c.loop-part.invariant.prelude c.loop-part.invariant.leads _ c.in_err-expand-in-Parts.field-0.0 c.loop-part-test.true c.in_err-expand-in-Parts.ensures.refused)

pub loop-part-preserved : goal.loop-part-preserved
loop-part-preserved t c =
    let w : World = world_of c.args.expander.now.world in
    let u : World = world_of c.loop-part.expander.world in
    let v : World = world_of c.expand.new.expander.world in
    let sc : Scope = scope_of c.loop-part.expander.scope in
    let ps : List Pending = form_pending (scope_of c.args.expander.now.scope) c.args.has_policy c.args.chain c.args.form in
    record {
      leads =
          subst (λ (s : Scope). Leads (prelude_of c.args.self.now) w (trees_of c.args.self.now) ps v (trees_of c.expand.new.self) (map (pending s c.in-Parts.parts.has_policy c.in-Parts.parts.chain) (drop (c.loop-part.part-index + 1) c.deref-part-items.result.now)))
          (sym c.in_ok-expand-in-Parts.ensures.scope)
          (part_leads (pending sc c.in-Parts.parts.has_policy c.in-Parts.parts.chain) c.deref-part-items.result.now c.loop-part.part-index c.args.self.now c.loop-part.self w u ps
          c.loop-part.invariant.prelude c.loop-part.invariant.leads _ c.expand.new.self v c.loop-part-test.true c.in_ok-expand-in-Parts.ensures.comes);
      going = c.in_ok-expand-in-Parts.ensures.going;
      grows = grows_on w u v c.loop-part.invariant.grows c.in_ok-expand-in-Parts.ensures.grows;
      prelude = c.in_ok-expand-in-Parts.ensures.prelude ∙ c.loop-part.invariant.prelude;
      scope = c.in_ok-expand-in-Parts.ensures.scope ∙ c.loop-part.invariant.scope;
      top = scope_next u v sc (scope_of c.expand.new.expander.scope) c.in_ok-expand-in-Parts.ensures.grows c.in_ok-expand-in-Parts.ensures.scope c.loop-part.invariant.top;
      there = all_there_stay u v c.in_ok-expand-in-Parts.ensures.grows c.deref-part-items.result.now c.loop-part.invariant.there;
      keeps = keeps_on c.args.expander.now.world c.loop-part.expander.world c.expand.new.expander.world c.loop-part.invariant.keeps c.expand.ensures.keeps;
    }

pub returns-clause-comes : goal.returns-clause-comes
returns-clause-comes t c =
    let w : World = world_of c.args.expander.now.world in
    let u : World = world_of c.at_top.new.expander.world in
    let form : Pending = pending (scope_of c.args.expander.now.scope) c.args.has_policy c.args.chain c.args.form in
    elim c.match-branch-2.branch [
      | in-Tree+in_ok-add-in-Tree a ↦
          let e : at_top form w ≡ gives (tree (top_of a.in-Tree.tree.form)) u =
          c.in_ok-tree.ensures.follows ∙ ap (λ (x : _). gives (at_top_from (scope_of c.at_top.new.expander.scope) x) u) a.in-Tree.is in
          rw (a.self-is, a.expander-is) (tree_comes c.args.self.now a.add.new.self w u form a.in-Tree.tree e a.in_ok-add-in-Tree.ensures.ok)
      | in-Parts+else-loop-part-test a ↦
          rw (a.self-is, a.expander-is)
          (all_lead (pending (scope_of a.loop-part.expander.scope) a.in-Parts.parts.has_policy a.in-Parts.parts.chain) a.deref-part-items.result.now a.loop-part.part-index c.args.self.now a.loop-part.self w
          (world_of a.loop-part.expander.world) (form ∷ []) a.loop-part.invariant.prelude a.loop-part.invariant.leads (omega (arith, a.loop-part-test.false)))
    ]

pub returns-clause-going : goal.returns-clause-going
returns-clause-going t c =
    let w : World = world_of c.args.expander.now.world in
    let u : World = world_of c.at_top.new.expander.world in
    elim c.match-branch-2.branch [
      | in-Tree+in_ok-add-in-Tree a ↦
          let lawful : IsLawfulTree u (top_of a.in-Tree.tree.form) = subst (IsSoundGiven w u (scope_of c.at_top.new.expander.scope)) a.in-Tree.is c.in_ok-tree.ensures.sound.given in
          rw (a.self-is, a.expander-is)
          (going_tree c.args.self.now a.add.new.self w u a.in-Tree.tree c.requires.going c.in_ok-tree.ensures.sound.grows c.in_ok-tree.ensures.sound.world lawful a.in_ok-add-in-Tree.ensures.ok)
      | in-Parts+else-loop-part-test a ↦ rw (a.self-is, a.expander-is) a.loop-part.invariant.going
    ]

pub returns-clause-grows : goal.returns-clause-grows
returns-clause-grows t c =
    elim c.match-branch-2.branch [
      | in-Tree+in_ok-add-in-Tree a ↦ rw a.expander-is c.in_ok-tree.ensures.sound.grows
      | in-Parts+else-loop-part-test a ↦ rw a.expander-is a.loop-part.invariant.grows
    ]
