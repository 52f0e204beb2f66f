use Rattle.std.proofs.Common.{◌≡◌, sym, ◌∙◌, true, false, Some, None}
use Rattle.std.proofs.lemmas.Result.{err_from_is_err_and}
use Rattle.lisp_base.specs.declared.base_symbols.TheConstants as at
use Rattle.lisp_base.specs.Membership.{is_symbol_number}
use Rattle.lisp_base.specs.Sort.{number_of}
use Rattle.lisp_forms.specs.Conses.{cons_at}
use Rattle.form_expander.specs.Contained.{contents_from}
use Rattle.form_expander.specs.Reading.{scope_of, world_of}
use Rattle.macroexpand.proofs.Steps.{shape_atom, shape_other, progn_given, progn_refused, locally_given, locally_refused, body_refused}
use Rattle.macroexpand.proofs.Sound.{progn_sound, locally_sound}
use Rattle.macroexpand.proofs.shapes.shape_of.Goals as goal

pub returns-in_default-clause-follows : goal.returns-in_default-clause-follows
returns-in_default-clause-follows c =
    let e : cons_at c.args.world.now.heap c.args.form ≡ None = cc in
    shape_atom (scope_of c.args.scope.now) c.args.form (world_of c.args.world.now) e

pub returns-in_err-forms-clause-follows : goal.returns-in_err-forms-clause-follows
returns-in_err-forms-clause-follows c =
    let p = err_from_is_err_and c.from_residual.result c.from_residual.ensures.1 in
    let e : cons_at c.args.world.now.heap c.args.form ≡ Some (c.in-Some.operator, c.in-Some.arguments) = cc in
    rw (p.1, p.2)
    (progn_refused (scope_of c.args.scope.now) c.args.form (world_of c.args.world.now) (c.in-Some.operator, c.in-Some.arguments) c.in_err-forms.field-0.0 e (sym c.is_named.ensures ∙ c.if-is_named.true) c.in_err-forms.ensures)

pub returns-then-is_named-clause-follows : goal.returns-then-is_named-clause-follows
returns-then-is_named-clause-follows c =
    let e : cons_at c.args.world.now.heap c.args.form ≡ Some (c.in-Some.operator, c.in-Some.arguments) = cc in
    progn_given (scope_of c.args.scope.now) c.args.form (world_of c.args.world.now) (c.in-Some.operator, c.in-Some.arguments) c.in_ok-forms.forms.items e (sym c.is_named.ensures ∙ c.if-is_named.true) c.in_ok-forms.ensures

pub returns-then-is_named-clause-sound : goal.returns-then-is_named-clause-sound
returns-then-is_named-clause-sound c =
    let e : cons_at c.args.world.now.heap c.args.form ≡ Some (c.in-Some.operator, c.in-Some.arguments) = cc in
    progn_sound (world_of c.args.world.now) (scope_of c.args.scope.now) c.args.form (c.in-Some.operator, c.in-Some.arguments) c.in_ok-forms.forms.items e c.requires.there c.in_ok-forms.ensures

pub returns-in_err-body-clause-follows : goal.returns-in_err-body-clause-follows
returns-in_err-body-clause-follows c =
    let p = err_from_is_err_and c.from_residual-in_err-body.result c.from_residual-in_err-body.ensures.1 in
    let e : cons_at c.args.world.now.heap c.args.form ≡ Some (c.in-Some.operator, c.in-Some.arguments) = cc in
    let n : is_symbol_number (number_of at.PROGN) c.in-Some.operator ≡ false = cc in
    rw (p.1, p.2)
    (locally_refused (scope_of c.args.scope.now) c.args.form (world_of c.args.world.now) (c.in-Some.operator, c.in-Some.arguments) c.in_err-body.field-0.0 e n (sym c.is_named-2.ensures ∙ c.if-is_named-2.true) c.in_err-body.ensures)

pub returns-in_err-contents-clause-follows : goal.returns-in_err-contents-clause-follows
returns-in_err-contents-clause-follows c =
    let p = err_from_is_err_and c.from_residual-in_err-contents.result c.from_residual-in_err-contents.ensures.1 in
    let e : cons_at c.args.world.now.heap c.args.form ≡ Some (c.in-Some.operator, c.in-Some.arguments) = cc in
    let n : is_symbol_number (number_of at.PROGN) c.in-Some.operator ≡ false = cc in
    rw (p.1, p.2)
    (body_refused (scope_of c.args.scope.now) c.args.form (world_of c.args.world.now) (c.in-Some.operator, c.in-Some.arguments) c.in_ok-body.body.items c.in_err-contents.field-0.0 e n (sym c.is_named-2.ensures ∙ c.if-is_named-2.true) c.in_ok-body.ensures (rw (← c.deref.ensures.value) c.in_err-contents.ensures))

pub returns-then-is_named-2-clause-follows : goal.returns-then-is_named-2-clause-follows
returns-then-is_named-2-clause-follows c =
    let e : cons_at c.args.world.now.heap c.args.form ≡ Some (c.in-Some.operator, c.in-Some.arguments) = cc in
    let n : is_symbol_number (number_of at.PROGN) c.in-Some.operator ≡ false = cc in
    locally_given (scope_of c.args.scope.now) c.args.form (world_of c.args.world.now) (c.in-Some.operator, c.in-Some.arguments) c.in_ok-body.body.items (contents_from c.in_ok-contents.contents) e n (sym c.is_named-2.ensures ∙ c.if-is_named-2.true) c.in_ok-body.ensures (rw (← c.deref.ensures.value) c.in_ok-contents.ensures)

pub returns-then-is_named-2-clause-sound : goal.returns-then-is_named-2-clause-sound
returns-then-is_named-2-clause-sound c =
    let e : cons_at c.args.world.now.heap c.args.form ≡ Some (c.in-Some.operator, c.in-Some.arguments) = cc in
    locally_sound c.bodies_are_sound.ensures (world_of c.args.world.now) (scope_of c.args.scope.now) c.args.form (c.in-Some.operator, c.in-Some.arguments) c.in_ok-body.body.items (contents_from c.in_ok-contents.contents) c.requires.world e c.requires.there c.in_ok-body.ensures (rw (← c.deref.ensures.value) c.in_ok-contents.ensures)

pub returns-clause-follows : goal.returns-clause-follows
returns-clause-follows c =
    let e : cons_at c.args.world.now.heap c.args.form ≡ Some (c.in-Some.operator, c.in-Some.arguments) = cc in
    let n : is_symbol_number (number_of at.PROGN) c.in-Some.operator ≡ false = cc in
    let l : is_symbol_number (number_of at.LOCALLY) c.in-Some.operator ≡ false = cc in
    shape_other (scope_of c.args.scope.now) c.args.form (world_of c.args.world.now) (c.in-Some.operator, c.in-Some.arguments) e n l
