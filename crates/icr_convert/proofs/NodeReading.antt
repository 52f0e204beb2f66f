-- How a node that holds a list is read, for the conversion of a form by its kind. (This project's own.)
use Rattle.std.proofs.Common.{◌≡◌, List, Result, OnOk, sym, ap, subst, ◌∙◌}
use Rattle.std.specs.declared.alloc.AllocError.{AllocError}
use Rattle.lisp_base.specs.declared.values.Place.{Place}
use Rattle.core_form.specs.declared.tree.Core.{Core as Core'}
use Rattle.core_form.specs.declared.tree.Form.{Form}
use Rattle.core_form.specs.Tree.{Core}
use Rattle.core_form.specs.Reading.{form_of}
use Rattle.graph_building.specs.Built.{Built}
use Rattle.icr_convert.specs.declared.names.Names.{Names}
use Rattle.icr_convert.specs.declared.setting.Setting.{Setting}
use Rattle.icr_convert.specs.Converting.{Converts}

-- a form is converted as what it is read as
pub as_read : (r : Result (Unit {0}) AllocError) (names : Names) (st : Setting) (e f : Core) (a b : Built) → f ≡ e → OnOk r (Converts names st f a b) → OnOk r (Converts names st e a b)
as_read r names st e f a b read converts = subst (λ (g : Core). OnOk r (Converts names st g a b)) read converts

-- a node that holds a list
pub list_read : {T : Type 0} (p : Place) (of : List T → Core) (form node : Form) {xs ys : List T} → xs ≡ ys → form_of p node ≡ of ys → form ≡ node → of xs ≡ form_of p form
list_read p of form node same law is = ap of same ∙ sym law ∙ sym (ap (form_of p) is)

-- a node that holds a list and a form
pub list_and_form_read : {T : Type 0} (p : Place) (of : List T → Core' → Core) (form node : Form) {xs ys : List T} {c d : Core'} → xs ≡ ys → c ≡ d → form_of p node ≡ of ys d → form ≡ node →
    of xs c ≡ form_of p form
list_and_form_read {T} p of form node {xs} {ys} {c} {d} same part law is =
    ap (λ (zs : List T). of zs c) same ∙ ap (λ (e : Core'). of ys e) part ∙ sym law ∙ sym (ap (form_of p) is)

-- a node that holds two forms, or three
pub two_read : (p : Place) (of : Core' → Core' → Core) (form node : Form) {a b c d : Core'} → a ≡ c → b ≡ d → form_of p node ≡ of c d → form ≡ node → of a b ≡ form_of p form
two_read p of form node {a} {b} {c} {d} first second law is = ap (λ (x : Core'). of x b) first ∙ ap (λ (y : Core'). of c y) second ∙ sym law ∙ sym (ap (form_of p) is)

pub three_read : (p : Place) (of : Core' → Core' → Core' → Core) (form node : Form) {a b c d e f : Core'} → a ≡ d → b ≡ e → c ≡ f → form_of p node ≡ of d e f → form ≡ node → of a b c ≡ form_of p form
three_read p of form node {a} {b} {c} {d} {e} {f} first second third law is =
    ap (λ (x : Core'). of x b c) first ∙ ap (λ (y : Core'). of d y c) second ∙ ap (λ (z : Core'). of d e z) third ∙ sym law ∙ sym (ap (form_of p) is)

-- a form is converted as what it is read as, at the end of a conversion
pub as_read_now : (names : Names) (st : Setting) (e f : Core) (a b : Built) → f ≡ e → Converts names st f a b → Converts names st e a b
as_read_now names st e f a b read converts = subst (λ (g : Core). Converts names st g a b) read converts
