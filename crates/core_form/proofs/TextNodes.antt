-- The text of a node that is a list, by its beginning and its parts.
use Rattle.std.proofs.Common.{◌≡◌, ℕ, List, ◌++◌, refl, ap, ◌∙◌}
use Rattle.lisp_base.specs.InStore.{Store}
use Rattle.lisp_base.specs.declared.values.Place.{Place}
use Rattle.core_form.specs.declared.text_page.Known.{Known}
use Rattle.core_form.specs.declared.tree.Form.{Form as Form'}
use Rattle.core_form.specs.declared.tree.Lambda.{Lambda as Lambda'}
use Rattle.core_form.specs.declared.tree.Form.TheVariants as variant
use Rattle.core_form.specs.declared.tree.Form.TheBlock as t
use Rattle.core_form.specs.declared.tree.Core.{Core as Core'}
use Rattle.core_form.specs.Tree.{Core}
use Rattle.core_form.specs.Reading.{form_of, core_of}
use Rattle.core_form.specs.Text.{group, core_text}
use Rattle.core_form.specs.TextParts.{head_texts, part_texts}

pub listed_text : (st : Store) (ns : List Known) (p : Place) (f : Form') → ((n : ℕ) → f ≡ variant.Local n → ⊥) → ((l : Lambda') → f ≡ variant.Lambda l → ⊥) →
    core_text st ns (form_of p f) ≡ group (head_texts st ns (form_of p f) ++ part_texts st ns (form_of p f))
listed_text st ns p (t.Local x) a b = absurd (a x refl)
listed_text st ns p (t.Lambda l) a b = absurd (b l refl)
listed_text st ns p _ a b = refl

-- a node by its variant
pub node_is : (c : Core') (f : Form') (plain : Core) → c.form ≡ f → form_of c.place f ≡ plain → core_of c ≡ plain
node_is c f plain is reads = ap (form_of c.place) is ∙ reads
