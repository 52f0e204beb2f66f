-- The forms of a file, and parts of a form, in the scopes in which the code comes to them.
use Rattle.std.proofs.Common.{◌≡◌, ◌∙◌, ap, sym, subst, ℕ, false, List, [], ◌∷◌, ◌++◌}
use Rattle.std.proofs.lemmas.List.{append-nil, append_assoc}
use Rattle.lisp_base.specs.Tables.{Symbol}
use Rattle.lisp_reader.specs.declared.forms.TopRead.{TopRead}
use Rattle.declarations.specs.declared.policy.TheConstants as policies
use Rattle.expansion.specs.Scopes.{Scope, empty_scope}
use Rattle.expansion.specs.Steps.{World, most_chain}
use Rattle.form_expander.specs.Keeping.{Keeps}
use Rattle.form_expander.specs.declared.fault.Fault.{Fault}
use Rattle.form_expander.specs.declared.world.World.{World as World'}
use Rattle.macroexpand.specs.declared.tops.Growing.{Growing}
use Rattle.file_expansion.specs.Files.{file_form, file_place}
use Rattle.file_expansion.specs.Laws.{Grows, IsTopScope}
use Rattle.macroexpand.specs.Going.{Comes, RefusesAll, form_pending}
use Rattle.macroexpand.proofs.Growth.{scope_stays}
use Rattle.macroexpand.proofs.Naming.{file_top}

pub keeps_same : (w : World') → Keeps w w
keeps_same w = ([], sym (append-nil w.symbols.symbols))

pub keeps_on : (a b c : World') → Keeps a b → Keeps b c → Keeps a c
keeps_on a b c m n =
    (m.0 ++ n.0, n.1 ∙ (ap (λ (l : List Symbol). l ++ n.0) m.1 ∙ append_assoc a.symbols.symbols m.0 n.0))

pub scope_next : (w u : World) (sc inner : Scope) → Grows w u → inner ≡ sc → IsTopScope w sc → IsTopScope u inner
scope_next w u sc inner g is h = subst (IsTopScope u) (sym is) (scope_stays w u g sc h)

pub file_comes : (g new : Growing) (w u : World) (sc : Scope) (f : TopRead) → sc ≡ empty_scope (file_place f.offset) false policies.FIRST_POLICY →
    Comes g w (form_pending sc false 1000 f.form) new u [] → Comes g w (file_form f ∷ []) new u []
unfolding most_chain
file_comes g new w u sc f is h = subst (λ (s : Scope). Comes g w (form_pending s false most_chain f.form) new u []) is h

pub file_refuses : (g : Growing) (w : World) (sc : Scope) (f : TopRead) (e : Fault) → sc ≡ empty_scope (file_place f.offset) false policies.FIRST_POLICY →
    RefusesAll g w (form_pending sc false 1000 f.form) e → RefusesAll g w (file_form f ∷ []) e
unfolding most_chain
file_refuses g w sc f e is h = subst (λ (s : Scope). RefusesAll g w (form_pending s false most_chain f.form) e) is h

pub file_scope : (w : World) (sc : Scope) (offset : ℕ) → sc ≡ empty_scope (file_place offset) false policies.FIRST_POLICY → IsTopScope w sc
file_scope w sc offset is = subst (IsTopScope w) (sym is) (file_top w offset)
