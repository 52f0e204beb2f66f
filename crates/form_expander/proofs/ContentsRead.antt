-- The contents of a body, by its declarations.
use Rattle.std.specs.Prelude.{◌≡◌, List}
use Rattle.std.proofs.Common.{ap, sym, subst, ◌∙◌}
use Rattle.lisp_base.specs.declared.values.Val.{Val}
use Rattle.declarations.specs.Bodies.{body_of}
use Rattle.declarations.specs.Declarations.{Declared, read_declarations}
use Rattle.expansion.specs.Scopes.{Scope}
use Rattle.expansion.specs.Steps.{World, Answer, gives}
use Rattle.expansion.specs.Bindings.{Contents, contents, contents_of, read_body, declared_or}
use Rattle.form_expander.specs.declared.fault.Fault.{Fault}
use Rattle.form_expander.specs.Outcomes.{Refuses}
use Rattle.form_expander.specs.Stepping.{steps}
use Rattle.form_expander.proofs.Follow.{given_on, refused_on}

abbrev pub said : Scope → World → List Val → Answer Declared
said sc w ds = declared_or sc (read_declarations w.heap w.table sc.policy ds) w

abbrev with_forms : List Val → Declared → World → Answer Contents
with_forms forms d w = gives (contents forms d) w

module _ (sc : Scope) (vs declarations : List Val) (w : World) (are : declarations ≡ (body_of w.heap vs).declarations) where
  pub contents_given : (forms : List Val) (d : Declared) → forms ≡ (body_of w.heap vs).forms → said sc w declarations ≡ gives d w → contents_of sc vs w ≡ gives (contents forms d) w
  unfolding contents_of read_body steps
  contents_given forms d same is =
      given_on (said sc w (body_of w.heap vs).declarations) (with_forms (body_of w.heap vs).forms) d w (ap (said sc w) (sym are) ∙ is)
      ∙ ap (λ (fs : List Val). gives (contents fs d) w) (sym same)

  pub contents_refused : (e : Fault) → Refuses (said sc w declarations) e → Refuses (contents_of sc vs w) e
  unfolding contents_of read_body steps
  contents_refused e is =
      refused_on (said sc w (body_of w.heap vs).declarations) (with_forms (body_of w.heap vs).forms) e
      (subst (λ (ds : List Val). Refuses (said sc w ds) e) are is)
