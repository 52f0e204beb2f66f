-- What follows declarations that are read, and those that are refused.
use Rattle.std.specs.Prelude.{◌≡◌}
use Rattle.std.proofs.Common.{ap, sym, subst}
use Rattle.declarations.specs.Declarations.{Declared, Reading, declared, Refuses as IsRefused}
use Rattle.declarations.specs.declared.fault.DeclarationFault.{DeclarationFault}
use Rattle.declarations.specs.declared.fault.DeclarationFault.TheVariants.{BadForm, BadType, BadPolicy, Memory}
use Rattle.expansion.specs.Scopes.{Scope}
use Rattle.expansion.specs.Steps.{World, gives, refuse, pure}
use Rattle.expansion.specs.Bindings.{declared_or}
use Rattle.form_expander.specs.declared.fault.Fault.{Fault}
use Rattle.form_expander.specs.Contained.{fault_at}
use Rattle.form_expander.specs.Outcomes.{Refuses}

module _ (sc : Scope) (r : Reading) (w : World) where
  pub declared_so : (d : Declared) → r ≡ declared d → declared_or sc r w ≡ gives d w
  unfolding declared_or pure
  declared_so d is = ap (λ (x : Reading). declared_or sc x w) is

  pub refused_so : (e : DeclarationFault) → IsRefused e r → Refuses (declared_or sc r w) (fault_at sc.place e)
  unfolding declared_or refuse
  refused_so BadForm is = ap (λ (x : Reading). declared_or sc x w) is
  refused_so BadType is = ap (λ (x : Reading). declared_or sc x w) is
  refused_so BadPolicy is = ap (λ (x : Reading). declared_or sc x w) is
  refused_so Memory is = tt

  pub refused_as : (e : DeclarationFault) (f : Fault) → f ≡ fault_at sc.place e → IsRefused e r → Refuses (declared_or sc r w) f
  refused_as e f same is = subst (λ (g : Fault). Refuses (declared_or sc r w) g) (sym same) (refused_so e is)
