-- What a call of the recursion leaves: symbols that are kept, and a scope that goes on from the one before.
use Rattle.std.proofs.Common.{◌≡◌, sym, subst}
use Rattle.expansion.specs.Scopes.{Scope}
use Rattle.form_expander.specs.declared.world.World.{World as World'}
use Rattle.form_expander.specs.Extending.{Extends}
use Rattle.form_expander.specs.Keeping.{Keeps}
use Rattle.form_expander.proofs.Keeping.{keeps_on, keeps_still}
use Rattle.form_expander.proofs.Within.{stays}

-- after a step that leaves the table as it is
pub keeps_after : (w v u : World') → v.symbols ≡ w.symbols → Keeps v u → Keeps w u
keeps_after w v u is = keeps_on w v u (keeps_still w v is)

-- before a step that leaves the table as it is
pub keeps_before : (w v u : World') → Keeps w v → u.symbols ≡ v.symbols → Keeps w u
keeps_before w v u kept is = keeps_on w v u kept (keeps_still v u is)

pub same_extends : (old new : Scope) → new ≡ old → Extends old new
same_extends old new is = subst (λ (sc : Scope). Extends old sc) (sym is) (stays old)

pub extends_on : (old between new : Scope) → Extends old between → new ≡ between → Extends old new
extends_on old between new goes is = subst (λ (sc : Scope). Extends old sc) (sym is) goes
