-- Forms whose values are taken. (This project's own.)
use Rattle.std.proofs.Common.{ℕ, Bool, false, Option, Some, None}
use Rattle.lisp_base.specs.declared.values.Place.{Place}
use Rattle.lisp_base.specs.Spec.{Spec}
use Rattle.core_form.specs.Tree.{Core}
use Rattle.graph_building.specs.Built.{Built, FreeCont}
use Rattle.icr_convert.specs.declared.names.Names.{Names}
use Rattle.icr_convert.specs.declared.setting.Setting.{Setting}
use Rattle.icr_convert.specs.Converting.{Converts, Takes, TakesTyped, TypedCont, ValueStands}
use Rattle.icr_convert.proofs.Growing.{ready_later}
use Rattle.icr_convert.proofs.Steps.{taken}

-- how a form stands whose values go to a continuation of its own
abbrev pub value_setting : (word : Bool) (cost to : ℕ) → Setting
value_setting w n k = record { tail = false; word = w; cost = n; levels = 0; boxing = 0; to = Some k }

pub value_taken : (names : Names) (w : Bool) (e : Core) (n : ℕ) {a b c : Built} {k : ℕ} → FreeCont a b k → Converts names (value_setting w n k) e b c → Takes names w e n a c k
value_taken names w e n cont form s ready named = taken (ValueStands s w e n) cont (form s (ready_later ready cont.beside.grown.later) named)

pub typed_value_taken : (names : Names) (w : Bool) (pl : Place) (t : Option Spec) (e : Core) (n : ℕ) (a b c : Built) (k : ℕ) → TypedCont pl t a b k → Converts names (value_setting w n k) e b c → TakesTyped names w pl t e n a c k
typed_value_taken names w pl None e n a b c k cont form = value_taken names w e n cont form
typed_value_taken names w pl (Some t) e n a b c k cont form =
    λ s ready named. taken (ValueStands s w e n) cont (form s (ready_later ready cont.beside.grown.later) named)
