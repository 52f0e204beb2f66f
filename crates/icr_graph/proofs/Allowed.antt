-- What holds where an edit is not refused.
use Rattle.std.proofs.Common.{◌≡◌, ℕ, Bool, true, false, not, ◌&&◌, Option, Some, None, if◌then◌else◌, refl}
use Rattle.icr_graph.specs.declared.faults.EditFault.{EditFault}
use Rattle.icr_graph.specs.Plain.{FlowGraph}
use Rattle.icr_graph.specs.Faults.{is_block, link_fault}

-- the first test did not refuse, and what comes after it did not either
pub passed : (t : Bool) (fault : EditFault) (rest : Option EditFault) → (if t then Some fault else rest) ≡ None → (t ≡ false) × (rest ≡ None)
passed true fault rest h = cc
passed false fault rest h = (refl, h)

pub both_true : (a b : Bool) → not (a && b) ≡ false → (a ≡ true) × (b ≡ true)
both_true true true h = (refl, refl)
both_true true false h = cc
both_true false b h = cc

pub link_allowed : (g : FlowGraph) (from to : ℕ) → link_fault g from to ≡ None → (is_block g from ≡ true) × (is_block g to ≡ true)
link_allowed g from to h = both_true (is_block g from) (is_block g to) (passed (not (is_block g from && is_block g to)) _ _ h).0
