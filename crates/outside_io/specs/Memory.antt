-- What the source, the sink and the store in memory show, and what each of their calls answers and leaves.
use Rattle.std.specs.Prelude.{◌≡◌, ◌≢◌, ℕ, ◌++◌, ◌==◌, List, [], ◌∷◌, Option, Some, None, if◌then◌else◌, Bool, true, false, min, take, drop, length, ◌<◌, IfSome, slice_get}
use Rattle.std.specs.List.{list_any}
use Rattle.std.specs.Str.{bytes_eq}
use Rattle.outside_io.specs.Views.{Fed, Sunk, Kept}
use Rattle.outside_io.specs.Causes.{one_more}
use Rattle.outside_io.specs.Names.{cut, Changes}
use Rattle.outside_io.specs.declared.Took.{Took}
use Rattle.outside_io.specs.declared.Took.TheVariants as took
use Rattle.outside_io.specs.declared.Put.{Put}
use Rattle.outside_io.specs.declared.Put.TheVariants as puts
use Rattle.outside_io.specs.declared.Got.{Got}
use Rattle.outside_io.specs.declared.Got.TheVariants as got
use Rattle.outside_io.specs.declared.SetAnswer.{SetAnswer}
use Rattle.outside_io.specs.declared.SetAnswer.TheVariants as answer

-- the numbers of the calls that fail, from 1, and how many calls there were
pub record PlanTold : Type 0 where
  pub fails : List ℕ
  pub calls : ℕ

-- one call later
abbrev pub later : PlanTold → PlanTold
later plan = record plan { calls = one_more plan.calls }

-- the next call fails
abbrev pub fails_next : PlanTold → Bool
fails_next plan = list_any (λ number. number == one_more plan.calls) plan.fails

pub record SourceTold : Type 0 where
  pub left : List ℕ
  pub chunk : ℕ
  pub plan : PlanTold
  pub faults : ℕ

-- what a take answers, leaves of the source, and leaves in the buffer
abbrev pub Takes : SourceTold → SourceTold → Took → List ℕ → List ℕ → Type 0
Takes old new (took.Bytes n) before after =
    (fails_next old.plan ≡ false) × (old.left ≢ [])
    × (n ≡ min old.chunk (min (length before) (length old.left)))
    × (after ≡ take n old.left ++ drop n before)
    × (new ≡ record old { left = drop n old.left; plan = later old.plan })
Takes old new took.End before after =
    (fails_next old.plan ≡ false) × (old.left ≡ []) × (after ≡ before) × (new ≡ record old { plan = later old.plan })
Takes old new took.Failed before after =
    (fails_next old.plan ≡ true) × (after ≡ before) × (new ≡ record old { plan = later old.plan; faults = one_more old.faults })

-- what a clause of any source sees of it
abbrev pub source_fed : SourceTold → Fed
source_fed source = record { left = Some source.left; faults = source.faults }

pub record SinkTold : Type 0 where
  pub held : List ℕ
  pub chunk : ℕ
  pub plan : PlanTold
  pub faults : ℕ
  pub wants : ℕ

-- what a put of a piece answers, and leaves of the sink
abbrev pub PutsPiece : SinkTold → SinkTold → Put → List ℕ → Type 0
PutsPiece old new (puts.Bytes n) piece =
    (fails_next old.plan ≡ false) × (n ≡ min old.chunk (length piece))
    × (new ≡ record old { held = old.held ++ take n piece; plan = later old.plan })
PutsPiece old new puts.Failed piece =
    (fails_next old.plan ≡ true) × (new ≡ record old { plan = later old.plan; faults = one_more old.faults })
PutsPiece old new puts.Memory piece =
    (fails_next old.plan ≡ false) × (new ≡ record old { plan = later old.plan; wants = one_more old.wants })

abbrev pub sink_sunk : SinkTold → Sunk
sink_sunk sink = record { held = Some sink.held; faults = sink.faults; wants = sink.wants }

pub record StoreTold : Type 0 where
  pub entries : List (List ℕ × List ℕ)
  pub plan : PlanTold
  pub gets : ℕ
  pub sets : ℕ

-- what the first entry under a name holds
abbrev pub found : List (List ℕ × List ℕ) → List ℕ → Option (List ℕ)
found [] name = None
found (entry ∷ entries) name = if bytes_eq name entry.0 then Some entry.1 else found entries name

abbrev pub store_kept : StoreTold → Kept
store_kept store = record { names = Some (found store.entries); gets = store.gets; sets = store.sets }

-- the first entry under a name stands at this index
pub record IsFirst (entries : List (List ℕ × List ℕ)) (name : List ℕ) (index : ℕ) : Type 0 where
  pub within : index < length entries
  pub there : IfSome (slice_get entries index) (λ entry. bytes_eq name entry.0 ≡ true)
  pub before : (k : ℕ) → k < index → IfSome (slice_get entries k) (λ entry. bytes_eq name entry.0 ≡ false)

-- what a get answers, and leaves of the store
abbrev pub GetsName : StoreTold → StoreTold → Got → List ℕ → ℕ → Type 0
GetsName old new (got.Bytes bytes) name limit =
    (fails_next old.plan ≡ false) × (cut limit (found old.entries name) ≡ Some bytes.items)
    × (new ≡ record old { plan = later old.plan })
GetsName old new got.Absent name limit =
    (fails_next old.plan ≡ false) × (found old.entries name ≡ None) × (new ≡ record old { plan = later old.plan })
GetsName old new got.Failed name limit =
    (fails_next old.plan ≡ true) × (new ≡ record old { plan = later old.plan; gets = one_more old.gets })
GetsName old new got.Memory name limit =
    (fails_next old.plan ≡ false) × (found old.entries name ≢ None) × (new ≡ record old { plan = later old.plan })

-- a name holds these bytes now, and nothing else changed
pub record Holds (old new : StoreTold) (name bytes : List ℕ) : Type 0 where
  pub names : Changes (found old.entries) (found new.entries) name (λ held. held ≡ Some bytes)
  pub rest : new ≡ record old { entries = new.entries; plan = new.plan }

-- what a set answers, and leaves of the store
abbrev pub SetsName : StoreTold → StoreTold → SetAnswer → List ℕ → List ℕ → Type 0
SetsName old new answer.Set name bytes =
    (fails_next old.plan ≡ false) × (new.plan ≡ later old.plan) × Holds old new name bytes
SetsName old new answer.Failed name bytes =
    (fails_next old.plan ≡ true) × (new ≡ record old { plan = later old.plan; sets = one_more old.sets })
SetsName old new answer.Memory name bytes =
    (fails_next old.plan ≡ false) × (new ≡ record old { plan = later old.plan })
