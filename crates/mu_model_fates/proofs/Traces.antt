-- Which logs a node can have, entry by entry, with the images and the job that it then has.
use Rattle.std.specs.Prelude.{ℕ, ◌≡◌, ◌<◌, ◌≤◌, List, [], ◌∷◌, ◌++◌, Option, Some, None, slice_get, set}
use Rattle.mu_model_image.specs.Meta.{Image}
use Rattle.mu_model_node.specs.Slots.{Slots}
use Rattle.mu_model_node.specs.declared.Parameters.{Parameters}
use Rattle.mu_model_node.specs.Log.{LogEntry, Took, Asked, Active, Canceled, Reached}
use Rattle.mu_model_node.specs.declared.Stored.{Stored}
use Rattle.mu_model_node.specs.declared.Stored.TheVariants.{Filling, Verified, Refused, Applied}
use Rattle.mu_model_node.specs.NodeState.{Job}

-- a job that may be replaced
abbrev pub IsOpenIn : Stored → Type 0
IsOpenIn Filling = Unit {0}
IsOpenIn Verified = ⊥
IsOpenIn Refused = Unit {0}
IsOpenIn Applied = ⊥

abbrev pub IsOpen : Option Job → Type 0
IsOpen None = Unit {0}
IsOpen (Some j) = IsOpenIn j.stored

-- a job that may be canceled
abbrev pub MayGoIn : Stored → Type 0
MayGoIn Applied = ⊥
MayGoIn _ = Unit {0}

-- the update phases of a job
abbrev pub PhaseIn : Stored → ℕ → Type 0
PhaseIn Filling n = (1 ≤ n) × (n ≤ 3)
PhaseIn Verified n = n ≡ 4
PhaseIn Refused n = n ≡ 5
PhaseIn Applied n = n ≡ 6

pub data Trace (first : List Image) : List LogEntry → List Image → Option Job → Type 0 where
  begun : Trace first [] first None
  taken : {log : List LogEntry} {images : List Image} {old : Option Job} (j : Job) (active : Image) → j.stored ≡ Filling → IsOpen old
      → slice_get images j.index ≡ Some active → active.meta.version < j.meta.version → Trace first log images old → Trace first (log ++ Took j.id j.index j.meta ∷ []) images (Some j)
  filled : {log : List LogEntry} {images : List Image} {i : Job} (parameters : Option Parameters) (held : Slots) → Trace first log images (Some i) → Trace first log images (Some (record i { parameters = parameters; held = held }))
  told : {log : List LogEntry} {images : List Image} {i : Job} (phase : ℕ) → PhaseIn i.stored phase → Trace first log images (Some i) → Trace first (log ++ Reached i.id phase ∷ []) images (Some i)
  verified : {log : List LogEntry} {images : List Image} {i : Job} → i.stored ≡ Filling → Trace first log images (Some i) → Trace first (log ++ Reached i.id 4 ∷ []) images (Some (record i { stored = Verified }))
  refused : {log : List LogEntry} {images : List Image} {i : Job} → i.stored ≡ Filling → Trace first log images (Some i) → Trace first log images (Some (record i { stored = Refused; parameters = None; held = [] }))
  asked : {log : List LogEntry} {images : List Image} {i : Job} → i.stored ≡ Verified → Trace first log images (Some i) → Trace first (log ++ Asked i.id ∷ []) images (Some (record i { stored = Applied }))
  canceled : {log : List LogEntry} {images : List Image} {i : Job} → MayGoIn i.stored → Trace first log images (Some i) → Trace first (log ++ Canceled i.id ∷ []) images None
  activated : {log : List LogEntry} {images : List Image} {i : Job} (image : Image) → image.meta ≡ i.meta → i.stored ≡ Applied → Trace first log images (Some i) → Trace first (log ++ Active i.index i.meta ∷ []) (set images i.index image) None
