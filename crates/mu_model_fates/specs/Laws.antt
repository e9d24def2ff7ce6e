-- What the log of one node says over its whole run, whatever packets come, whatever time passes and whenever the power goes.
use Rattle.std.specs.Prelude.{ℕ, ◌≡◌, ◌<◌, ◌≤◌, ◌⊎◌, List, [], ◌∷◌, ◌++◌, Option, Some, None, slice_get, Contains, IsTrue}
pub use Rattle.mu_model_node.specs.Safe.{come_by, come_in}
use Rattle.mu_model_image.specs.declared.Meta.{Meta}
use Rattle.mu_model_image.specs.Meta.{Image, meta_from}
use Rattle.mu_model_wire.specs.Packet.{Packet}
use Rattle.mu_model_node.specs.declared.NodeConfig.{NodeConfig}
use Rattle.mu_model_node.specs.Events.{PacketComes}
use Rattle.mu_model_node.specs.Log.{LogEntry, Took, Asked, Active, Canceled, Reached, logged}
use Rattle.mu_model_node.specs.declared.Stored.{Stored}
use Rattle.mu_model_node.specs.declared.Stored.TheVariants.{Filling, Verified, Refused, Applied}
use Rattle.mu_model_node.specs.NodeState.{Job, NodeDurable, NodeState, update_phase, update_number, restarted, is_addressee}
use Rattle.mu_model_node.specs.NodeMessages.{OfUpdate, request_at}
use Rattle.mu_model_node.specs.UpdateMessages.{UpdateStart, StartUpdate}
use Rattle.mu_model_node.specs.Safe.{Happening, Done, Torn, InOrder, happened, state_after, log_after}

-- what holds of the log and the state of each run of a node that begins without a job, as a node is made
abbrev pub InEachRun : (NodeDurable → List LogEntry → NodeState → Type 0) → Type 0
InEachRun holds =
    (config : NodeConfig) (d : NodeDurable) (hs : List Happening) → d.job ≡ None
    → holds d (log_after config (restarted d) hs) (state_after config (restarted d) hs)

-- ---- jobs

-- a phase is reached only with a job that was taken before
abbrev pub ReachedWasTaken : Type 0
ReachedWasTaken =
    InEachRun (λ d log s.
    (id phase : ℕ) → InOrder (Reached id phase ∷ []) log
    → (index : ℕ) × (meta : Meta) × InOrder (Took id index meta ∷ Reached id phase ∷ []) log)

-- Applying Update is reached only by an Update Apply that reached the job verified
abbrev pub AskedBefore : Type 0
AskedBefore =
    InEachRun (λ d log s.
    (id : ℕ) → InOrder (Reached id 6 ∷ []) log
    → (index : ℕ) × (meta : Meta) × InOrder (Took id index meta ∷ Reached id 4 ∷ Asked id ∷ Reached id 6 ∷ []) log)

-- what stands in the log after a job was taken, by how far the job is
abbrev pub StoredIsLogged : List LogEntry → ℕ → Stored → Type 0
StoredIsLogged after id Filling = Unit {0}
StoredIsLogged after id Verified = InOrder (Reached id 4 ∷ []) after
StoredIsLogged after id Refused = Unit {0}
StoredIsLogged after id Applied = InOrder (Reached id 4 ∷ Asked id ∷ []) after

-- a job was taken by the last Took of the log, and what it went through since stands after it
pub record IsLogged (log : List LogEntry) (j : Job) : Type 0 where
  pub before : List LogEntry
  pub after : List LogEntry
  pub is : log ≡ before ++ Took j.id j.index j.meta ∷ after
  pub last : (id index : ℕ) (meta : Meta) → InOrder (Took id index meta ∷ []) after → ⊥
  pub stored : StoredIsLogged after j.id j.stored

abbrev pub JobIsLogged : Type 0
JobIsLogged = InEachRun (λ d log s. (j : Job) → s.durable.job ≡ Some j → IsLogged log j)

-- ---- versions

-- the active image of an index has at least this version
pub record HasVersion (images : List Image) (index version : ℕ) : Type 0 where
  pub image : Image
  pub is : slice_get images index ≡ Some image
  pub reaches : version ≤ image.meta.version

-- of one index: an image that becomes active has a greater version than each one before it, and so has an image that is offered
-- when its job is taken
pub record VersionsOf (first : List Image) (log : List LogEntry) (images : List Image) : Type 0 where
  pub active : (index : ℕ) (a b : Meta) → InOrder (Active index a ∷ Active index b ∷ []) log → a.version < b.version
  pub taken : (index : ℕ) (a : Meta) (id : ℕ) (meta : Meta) → InOrder (Active index a ∷ Took id index meta ∷ []) log → a.version < meta.version
  pub first_active : (index : ℕ) (image : Image) (a : Meta) → slice_get first index ≡ Some image → InOrder (Active index a ∷ []) log → image.meta.version < a.version
  pub first_taken : (index : ℕ) (image : Image) (id : ℕ) (meta : Meta) → slice_get first index ≡ Some image → InOrder (Took id index meta ∷ []) log → image.meta.version < meta.version
  -- no version falls
  pub now : (index : ℕ) (a : Meta) → InOrder (Active index a ∷ []) log → HasVersion images index a.version
  pub first_now : (index : ℕ) (image : Image) → slice_get first index ≡ Some image → HasVersion images index image.meta.version

abbrev pub VersionsRise : Type 0
VersionsRise = InEachRun (λ d log s. VersionsOf d.images log s.durable.images)

-- an image of the version that a job offers became active after the job was taken, and the first image hasn't that version
abbrev pub ShownSinceTaken : Type 0
ShownSinceTaken =
    InEachRun (λ d log s.
    (id index : ℕ) (meta : Meta) → InOrder (Took id index meta ∷ []) log
    → ((a : Meta) → InOrder (Active index a ∷ []) log → a.version ≡ meta.version → InOrder (Took id index meta ∷ Active index a ∷ []) log)
    × ((image : Image) → slice_get d.images index ≡ Some image → image.meta.version ≡ meta.version → ⊥))

-- ---- what was verified

-- each job with this BLOB ID that was taken offered these metadata for the image of this index
abbrev pub OffersOne : ℕ → ℕ → Meta → List LogEntry → Type 0
OffersOne id index meta log = (x : ℕ) (m : Meta) → InOrder (Took id x m ∷ []) log → (x ≡ index) × (m ≡ meta)

-- Verification Succeeded or Applying Update, with a job of this BLOB ID
pub record IsVerified (s : NodeState) (id : ℕ) : Type 0 where
  pub job : Job
  pub is : s.durable.job ≡ Some job
  pub own : job.id ≡ id
  pub phase : (update_number (update_phase s) ≡ 4) ⊎ (update_number (update_phase s) ≡ 6)

-- the node has the new image verified, or one of at least its version active
abbrev pub IsHeld : NodeState → ℕ → ℕ → ℕ → Type 0
IsHeld s id index version = IsVerified s id ⊎ HasVersion s.durable.images index version

-- the job was canceled after it was last verified
pub record CanceledSince (id : ℕ) (log : List LogEntry) : Type 0 where
  pub before : List LogEntry
  pub after : List LogEntry
  pub is : log ≡ before ++ Canceled id ∷ after
  pub verified : InOrder (Reached id 4 ∷ []) before
  pub last : InOrder (Reached id 4 ∷ []) after → ⊥

-- what was verified is held, unless it was canceled since
abbrev pub VerifiedIsHeld : Type 0
VerifiedIsHeld =
    InEachRun (λ d log s.
    (id index : ℕ) (meta : Meta) → OffersOne id index meta log → InOrder (Reached id 4 ∷ []) log
    → IsHeld s id index meta.version ⊎ CanceledSince id log)

-- ---- what was offered

-- the packet is addressed to the node, and is an Update Start with this BLOB ID that offers these metadata for the image of this index
pub record IsOffer (config : NodeConfig) (packet : Packet) (id index : ℕ) (meta : Meta) : Type 0 where
  pub addressed : IsTrue (is_addressee config packet)
  pub start : UpdateStart
  pub asks : request_at packet.payload ≡ Some (OfUpdate (StartUpdate start))
  pub same_id : start.id ≡ id
  pub same_index : start.index ≡ index
  pub same_meta : meta_from start.metadata ≡ Some meta

-- from whatever state on, what is taken was offered by a packet that came
abbrev pub TookWasOffered : Type 0
TookWasOffered =
    (config : NodeConfig) (s : NodeState) (hs : List Happening) (id index : ℕ) (meta : Meta)
    → InOrder (Took id index meta ∷ []) (log_after config s hs)
    → (packet : Packet) × Contains (come_in hs) packet × IsOffer config packet id index meta

-- ---- from one happening to the next

-- the job is the same, and is this far
pub record GoesOn (j : Job) (new : Option Job) (far : Stored) : Type 0 where
  pub job : Job
  pub is : new ≡ Some job
  pub id : job.id ≡ j.id
  pub index : job.index ≡ j.index
  pub meta : job.meta ≡ j.meta
  pub stored : job.stored ≡ far

-- a job that is verified stays so, is asked for, or is canceled; one that was asked for stays so, or its image becomes active
abbrev pub NextOf : Job → Stored → List LogEntry → Option Job → Type 0
NextOf j Verified entries new =
    GoesOn j new Verified
    ⊎ ((GoesOn j new Applied × InOrder (Asked j.id ∷ Reached j.id 6 ∷ []) entries)
    ⊎ ((new ≡ None) × InOrder (Canceled j.id ∷ []) entries))
NextOf j Applied entries new = GoesOn j new Applied ⊎ ((new ≡ None) × InOrder (Active j.index j.meta ∷ []) entries)
NextOf j _ entries new = Unit {0}

-- from whatever state
abbrev pub JobGoesOn : Type 0
JobGoesOn =
    (config : NodeConfig) (s : NodeState) (h : Happening) (j : Job) → s.durable.job ≡ Some j
    → NextOf j j.stored (logged s (happened config s h)) (happened config s h).durable.job
