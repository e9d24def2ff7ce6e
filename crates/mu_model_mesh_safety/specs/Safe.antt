-- What it is for a world with updaters and distributors to be safe.
use Rattle.std.specs.Prelude.{ℕ, ◌≡◌, ◌⊎◌, ◌<◌, ◌==◌, Bool, true, false, List, [], ◌∷◌, length, slice_get, Option, Some, None, if◌then◌else◌}
use Rattle.std.specs.List.{AllByRecursion}
use Rattle.mu_model_image.specs.declared.Meta.{Meta}
use Rattle.mu_model_image.specs.Meta.{meta_from}
use Rattle.mu_model_wire.specs.Packet.{Packet}
use Rattle.mu_model_node.specs.Log.{LogEntry, Took, Active, Reached}
use Rattle.mu_model_node.specs.NodeMessages.{Request, OfUpdate, request_at}
use Rattle.mu_model_node.specs.NodeState.{NodeState}
use Rattle.mu_model_node.specs.Safe.{InOrder, ImagesAreSafe}
use Rattle.mu_model_node.specs.UpdateMessages.{StartUpdate}
use Rattle.mu_model_client.specs.Client.{rows}
use Rattle.mu_model_client.specs.Rows.{Row, is_reported, transfer_canceled, apply_success, apply_failed, phase_unknown}
use Rattle.mu_model_distributor.specs.DistState.{Receiver, transfer_id}
use Rattle.mu_model_distributor_laws.specs.Lists.{list_at}
use Rattle.mu_model_world.specs.World.{Member, log_at}
use Rattle.mu_model_fates.specs.Laws.{IsHeld, CanceledSince}
use Rattle.mu_model_mesh.specs.Mesh.{UpdaterMember, DistributorMember, Mesh, node_at, updater_at, distributor_at}
use Rattle.mu_model_mesh.specs.MeshOutcomes.{updater_transfer}

-- ---- what a transfer offers

-- a packet is an Update Start with this BLOB ID
abbrev pub is_start_of : ℕ → Option Request → Bool
is_start_of id (Some (OfUpdate (StartUpdate u))) = u.id == id
is_start_of id _ = false

abbrev pub metadata_in : Option Request → Option Meta
metadata_in (Some (OfUpdate (StartUpdate u))) = meta_from u.metadata
metadata_in _ = None

-- the metadata of the first Update Start in the bag with this BLOB ID
abbrev pub offered_in : List Packet → (id : ℕ) → Option Meta
offered_in [] id = None
offered_in (p ∷ bag) id = if is_start_of id (request_at p.payload) then metadata_in (request_at p.payload) else offered_in bag id

-- ---- phases

-- the node took what the transfer offers for this image, and later an image of that version and digest became active
pub record IsApplied (bag : List Packet) (log : List LogEntry) (id index : ℕ) : Type 0 where
  pub meta : Meta
  pub offered : offered_in bag id ≡ Some meta
  pub active : Meta
  pub in_order : InOrder (Took id index meta ∷ Active index active ∷ []) log
  pub version : active.version ≡ meta.version
  pub digest : active.digest ≡ meta.digest

-- what is shown of a node, of this transfer and this image, is a verdict of the shower's own, or the node has reached it
pub data IsShown (bag : List Packet) (log : List LogEntry) (id index phase : ℕ) : Type 0 where
  ruled : ((phase ≡ transfer_canceled) ⊎ ((phase ≡ apply_failed) ⊎ (phase ≡ phase_unknown))) → IsShown bag log id index phase
  reached : is_reported phase ≡ true → InOrder (Reached id phase ∷ []) log → IsShown bag log id index phase
  applied : phase ≡ apply_success → IsApplied bag log id index → IsShown bag log id index phase

-- the phases that say that a node has the image: Verification Succeeded, Applying Update, Apply Success
abbrev pub SaysHeld : ℕ → Type 0
SaysHeld phase = (phase ≡ 4) ⊎ ((phase ≡ 6) ⊎ (phase ≡ apply_success))

-- the node has what the transfer offers verified, or an active image of at least its version
pub record IsHeldBy (bag : List Packet) (s : NodeState) (id index : ℕ) : Type 0 where
  pub meta : Meta
  pub offered : offered_in bag id ≡ Some meta
  pub held : IsHeld s id index meta.version

-- a row of a node
pub record RowIsSafe (bag : List Packet) (log : List LogEntry) (s : NodeState) (id index phase : ℕ) : Type 0 where
  pub shown : IsShown bag log id index phase
  -- where the node has an image of this index
  pub held : SaysHeld phase → index < length s.durable.images → IsHeldBy bag s id index ⊎ CanceledSince id log

-- ---- worlds

-- each active image of each node is one that it was made with, or a whole one that came by an update
abbrev pub ImagesAreSafeIn : Mesh → Type 0
ImagesAreSafeIn m = (address : ℕ) (n : Member) → node_at m address ≡ Some n → ImagesAreSafe n.first (log_at address m.nodes.log) n.state.durable.images

-- what is shown at this address of this transfer, where a node is there
abbrev pub RowIsSafeIn : Mesh → (id address index phase : ℕ) → Type 0
RowIsSafeIn m id address index phase =
    (n : Member) → node_at m address ≡ Some n → RowIsSafe m.nodes.bag (log_at address m.nodes.log) n.state id index phase

abbrev pub DistributorsAreSafe : Mesh → Type 0
DistributorsAreSafe m =
    (address : ℕ) (d : DistributorMember) → distributor_at m address ≡ Some d
    → AllByRecursion (λ (r : Receiver). RowIsSafeIn m (transfer_id address d.state.durable) r.address r.index r.phase) d.state.durable.receivers

abbrev pub UpdatersAreSafe : Mesh → Type 0
UpdatersAreSafe m =
    (address : ℕ) (u : UpdaterMember) → updater_at m address ≡ Some u
    → AllByRecursion (λ (r : Row). RowIsSafeIn m (updater_transfer u) r.address r.index r.phase) (rows u.updater.client)

pub record IsSafe (m : Mesh) : Type 0 where
  pub images : ImagesAreSafeIn m
  pub distributors : DistributorsAreSafe m
  pub updaters : UpdatersAreSafe m

-- ---- lists on the air

-- each Receivers List in the bag, of the transfer that the bag keeps with it, shows of each node what that has reached
abbrev pub ListsAreTrue : Mesh → Type 0
ListsAreTrue m =
    (number : ℕ) (p : Packet) (id : ℕ) (given : List Row) → slice_get m.nodes.bag number ≡ Some p → slice_get m.transfers number ≡ Some (Some id) → list_at p.payload ≡ Some given
    → AllByRecursion (λ (r : Row). (n : Member) → node_at m r.address ≡ Some n → IsShown m.nodes.bag (log_at r.address m.nodes.log) id r.index r.phase) given
