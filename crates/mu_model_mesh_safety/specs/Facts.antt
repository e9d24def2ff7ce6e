-- What is on the air and in the logs of a world is so: the facts that safety rests on, each by its name.
use Rattle.std.specs.Prelude.{ℕ, ◌≡◌, ◌≤◌, ◌+◌, ◌||◌, Bool, true, false, is_some, List, [], ◌∷◌, Option, Some, None, Contains}
use Rattle.std.specs.List.{AllByRecursion}
use Rattle.mu_model_image.specs.declared.Meta.{Meta}
use Rattle.mu_model_image.specs.Meta.{Image, firmware_id, own_company, meta_from}
use Rattle.mu_model_wire.specs.Packet.{Packet}
use Rattle.mu_model_node.specs.Events.{NodeEvent}
use Rattle.mu_model_node.specs.Log.{LogEntry, Took, Reached, logged}
use Rattle.mu_model_node.specs.NodeMessages.{OfUpdate, request_at}
use Rattle.mu_model_node.specs.NodeState.{Job}
use Rattle.mu_model_node.specs.Safe.{Happening, InOrder, ImageIsSafe, happened}
use Rattle.mu_model_node.specs.UpdateMessages.{ShownJob, UpdateStart, StartUpdate, InformationStatus, UpdateStatus}
use Rattle.mu_model_client.specs.Answers.{FromUpdate, answer_at}
use Rattle.mu_model_distributor.specs.DistEvents.{dist_passed}
use Rattle.mu_model_distributor.specs.DistState.{DistDurable, transfer_id}
use Rattle.mu_model_distributor_laws.specs.RowMoves.{Each}
use Rattle.mu_model_fates.specs.Laws.{IsLogged, VersionsOf, NextOf}
use Rattle.mu_model_world.specs.Judged.{owner_of}
use Rattle.mu_model_world.specs.World.{Member, config_of, log_at}
use Rattle.mu_model_mesh.specs.Mesh.{DistributorMember, Mesh, is_member, node_at, updater_at, distributor_at}

-- a packet of the bag, which came from a node of the script
abbrev pub OfNode : Mesh → (Member → Packet → Type 0) → Type 0
OfNode m Holds = AllByRecursion (λ (p : Packet). (n : Member) → node_at m p.from ≡ Some n → Holds n p) m.nodes.bag

-- ---- statuses are reached: a node that tells a phase with a BLOB ID has reached it

abbrev pub StatusesAreReached : Mesh → Type 0
StatusesAreReached m =
    OfNode m (λ n p. (status phase : ℕ) (job : ShownJob) → answer_at p.payload ≡ Some (FromUpdate (UpdateStatus status phase (Some job)))
    → InOrder (Reached job.id phase ∷ []) (log_at p.from m.nodes.log))

-- ---- starts are of one offer: under a member's BLOB ID there is one image's metadata, and for each addressee one index

-- the packet is an Update Start under a BLOB ID of a member
pub record IsStart (m : Mesh) (p : Packet) (u : UpdateStart) : Type 0 where
  pub asks : request_at p.payload ≡ Some (OfUpdate (StartUpdate u))
  pub owned : is_member m (owner_of u.id) ≡ true

-- it came from that member
abbrev pub StartsAreOwn : Mesh → Type 0
StartsAreOwn m = AllByRecursion (λ (p : Packet). (u : UpdateStart) → IsStart m p u → p.from ≡ owner_of u.id) m.nodes.bag

abbrev pub StartsAreOfOneOffer : Mesh → Type 0
StartsAreOfOneOffer m =
    AllByRecursion (λ (p : Packet).
    AllByRecursion (λ (q : Packet).
    (u v : UpdateStart) → IsStart m p u → IsStart m q v → u.id ≡ v.id → (u.metadata ≡ v.metadata) × (p.to ≡ q.to → u.index ≡ v.index)) m.nodes.bag) m.nodes.bag

-- and a distributor's number is counted in each record that a cut may leave, in any event
abbrev pub CountersAreAhead : Mesh → Type 0
CountersAreAhead m =
    (address : ℕ) (d : DistributorMember) → distributor_at m address ≡ Some d → (event : NodeEvent) (now : ℕ)
    → AllByRecursion (λ (p : Packet). (u : UpdateStart) → IsStart m p u → owner_of u.id ≡ address
    → AllByRecursion (λ (left : DistDurable). u.id ≤ transfer_id address left) (dist_passed address d.state event now)) m.nodes.bag

-- ---- versions rise along each node's log

abbrev pub VersionsRise : Mesh → Type 0
VersionsRise m = (address : ℕ) (n : Member) → node_at m address ≡ Some n → VersionsOf n.first (log_at address m.nodes.log) n.state.durable.images

-- ---- shown images were had: one that the node was made with, or one that came whole by an update

-- the first of these Firmware IDs is that of an image of this index, each other that of the next
abbrev pub AreOfImages : List Image → List LogEntry → (index : ℕ) → List (List ℕ) → Type 0
AreOfImages first log index [] = Unit {0}
AreOfImages first log index (id ∷ more) =
    ((image : Image) × (id ≡ firmware_id own_company image.meta) × ImageIsSafe first log index image) × AreOfImages first log (index + 1) more

abbrev pub ShownImagesWereHad : Mesh → Type 0
ShownImagesWereHad m =
    OfNode m (λ n p. (count first : ℕ) (ids : List (List ℕ)) → answer_at p.payload ≡ Some (FromUpdate (InformationStatus count first ids))
    → AreOfImages n.first (log_at p.from m.nodes.log) first ids)

-- ---- jobs are logged, by how far they are

abbrev pub JobsAreLogged : Mesh → Type 0
JobsAreLogged m =
    (address : ℕ) (n : Member) (j : Job) → node_at m address ≡ Some n → n.state.durable.job ≡ Some j → IsLogged (log_at address m.nodes.log) j

-- ---- jobs were offered: of each job that a node took there is an Update Start in the bag

-- one with this BLOB ID offers these metadata for the image of this index
pub record IsOfferedIn (bag : List Packet) (id index : ℕ) (meta : Meta) : Type 0 where
  pub packet : Packet
  pub in_bag : Contains bag packet
  pub start : UpdateStart
  pub asks : request_at packet.payload ≡ Some (OfUpdate (StartUpdate start))
  pub same_id : start.id ≡ id
  pub same_index : start.index ≡ index
  pub same_meta : meta_from start.metadata ≡ Some meta

abbrev pub JobsWereOffered : Mesh → Type 0
JobsWereOffered m =
    (address : ℕ) (n : Member) (id index : ℕ) (meta : Meta) → node_at m address ≡ Some n → InOrder (Took id index meta ∷ []) (log_at address m.nodes.log)
    → IsOfferedIn m.nodes.bag id index meta

-- ---- verified jobs go on: to be applied, or by being canceled; and applied ones become the active image

abbrev pub VerifiedJobsGoOn : Mesh → Type 0
VerifiedJobsGoOn m =
    (address : ℕ) (n : Member) (j : Job) (h : Happening) → node_at m address ≡ Some n → n.state.durable.job ≡ Some j
    → NextOf j j.stored (logged n.state (happened (config_of address n) n.state h)) (happened (config_of address n) n.state h).durable.job

-- ---- transfers are kept: with a packet the bag keeps a BLOB ID exactly where its sender is an updater or a distributor, and it is
-- one of that sender's

abbrev pub has_transfers : Mesh → (address : ℕ) → Bool
has_transfers m address = is_some (updater_at m address) || is_some (distributor_at m address)

abbrev pub IsTransferOf : Mesh → Packet → Option ℕ → Type 0
IsTransferOf m p None = has_transfers m p.from ≡ false
IsTransferOf m p (Some id) = (has_transfers m p.from ≡ true) × (owner_of id ≡ p.from)

abbrev pub TransfersAreKept : Mesh → Type 0
TransfersAreKept m = Each (IsTransferOf m) m.nodes.bag m.transfers

-- ---- all of them

pub record FactsHold (m : Mesh) : Type 0 where
  pub statuses : StatusesAreReached m
  pub own : StartsAreOwn m
  pub offers : StartsAreOfOneOffer m
  pub counters : CountersAreAhead m
  pub versions : VersionsRise m
  pub images : ShownImagesWereHad m
  pub logged : JobsAreLogged m
  pub jobs : JobsWereOffered m
  pub go_on : VerifiedJobsGoOn m
  pub transfers : TransfersAreKept m
