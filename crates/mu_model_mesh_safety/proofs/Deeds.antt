-- The few ways in which a world changes.
use Rattle.std.proofs.Common.{◌≡◌, ◌⊎◌, ℕ, ◌≤◌, ◌<◌, ◌*◌, ◌^◌, ◌+◌, List, [], ◌∷◌, ◌++◌, map, Option, Some, None, true, false, nat_eq}
use Rattle.std.specs.List.{AllByRecursion}
use Rattle.std.specs.Map.{set_value}
use Rattle.mu_model_image.specs.Meta.{Image, IsMeta}
use Rattle.mu_model_wire.specs.Laws.{AreOctets}
use Rattle.mu_model_wire.specs.Packet.{Packet}
use Rattle.mu_model_node.specs.Events.{NodeEvent}
use Rattle.mu_model_node.specs.Log.{logged}
use Rattle.mu_model_node.specs.NodeMessages.{OfUpdate, request_at}
use Rattle.mu_model_node.specs.NodeState.{NodeDurable}
use Rattle.mu_model_node.specs.Safe.{Happening, Done, CutPower, Torn, happened}
use Rattle.mu_model_node.specs.Sound.{IsActiveImage, IsNodeDurable}
use Rattle.mu_model_node.specs.UpdateMessages.{UpdateStart, StartUpdate}
use Rattle.mu_model_client.specs.declared.Plan.{Plan}
use Rattle.mu_model_distributor.specs.DistEvents.{new_distributor, stocked, restarted}
use Rattle.mu_model_distributor.specs.DistState.{transfer_id}
use Rattle.mu_model_distributor.specs.Runs.{happened as dist_happened}
use Rattle.mu_model_fates.specs.Laws.{come_by}
use Rattle.mu_model_offers.specs.Packets.{packets_by}
use Rattle.mu_model_script.specs.Ranges.{IsUnicast}
use Rattle.mu_model_told.specs.Reached.{sent_by}
use Rattle.mu_model_updater.specs.Laws.{IsInRange}
use Rattle.mu_model_updater.specs.Updater.{new_updater, updater_step, come_by as updater_come_by}
use Rattle.mu_model_world.specs.Judged.{owner_of}
use Rattle.mu_model_world.specs.Outcomes.{new_member}
use Rattle.mu_model_world.specs.World.{Member, config_of, logged_at}
use Rattle.mu_model_mesh.specs.Mesh.{UpdaterMember, DistributorMember, Mesh, is_member, node_at, updater_at, distributor_at}
use Rattle.mu_model_mesh_safety.specs.Runs.{AreIn}

-- ---- what stays

pub record SameUpdaters (m next : Mesh) : Type 0 where
  pub updaters : next.updaters ≡ m.updaters

pub record SameDistributors (m next : Mesh) : Type 0 where
  pub distributors : next.distributors ≡ m.distributors

pub record SameNodes (m next : Mesh) : Type 0 where
  pub members : next.nodes.members ≡ m.nodes.members
  pub log : next.nodes.log ≡ m.nodes.log

pub record SameAir (m next : Mesh) : Type 0 where
  pub bag : next.nodes.bag ≡ m.nodes.bag
  pub transfers : next.transfers ≡ m.transfers

-- so many packets more, each with this transfer
pub record MoreAir (m next : Mesh) (sent : List Packet) (transfer : Option ℕ) : Type 0 where
  pub bag : next.nodes.bag ≡ m.nodes.bag ++ sent
  pub transfers : next.transfers ≡ m.transfers ++ map (λ (p : Packet). transfer) sent

-- the same members, after the member lines
pub record GoesOn (m next : Mesh) : Type 0 where
  pub order : next.order ≡ m.order
  pub begun : next.nodes.begun ≡ true

-- one member more, among the member lines
pub record OneMore (m next : Mesh) (address : ℕ) : Type 0 where
  pub order : next.order ≡ m.order ++ address ∷ []
  pub early : m.nodes.begun ≡ false
  pub still : next.nodes.begun ≡ false
  pub free : is_member m address ≡ false
  pub unicast : IsUnicast address

-- ---- deeds

-- moments, tears and counts change, and nothing else; no moment of a node falls
pub record IsStill (m next : Mesh) : Type 0 where
  pub updaters : SameUpdaters m next
  pub air : SameAir m next
  pub order : next.order ≡ m.order
  pub log : next.nodes.log ≡ m.nodes.log
  pub begun : next.nodes.begun ≡ false → m.nodes.begun ≡ false
  pub nodes :
      (address : ℕ) (new : Member) → node_at next address ≡ Some new
      → (old : Member) × (node_at m address ≡ Some old) × (new.group ≡ old.group) × (new.first ≡ old.first) × (new.state ≡ old.state) × (old.moment ≤ new.moment)
  pub no_node : (address : ℕ) → node_at next address ≡ None → node_at m address ≡ None
  pub distributors :
      (address : ℕ) (new : DistributorMember) → distributor_at next address ≡ Some new
      → (old : DistributorMember) × (distributor_at m address ≡ Some old) × (new.state ≡ old.state)
  pub no_distributor : (address : ℕ) → distributor_at next address ≡ None → distributor_at m address ≡ None

-- a stranger sends a packet
pub record Says (m next : Mesh) : Type 0 where
  pub packet : Packet
  pub octets : AreOctets packet.payload
  pub stranger : is_member m packet.from ≡ false
  pub own : (u : UpdateStart) → request_at packet.payload ≡ Some (OfUpdate (StartUpdate u)) → is_member m (owner_of u.id) ≡ false
  pub air : MoreAir m next (packet ∷ []) None
  pub nodes : SameNodes m next
  pub updaters : SameUpdaters m next
  pub distributors : SameDistributors m next
  pub on : GoesOn m next

-- what is done is done at no later moment than this; after a boot no moment was handed in yet
abbrev pub IsBy : ℕ → Happening → Type 0
IsBy moment (Done event now) = now ≤ moment
IsBy moment CutPower = Unit {0}
IsBy moment (Torn event now operations) = Unit {0}

-- a node goes through a happening
pub record NodeGoes (m next : Mesh) : Type 0 where
  pub address : ℕ
  pub old : Member
  pub new : Member
  pub h : Happening
  pub at : node_at m address ≡ Some old
  pub group : new.group ≡ old.group
  pub first : new.first ≡ old.first
  pub state : new.state ≡ happened (config_of address old) old.state h
  -- its moment doesn't fall, and it is handed no later one
  pub moment : old.moment ≤ new.moment
  pub by : IsBy new.moment h
  pub come : AreIn m.nodes.bag (come_by h)
  pub members : next.nodes.members ≡ set_value (nat_eq address) m.nodes.members new
  pub log : next.nodes.log ≡ m.nodes.log ++ logged_at address (logged old.state new.state)
  pub air : MoreAir m next (sent_by (config_of address old) old.state h) None
  pub updaters : SameUpdaters m next
  pub distributors : SameDistributors m next
  pub on : GoesOn m next

-- an event comes to an updater
pub record UpdaterGoes (m next : Mesh) : Type 0 where
  pub address : ℕ
  pub old : UpdaterMember
  pub new : UpdaterMember
  pub event : NodeEvent
  pub now : ℕ
  pub at : updater_at m address ≡ Some old
  pub state : new.updater ≡ (updater_step old.updater event now).next
  pub come : AreIn m.nodes.bag (updater_come_by event)
  pub updaters : next.updaters ≡ set_value (nat_eq address) m.updaters new
  pub air : MoreAir m next (updater_step old.updater event now).sent (Some old.updater.client.sending.id)
  pub nodes : SameNodes m next
  pub distributors : SameDistributors m next
  pub on : GoesOn m next

-- a distributor goes through a happening
pub record DistributorGoes (m next : Mesh) : Type 0 where
  pub address : ℕ
  pub old : DistributorMember
  pub new : DistributorMember
  pub h : Happening
  pub at : distributor_at m address ≡ Some old
  pub state : new.state ≡ dist_happened address old.state h
  pub come : AreIn m.nodes.bag (come_by h)
  pub distributors : next.distributors ≡ set_value (nat_eq address) m.distributors new
  pub air : MoreAir m next (packets_by address old.state h) (Some (transfer_id address new.state.durable))
  pub nodes : SameNodes m next
  pub updaters : SameUpdaters m next
  pub on : GoesOn m next

-- ---- member lines

pub record NewNode (m next : Mesh) : Type 0 where
  pub address : ℕ
  pub group : ℕ
  -- none, or a group's address, so no node's
  pub no_address : (group ≡ 0) ⊎ (0xC000 ≤ group)
  pub made : NodeDurable
  pub sound : IsNodeDurable made
  pub jobless : made.job ≡ None
  pub metas : AllByRecursion (λ (image : Image). IsMeta image.meta) made.images
  pub members : next.nodes.members ≡ m.nodes.members ++ (address, new_member group made) ∷ []
  pub log : next.nodes.log ≡ m.nodes.log
  pub air : SameAir m next
  pub updaters : SameUpdaters m next
  pub distributors : SameDistributors m next
  pub more : OneMore m next address

pub record NewUpdater (m next : Mesh) : Type 0 where
  pub address : ℕ
  pub id : ℕ
  pub moment : ℕ
  pub plan : Plan
  pub image : Image
  pub to : List (ℕ × ℕ)
  pub from : plan.sending.from ≡ address
  pub blob_id : plan.sending.id ≡ address * 2 ^ 48 + id
  pub small : id < 2 ^ 48
  pub range : IsInRange plan to
  -- the first image of each receiver is updated
  pub first : AllByRecursion (λ (receiver : ℕ × ℕ). receiver.1 ≡ 0) to
  pub added : next.updaters ≡ m.updaters ++ (address, record { moment = moment; updater = new_updater plan image to }) ∷ []
  pub nodes : SameNodes m next
  pub air : SameAir m next
  pub distributors : SameDistributors m next
  pub more : OneMore m next address

pub record NewDistributor (m next : Mesh) : Type 0 where
  pub address : ℕ
  pub pages : ℕ
  pub least : 1 ≤ pages
  pub most : pages ≤ 256
  pub added : next.distributors ≡ m.distributors ++ (address, record { moment = 0; tear = None; state = restarted address (new_distributor pages) }) ∷ []
  pub nodes : SameNodes m next
  pub air : SameAir m next
  pub updaters : SameUpdaters m next
  pub more : OneMore m next address

-- an image is put into a distributor
pub record Stocks (m next : Mesh) : Type 0 where
  pub address : ℕ
  pub old : DistributorMember
  pub new : DistributorMember
  pub image : Image
  pub at : distributor_at m address ≡ Some old
  pub state : new.state ≡ stocked old.state image
  pub meta : IsMeta image.meta
  pub active : IsActiveImage old.state.durable.capacity image
  pub distributors : next.distributors ≡ set_value (nat_eq address) m.distributors new
  pub nodes : SameNodes m next
  pub air : SameAir m next
  pub updaters : SameUpdaters m next
  pub order : next.order ≡ m.order
  pub early : m.nodes.begun ≡ false
  pub still : next.nodes.begun ≡ false

-- ---- any of them

pub data Deed (m next : Mesh) : Type 0 where
  still : IsStill m next → Deed m next
  says : Says m next → Deed m next
  node_goes : NodeGoes m next → Deed m next
  updater_goes : UpdaterGoes m next → Deed m next
  distributor_goes : DistributorGoes m next → Deed m next
  adds_node : NewNode m next → Deed m next
  adds_updater : NewUpdater m next → Deed m next
  adds_distributor : NewDistributor m next → Deed m next
  stocks : Stocks m next → Deed m next
