-- Each member of a world of a script has gone through a run of its own, in which only packets of the bag came to it, and the bag has
-- only what these runs sent and what strangers said: so what is proved of the runs of one member holds of it in each world.
use Rattle.std.specs.Prelude.{ℕ, ◌≡◌, ◌≢◌, ◌⊎◌, ◌≤◌, ◌<◌, ◌*◌, ◌^◌, ◌+◌, List, [], ◌∷◌, Some, None, true, Contains}
use Rattle.std.specs.List.{AllByRecursion}
pub use Rattle.mu_model_client.specs.Places.{NoneTwice}
use Rattle.mu_model_image.specs.Meta.{Image, IsMeta}
use Rattle.mu_model_wire.specs.Packet.{Packet}
use Rattle.mu_model_node.specs.Events.{NodeEvent}
use Rattle.mu_model_node.specs.NodeState.{NodeDurable, restarted}
use Rattle.mu_model_node.specs.Safe.{Happening, state_after}
use Rattle.mu_model_node.specs.Sound.{IsNodeDurable}
use Rattle.mu_model_client.specs.declared.Plan.{Plan}
use Rattle.mu_model_distributor.specs.DistState.{DistDurable}
use Rattle.mu_model_distributor.specs.declared.DistPhase.TheVariants.{Idle}
use Rattle.mu_model_distributor.specs.Runs.{state_after as dist_state_after}
use Rattle.mu_model_fates.specs.Laws.{come_in}
use Rattle.mu_model_offers.specs.Laws.{Run, IsRun, begin_of}
use Rattle.mu_model_offers.specs.Packets.{packets_of}
use Rattle.mu_model_packets.specs.Laws.{PacketFits}
use Rattle.mu_model_script.specs.Ranges.{IsUnicast}
use Rattle.mu_model_told.specs.Reached.{HappeningFits, sent_in}
use Rattle.mu_model_updater.specs.Laws.{IsInRange}
use Rattle.mu_model_updater.specs.Updater.{new_updater, updater_after, come_in as updater_come_in, sent_in as updater_sent_in}
use Rattle.mu_model_world.specs.World.{Member, config_of}
use Rattle.mu_model_mesh.specs.Mesh.{UpdaterMember, DistributorMember, Mesh, is_member, node_at, updater_at, distributor_at}

-- all of these packets are in the bag
abbrev pub AreIn : List Packet → List Packet → Type 0
AreIn bag packets = AllByRecursion (λ (p : Packet). Contains bag p) packets

-- what the bag has from an address was sent in its run
abbrev pub SentBy : List Packet → ℕ → List Packet → Type 0
SentBy bag address sent = AllByRecursion (λ (p : Packet). p.from ≡ address → Contains sent p) bag

-- ---- members

pub record NodeRun (bag : List Packet) (address : ℕ) (n : Member) : Type 0 where
  pub made : NodeDurable
  pub hs : List Happening
  pub sound : IsNodeDurable made
  pub jobless : made.job ≡ None
  pub metas : AllByRecursion (λ (image : Image). IsMeta image.meta) made.images
  pub first : n.first ≡ made.images
  -- none, or a group's address, so no node's
  pub group : (n.group ≡ 0) ⊎ (0xC000 ≤ n.group)
  pub state : n.state ≡ state_after (config_of address n) (restarted made) hs
  pub fits : AllByRecursion HappeningFits hs
  pub come : AreIn bag (come_in hs)
  pub sent : SentBy bag address (sent_in (config_of address n) (restarted made) hs)
  -- it was handed no later moment than its present one
  pub handed : n.state.moment ≤ n.moment

pub record UpdaterRun (bag : List Packet) (address : ℕ) (u : UpdaterMember) : Type 0 where
  pub id : ℕ
  pub plan : Plan
  pub image : Image
  pub to : List (ℕ × ℕ)
  pub run : List (NodeEvent × ℕ)
  pub from : plan.sending.from ≡ address
  pub blob_id : plan.sending.id ≡ address * 2 ^ 48 + id
  pub small : id < 2 ^ 48
  pub range : IsInRange plan to
  -- the first image of each receiver is updated
  pub first : AllByRecursion (λ (receiver : ℕ × ℕ). receiver.1 ≡ 0) to
  pub state : u.updater ≡ updater_after (new_updater plan image to) run
  pub come : AreIn bag (updater_come_in run)
  pub sent : SentBy bag address (updater_sent_in (new_updater plan image to) run)

-- as a distributor is made and stocked: nothing was distributed
pub record IsIdle (d : DistDurable) : Type 0 where
  pub phase : d.phase ≡ Idle
  pub counter : d.counter ≡ 0
  pub receivers : d.receivers ≡ []

pub record DistributorRun (bag : List Packet) (address : ℕ) (d : DistributorMember) : Type 0 where
  pub run : Run
  pub own : run.address ≡ address
  pub is : IsRun run
  pub idle : IsIdle run.durable
  pub state : d.state ≡ dist_state_after address (begin_of run) run.happenings
  pub come : AreIn bag (come_in run.happenings)
  pub sent : SentBy bag address (packets_of run)

-- ---- addresses

-- what stands at an address is of one kind
pub record AreApart (m : Mesh) : Type 0 where
  pub nodes : (address : ℕ) (n : Member) → node_at m address ≡ Some n → (is_member m address ≡ true) × (updater_at m address ≡ None) × (distributor_at m address ≡ None)
  pub updaters : (address : ℕ) (u : UpdaterMember) → updater_at m address ≡ Some u → (is_member m address ≡ true) × (node_at m address ≡ None) × (distributor_at m address ≡ None)
  pub distributors : (address : ℕ) (d : DistributorMember) → distributor_at m address ≡ Some d → (is_member m address ≡ true) × (node_at m address ≡ None) × (updater_at m address ≡ None)
  pub unicast : (address : ℕ) → is_member m address ≡ true → IsUnicast address
  -- each member is a node, an updater or a distributor
  pub some : (address : ℕ) → is_member m address ≡ true → node_at m address ≡ None → updater_at m address ≡ None → distributor_at m address ≡ None → ⊥
  pub once : NoneTwice m.order

-- ---- a world

pub record IsOfRuns (m : Mesh) : Type 0 where
  pub nodes : (address : ℕ) (n : Member) → node_at m address ≡ Some n → NodeRun m.nodes.bag address n
  pub updaters : (address : ℕ) (u : UpdaterMember) → updater_at m address ≡ Some u → UpdaterRun m.nodes.bag address u
  pub distributors : (address : ℕ) (d : DistributorMember) → distributor_at m address ≡ Some d → DistributorRun m.nodes.bag address d
  -- what the bag says to a node and to a distributor is in the ranges of the grammar
  pub packets : AllByRecursion PacketFits m.nodes.bag
  pub apart : AreApart m
