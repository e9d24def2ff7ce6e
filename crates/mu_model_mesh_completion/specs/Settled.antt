-- A world of a script whose updater is about to begin, and one in which its update is complete.
use Rattle.std.specs.Prelude.{ℕ, ◌≡◌, ◌<◌, ◌≤◌, ◌⊎◌, ◌^◌, true, false, List, ◌∷◌, length, map, Option, Some, None}
use Rattle.std.specs.List.{AllByRecursion}
use Rattle.mu_model_wire.specs.Limits.{most_chunk, most_receivers}
use Rattle.mu_model_image.specs.Sizes.{most_image}
use Rattle.mu_model_image.specs.Meta.{Image}
use Rattle.mu_model_node.specs.declared.LastBlock.{LastBlock}
use Rattle.mu_model_node.specs.declared.Parameters.{Parameters}
use Rattle.mu_model_node.specs.NodeState.{Job}
use Rattle.mu_model_node.specs.Sound.{IsNodeState}
use Rattle.mu_model_told.specs.Laws.{HasNumbers}
use Rattle.mu_model_client.specs.Begin.{is_ended}
use Rattle.mu_model_client.specs.Client.{rows}
use Rattle.mu_model_distributor.specs.DistTime.{has_turns}
use Rattle.mu_model_updater.specs.Updater.{UpdaterLine, updater_of}
use Rattle.mu_model_world.specs.World.{Member}
use Rattle.mu_model_mesh.specs.Mesh.{UpdaterMember, DistributorMember, Mesh, is_member, node_at, updater_at, distributor_at}
use Rattle.mu_model_completion.specs.Completion.{NoneTwice, applying, drop_of, succeeded}

-- ---- worlds

-- the last block that a node has whole, if there is one, is in the ranges of the grammar
abbrev pub HasLast : Option LastBlock → Type 0
HasLast None = Unit {0}
HasLast (Some last) = (last.number < 2 ^ 16) × (last.chunk_size < 2 ^ 16)

-- so is the message length of a transfer that was begun
abbrev pub HasMessages : Option Parameters → Type 0
HasMessages None = Unit {0}
HasMessages (Some p) = p.mtu < 2 ^ 16

abbrev pub JobHasMessages : Option Job → Type 0
JobHasMessages None = Unit {0}
JobHasMessages (Some j) = HasMessages j.parameters

-- a node in a sound state, at an address and in a group of this profile
pub record IsNode (address : ℕ) (n : Member) : Type 0 where
  pub state : IsNodeState n.state
  pub numbers : HasNumbers n.state.durable.job
  pub messages : JobHasMessages n.state.durable.job
  pub last : HasLast n.state.session.last
  pub handed : n.state.moment ≤ n.moment
  pub unicast : address < 0x8000
  pub some_group : (n.group ≡ 0) ⊎ (0xC000 ≤ n.group)

-- each address of the order is of a member
abbrev pub EachIsThere : Mesh → Type 0
EachIsThere m = AllByRecursion (λ address. node_at m address ≡ None → updater_at m address ≡ None → distributor_at m address ≡ None → ⊥) m.order

-- nodes are sound, an updater sends from its own address, what stands at an address is of one kind, no address stands twice, and each
-- has a member
pub record IsWorld (m : Mesh) : Type 0 where
  pub nodes : (address : ℕ) (n : Member) → node_at m address ≡ Some n → IsNode address n
  pub updaters : (address : ℕ) (u : UpdaterMember) → updater_at m address ≡ Some u → (u.updater.client.sending.from ≡ address) × (node_at m address ≡ None)
  pub distributors : (address : ℕ) (d : DistributorMember) → distributor_at m address ≡ Some d → (address < 0x8000) × (node_at m address ≡ None)
  pub once : NoneTwice m.order
  pub there : EachIsThere m

-- ---- the beginning

-- what a line of a script says of an updater is in its ranges
pub record IsLine (line : UpdaterLine) : Type 0 where
  pub address : line.address < 2 ^ 15
  pub id : line.id < 2 ^ 48
  pub some_group : (line.group ≡ 0) ⊎ (0xC000 ≤ line.group)
  pub ttl : line.ttl < 2 ^ 8
  pub base : line.base < 2 ^ 16
  pub mode_least : 1 ≤ line.mode
  pub mode_most : line.mode ≤ 2
  pub log_least : 12 ≤ line.log
  pub log_most : line.log ≤ 14
  pub chunk_least : 8 ≤ line.chunk
  pub chunk_most : line.chunk ≤ most_chunk
  pub version : line.version < 2 ^ 32
  pub content_least : 1 ≤ length line.content
  pub content_most : length line.content ≤ most_image
  pub some : 1 ≤ length line.receivers
  pub few : length line.receivers ≤ most_receivers
  pub none_twice : NoneTwice line.receivers

-- a receiver is a node without a job, whose first image has a lower version and whose bank holds the image; and it is in the
-- updater's group, if there is one
pub record Takes (line : UpdaterLine) (m : Mesh) (address : ℕ) : Type 0 where
  pub member : is_member m address ≡ true
  pub node : Member
  pub found : node_at m address ≡ Some node
  pub idle : node.state.durable.job ≡ None
  pub active : Image
  pub others : List Image
  pub images : node.state.durable.images ≡ active ∷ others
  pub older : active.meta.version < line.version
  pub room : length line.content ≤ node.state.durable.capacity
  pub in_group : (line.group ≡ 0) ⊎ (node.group ≡ line.group)

-- a distributor is in phase 0, 2, 4, 5 or 7, and no tear is to come
pub record IsAtRest (d : DistributorMember) : Type 0 where
  pub rests : has_turns d.state.durable.phase ≡ false
  pub no_tear : d.tear ≡ None

-- the updater of a line has had no event, each receiver takes the update, the other updaters have ended, the distributors are at rest,
-- and no tear is to come
pub record CanSettle (line : UpdaterLine) (m : Mesh) : Type 0 where
  pub member : is_member m line.address ≡ true
  pub moment : ℕ
  pub updater : updater_at m line.address ≡ Some (record { moment = moment; updater = updater_of line })
  pub takes : AllByRecursion (Takes line m) line.receivers
  pub ended : (address : ℕ) (u : UpdaterMember) → (address ≡ line.address → ⊥) → updater_at m address ≡ Some u → is_ended u.updater.client.place ≡ true
  pub at_rest : (address : ℕ) (d : DistributorMember) → distributor_at m address ≡ Some d → IsAtRest d
  pub no_tear : (address : ℕ) (n : Member) → node_at m address ≡ Some n → n.tear ≡ None

-- ---- the end

-- no receiver of the updater was dropped
pub record DropsNobody (line : UpdaterLine) (m : Mesh) : Type 0 where
  pub member : UpdaterMember
  pub found : updater_at m line.address ≡ Some member
  pub drops : map drop_of member.updater.client.receivers ≡ map (λ a. None) line.receivers

-- each receiver's row is in phase 8 with statuses 0 and progress 100
pub record IsCompleted (line : UpdaterLine) (m : Mesh) : Type 0 where
  pub member : UpdaterMember
  pub found : updater_at m line.address ≡ Some member
  pub rows : rows member.updater.client ≡ map succeeded line.receivers

-- or still in phase 6
pub record IsApplying (line : UpdaterLine) (m : Mesh) : Type 0 where
  pub member : UpdaterMember
  pub found : updater_at m line.address ≡ Some member
  pub rows : rows member.updater.client ≡ map applying line.receivers
