-- The lines of a script that aren't done, though nothing stands against them: a line that would wear out a flash, and a line that
-- would pass a limit of its world.
use Rattle.std.specs.Prelude.{ℕ, ◌≡◌, Bool, true, false, List, slice_get, Option, Some, None, Ok}
use Rattle.mu_model_wire.specs.Packet.{Packet}
use Rattle.mu_model_node.specs.Events.{NodeEvent, PacketComes, TimeComes, is_worn}
use Rattle.mu_model_distributor.specs.DistEvents.{is_worn as dist_is_worn}
use Rattle.mu_model_script.specs.Event.{Event, Deliver, Time, Settle}
use Rattle.mu_model_script.specs.Lines.{script_event}
use Rattle.mu_model_world.specs.World.{Member, config_of}
use Rattle.mu_model_world.specs.Judged.{Sound}
use Rattle.mu_model_world.specs.Outcomes.{at_moment}
use Rattle.mu_model_mesh.specs.Mesh.{UpdaterMember, DistributorMember, Mesh, node_at, updater_at, distributor_at}
use Rattle.mu_model_mesh.specs.MeshOutcomes.{dist_later, mesh_begun}
use Rattle.mu_model_mesh.specs.MeshJudged.{mesh_judged, is_past}
use Rattle.mu_model_mesh_runs.specs.Goes.{Coming, ByTime, ByPacket, GoesThrough}

-- ---- flashes

-- the last record was written, and this event would write another; an updater has no flash
abbrev pub worn_by : (address : ℕ) → NodeEvent → Option Member → Option UpdaterMember → Option DistributorMember → Bool
worn_by address event (Some n) u d = is_worn (config_of address n) n.state event n.moment
worn_by address event None (Some u) d = false
worn_by address event None None (Some d) = dist_is_worn address d.state event d.moment
worn_by address event None None None = false

abbrev pub node_later : ℕ → Option Member → Option Member
node_later ms (Some n) = Some (at_moment ms n)
node_later ms None = None

abbrev pub distributor_later : ℕ → Option DistributorMember → Option DistributorMember
distributor_later ms (Some d) = Some (dist_later ms d)
distributor_later ms None = None

abbrev pub packet_wears : Mesh → (address : ℕ) → Option Packet → Bool
packet_wears m address (Some packet) = worn_by address (PacketComes packet) (node_at m address) (updater_at m address) (distributor_at m address)
packet_wears m address None = false

-- what comes to a member would wear out its flash
abbrev pub would_wear : Mesh → Coming → Bool
would_wear m (ByTime address ms) = worn_by address TimeComes (node_later ms (node_at m address)) (updater_at m address) (distributor_later ms (distributor_at m address))
would_wear m (ByPacket number address) = packet_wears m address (slice_get m.nodes.bag number)

-- somewhere on the way of a `settle` what comes next would
pub record SettleWears (turns : ℕ) (m : Mesh) : Type 0 where
  pub coming : Coming
  pub world : Mesh
  pub through : GoesThrough turns m coming world
  pub wears : would_wear world coming ≡ true

abbrev pub EventWears : Mesh → Event → Type 0
EventWears m (Deliver number address) = would_wear m (ByPacket number address) ≡ true
EventWears m (Time address ms) = would_wear m (ByTime address ms) ≡ true
EventWears m (Settle turns) = SettleWears turns m
EventWears m _ = ⊥

-- nothing stands against the line, it passes no limit, and it would wear out a flash
pub record MeshWears (m : Mesh) (line : List ℕ) : Type 0 where
  pub event : Event
  pub sound : mesh_judged m line ≡ Sound event
  pub within : is_past m event ≡ false
  pub wears : EventWears (mesh_begun m) event

-- ---- limits

-- the world has done as many events as it takes, or the line would settle more turns than are left; whether anything stands against it or
-- not
pub record MeshPasses (m : Mesh) (line : List ℕ) : Type 0 where
  pub event : Event
  pub says : script_event line ≡ Ok (Some event)
  pub past : is_past m event ≡ true
