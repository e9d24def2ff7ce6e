-- The flash operations that a line begins, by the address of the member whose flash it is. A torn event counts the number of the
-- operation at which the power goes, and a boot counts none.
use Rattle.std.specs.Prelude.{ℕ, zero, suc, ◌≡◌, ◌+◌, ◌==◌, nat_le, List, [], ◌∷◌, ◌++◌, length, slice_get, Option, Some, None, if◌then◌else◌}
use Rattle.mu_model_wire.specs.Packet.{Packet}
use Rattle.mu_model_node.specs.Events.{NodeEvent, PacketComes, TimeComes, node_work}
use Rattle.mu_model_distributor.specs.DistEvents.{dist_work}
use Rattle.mu_model_script.specs.Event.{Event, Deliver, Time, Settle}
use Rattle.mu_model_world.specs.World.{Tear, Member, config_of}
use Rattle.mu_model_world.specs.Judged.{Judged, Silent, Refused, Sound}
use Rattle.mu_model_mesh.specs.Mesh.{UpdaterMember, DistributorMember, Mesh, addressees, moment_at, node_at, updater_at, distributor_at}
use Rattle.mu_model_mesh.specs.MeshOutcomes.{MeshOutcome, mesh_begun}
use Rattle.mu_model_mesh.specs.MeshJudged.{mesh_judged}
use Rattle.mu_model_mesh.specs.MeshRun.{MeshMoves, IsDone, MeshStep, MeshRun}
use Rattle.mu_model_mesh.specs.Settle.{turn_time, turn_comes, EachComes, given_to, AllComes, none_left, comes, Turns, Settles}
use Rattle.mu_model_mesh_runs.specs.Goes.{Coming, ByTime, ByPacket}
use Rattle.mu_model_mesh_runs.specs.Stops.{node_later, distributor_later}

-- so many operations at the flash of this address
pub record Spent : Type 0 where
  pub address : ℕ
  pub operations : ℕ

-- how many of them at one address
abbrev pub spent_at : ℕ → List Spent → ℕ
spent_at address [] = 0
spent_at address (s ∷ more) = if s.address == address then s.operations + spent_at address more else spent_at address more

-- ---- one event at a member

-- of so many operations of the event, by a tear that is still to come
abbrev pub begun_of : ℕ → Option Tear → ℕ
begun_of operations None = operations
begun_of operations (Some tear) = if nat_le tear.operation operations then tear.operation else operations

-- an updater has no flash
abbrev pub operations_by : (address : ℕ) → NodeEvent → Option Member → Option UpdaterMember → Option DistributorMember → ℕ
operations_by address event (Some n) u d = begun_of (length (node_work (config_of address n) n.state event n.moment)) n.tear
operations_by address event None (Some u) d = 0
operations_by address event None None (Some d) = begun_of (length (dist_work address d.state event d.moment)) d.tear
operations_by address event None None None = 0

abbrev pub packet_operations : Mesh → (address : ℕ) → Option Packet → ℕ
packet_operations m address (Some packet) = operations_by address (PacketComes packet) (node_at m address) (updater_at m address) (distributor_at m address)
packet_operations m address None = 0

-- of what comes to a member in a world
abbrev pub operations_of : Mesh → Coming → ℕ
operations_of m (ByTime address ms) =
    operations_by address TimeComes (node_later ms (node_at m address)) (updater_at m address) (distributor_later ms (distributor_at m address))
operations_of m (ByPacket number address) = packet_operations m address (slice_get m.nodes.bag number)

-- ---- a `settle`

abbrev pub time_operations : Mesh → ℕ → ℕ
time_operations m address = operations_of m (ByTime address (moment_at m address + turn_time))

abbrev pub given_operations : (number : ℕ) → Mesh → ℕ → ℕ
given_operations number m address = operations_of m (ByPacket number address)

-- on the way through these addresses, each in the world that it comes in
abbrev pub spent_by_each :
    (events : Mesh → ℕ → List MeshOutcome) → (Mesh → ℕ → ℕ) → (addresses : List ℕ) (m : Mesh) (text : List ℕ) (next : Mesh)
    → EachComes events addresses m text next → List Spent
spent_by_each events operations [] m text next way = []
spent_by_each events operations (address ∷ others) m text next (mid, first, rest, outcome, more, joined) =
    record { address = address; operations = operations m address } ∷ spent_by_each events operations others mid rest next more

abbrev pub spent_by_all : {number : ℕ} {m : Mesh} {text : List ℕ} {next : Mesh} → AllComes number m text next → List Spent
spent_by_all (none_left over) = []
spent_by_all {number = number} {m = m} (comes {mid = mid} first rest packet at each all) =
    spent_by_each (given_to number) (given_operations number) (addressees m packet) m first mid each ++ spent_by_all all

abbrev pub spent_in_turn : {m : Mesh} {text : List ℕ} {next : Mesh} → Turns m text next → List Spent
spent_in_turn {m = m} t = spent_by_each turn_comes time_operations m.order m t.first t.mid t.time ++ spent_by_all t.packets

abbrev pub spent_in_settle : (turns : ℕ) (m : Mesh) (text : List ℕ) (next : Mesh) → Settles turns m text next → List Spent
spent_in_settle zero m text next way = []
spent_in_settle (suc turns) m text next (mid, first, rest, turn, more, joined) = spent_in_turn turn ++ spent_in_settle turns mid rest next more

-- ---- a line

abbrev pub spent_at_one : Mesh → (address : ℕ) → Coming → List Spent
spent_at_one m address coming = record { address = address; operations = operations_of m coming } ∷ []

abbrev pub spent_by_move : (m : Mesh) (event : Event) (text : List ℕ) (next : Mesh) → MeshMoves m event text next → List Spent
spent_by_move m (Settle turns) text next way = spent_in_settle turns (mesh_begun m) text next way
spent_by_move m (Deliver number address) text next way = spent_at_one (mesh_begun m) address (ByPacket number address)
spent_by_move m (Time address ms) text next way = spent_at_one (mesh_begun m) address (ByTime address ms)
spent_by_move m _ text next way = []

abbrev pub spent_by_done : (m : Mesh) (judged : Judged) (text : List ℕ) (next : Mesh) → IsDone m judged text next → List Spent
spent_by_done m (Sound event) text next way = spent_by_move m event text next way.1
spent_by_done m _ text next way = []

-- a line that is done spends this
abbrev pub spent_by_line : {m : Mesh} {line text : List ℕ} {next : Mesh} → MeshStep m line text next → List Spent
spent_by_line {m = m} {line = line} {text = text} {next = next} step = spent_by_done m (mesh_judged m line) text next step.done

-- and a run all that its lines spend
abbrev pub spent_in_run : (m : Mesh) (lines : List (List ℕ)) (text : List ℕ) (end : Mesh) → MeshRun m lines text end → List Spent
spent_in_run m [] text end way = []
spent_in_run m (line ∷ lines) text end (next, first, others, step, more, joined) = spent_by_line step ++ spent_in_run next lines others end more
