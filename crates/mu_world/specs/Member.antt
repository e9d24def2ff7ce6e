-- What an event does at a member in memory.
use Rattle.std.specs.Prelude.{ℕ, ◌≡◌, ◌≤◌, ◌<◌, Bool, false, IsTrue, List, [], map, length, Contains, Option, Some, None}
use Rattle.mu_model_wire.specs.Packet.{Packet}
use Rattle.mu_model_node.specs.Events.{NodeEvent, node_step, node_work, is_worn}
use Rattle.mu_model_node.specs.Log.{LogEntry, logged}
use Rattle.mu_model_node.specs.NodeState.{restarted}
use Rattle.mu_model_node.specs.Safe.{left_after}
use Rattle.mu_model_node.specs.declared.NodeConfig.{NodeConfig}
use Rattle.mu_model_world.specs.World.{Tear, Member, config_of}
use Rattle.mu_model_world.specs.Outcomes.{done_by, filling_held}
use Rattle.mu_reference_node.specs.Logging.{what_of}
use Rattle.mu_reference.specs.declared.recording.Stop.{Stop}
use Rattle.mu_reference.specs.declared.recording.Stop.TheVariants.{NoMemory, Worn}
use Rattle.mu_world.specs.declared.member.Boot.{Boot}
use Rattle.mu_world.specs.declared.member.Came.{Came}
use Rattle.mu_world.specs.declared.member.Came.TheVariants.{Whole, Torn}

-- what a boot tells
pub record BootOf (old new : Member) (boot : Boot) : Type 0 where
  pub count : boot.count ≡ new.state.durable.count
  pub held : boot.held ≡ filling_held new.state.durable.job
  pub entries : map what_of boot.entries.items ≡ logged old.state new.state

-- the power goes after one of the numbers of operations that a tear may come to
pub record Tears (config : NodeConfig) (m : Member) (event : NodeEvent) (now operations : ℕ) : Type 0 where
  pub tear : Tear
  pub is : m.tear ≡ Some tear
  pub within : tear.operation ≤ length (node_work config m.state event now)
  pub one_of : Contains (done_by tear.pattern tear.operation) operations

-- no tear is to come, or the event has fewer operations
abbrev pub IsPending : ℕ → Option Tear → Type 0
IsPending operations None = Unit {0}
IsPending operations (Some tear) = operations < tear.operation

abbrev pub Operations : NodeConfig → Member → NodeEvent → ℕ → Option ℕ → Type 0
Operations config m event now None = IsPending (length (node_work config m.state event now)) m.tear
Operations config m event now (Some operations) = Tears config m event now operations

-- the event ran whole
pub record RanWhole (address : ℕ) (old new : Member) (event : NodeEvent) (now : ℕ) (sent : List Packet) (handled : Bool) (entries : List LogEntry) : Type 0 where
  pub sound : is_worn (config_of address old) old.state event now ≡ false
  pub pending : IsPending (length (node_work (config_of address old) old.state event now)) old.tear
  pub next : new ≡ record old { moment = now; state = (node_step (config_of address old) old.state event now).next }
  pub sends : sent ≡ (node_step (config_of address old) old.state event now).sent
  pub handles : handled ≡ (node_step (config_of address old) old.state event now).handled
  pub logs : entries ≡ logged old.state new.state

-- the power went in it
pub record WasTorn (address : ℕ) (old new : Member) (event : NodeEvent) (now : ℕ) (sent : List Packet) (boot : Boot) : Type 0 where
  pub sound : is_worn (config_of address old) old.state event now ≡ false
  pub operations : ℕ
  pub tears : Tears (config_of address old) old event now operations
  pub next : new ≡ record old { moment = now; tear = None; state = restarted (left_after (config_of address old) old.state event now operations) }
  pub silent : sent ≡ []
  pub boots : BootOf old new boot

abbrev pub CameOf : ℕ → Member → Member → NodeEvent → ℕ → List Packet → Came → Type 0
CameOf address old new event now sent (Whole handled entries) = RanWhole address old new event now sent handled (map what_of entries.items)
CameOf address old new event now sent (Torn boot) = WasTorn address old new event now sent boot

-- of want of memory nothing is said
abbrev pub Stopped : ℕ → Member → NodeEvent → ℕ → Stop → Type 0
Stopped address m event now NoMemory = Unit {0}
Stopped address m event now Worn = IsTrue (is_worn (config_of address m) m.state event now)
