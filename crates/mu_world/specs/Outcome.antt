-- What the parts of the world's code come to.
use Rattle.std.specs.Prelude.{ℕ, ◌≡◌, IsTrue, List, ◌++◌, nat_eq, Option, Some, None}
use Rattle.std.specs.Map.{set_value}
use Rattle.mu_model_wire.specs.Packet.{Packet}
use Rattle.mu_model_node.specs.Events.{NodeEvent, is_worn}
use Rattle.mu_model_world.specs.Judged.{Objection}
use Rattle.mu_model_node.specs.Log.{LogEntry}
use Rattle.mu_model_world.specs.World.{Member, World, config_of, logged_at}
use Rattle.mu_model_node.specs.NodeState.{restarted}
use Rattle.mu_world.specs.Member.{BootOf, CameOf}
use Rattle.mu_world.specs.View.{tear_of}
use Rattle.mu_world.specs.declared.member.Boot.{Boot}
use Rattle.mu_world.specs.declared.member.Tear.{Tear as HeldTear}
use Rattle.mu_world.specs.declared.fault.WorldFault.{WorldFault}
use Rattle.mu_world.specs.declared.fault.WorldFault.TheVariants.{Memory, Bad, Worn}
use Rattle.mu_world.specs.declared.member.Came.{Came}

-- what has happened at the node of an address is logged
abbrev pub with_entries : World → ℕ → List LogEntry → World
with_entries w address entries = record w { log = w.log ++ logged_at address entries }

-- a fault is what stands against an event
abbrev pub Objects : Option Objection → WorldFault → Type 0
Objects against (Bad token why) = against ≡ Some (record { token = token; why = why })
Objects against _ = ⊥

-- an event came to the member at an address, and it is there as it is now
pub record HandedTo (before after : List (ℕ × Member)) (address : ℕ) (old : Member) (event : NodeEvent) (now : ℕ) (sent : List Packet) (came : Came) : Type 0 where
  pub new : Member
  pub changed : after ≡ set_value (nat_eq address) before new
  pub of : CameOf address old new event now sent came

-- the power of the member at an address went between events
pub record CutIn (before after : List (ℕ × Member)) (address : ℕ) (old : Member) (boot : Boot) : Type 0 where
  pub new : Member
  pub changed : after ≡ set_value (nat_eq address) before new
  pub cut : new ≡ record old { tear = None; state = restarted old.state.durable }
  pub of : BootOf old new boot

-- the power of the member at an address is to go
abbrev pub ArmedIn : List (ℕ × Member) → List (ℕ × Member) → ℕ → Member → HeldTear → Type 0
ArmedIn before after address old tear = after ≡ set_value (nat_eq address) before (record old { tear = Some (tear_of tear) })

-- of want of memory nothing is said
abbrev pub StoppedAt : ℕ → Member → NodeEvent → ℕ → WorldFault → Type 0
StoppedAt address m event now Memory = Unit {0}
StoppedAt address m event now (Worn worn) = (worn ≡ address) × IsTrue (is_worn (config_of address m) m.state event now)
StoppedAt address m event now _ = ⊥
