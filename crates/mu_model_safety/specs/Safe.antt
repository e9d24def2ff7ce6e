-- What it is for a world to be safe.
use Rattle.std.specs.Prelude.{ℕ, ◌≡◌, Some}
use Rattle.mu_model_node.specs.Events.{NodeEvent}
use Rattle.mu_model_node.specs.Safe.{ImagesAreSafe, left_after}
use Rattle.mu_model_world.specs.World.{Member, World, member_at, config_of, log_at}
use Rattle.mu_model_world.specs.Outcomes.{booted}

-- Each active image of each node is the one of its index that the node was made with; or it is whole, and came by an update that the
-- node took, that was verified, that an Update Apply reached then, and that was made active, in this order in the node's log.
abbrev pub IsSafe : World → Type 0
IsSafe w = (address : ℕ) (m : Member) → member_at w address ≡ Some m → ImagesAreSafe m.first (log_at address w.log) m.state.durable.images

-- the world where the power of a node goes after so many flash operations of an event at a moment
abbrev pub cut_in : World → ℕ → Member → NodeEvent → (now operations : ℕ) → World
cut_in w address m event now operations = (booted w address m (left_after (config_of address m) m.state event now operations)).world
