-- The world of a script: its members, all that was sent, and what has happened at its nodes.
use Rattle.std.specs.Prelude.{ℕ, nat_eq, ◌==◌, Bool, false, List, [], ◌∷◌, map, Option, if◌then◌else◌}
use Rattle.std.specs.Map.{lookup}
use Rattle.mu_model_flash.specs.declared.Pattern.{Pattern}
use Rattle.mu_model_wire.specs.Packet.{Packet}
use Rattle.mu_model_image.specs.Meta.{Image}
use Rattle.mu_model_node.specs.Log.{LogEntry}
use Rattle.mu_model_node.specs.NodeState.{NodeState}
use Rattle.mu_model_node.specs.declared.NodeConfig.{NodeConfig}

-- the power of a member goes at a flash operation of the next event that has so many
pub record Tear : Type 0 where
  -- counted from 1
  pub operation : ℕ
  -- what that operation leaves
  pub pattern : Pattern

-- a node of the script
pub record Member : Type 0 where
  pub group : ℕ
  -- its present moment in milliseconds
  pub moment : ℕ
  -- a tear that is still to come
  pub tear : Option Tear
  pub state : NodeState
  -- the images that it was made with, by index
  pub first : List Image

-- an entry of the log, at the node of this address
pub record Logged : Type 0 where
  pub node : ℕ
  pub what : LogEntry

pub record World : Type 0 where
  -- by address, in the script's order
  pub members : List (ℕ × Member)
  -- all packets that were sent, in order
  pub bag : List Packet
  pub log : List Logged
  -- how many events were done
  pub events : ℕ
  -- a line that is no member line was done
  pub begun : Bool

-- before the first line
abbrev pub new_world : World
new_world = record { members = []; bag = []; log = []; events = 0; begun = false }

abbrev pub member_at : World → ℕ → Option Member
member_at w address = lookup (nat_eq address) w.members

abbrev pub config_of : ℕ → Member → NodeConfig
config_of address m = record { address = address; group = m.group }

-- the entries of one node
abbrev pub log_at : ℕ → List Logged → List LogEntry
log_at address [] = []
log_at address (entry ∷ entries) = if entry.node == address then entry.what ∷ log_at address entries else log_at address entries

-- what was logged at one node
abbrev pub logged_at : ℕ → List LogEntry → List Logged
logged_at address entries = map (λ what. record { node = address; what = what }) entries
