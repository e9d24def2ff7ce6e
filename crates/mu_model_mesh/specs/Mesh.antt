-- The world of a script with updaters and distributors: the world of its nodes, with the bag and the log, and the updaters and
-- distributors beside them (this profile).
use Rattle.std.specs.Prelude.{ℕ, ◌+◌, ◌-◌, nat_eq, Bool, List, [], ◌∷◌, ◌++◌, length, map, replicate, Option, Some, None, max}
use Rattle.std.specs.List.{list_any, filter}
use Rattle.std.specs.Map.{lookup, set_value}
use Rattle.mu_model_wire.specs.Packet.{Packet}
use Rattle.mu_model_node.specs.NodeState.{is_addressee}
use Rattle.mu_model_world.specs.World.{Tear, Member, World, new_world, member_at, config_of}
use Rattle.mu_model_world.specs.Outcomes.{with_packets}
use Rattle.mu_model_distributor.specs.DistState.{DistState}
use Rattle.mu_model_updater.specs.Updater.{Updater}

-- an updater has no flash, so no tear is to come
pub record UpdaterMember : Type 0 where
  -- its present moment in milliseconds
  pub moment : ℕ
  pub updater : Updater

pub record DistributorMember : Type 0 where
  pub moment : ℕ
  pub tear : Option Tear
  pub state : DistState

pub record Mesh : Type 0 where
  -- the nodes, all packets that were sent, and the log
  pub nodes : World
  -- by address
  pub updaters : List (ℕ × UpdaterMember)
  pub distributors : List (ℕ × DistributorMember)
  -- the addresses of all members, in the script's order
  pub order : List ℕ
  -- for each packet of the bag the BLOB ID of the transfer that its sender had then, where that is an updater or a distributor
  pub transfers : List (Option ℕ)
  -- turns that were settled
  pub turns : ℕ

-- before the first line
abbrev pub new_mesh : Mesh
new_mesh = record { nodes = new_world; updaters = []; distributors = []; order = []; transfers = []; turns = 0 }

-- ---- members

abbrev pub is_member : Mesh → ℕ → Bool
is_member m address = list_any (nat_eq address) m.order

abbrev pub node_at : Mesh → ℕ → Option Member
node_at m address = member_at m.nodes address

abbrev pub updater_at : Mesh → ℕ → Option UpdaterMember
updater_at m address = lookup (nat_eq address) m.updaters

abbrev pub distributor_at : Mesh → ℕ → Option DistributorMember
distributor_at m address = lookup (nat_eq address) m.distributors

-- ---- addressees

-- an updater or a distributor is in no group
abbrev pub takes_by : Mesh → Packet → ℕ → Option Member → Bool
takes_by m packet address (Some node) = is_addressee (config_of address node) packet
takes_by m packet address None = nat_eq packet.to address

abbrev pub takes : Mesh → Packet → ℕ → Bool
takes m packet address = takes_by m packet address (node_at m address)

-- the members that a packet is addressed to, in the script's order
abbrev pub addressees : Mesh → Packet → List ℕ
addressees m packet = filter (takes m packet) m.order

-- ---- moments

abbrev pub moment_by : Option Member → Option UpdaterMember → Option DistributorMember → ℕ
moment_by (Some node) updater distributor = node.moment
moment_by None (Some updater) distributor = updater.moment
moment_by None None (Some distributor) = distributor.moment
moment_by None None None = 0

abbrev pub moment_at : Mesh → ℕ → ℕ
moment_at m address = moment_by (node_at m address) (updater_at m address) (distributor_at m address)

-- ---- parts of a next world

abbrev pub with_nodes : Mesh → World → Mesh
with_nodes m world = record m { nodes = world }

abbrev pub with_updater : Mesh → ℕ → UpdaterMember → Mesh
with_updater m address updater = record m { updaters = set_value (nat_eq address) m.updaters updater }

abbrev pub with_distributor : Mesh → ℕ → DistributorMember → Mesh
with_distributor m address distributor = record m { distributors = set_value (nat_eq address) m.distributors distributor }

-- packets go to the end of the bag, each with its sender's transfer
abbrev pub with_sent : Mesh → List Packet → Option ℕ → Mesh
with_sent m packets transfer =
    record m { nodes = with_packets m.nodes packets; transfers = m.transfers ++ map (λ (p : Packet). transfer) packets }

-- what nodes and strangers sent has no transfer
abbrev pub without_transfer : Mesh → World → Mesh
without_transfer m world = record m { nodes = world; transfers = m.transfers ++ replicate (length world.bag - length m.nodes.bag) None }
