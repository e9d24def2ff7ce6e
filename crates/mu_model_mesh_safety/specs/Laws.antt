-- Safety of whole runs of scripts with nodes, updaters and distributors.
use Rattle.std.specs.Prelude.{ℕ, ◌≡◌, List, Some, Contains}
use Rattle.mu_model_node.specs.Events.{NodeEvent, PacketComes, TimeComes}
use Rattle.mu_model_node.specs.Safe.{left_after}
use Rattle.mu_model_distributor.specs.Runs.{left_after as dist_left_after}
use Rattle.mu_model_world.specs.World.{Member, config_of}
use Rattle.mu_model_world.specs.Outcomes.{booted}
use Rattle.mu_model_mesh.specs.Mesh.{DistributorMember, Mesh, new_mesh, node_at, distributor_at}
use Rattle.mu_model_mesh.specs.MeshOutcomes.{of_nodes, dist_booted, mesh_begun}
use Rattle.mu_model_mesh.specs.MeshRun.{MeshRun}
use Rattle.mu_model_mesh_runs.specs.Goes.{Within}
use Rattle.mu_model_mesh_safety.specs.Facts.{FactsHold}
use Rattle.mu_model_mesh_safety.specs.Runs.{IsOfRuns}
use Rattle.mu_model_mesh_safety.specs.Safe.{IsSafe, ListsAreTrue}

-- what holds of each world of each script, whatever outcomes its tears have, and of each world within a line
abbrev pub Always : (Mesh → Type 0) → Type 0
Always Holds = (lines : List (List ℕ)) (text : List ℕ) (m mid : Mesh) → MeshRun new_mesh lines text m → Within m mid → Holds mid

abbrev pub EveryWorldIsOfRuns : Type 0
EveryWorldIsOfRuns = Always IsOfRuns

abbrev pub EveryWorldIsSafe : Type 0
EveryWorldIsSafe = Always IsSafe

abbrev pub EveryListIsTrue : Type 0
EveryListIsTrue = Always ListsAreTrue

-- the world where the power of a node, or of a distributor, goes after so many flash operations of an event at a moment
abbrev pub node_cut : Mesh → ℕ → Member → NodeEvent → (now operations : ℕ) → Mesh
node_cut m address n event now operations = (of_nodes m (booted m.nodes address n (left_after (config_of address n) n.state event now operations))).mesh

abbrev pub dist_cut : Mesh → ℕ → DistributorMember → NodeEvent → (now operations : ℕ) → Mesh
dist_cut m address d event now operations = (dist_booted m address d (dist_left_after address d.state event now operations)).mesh

-- what may come to a member: time, or a packet of the bag
abbrev pub MayCome : Mesh → NodeEvent → Type 0
MayCome m (PacketComes packet) = Contains m.nodes.bag packet
MayCome m TimeComes = Unit {0}

-- wherever the power of a node or of a distributor goes in an event that may come
pub record AfterCuts (Holds : Mesh → Type 0) (m : Mesh) : Type 0 where
  pub nodes :
      (address : ℕ) (n : Member) (event : NodeEvent) (now operations : ℕ) → node_at m address ≡ Some n → MayCome m event
      → Holds (node_cut m address n event now operations)
  pub distributors :
      (address : ℕ) (d : DistributorMember) (event : NodeEvent) (now operations : ℕ) → distributor_at m address ≡ Some d → MayCome m event
      → Holds (dist_cut m address d event now operations)

abbrev pub EveryCutIsSafe : Type 0
EveryCutIsSafe = Always (λ m. AfterCuts IsSafe (mesh_begun m))

abbrev pub ListsStayTrue : Type 0
ListsStayTrue = Always (λ m. AfterCuts ListsAreTrue (mesh_begun m))

abbrev pub EveryFactHolds : Type 0
EveryFactHolds = Always FactsHold

abbrev pub FactsStay : Type 0
FactsStay = Always (λ m. AfterCuts FactsHold (mesh_begun m))
