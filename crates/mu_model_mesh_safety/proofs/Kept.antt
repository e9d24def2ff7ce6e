-- What holds of each world of a run: each member has gone through a run of its own, with packets of the bag.
use Rattle.std.proofs.Common.{◌≡◌, ℕ, List, [], length, Some, None, false}
use Rattle.std.specs.List.{AllByRecursion}
use Rattle.mu_model_wire.specs.Laws.{AreOctets}
use Rattle.mu_model_wire.specs.Packet.{Packet}
use Rattle.mu_model_node.specs.Log.{LogEntry}
use Rattle.mu_model_node.specs.NodeMessages.{OfUpdate, request_at}
use Rattle.mu_model_node.specs.NodeState.{restarted}
use Rattle.mu_model_node.specs.Safe.{log_after}
use Rattle.mu_model_node.specs.UpdateMessages.{UpdateStart, StartUpdate}
use Rattle.mu_model_distributor_laws.specs.Starts.{IsUnused}
use Rattle.mu_model_packets.specs.Laws.{PacketFits}
use Rattle.mu_model_world.specs.Judged.{owner_of}
use Rattle.mu_model_world.specs.World.{Member, config_of, log_at}
use Rattle.mu_model_mesh.specs.Mesh.{UpdaterMember, DistributorMember, Mesh, is_member, node_at, updater_at, distributor_at}
use Rattle.mu_model_mesh_safety.specs.Runs.{NodeRun, UpdaterRun, DistributorRun, AreApart}

-- its log is that of its run
abbrev pub IsLogOf : (bag : List Packet) (address : ℕ) (n : Member) → NodeRun bag address n → (log : List LogEntry) → Type 0
IsLogOf bag address n r log = log ≡ log_after (config_of address n) (restarted r.made) r.hs

-- ---- packets

pub record IsPacket (m : Mesh) (p : Packet) : Type 0 where
  pub fits : PacketFits p
  -- a stranger offers nothing under a member's BLOB ID
  pub stranger : is_member m p.from ≡ false → (u : UpdateStart) → request_at p.payload ≡ Some (OfUpdate (StartUpdate u)) → is_member m (owner_of u.id) ≡ false
  -- and says octets
  pub octets : is_member m p.from ≡ false → (u : UpdateStart) → request_at p.payload ≡ Some (OfUpdate (StartUpdate u)) → AreOctets p.payload

-- ---- THE INVARIANT

pub record Kept (m : Mesh) : Type 0 where
  pub nodes : (address : ℕ) (n : Member) → node_at m address ≡ Some n → (r : NodeRun m.nodes.bag address n) × IsLogOf m.nodes.bag address n r (log_at address m.nodes.log)
  pub silent : (address : ℕ) → node_at m address ≡ None → log_at address m.nodes.log ≡ []
  pub updaters : (address : ℕ) (u : UpdaterMember) → updater_at m address ≡ Some u → UpdaterRun m.nodes.bag address u
  pub distributors : (address : ℕ) (d : DistributorMember) → distributor_at m address ≡ Some d → DistributorRun m.nodes.bag address d
  pub packets : AllByRecursion (IsPacket m) m.nodes.bag
  pub apart : AreApart m
  pub padded : length m.transfers ≡ length m.nodes.bag
  -- among the member lines nothing has happened
  pub early : m.nodes.begun ≡ false → m.nodes.bag ≡ []
  pub unused : m.nodes.begun ≡ false → (address : ℕ) (d : DistributorMember) → distributor_at m address ≡ Some d → IsUnused address d.state
