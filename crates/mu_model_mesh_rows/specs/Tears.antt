-- A tear outlasts the events that have fewer operations.
use Rattle.std.specs.Prelude.{ℕ, ◌≡◌, ◌<◌, List, length, Contains, Some}
use Rattle.mu_model_node.specs.Events.{NodeEvent, node_step, node_work}
use Rattle.mu_model_distributor.specs.DistEvents.{dist_step, dist_work}
use Rattle.mu_model_world.specs.World.{Tear, Member, World, member_at, config_of}
use Rattle.mu_model_world.specs.Outcomes.{Outcome, happens}
use Rattle.mu_model_mesh.specs.Mesh.{DistributorMember, Mesh, distributor_at}
use Rattle.mu_model_mesh.specs.MeshOutcomes.{MeshOutcome, dist_happens}

-- a node of the world has done the event, and the tear is still to come
pub record NodeStands (w : World) (address : ℕ) (m : Member) (event : NodeEvent) (tear : Tear) : Type 0 where
  pub next : Member
  pub there : member_at w address ≡ Some next
  pub stays : next.tear ≡ Some tear
  pub done : next.state ≡ (node_step (config_of address m) m.state event m.moment).next

abbrev pub NodeTearsStay : Type 0
NodeTearsStay =
    (w : World) (address : ℕ) (old m : Member) (event : NodeEvent) (first : List ℕ) (tear : Tear) (o : Outcome) → member_at w address ≡ Some old
    → m.tear ≡ Some tear → length (node_work (config_of address m) m.state event m.moment) < tear.operation → Contains (happens w address m event first) o
    → NodeStands o.world address m event tear

-- and so at a distributor
pub record DistributorStands (w : Mesh) (address : ℕ) (d : DistributorMember) (event : NodeEvent) (tear : Tear) : Type 0 where
  pub next : DistributorMember
  pub there : distributor_at w address ≡ Some next
  pub stays : next.tear ≡ Some tear
  pub done : next.state ≡ (dist_step address d.state event d.moment).next

abbrev pub DistributorTearsStay : Type 0
DistributorTearsStay =
    (w : Mesh) (address : ℕ) (old d : DistributorMember) (event : NodeEvent) (first : List ℕ) (tear : Tear) (o : MeshOutcome) → distributor_at w address ≡ Some old
    → d.tear ≡ Some tear → length (dist_work address d.state event d.moment) < tear.operation → Contains (dist_happens w address d event first) o
    → DistributorStands o.mesh address d event tear
