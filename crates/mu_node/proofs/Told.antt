-- A node after an event, in a state that can be.
use Rattle.std.proofs.Common.{◌≡◌, subst}
use Rattle.std.specs.Prelude.{IfOk, Result, Ok, Err}
use Rattle.mu_model_flash.specs.Flash.{Seen}
use Rattle.mu_model_flash.specs.Run.{either, Ran, Broke}
use Rattle.mu_model_node.specs.FlashWork.{work_by}
use Rattle.mu_model_node.specs.NodeState.{NodeState}
use Rattle.mu_model_node.specs.NodeOutcome.{Outcome}
use Rattle.mu_model_node.specs.Sound.{IsNodeState}
use Rattle.mu_model_serving.specs.Laws.{IsLinked}
use Rattle.mu_model_represents.specs.RepresentsNode.{RepresentsNode}
use Rattle.mu_store.specs.declared.faults.StoreFault.{StoreFault}
use Rattle.mu_place.specs.declared.place.Place.{Place}
use Rattle.mu_place.specs.Place.{place_seen}
use Rattle.mu_node.specs.declared.node.Node.{Node}
use Rattle.mu_node.specs.Views.{place_in, seen_of, Shows}
use Rattle.mu_node.specs.Does.{HasInMemory, NodeGoes, NodeRuns}

pub shows_of : {F : Type 0} {g : _} (node : Node F g) (n : NodeState) → HasInMemory node n → IsNodeState n → IsLinked n → Shows node n
shows_of node n has sound linked = record { kept = has.kept; fresh = has.fresh; session = has.session; moment = has.moment; sound = sound; linked = linked }

pub all_show : {F T : Type 0} {g : _} (node : Node F g) (n : NodeState) (result : Result T StoreFault) → IfOk result (λ _. HasInMemory node n) → IsNodeState n → IsLinked n → IfOk result (λ _. Shows node n)
all_show node n (Ok t) has sound linked = shows_of node n has sound linked
all_show node n (Err why) has sound linked = tt

-- from a moment that was handed in
pub all_run : {F T : Type 0} {g : _} (seen : F → Seen) (old mid new : Node F g) (n m : NodeState) (o : Outcome) (result : Result T StoreFault) → place_in mid ≡ place_in old → n.durable ≡ m.durable → n.fresh ≡ m.fresh
    → NodeGoes seen m o mid new result → IfOk result (λ _. Shows new o.next) → NodeRuns seen n o old new result
all_run seen old mid new n m o (Ok t) place kept fresh run shows = (
  subst (λ (p : Place _ _). Ran (either RepresentsNode) n.durable (work_by n.fresh n.durable o.next.durable o.work) (place_seen seen p) (seen_of seen new)) place
      (rw (kept, fresh) run.0),
  record { shows = shows; store = run.1.store; holds = run.1.holds; represents = run.1.represents },
)
all_run seen old mid new n m o (Err why) place kept fresh run shows =
    λ flash. subst (λ (p : Place _ _). Broke (either RepresentsNode) n.durable (work_by n.fresh n.durable o.next.durable o.work) (place_seen seen p) (seen_of seen new)) place (rw (kept, fresh) (run flash))
