-- What a call makes of a node: what it has in memory then, what its flash represents, and the run of the flash (this profile).
use Rattle.std.specs.Prelude.{◌≡◌, Some, IfOk, Result, Err}
use Rattle.mu_model_flash.specs.Flash.{Seen}
use Rattle.mu_model_flash.specs.Run.{either, Goes}
use Rattle.mu_model_record.specs.Store.{StoreState}
use Rattle.mu_model_node.specs.FlashWork.{work_by}
use Rattle.mu_model_node.specs.NodeState.{NodeDurable, NodeState}
use Rattle.mu_model_node.specs.NodeOutcome.{Outcome}
use Rattle.mu_model_node.specs.Sound.{IsNodeDurable}
use Rattle.mu_model_represents.specs.RepresentsNode.{IsNodeOf, RepresentsNode}
use Rattle.mu_model_shown_node.specs.Shown.{IsShown}
use Rattle.mu_store.specs.declared.faults.StoreFault.{StoreFault}
use Rattle.mu_place.specs.Place.{place_fresh, PlaceHolds}
use Rattle.mu_place.specs.Calls.{IsFlash}
use Rattle.mu_blobsrv.specs.Views.{session_of}
use Rattle.mu_node.specs.declared.node.Node.{Node}
use Rattle.mu_node.specs.Views.{server_in, place_in, fault_in, memory_of, moment_of, seen_of, Shows, Holds}

-- it has this in memory
pub record HasInMemory {F : Type 0} {g : _} (node : Node F g) (n : NodeState) : Type 0 where
  pub kept : IsShown (memory_of node) n.durable
  pub fresh : n.fresh ≡ place_fresh (place_in node)
  pub session : n.session ≡ session_of (server_in node)
  pub moment : n.moment ≡ moment_of node

-- its flash represents this, told and with the power on
pub record HasOnFlash {F : Type 0} {g : _} (seen : F → Seen) (node : Node F g) (d : NodeDurable) : Type 0 where
  pub store : StoreState
  pub holds : PlaceHolds seen (place_in node) store
  pub represents : IsNodeOf store (memory_of node).part (memory_of node).note d

-- The run of the flash through the durable states that stand after each operation of an outcome, or a fault.
abbrev pub NodeGoes : {F T : Type 0} {g : _} → (F → Seen) → NodeState → Outcome → Node F g → Node F g → Result T StoreFault → Type 0
NodeGoes seen n o old new result =
    Goes (either RepresentsNode) n.durable (work_by n.fresh n.durable o.next.durable o.work) (seen_of seen old) (λ _. seen_of seen new) (λ _. seen_of seen new) (λ _ _. HasOnFlash seen new o.next.durable) IsFlash result

-- What a call that comes to an outcome in each state leaves in memory, and on the flash where the state after it is one that can be.
abbrev pub Remembers : {F T : Type 0} {g : _} → (NodeState → Outcome) → Node F g → Node F g → Result T StoreFault → Type 0
Remembers outcome old new result = (n : NodeState) → Shows old n → IfOk result (λ _. HasInMemory new (outcome n).next)

abbrev pub Runs : {F T : Type 0} {g : _} → (F → Seen) → (NodeState → Outcome) → Node F g → Node F g → Result T StoreFault → Type 0
Runs seen outcome old new result = (n : NodeState) → Holds seen old n → IsNodeDurable (outcome n).next.durable → NodeGoes seen n (outcome n) old new result

-- The run of the flash through an outcome, after which the node is in the state that comes and its flash represents it, or a fault.
abbrev pub NodeRuns : {F T : Type 0} {g : _} → (F → Seen) → NodeState → Outcome → Node F g → Node F g → Result T StoreFault → Type 0
NodeRuns seen n o old new result =
    Goes (either RepresentsNode) n.durable (work_by n.fresh n.durable o.next.durable o.work) (seen_of seen old) (λ _. seen_of seen new) (λ _. seen_of seen new) (λ _ _. Holds seen new o.next) IsFlash result

-- where a fault was kept before, it is answered and nothing changes
abbrev pub KeepsNode : {F T : Type 0} {g : _} → Node F g → Node F g → Result T StoreFault → Type 0
KeepsNode old new result = (why : StoreFault) → fault_in old ≡ Some why → (result ≡ Err why) × (new ≡ old)
