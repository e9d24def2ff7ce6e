-- Steps that write nothing, and what a step that writes was decided over.
use Rattle.std.proofs.Common.{◌≡◌, ◌≤◌, ℕ, true, false, [], ◌∷◌, Option, Some, None, refl, arith}
use Rattle.std.specs.Prelude.{if◌then◌else◌}
use Rattle.mu_model_flash.specs.Flash.{Seen}
use Rattle.mu_model_flash.specs.Laws.{RunLaws}
use Rattle.mu_model_flash.specs.Run.{either, Ran}
use Rattle.mu_model_record.specs.Represents.{RepresentsStore}
use Rattle.mu_model_node.specs.declared.Link.{Link}
use Rattle.mu_model_node.specs.declared.Link.TheVariants.{Cut, Ready, Running}
use Rattle.mu_model_node.specs.BlobServer.{Session, made_ready, heard_at}
use Rattle.mu_model_node.specs.NodeMessages.{ByUpdate}
use Rattle.mu_model_node.specs.NodeState.{Job, NodeState}
use Rattle.mu_model_node.specs.UpdateTable.{update_status}
use Rattle.mu_model_represents.specs.RepresentsNode.{RepresentsNode}
use Rattle.mu_model_represents.specs.Short.{StoresAreReadAsNodes}
use Rattle.mu_update_rows.specs.Fits.{IsKnown, is_cut}
use Rattle.mu_update_rows.specs.Rows.{applied_with, update_stepped}
use Rattle.mu_update_rows.specs.declared.table.UpdateStep.{UpdateStep}
use Rattle.mu_update_rows.specs.declared.table.UpdateStep.TheVariants.{MakeReady, Hear, Take, Lose, Apply, Answer}
use Rattle.mu_blob_session.specs.Blocks.{is_cut_link, resumed}
use Rattle.mu_node.specs.declared.node.Node.{Node}
use Rattle.mu_node.specs.Views.{place_in, memory_of, seen_of, Holds}
use Rattle.mu_node.specs.Steps.{status_by}
use Rattle.mu_node.specs.Ways.{as_store, as_node, StateOf, reading_of}
use Rattle.mu_node.specs.Does.{HasOnFlash}
use Rattle.mu_node.proofs.Ran.{reads}

-- ---- the link

ready_by : (now : ℕ) (l : Session) (link : Link) → is_cut link ≡ true → (if is_cut_link link then made_ready now l else heard_at now l) ≡ made_ready now l
ready_by now l Cut e = refl
ready_by now l Ready e = absurd cc
ready_by now l Running e = absurd cc

pub is_ready : (now : ℕ) (l : Session) → is_cut l.link ≡ true → resumed now l ≡ made_ready now l
is_ready now l e = ready_by now l l.link e

heard_by : (now : ℕ) (l : Session) (link : Link) → is_cut link ≡ false → (if is_cut_link link then made_ready now l else heard_at now l) ≡ heard_at now l
heard_by now l Cut e = absurd cc
heard_by now l Ready e = refl
heard_by now l Running e = refl

pub is_heard : (now : ℕ) (l : Session) → is_cut l.link ≡ false → resumed now l ≡ heard_at now l
is_heard now l e = heard_by now l l.link e

-- ---- no operation

pub rests : {F : Type 0} {g : _} (seen : F → Seen) → RunLaws StateOf reading_of seen → StoresAreReadAsNodes → (node : Node F g) (n : NodeState) → (h : Holds seen node n)
    → Ran (either RepresentsStore) h.store [] (seen_of seen node) (seen_of seen node) → Ran (either RepresentsNode) n.durable [] (seen_of seen node) (seen_of seen node) × HasOnFlash seen node n.durable
rests seen laws nodes node n h idle = (
  (reads seen laws (place_in node) (place_in node)).ran as_store as_node h.store [] n.durable [] refl (λ told. nodes h.store [] n.durable [] ((memory_of node).part, (memory_of node).note, h.represents) tt) idle,
  record { store = h.store; holds = h.holds; represents = h.represents },
)

-- ---- what is answered

pub known_status : (step : UpdateStep) → IsKnown step → status_by step ≤ 7
known_status MakeReady known = omega arith
known_status Hear known = omega arith
known_status (Take what) known = omega arith
known_status Lose known = omega arith
known_status Apply known = omega arith
known_status (Answer status) known = known

applied_replies : (n : NodeState) (to : ℕ) (q : Option Job) → (applied_with n to q).replies ≡ (to, ByUpdate (update_status 0 (applied_with n to q).next)) ∷ []
applied_replies n to None = refl
applied_replies n to (Some j) = refl

pub step_replies : (n : NodeState) (to : ℕ) (step : UpdateStep) → (update_stepped n to step).replies ≡ (to, ByUpdate (update_status (status_by step) (update_stepped n to step).next)) ∷ []
step_replies n to MakeReady = refl
step_replies n to Hear = refl
step_replies n to (Take what) = refl
step_replies n to Lose = refl
step_replies n to Apply = applied_replies n to n.durable.job
step_replies n to (Answer status) = refl
