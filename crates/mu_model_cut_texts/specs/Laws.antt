-- What a boot prints of what it found, where the power went in an event.
use Rattle.std.specs.Prelude.{ℕ, ◌≡◌, List, ◌++◌}
use Rattle.mu_model_node.specs.Events.{NodeEvent}
use Rattle.mu_model_node.specs.Laws.{EventFits}
use Rattle.mu_model_node.specs.NodeState.{NodeDurable, NodeState}
use Rattle.mu_model_node.specs.Safe.{left_after}
use Rattle.mu_model_node.specs.Sound.{IsNodeState}
use Rattle.mu_model_node.specs.declared.NodeConfig.{NodeConfig}
use Rattle.mu_model_distributor.specs.DistState.{job_of, DistDurable, DistState}
use Rattle.mu_model_distributor.specs.Runs.{left_after as dist_left_after}
use Rattle.mu_model_distributor.specs.Sound.{IsDistState}
use Rattle.mu_model_distributor_laws.specs.Laws.{EventFits as DistributorEventFits}
use Rattle.mu_model_script.specs.Texts.{boot_text}
use Rattle.mu_model_world.specs.Outcomes.{filling_held}
use Rattle.mu_model_mesh.specs.MeshOutcomes.{held_of}

-- what a node, and what a distributor at an address prints where it boots from what is kept
abbrev pub node_boot : (address : ℕ) → NodeDurable → List ℕ
node_boot address d = boot_text address d.count (filling_held d.job)

abbrev pub dist_boot : (address : ℕ) → DistDurable → List ℕ
dist_boot address d = boot_text address d.count (held_of (job_of d.upload))

-- the text of a boot shows where it ends, whatever is printed after it
abbrev pub BootTextsEnd : Type 0
BootTextsEnd =
    (address count held count' held' : ℕ) (rest rest' : List ℕ) → boot_text address count held ++ rest ≡ boot_text address count' held' ++ rest'
    → (boot_text address count held ≡ boot_text address count' held') × (rest ≡ rest')

-- wherever the power goes in an event at a node, what is left is the same where the boot prints the same
abbrev pub NodeCutsAreTold : Type 0
NodeCutsAreTold =
    (config : NodeConfig) (s : NodeState) (event : NodeEvent) (now operations others : ℕ) → EventFits event → IsNodeState s
    → node_boot config.address (left_after config s event now operations) ≡ node_boot config.address (left_after config s event now others)
    → left_after config s event now operations ≡ left_after config s event now others

-- and so at a distributor
abbrev pub DistributorCutsAreTold : Type 0
DistributorCutsAreTold =
    (address : ℕ) (s : DistState) (event : NodeEvent) (now operations others : ℕ) → DistributorEventFits event → IsDistState s
    → dist_boot address (dist_left_after address s event now operations) ≡ dist_boot address (dist_left_after address s event now others)
    → dist_left_after address s event now operations ≡ dist_left_after address s event now others
