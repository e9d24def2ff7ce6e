use Rattle.mu_model_node.specs.NodeState.{restarted}
use Rattle.mu_model_node.specs.Safe.{state_after, log_after}
use Rattle.mu_model_fates.proofs.Runs.{traced}
use Rattle.mu_model_fates.proofs.Versions.{versions_of}
use Rattle.mu_model_fates.proofs.Fates.{fate_of, held_by}
use Rattle.mu_model_fates.proofs.laws.verified_is_held.Goals as goal

pub returns : goal.returns
returns c = λ config d hs none id index meta one reached.
    let trace = traced c.flash_work.ensures.left config d hs none in
    held_by d.images (log_after config (restarted d) hs) (state_after config (restarted d) hs) (versions_of trace) id index meta one (fate_of trace id reached)
