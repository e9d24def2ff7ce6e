use Rattle.std.proofs.Common.{◌≤◌, length, sym, subst}
use Rattle.mu_model_node.specs.BlobServer.{Serving}
use Rattle.mu_reference.specs.View.{state_of, update_phase_of}
use Rattle.mu_reference.specs.BlobRows.{held_in}
use Rattle.mu_reference.proofs.Looked.{few_held, few_missing}
use Rattle.mu_reference.proofs.values.State.blocks_missing.Goals as goal

pub missing_of-requires : goal.missing_of-requires
missing_of-requires c =
    subst (λ (x : Serving). length (held_in x) ≤ 256) (sym c.serving_at.ensures) (few_held (state_of c.args.self.now) (update_phase_of c.update_phase-phase.result) c.requires c.update_phase-phase.ensures.job)

pub returns-clause-few : goal.returns-clause-few
returns-clause-few c = few_missing (state_of c.args.self.now) (update_phase_of c.update_phase-phase.result) c.missing_of.result c.requires c.update_phase-phase.ensures.job (rw c.serving_at.ensures at c.missing_of.ensures)
