use Rattle.mu_model_node.proofs.Phases.{chunks_are_of_the_job}
use Rattle.mu_model_node.proofs.laws.chunks_are_of_the_job.Goals as goal

pub returns : goal.returns
returns c = chunks_are_of_the_job
