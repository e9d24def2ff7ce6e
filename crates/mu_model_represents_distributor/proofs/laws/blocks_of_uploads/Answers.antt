use Rattle.mu_model_represents_distributor.proofs.Puts.{distributor_block}
use Rattle.mu_model_represents_distributor.proofs.laws.blocks_of_uploads.Goals as goal

pub returns : goal.returns
returns c = record { distributor = distributor_block c.blocks_of_jobs.ensures.images c.blocks_of_jobs.ensures.put }
