use Rattle.mu_model_represents_distributor.proofs.Shorts.{read_distributors}
use Rattle.mu_model_represents_distributor.proofs.laws.distributor_runs_are_read.Goals as goal

pub returns : goal.returns
returns c = record { distributors = read_distributors }
