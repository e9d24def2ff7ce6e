use Rattle.mu_model_represents.proofs.Shorts.{read_nodes}
use Rattle.mu_model_represents.proofs.laws.runs_are_read.Goals as goal

pub returns : goal.returns
returns c = record { nodes = read_nodes }
