use Rattle.mu_model_mesh_rows.proofs.Tears.{node_tears_stay, distributor_tears_stay}
use Rattle.mu_model_mesh_rows.proofs.rows.tears_stay.Goals as goal

pub returns-clause-node : goal.returns-clause-node
returns-clause-node c = node_tears_stay

pub returns-clause-distributor : goal.returns-clause-distributor
returns-clause-distributor c = distributor_tears_stay
