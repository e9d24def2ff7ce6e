use Rattle.mu_model_mesh_runs.proofs.Coming.{one_thing}
use Rattle.mu_model_mesh_runs.proofs.Something.{something}
use Rattle.mu_model_mesh_runs.proofs.laws.lines_come_to_one_thing.Goals as goal

pub returns-clause-one : goal.returns-clause-one
returns-clause-one c = one_thing

pub returns-clause-some : goal.returns-clause-some
returns-clause-some c = something
