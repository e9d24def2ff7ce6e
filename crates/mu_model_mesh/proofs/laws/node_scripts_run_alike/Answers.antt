use Rattle.mu_model_mesh.proofs.AlikeRead.{read_alike, of_nodes_read}
use Rattle.mu_model_mesh.proofs.AlikeRuns.{forward, back, counts, prints, prints_back, refuses, refuses_back}
use Rattle.mu_model_mesh.proofs.laws.node_scripts_run_alike.Goals as goal

pub returns-clause-read : goal.returns-clause-read
returns-clause-read c = read_alike

pub returns-clause-all : goal.returns-clause-all
returns-clause-all c = of_nodes_read

pub returns-clause-forward : goal.returns-clause-forward
returns-clause-forward c = forward

pub returns-clause-back : goal.returns-clause-back
returns-clause-back c = back

pub returns-clause-counts : goal.returns-clause-counts
returns-clause-counts c = counts

pub returns-clause-prints : goal.returns-clause-prints
returns-clause-prints c = prints

pub returns-clause-prints_back : goal.returns-clause-prints_back
returns-clause-prints_back c = prints_back

pub returns-clause-refuses : goal.returns-clause-refuses
returns-clause-refuses c = refuses

pub returns-clause-refuses_back : goal.returns-clause-refuses_back
returns-clause-refuses_back c = refuses_back
