use Rattle.mu_model_mesh_runs.proofs.All.{all_come}
use Rattle.mu_model_mesh_runs.proofs.Settling as settling
use Rattle.mu_model_mesh_runs.proofs.laws.settles_end.Goals as goal

pub returns-clause-end : goal.returns-clause-end
returns-clause-end c = settling.settles_end (record { nodes = c.answers_are_unanswered.ensures.nodes; distributors = c.answers_are_unanswered.ensures.distributors; updaters = c.answers_are_unanswered.ensures.updaters })

pub returns-clause-all : goal.returns-clause-all
returns-clause-all c = all_come (record { nodes = c.answers_are_unanswered.ensures.nodes; distributors = c.answers_are_unanswered.ensures.distributors; updaters = c.answers_are_unanswered.ensures.updaters })
