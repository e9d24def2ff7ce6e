use Rattle.mu_model_mesh_runs.proofs.Ending as ending
use Rattle.mu_model_mesh_runs.proofs.Members.{runs_have_members}
use Rattle.mu_model_mesh_runs.proofs.laws.scripts_end.Goals as goal

pub returns-clause-end : goal.returns-clause-end
returns-clause-end c = ending.scripts_end (record { nodes = c.answers_are_unanswered.ensures.nodes; distributors = c.answers_are_unanswered.ensures.distributors; updaters = c.answers_are_unanswered.ensures.updaters })

pub returns-clause-members : goal.returns-clause-members
returns-clause-members c = runs_have_members
