use Rattle.mu_model_client_laws.proofs.Worked.{silent, refusals, each_status, others}
use Rattle.mu_model_client_laws.proofs.laws.worked_drops.Goals as goal

pub returns-clause-silent : goal.returns-clause-silent
returns-clause-silent c = silent

pub returns-clause-status : goal.returns-clause-status
returns-clause-status c = refusals

pub returns-clause-each_status : goal.returns-clause-each_status
returns-clause-each_status c = each_status

pub returns-clause-others : goal.returns-clause-others
returns-clause-others c = others
