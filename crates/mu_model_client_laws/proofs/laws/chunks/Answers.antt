use Rattle.mu_model_client_laws.proofs.Chunks.{group_gets, each_gets, steps_send}
use Rattle.mu_model_client_laws.proofs.laws.chunks.Goals as goal

pub returns-clause-grouped : goal.returns-clause-grouped
returns-clause-grouped c p b receivers e = group_gets p b receivers e

pub returns-clause-alone : goal.returns-clause-alone
returns-clause-alone c p b receivers e = each_gets p b receivers e

pub returns-clause-sent : goal.returns-clause-sent
returns-clause-sent c client image now b events h = steps_send client image now b events h
