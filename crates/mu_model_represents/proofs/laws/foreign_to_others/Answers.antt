use Rattle.mu_model_represents.proofs.Foreign.{found_alone, servers, nodes}
use Rattle.mu_model_represents.proofs.laws.foreign_to_others.Goals as goal

pub returns-clause-servers : goal.returns-clause-servers
returns-clause-servers c = servers c.stores.ensures.found c.stores.ensures.is_found

pub returns-clause-nodes : goal.returns-clause-nodes
returns-clause-nodes c = nodes c.stores.ensures.found c.stores.ensures.is_found

pub returns-clause-found : goal.returns-clause-found
returns-clause-found c = found_alone c.stores.ensures.found c.stores.ensures.is_found
