use Rattle.mu_model_record.proofs.FreeLemmas.{free_same}
use Rattle.mu_model_record.proofs.KindLemmas.{is_present, is_store}
use Rattle.mu_model_record.proofs.OneLemmas.{present_one, state_one, found_one}
use Rattle.mu_model_record.proofs.laws.stores.Goals as goal

pub returns-clause-present : goal.returns-clause-present
returns-clause-present c = present_one

pub returns-clause-state : goal.returns-clause-state
returns-clause-state c image d e first second = state_one image d e first.0 second.0 first.1 second.1 first.2 second.2

pub returns-clause-represented : goal.returns-clause-represented
returns-clause-represented c = is_present

pub returns-clause-found : goal.returns-clause-found
returns-clause-found c = found_one

pub returns-clause-is_found : goal.returns-clause-is_found
returns-clause-is_found c d image represents = is_store represents.0 represents.1 d image represents.2

pub returns-clause-free : goal.returns-clause-free
returns-clause-free c page word d old new at n past free out is = (free_same c.ranges_of_octets.ensures) page word d old at n past free is new out
