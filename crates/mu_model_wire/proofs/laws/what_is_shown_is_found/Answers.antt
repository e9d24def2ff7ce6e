use Rattle.mu_model_wire.proofs.Found.{numbers, octets_found, own, other}
use Rattle.mu_model_wire.proofs.laws.what_is_shown_is_found.Goals as goal

pub returns-clause-numbers : goal.returns-clause-numbers
returns-clause-numbers c = numbers

pub returns-clause-octets : goal.returns-clause-octets
returns-clause-octets c = octets_found

pub returns-clause-own : goal.returns-clause-own
returns-clause-own c = own

pub returns-clause-other : goal.returns-clause-other
returns-clause-other c = other
