use Rattle.mu_model_record.proofs.RecordLemmas.{spelled_once, word_once}
use Rattle.mu_model_record.proofs.laws.records.Goals as goal

pub returns-clause-octets : goal.returns-clause-octets
returns-clause-octets c = spelled_once

pub returns-clause-word : goal.returns-clause-word
returns-clause-word c = word_once
