use Rattle.mu_model_wire.proofs.ReportLaws.{field_of_set, field_small}
use Rattle.mu_model_wire.proofs.reports.bit_fields.Goals as goal

pub returns-clause-of_a_set : goal.returns-clause-of_a_set
returns-clause-of_a_set c = field_of_set

pub returns-clause-octets : goal.returns-clause-octets
returns-clause-octets c = field_small
