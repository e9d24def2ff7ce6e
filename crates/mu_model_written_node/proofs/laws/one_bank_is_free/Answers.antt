use Rattle.mu_model_written_node.proofs.Free.{one_free, all_there}
use Rattle.mu_model_written_node.proofs.laws.one_bank_is_free.Goals as goal

pub returns-clause-one : goal.returns-clause-one
returns-clause-one c m bank rules is there apart = one_free m bank rules is there apart

pub returns-clause-active : goal.returns-clause-active
returns-clause-active c m rules is = all_there m.present m.note.active is rules.active_sealed
