use Rattle.mu_record.proofs.WriteLemmas.{slot_spelled}
use Rattle.mu_record.proofs.write.slot_octets.Goals as goal

pub returns-clause-spelled : goal.returns-clause-spelled
returns-clause-spelled c = slot_spelled c.args.fields.now c.record_octets.result c.first_octets.result c.record_octets.ensures.spelled c.requires.short c.first_octets.ensures.first
