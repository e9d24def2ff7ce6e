use Rattle.mu_record.proofs.WriteLemmas.{short_test}
use Rattle.mu_record.proofs.write.is_short.Goals as goal

pub returns-clause-result : goal.returns-clause-result
returns-clause-result c = (short_test c.args.fields.now.tag c.requires c.is_zero.result c.is_zero.ensures.0 c.is_zero.ensures.1).1

pub returns-clause-short : goal.returns-clause-short
returns-clause-short c = (short_test c.args.fields.now.tag c.requires c.is_zero.result c.is_zero.ensures.0 c.is_zero.ensures.1).0
