use Rattle.std.proofs.Common.{rules}
use Rattle.mu_updsrv.proofs.Tags.{old_is_short}
use Rattle.mu_updsrv.proofs.making.old_tag_of_one.Goals as goal

pub returns-clause-short : goal.returns-clause-short
returns-clause-short c = old_is_short c.tag_of.result (search rules)
