use Rattle.mu_told.proofs.Named.{read_is}
use Rattle.mu_told.proofs.blob.named.Goals as goal

pub returns-clause-set : goal.returns-clause-set
returns-clause-set c = read_is c.args.report.now c.args.n c.read_report.result c.named_sets.ensures.named c.named_sets.ensures.read c.read_report.ensures.named c.read_report.ensures.some
