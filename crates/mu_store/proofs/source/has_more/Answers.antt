use Rattle.std.proofs.Common.{rules}
use Rattle.mu_store.proofs.SourceLemmas.{gives_more}
use Rattle.mu_store.proofs.source.has_more.Goals as goal

pub returns-clause-more : goal.returns-clause-more
returns-clause-more g c = gives_more _ _ _ _ (search rules) (search rules) c.in_ok-count.ensures.gives
