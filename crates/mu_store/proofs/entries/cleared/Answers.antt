use Rattle.mu_store.proofs.StoreLemmas.{four_cleared}
use Rattle.mu_store.proofs.entries.cleared.Goals as goal

pub returns : goal.returns
returns c =
    four_cleared c.args.named.now c.args.entries.now c.empty_if.result c.empty_if-2.result c.empty_if-3.result c.empty_if-4.result c.told-named c.told-entries c.empty_if.ensures c.empty_if-2.ensures c.empty_if-3.ensures c.empty_if-4.ensures
