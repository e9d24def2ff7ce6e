use Rattle.mu_model_fates.proofs.Offers.{took_offered}
use Rattle.mu_model_fates.proofs.laws.took_was_offered.Goals as goal

pub returns : goal.returns
returns c = took_offered c.flash_work.ensures.left c.entries_have_causes.ensures
