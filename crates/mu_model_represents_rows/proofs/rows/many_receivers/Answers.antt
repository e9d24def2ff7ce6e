use Rattle.mu_model_represents_rows.proofs.ManyReceivers as worked
use Rattle.mu_model_represents_rows.proofs.rows.many_receivers.Goals as goal

pub returns : goal.returns
returns c = worked.many_receivers
