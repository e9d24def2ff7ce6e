use Rattle.mu_model_wire_rows.proofs.Worked as worked
use Rattle.mu_model_wire_rows.proofs.rows.messages.Goals as goal

pub returns : goal.returns
returns c = worked.messages
