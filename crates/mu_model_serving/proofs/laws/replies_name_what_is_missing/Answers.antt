use Rattle.mu_model_serving.proofs.Missing.{messages_name}
use Rattle.mu_model_serving.proofs.laws.replies_name_what_is_missing.Goals as goal

pub returns-clause-messages : goal.returns-clause-messages
returns-clause-messages c = messages_name c.reports.ensures.of_a_set
