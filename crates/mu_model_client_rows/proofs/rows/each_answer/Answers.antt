use Rattle.mu_model_client_rows.proofs.Worked.{each_answer, ranks}
use Rattle.mu_model_client_rows.proofs.rows.each_answer.Goals as goal

pub returns-clause-answers : goal.returns-clause-answers
returns-clause-answers c = each_answer

pub returns-clause-ranks : goal.returns-clause-ranks
returns-clause-ranks c = ranks
