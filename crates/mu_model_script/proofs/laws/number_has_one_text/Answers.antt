use Rattle.mu_model_script.proofs.Numbers.{number_of-decimal, number_of-only}
use Rattle.mu_model_script.proofs.laws.number_has_one_text.Goals as goal

pub returns-clause-read : goal.returns-clause-read
returns-clause-read c = number_of-decimal

pub returns-clause-only : goal.returns-clause-only
returns-clause-only c = number_of-only
