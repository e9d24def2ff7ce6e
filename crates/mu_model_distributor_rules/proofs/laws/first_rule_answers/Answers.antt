use Rattle.mu_model_distributor_rules.proofs.Rules.{answers}
use Rattle.mu_model_distributor_rules.proofs.laws.first_rule_answers.Goals as goal

pub returns : goal.returns
returns c = answers
