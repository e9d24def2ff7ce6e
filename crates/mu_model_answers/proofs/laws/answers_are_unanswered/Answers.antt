use Rattle.mu_model_answers.proofs.Opcodes.{asks_nothing}
use Rattle.mu_model_answers.proofs.Unanswered.{node_unanswered, distributor_unanswered, updater_silent}
use Rattle.mu_model_answers.proofs.laws.answers_are_unanswered.Goals as goal

pub returns-clause-nodes : goal.returns-clause-nodes
returns-clause-nodes c = node_unanswered (asks_nothing c.opcodes_are_kept.ensures.one c.opcodes_are_kept.ensures.two)

pub returns-clause-distributors : goal.returns-clause-distributors
returns-clause-distributors c = distributor_unanswered (asks_nothing c.opcodes_are_kept.ensures.one c.opcodes_are_kept.ensures.two)

pub returns-clause-updaters : goal.returns-clause-updaters
returns-clause-updaters c = updater_silent

pub returns-clause-octets : goal.returns-clause-octets
returns-clause-octets c = asks_nothing c.opcodes_are_kept.ensures.one c.opcodes_are_kept.ensures.two
