use Rattle.mu_model_client_laws.proofs.Opcodes.{opcodes_kept, no_answers}
use Rattle.mu_model_client_laws.proofs.laws.requests_are_no_answers.Goals as goal

pub returns-clause-opcodes : goal.returns-clause-opcodes
returns-clause-opcodes c = opcodes_kept c.opcodes_are_kept.ensures.one c.opcodes_are_kept.ensures.two

pub returns-clause-answers : goal.returns-clause-answers
returns-clause-answers c = no_answers c.opcodes_are_kept.ensures.one c.opcodes_are_kept.ensures.two
