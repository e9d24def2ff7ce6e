use Rattle.mu_model_updater.proofs.Starts.{nothing_else}
use Rattle.mu_model_updater.proofs.laws.nothing_else.Goals as goal

pub returns : goal.returns
returns c = nothing_else c.requests_are_no_answers.ensures.opcodes c.requests_are_no_answers.ensures.answers
