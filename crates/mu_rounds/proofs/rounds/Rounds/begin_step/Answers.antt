use Rattle.std.proofs.Common.{ap}
use Rattle.mu_model_client.specs.Going.{Go}
use Rattle.mu_rounds.proofs.rounds.Rounds.begin_step.Goals as goal

pub begin_chunks-requires-clause-free : goal.begin_chunks-requires-clause-free
begin_chunks-requires-clause-free c = c.requires.free _ (ap Go c.in-Chunks.is)
