use Rattle.mu_model_refusals.proofs.Shorts.{foreign_told, foreign_refused}
use Rattle.mu_model_refusals.proofs.laws.opcodes_are_told.Goals as goal

pub returns : goal.returns
returns c = record { told = foreign_told; refused = foreign_refused }
