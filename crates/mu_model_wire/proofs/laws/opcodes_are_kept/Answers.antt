use Rattle.mu_model_wire.proofs.Opcodes.{one_kept, two_kept}
use Rattle.mu_model_wire.proofs.laws.opcodes_are_kept.Goals as goal

pub returns-clause-one : goal.returns-clause-one
returns-clause-one c = one_kept

pub returns-clause-two : goal.returns-clause-two
returns-clause-two c = two_kept
