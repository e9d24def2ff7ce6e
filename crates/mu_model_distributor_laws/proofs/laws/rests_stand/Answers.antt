use Rattle.mu_model_distributor_laws.proofs.Rests.{rests_move, rests_start_nothing}
use Rattle.mu_model_distributor_laws.proofs.laws.rests_stand.Goals as goal

pub returns-clause-moves : goal.returns-clause-moves
returns-clause-moves c = rests_move

pub returns-clause-starts : goal.returns-clause-starts
returns-clause-starts c = rests_start_nothing
