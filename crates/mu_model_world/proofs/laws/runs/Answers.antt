use Rattle.mu_model_world.proofs.Alone.{prints_alone, refused_untraced}
use Rattle.mu_model_world.proofs.laws.runs.Goals as goal

pub returns-clause-alone : goal.returns-clause-alone
returns-clause-alone c = prints_alone

pub returns-clause-refused : goal.returns-clause-refused
returns-clause-refused c = refused_untraced
