use Rattle.mu_model_refusals.proofs.Begins.{beginnings_are_short}
use Rattle.mu_model_refusals.proofs.Longs.{long_is_past}
use Rattle.mu_model_refusals.proofs.Fixed.{messages_end}
use Rattle.mu_model_refusals.proofs.Shorts.{shorts_lack}
use Rattle.mu_model_refusals.proofs.laws.lengths_are_told.Goals as goal

pub returns-clause-beginnings : goal.returns-clause-beginnings
returns-clause-beginnings c = beginnings_are_short

pub returns-clause-long : goal.returns-clause-long
returns-clause-long c = long_is_past

pub returns-clause-end : goal.returns-clause-end
returns-clause-end c = messages_end

pub returns-clause-short : goal.returns-clause-short
returns-clause-short c = shorts_lack
