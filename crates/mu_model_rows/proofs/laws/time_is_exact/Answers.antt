use Rattle.mu_model_rows.proofs.Presence.{presence_stays}
use Rattle.mu_model_rows.proofs.Timed.{time_is_exact}
use Rattle.mu_model_rows.proofs.laws.time_is_exact.Goals as goal

pub returns-clause-time : goal.returns-clause-time
returns-clause-time c = time_is_exact

pub returns-clause-presence : goal.returns-clause-presence
returns-clause-presence c = presence_stays
