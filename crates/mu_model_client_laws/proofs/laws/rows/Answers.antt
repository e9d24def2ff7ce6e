use Rattle.mu_model_client_laws.proofs.Rising.{of_answer}
use Rattle.mu_model_client_laws.proofs.Sound.{rows_rise, rows_follow, time_ranks, cancel_ranks}
use Rattle.mu_model_client_laws.proofs.laws.rows.Goals as goal

pub returns-clause-rise : goal.returns-clause-rise
returns-clause-rise c client from answer now = rows_rise client from answer now

pub returns-clause-time : goal.returns-clause-time
returns-clause-time c client image now h = time_ranks client image now h

pub returns-clause-cancelled : goal.returns-clause-cancelled
returns-clause-cancelled c client = cancel_ranks client

pub returns-clause-causes : goal.returns-clause-causes
returns-clause-causes c id offered row answer = of_answer id offered row answer

pub returns-clause-follow : goal.returns-clause-follow
returns-clause-follow c client from answer now = rows_follow client from answer now
