use Rattle.std.proofs.Common.{ℕ, ap}
use Rattle.std.specs.Prelude.{◌==◌, not}
use Rattle.mu_distributor_server.proofs.judging.lags.Goals as goal

pub returns-in-TransferActive : goal.returns-in-TransferActive
returns-in-TransferActive g c held now = rw c.in-TransferActive.is (ap (λ (n : ℕ). not (n == 4)) (c.phase.ensures held now))
