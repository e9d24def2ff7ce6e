use Rattle.std.proofs.Common.{◌≡◌, ◌≤◌, length, map, take}
use Rattle.mu_distributor_rows.proofs.Listing.{Shown}
use Rattle.mu_distributor_rows.proofs.receivers.shown.Given as goal

abbrev pub invariant-loop-row : goal.invariant-loop-row
invariant-loop-row l = Shown l.shown.items l.rows l.row-index
