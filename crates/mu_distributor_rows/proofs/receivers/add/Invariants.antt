use Rattle.std.proofs.Common.{◌≡◌, ◌≤◌, drop, length}
use Rattle.mu_model_distributor.specs.Receivers.{added}
use Rattle.mu_distributor_kept.specs.Views.{row_receivers}
use Rattle.mu_distributor_rows.specs.Receivers.{entries_of, Grown}
use Rattle.mu_distributor_rows.proofs.ReceiverRows.{Adding}
use Rattle.mu_distributor_rows.proofs.receivers.add.Given as goal

abbrev pub invariant-loop-entry : goal.invariant-loop-entry
invariant-loop-entry l = Adding l.initial.rows.items l.rows.items l.entries l.entry-index
