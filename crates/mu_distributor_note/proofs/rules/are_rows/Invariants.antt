use Rattle.std.proofs.Common.{drop}
use Rattle.mu_distributor_kept.specs.Views.{row_receivers}
use Rattle.mu_distributor_note.specs.Rules.{AreRows}
use Rattle.mu_distributor_note.proofs.rules.are_rows.Given as goal

-- the rows that are left decide
abbrev pub invariant-loop-i : goal.invariant-loop-i
invariant-loop-i l =
    (AreRows (row_receivers (drop l.i l.rows)) → AreRows (row_receivers l.rows)) × (AreRows (row_receivers l.rows) → AreRows (row_receivers (drop l.i l.rows)))
