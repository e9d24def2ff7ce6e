-- The steps that the rows of the table are handed back as.
use Rattle.std.specs.Prelude.{ℕ, Bool, true, false, List, Result, Ok, Err}
use Rattle.std.specs.Borrow.{Bor}
use Rattle.mu_distributor_rows.specs.declared.distribution.DistributionStep.{DistributionStep}
use Rattle.mu_distributor_rows.specs.Due.{changes}
use Rattle.mu_distributor_answers.specs.declared.steps.Decision.{Decision}
use Rattle.mu_distributor_answers.specs.declared.steps.DistStep.{DistStep}
use Rattle.mu_distributor_answers.specs.declared.steps.DistStep.TheVariants.{Tell, Distribution, DeleteImages}

abbrev pub tells : ℕ → Decision
tells status = record { step = Tell status; due = false }

-- a step, or the status that refuses it
abbrev pub changes_by : DistStep → Result Bool ℕ → Decision
changes_by step (Ok due) = record { step = step; due = due }
changes_by step (Err status) = tells status

abbrev pub deletes : Bor (List ℕ) → Result (Unit {0}) ℕ → Decision
deletes fwid (Ok done) = record { step = DeleteImages fwid; due = true }
deletes fwid (Err status) = tells status

abbrev pub distributes : DistributionStep → Decision
distributes step = record { step = Distribution step; due = changes step }
