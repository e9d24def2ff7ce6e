use Rattle.std.proofs.Common.{◌∙◌, ℕ, true, Result, ap, sym, subst}
use Rattle.mu_distributor_rows.specs.Due.{IsDueIn}
use Rattle.mu_distributor_rows.specs.Rows.{deleted}
use Rattle.mu_distributor_rows.proofs.FirmwareRows.{deletion_is, deletion_due}
use Rattle.mu_distributor_rows.proofs.firmware.firmware_delete.Goals as goal

pub returns-clause-step : goal.returns-clause-step
returns-clause-step c s looks = deletion_is c.args.look s c.args.fwid.now looks ∙ ap (deleted s c.args.fwid.now) (sym c.delete.ensures.step)

pub returns-clause-due : goal.returns-clause-due
returns-clause-due c s looks =
    subst (λ (r : Result (Unit {0}) ℕ). IsDueIn true s (deleted s c.args.fwid.now r)) (sym c.delete.ensures.step) (deletion_due c.args.look s c.args.fwid.now looks)
