use Rattle.std.proofs.Common.{◌∙◌, ℕ, Bool, [], Result, ap, sym, subst}
use Rattle.mu_model_distributor.specs.Firmware.{with_images}
use Rattle.mu_distributor_rows.specs.Due.{IsDueOf}
use Rattle.mu_distributor_rows.specs.Rows.{all_deleted}
use Rattle.mu_distributor_rows.proofs.FirmwareRows.{whole_deletion_is, whole_deletion_due}
use Rattle.mu_distributor_rows.proofs.firmware.firmware_delete_all.Goals as goal

pub returns-clause-step : goal.returns-clause-step
returns-clause-step c s looks = whole_deletion_is c.args.look s looks ∙ ap (all_deleted s) (sym c.delete_any.ensures.step)

pub returns-clause-due : goal.returns-clause-due
returns-clause-due c s looks =
    subst (λ (r : Result Bool ℕ). IsDueOf r s (with_images s [])) (sym c.delete_any.ensures.step) (whole_deletion_due c.args.look s looks)
