use Rattle.std.proofs.Common.{sym, subst}
use Rattle.mu_model_distributor.specs.Requests.{FirmwareDeleteAll}
use Rattle.mu_distributor_answers.specs.Decides.{Decides}
use Rattle.mu_distributor_answers.proofs.Decided.{whole_deletion_decides}
use Rattle.mu_distributor_answers.proofs.deciding.delete_all.Goals as goal

pub returns : goal.returns
returns c rows =
    subst (Decides c.args.look rows rows FirmwareDeleteAll) (sym c.changes_by.ensures)
    (whole_deletion_decides c.args.look rows c.firmware_delete_all.result c.firmware_delete_all.ensures.known c.firmware_delete_all.ensures.step c.firmware_delete_all.ensures.due c.firmware_delete_all.ensures.rests)
