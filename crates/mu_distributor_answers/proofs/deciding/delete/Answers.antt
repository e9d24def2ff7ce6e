use Rattle.std.proofs.Common.{sym, subst}
use Rattle.mu_model_distributor.specs.Requests.{FirmwareDelete}
use Rattle.mu_distributor_answers.specs.Decides.{Decides}
use Rattle.mu_distributor_answers.proofs.Decided.{deletion_decides}
use Rattle.mu_distributor_answers.proofs.deciding.delete.Goals as goal

pub returns : goal.returns
returns c rows =
    subst (Decides c.args.look rows rows (FirmwareDelete c.args.fwid.now)) (sym c.deletes.ensures)
    (deletion_decides c.args.look rows c.args.fwid c.firmware_delete.result c.firmware_delete.ensures.known c.firmware_delete.ensures.step c.firmware_delete.ensures.due c.firmware_delete.ensures.rests)
