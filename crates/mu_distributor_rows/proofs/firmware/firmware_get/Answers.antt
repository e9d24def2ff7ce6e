use Rattle.std.proofs.Common.{◌∙◌, ℕ, Option, Some, length, sym, ap}
use Rattle.mu_model_distributor.specs.Replies.{FirmwareStatus}
use Rattle.mu_model_distributor.specs.Firmware.{firmware_found}
use Rattle.mu_distributor_rows.proofs.FirmwareRows.{count_is, found_is}
use Rattle.mu_distributor_rows.proofs.firmware.firmware_get.Goals as goal

pub returns-in-None : goal.returns-in-None
returns-in-None c s looks =
    c.status_of.ensures ∙ (λ i. FirmwareStatus 4 (length c.args.look.metas.now) 0xFFFF (Some (c.asked_id.ensures i)))
    ∙ sym (count_is c.args.look s 0xFFFF 4 (Some c.args.fwid.now) looks) ∙ ap (λ (o : Option ℕ). firmware_found c.args.fwid.now o s) c.in-None.ensures
    ∙ sym (found_is c.args.look s c.args.fwid.now looks)

pub returns-in-Some : goal.returns-in-Some
returns-in-Some c s looks =
    c.status_of-in-Some.ensures ∙ (λ i. FirmwareStatus 0 (length c.args.look.metas.now) c.in-Some.index (Some (c.asked_id-in-Some.ensures i)))
    ∙ sym (count_is c.args.look s c.in-Some.index 0 (Some c.args.fwid.now) looks) ∙ ap (λ (o : Option ℕ). firmware_found c.args.fwid.now o s) c.in-Some.ensures
    ∙ sym (found_is c.args.look s c.args.fwid.now looks)
