use Rattle.std.proofs.Common.{◌≡◌, ◌<◌, ℕ, Bool, subst, sym}
use Rattle.std.proofs.lemmas.List.Elements.{All-from_get_or}
use Rattle.mu_distributor_rows.specs.Messages.{upload_start_of}
use Rattle.mu_distributor_rows.specs.Due.{IsDueIn}
use Rattle.mu_distributor_rows.specs.Rows.{upload_stepped}
use Rattle.mu_model_distributor.specs.Requests.{UploadStart}
use Rattle.mu_distributor_rows.specs.declared.uploads.UploadStep.{UploadStep}
use Rattle.mu_distributor_rows.specs.declared.uploads.UploadStep.TheVariants.{Keep, Resume, Store, Take, Refuse}
use Rattle.mu_distributor_rows.specs.Decided.{step_changes}
use Rattle.mu_distributor_rows.specs.Fits.{IsUploadWritten}
use Rattle.mu_distributor_rows.specs.Looks.{Seen, seen}
use Rattle.mu_distributor_rows.proofs.UploadDue.{start_due}
use Rattle.mu_distributor_rows.proofs.uploads.is_upload_due.Goals as goal

pub returns-clause-due : goal.returns-clause-due
returns-clause-due c s looks =
    subst (λ (b : Bool). IsDueIn b s (upload_stepped s (upload_start_of c.args.asked) c.args.step)) (sym c.step_changes.ensures)
    (start_due c.metadata.ensures.one_spelling c.args.look s (upload_start_of c.args.asked) c.args.step
    (All-from_get_or (λ (octet : ℕ). octet < 256) c.args.asked.metadata.now 0 (λ i lt. c.are_octets.ensures i)) c.requires looks)

-- of a step that changes so
written : (v : Seen) (u : UploadStart) (step : UploadStep) (due : Bool) → due ≡ step_changes v u step → IsUploadWritten step due
written v u Keep due is = tt
written v u Resume due is = tt
written v u (Store meta) due is = tt
written v u (Take meta bank) due is = is
written v u (Refuse status) due is = is

pub returns-clause-written : goal.returns-clause-written
returns-clause-written c = written (seen c.args.look) (upload_start_of c.args.asked) c.args.step _ c.step_changes.ensures
