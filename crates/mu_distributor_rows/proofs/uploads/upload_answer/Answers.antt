use Rattle.std.proofs.Common.{◌∙◌, sym, ap}
use Rattle.mu_model_distributor.specs.Replies.{UploadStatus}
use Rattle.mu_model_represents_distributor.specs.DistributorNote.{upload_phase_number}
use Rattle.mu_distributor_kept.specs.declared.phase.UploadPhase.{UploadPhase}
use Rattle.mu_distributor_kept.specs.Views.{upload_phase}
use Rattle.mu_distributor_rows.specs.Decided.{shown_seen}
use Rattle.mu_distributor_rows.proofs.UploadRows.{status_is}
use Rattle.mu_distributor_rows.proofs.uploads.upload_answer.Goals as goal

pub returns : goal.returns
returns c s looks =
    c.new.ensures ∙ (λ i. UploadStatus c.args.status (c.number.ensures i) (c.shown.ensures.shown i))
    ∙ ap (λ (p : UploadPhase). UploadStatus c.args.status (upload_phase_number (upload_phase p)) (shown_seen p c.args.look.job c.args.look.upload_meta)) c.run_phase-phase.ensures
    ∙ sym (status_is c.args.look s c.args.status looks)
