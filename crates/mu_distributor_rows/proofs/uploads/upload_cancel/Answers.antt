use Rattle.std.proofs.Common.{Bool, subst, sym}
use Rattle.mu_model_distributor.specs.Uploads.{upload_cancel}
use Rattle.mu_distributor_rows.specs.Due.{IsDue}
use Rattle.mu_distributor_rows.proofs.UploadDue.{cancel_due}
use Rattle.mu_distributor_rows.proofs.uploads.upload_cancel.Goals as goal

pub returns : goal.returns
returns c s looks =
    subst (λ (b : Bool). IsDue b s.durable (upload_cancel s).durable) (sym c.is_some_upload.ensures) (cancel_due c.args.look s looks)
