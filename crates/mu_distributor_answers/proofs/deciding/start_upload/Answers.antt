use Rattle.std.proofs.Common.{refl, ap}
use Rattle.mu_model_distributor.specs.Commit.{answered}
use Rattle.mu_model_distributor.specs.Uploads.{upload_status}
use Rattle.mu_distributor_answers.proofs.deciding.start_upload.Goals as goal

pub returns : goal.returns
returns c rows = record {
  known = c.upload_start-step.ensures.known;
  can = c.upload_start-step.ensures.can;
  written = c.is_upload_due.ensures.written;
  kind = refl;
  keeps = refl;
  shown = λ fits shown. shown;
  step = λ address s looks are. record { is = λ to. ap (answered s to upload_status) (c.upload_start-step.ensures.step s looks) };
  due = λ address s looks are. c.is_upload_due.ensures.due s looks;
}
