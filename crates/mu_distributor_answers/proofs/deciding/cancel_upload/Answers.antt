use Rattle.std.proofs.Common.{refl}
use Rattle.mu_distributor_answers.proofs.deciding.cancel_upload.Goals as goal

pub returns : goal.returns
returns c rows = record {
  known = tt;
  can = tt;
  written = tt;
  kind = refl;
  keeps = refl;
  shown = λ fits shown. shown;
  step = λ address s looks are. record { is = λ to. refl };
  due = λ address s looks are. c.upload_cancel.ensures s looks;
}
