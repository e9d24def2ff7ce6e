use Rattle.std.proofs.Common.{◌∙◌, ap, sym, subst}
use Rattle.mu_distributor_rows.specs.Fits.{CanUpload}
use Rattle.mu_distributor_rows.specs.Looks.{seen}
use Rattle.mu_distributor_rows.specs.Messages.{upload_start_of}
use Rattle.mu_distributor_rows.specs.Rows.{upload_stepped}
use Rattle.mu_distributor_rows.proofs.UploadCan.{start_can}
use Rattle.mu_distributor_rows.proofs.UploadRows.{start_is}
use Rattle.mu_distributor_rows.proofs.uploads.upload_start.Goals as goal

pub returns-clause-step : goal.returns-clause-step
returns-clause-step c s looks =
    start_is c.args.look s (upload_start_of c.args.asked) looks ∙ ap (upload_stepped s (upload_start_of c.args.asked)) (sym c.start.ensures.step)

pub returns-clause-can : goal.returns-clause-can
returns-clause-can c =
    subst (CanUpload (seen c.args.look) (upload_start_of c.args.asked)) (sym c.start.ensures.step) (start_can (seen c.args.look) (upload_start_of c.args.asked))
