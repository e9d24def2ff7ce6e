use Rattle.std.proofs.Common.{◌∙◌, sym, ap, length}
use Rattle.std.specs.Prelude.{not, Bool, List}
use Rattle.std.specs.List.{count_by}
use Rattle.mu_model_distributor.specs.DistState.{job_of}
use Rattle.mu_model_distributor.specs.Uploads.{percent}
use Rattle.mu_blobsrv.specs.Views.{store_of}
use Rattle.mu_kept.specs.Views.{job_in}
use Rattle.mu_distributor_server.specs.Shows.{blocks_of}
use Rattle.mu_distributor_server.proofs.Looked.{percent_held, looked}
use Rattle.mu_distributor_server.proofs.looking.upload_look.Goals as goal

pub returns-then-has_parameters-clause-looks : goal.returns-then-has_parameters-clause-looks
returns-then-has_parameters-clause-looks g c s serves =
    rw c.if-has_parameters.true
    (looked (job_of s.durable.upload) (job_in (store_of c.args.server.now)) c.in-Some.job c.progress-progress.result (sym c.job.ensures ∙ c.in-Some.is) serves.job (sym c.has_parameters-has_parameters.ensures ∙ c.if-has_parameters.true)
    (c.progress-progress.ensures.progress ∙ ap (λ (set : List Bool). percent (count_by not set) (length set)) (c.blocks_missing.ensures.missing (blocks_of (job_of s.durable.upload)) serves.blocks)
    ∙ percent_held (blocks_of (job_of s.durable.upload))))
