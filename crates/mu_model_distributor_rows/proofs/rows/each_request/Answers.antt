use Rattle.mu_model_distributor_rows.proofs.Worked.{each_phase, each_upload, each_crowd}
use Rattle.mu_model_distributor_rows.proofs.rows.each_request.Goals as goal

pub returns-clause-phases : goal.returns-clause-phases
returns-clause-phases c = each_phase

pub returns-clause-uploads : goal.returns-clause-uploads
returns-clause-uploads c = each_upload

pub returns-clause-crowds : goal.returns-clause-crowds
returns-clause-crowds c = each_crowd
