use Rattle.mu_model_distributor_laws.proofs.Worked.{receivers_and_images_is, whole_upload_is, broken_uploads_is, refused_uploads_is, phase_by_phase_is, distribution_is, nothing_is_lost_is, verification_ends_is, answers_count_is, confirmations_is, many_receivers_is}
use Rattle.mu_model_distributor_laws.proofs.laws.worked_rows.Goals as goal

pub returns-clause-receivers_and_images : goal.returns-clause-receivers_and_images
returns-clause-receivers_and_images c = receivers_and_images_is

pub returns-clause-whole_upload : goal.returns-clause-whole_upload
returns-clause-whole_upload c = whole_upload_is

pub returns-clause-broken_uploads : goal.returns-clause-broken_uploads
returns-clause-broken_uploads c = broken_uploads_is

pub returns-clause-refused_uploads : goal.returns-clause-refused_uploads
returns-clause-refused_uploads c = refused_uploads_is

pub returns-clause-phase_by_phase : goal.returns-clause-phase_by_phase
returns-clause-phase_by_phase c = phase_by_phase_is

pub returns-clause-distribution : goal.returns-clause-distribution
returns-clause-distribution c = distribution_is

pub returns-clause-nothing_is_lost : goal.returns-clause-nothing_is_lost
returns-clause-nothing_is_lost c = nothing_is_lost_is

pub returns-clause-verification_ends : goal.returns-clause-verification_ends
returns-clause-verification_ends c = verification_ends_is

pub returns-clause-confirmations : goal.returns-clause-confirmations
returns-clause-confirmations c = confirmations_is

pub returns-clause-many_receivers : goal.returns-clause-many_receivers
returns-clause-many_receivers c = many_receivers_is

pub returns-clause-answers_count : goal.returns-clause-answers_count
returns-clause-answers_count c = answers_count_is
