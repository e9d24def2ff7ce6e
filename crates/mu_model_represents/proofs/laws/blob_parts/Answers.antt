use Rattle.mu_model_represents.specs.BlobPart.{blob_part}
use Rattle.mu_model_represents.proofs.NodeOnce.{part_once}
use Rattle.mu_model_represents.proofs.Found.{blob_read_back, blob_sound}
use Rattle.mu_model_represents.proofs.NodeWritten.{fit_parameters}
use Rattle.mu_model_represents.proofs.laws.blob_parts.Goals as goal

pub returns-clause-one : goal.returns-clause-one
returns-clause-one c r p q h g = part_once p q (blob_part r.tag) h.octets g.octets

pub returns-clause-sound : goal.returns-clause-sound
returns-clause-sound c = blob_sound c.blocks-2.ensures.length

pub returns-clause-read_back : goal.returns-clause-read_back
returns-clause-read_back c = blob_read_back

pub returns-clause-one_job : goal.returns-clause-one_job
returns-clause-one_job c = part_once

pub returns-clause-fit : goal.returns-clause-fit
returns-clause-fit c = fit_parameters
