use Rattle.mu_model_client_laws.proofs.Sound.{time_changes, applying_drops_nobody}
use Rattle.mu_model_client_laws.proofs.laws.silence.Goals as goal

pub returns-clause-fifth : goal.returns-clause-fifth
returns-clause-fifth c client image now h = time_changes client image now h

pub returns-clause-applying : goal.returns-clause-applying
returns-clause-applying c client image now h place = applying_drops_nobody client image now h place
