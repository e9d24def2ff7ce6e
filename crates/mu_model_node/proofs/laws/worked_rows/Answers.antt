use Rattle.mu_model_node.proofs.Worked.{a_whole_update, power_cuts, refusals, two_images_are}
use Rattle.mu_model_node.proofs.laws.worked_rows.Goals as goal

pub returns-clause-whole_update : goal.returns-clause-whole_update
returns-clause-whole_update c = a_whole_update

pub returns-clause-power_cuts : goal.returns-clause-power_cuts
returns-clause-power_cuts c = power_cuts

pub returns-clause-refusals : goal.returns-clause-refusals
returns-clause-refusals c = refusals

pub returns-clause-two_images : goal.returns-clause-two_images
returns-clause-two_images c = two_images_are
