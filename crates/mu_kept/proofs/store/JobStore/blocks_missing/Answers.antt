use Rattle.std.proofs.Common.{◌∙◌, ap}
use Rattle.mu_model_wire.specs.Reports.{complement}
use Rattle.mu_kept.proofs.Showing.{missing_shown}
use Rattle.mu_kept.proofs.store.JobStore.blocks_missing.Goals as goal

pub returns-clause-shows : goal.returns-clause-shows
returns-clause-shows g c = λ held e. c.missing.ensures ∙ ap complement c.blocks_held.ensures ∙ missing_shown held _ e
