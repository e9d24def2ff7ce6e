use Rattle.std.proofs.Common.{refl, ap, ◌∙◌}
use Rattle.mu_model_wire.specs.Reading.{message_at}
use Rattle.mu_model_wire.specs.Table.{rows}
use Rattle.mu_access.specs.View.{view}
use Rattle.mu_access.proofs.writing.write.Goals as goal

pub returns-clause-again : goal.returns-clause-again
returns-clause-again c = ap (message_at rows) c.spelled.ensures ∙ c.canonical_is_read.ensures rows (view c.args.msg.now) refl c.requires.fits
