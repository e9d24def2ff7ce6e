use Rattle.std.proofs.Common.{refl, ap, ◌∙◌}
use Rattle.mu_model_wire.specs.Reading.{message_at}
use Rattle.mu_model_wire.specs.Distribution.{distribution_rows}
use Rattle.mu_distmsg.specs.View.{view}
use Rattle.mu_distmsg.proofs.writing.write.Goals as goal

pub returns-clause-again : goal.returns-clause-again
returns-clause-again c = ap (message_at distribution_rows) c.spelled.ensures ∙ c.canonical_is_read.ensures distribution_rows (view c.args.msg.now) refl c.requires.fits
