use Rattle.std.proofs.Common.{refl, ap, ◌∙◌}
use Rattle.mu_model_wire.specs.Reading.{message_at}
use Rattle.mu_model_wire.specs.Update.{update_rows}
use Rattle.mu_updmsg.specs.View.{view}
use Rattle.mu_updmsg.proofs.writing.write.Goals as goal

pub returns-clause-again : goal.returns-clause-again
returns-clause-again c = ap (message_at update_rows) c.spelled.ensures ∙ c.canonical_is_read.ensures update_rows (view c.args.msg.now) refl c.requires
