use Rattle.std.proofs.Common.{refl, ap, ◌∙◌}
use Rattle.mu_model_wire.specs.Reading.{message_at}
use Rattle.mu_model_wire.specs.Blob.{blob_rows}
use Rattle.mu_blobmsg.specs.View.{view}
use Rattle.mu_blobmsg.proofs.writing.write.Goals as goal

pub returns-clause-again : goal.returns-clause-again
returns-clause-again c = ap (message_at blob_rows) c.spelled.ensures ∙ c.canonical_is_read.ensures blob_rows (view c.args.msg.now) refl c.requires
