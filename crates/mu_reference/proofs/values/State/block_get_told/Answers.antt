use Rattle.std.proofs.Common.{◌≡◌, true, subst}
use Rattle.mu_model_node.specs.BlobServer.{Server}
use Rattle.mu_model_node.specs.BlobMessages.{BlockGet}
use Rattle.mu_model_node.specs.BlobTable.{on_blob}
use Rattle.mu_blob_rows.specs.Rows.{block_told_by}
use Rattle.mu_reference.specs.View.{state_of}
use Rattle.mu_reference.specs.BlobRows.{held_by, chunks_by}
use Rattle.mu_reference.proofs.Looked.{can_report, never_opens}
use Rattle.mu_reference.proofs.values.State.block_get_told.Goals as goal

pub returns-clause-report : goal.returns-clause-report
returns-clause-report c = can_report (state_of c.args.self.now) c.look.result c.block_get.result.report c.states_are_sound.ensures.phases c.requires c.look.ensures.current c.block_get.ensures.report

pub returns-clause-within : goal.returns-clause-within
returns-clause-within c = never_opens c.look.result c.block_get.result.session (c.block_get.ensures.session (record { count = 0; is_held = true }))

pub returns-clause-told : goal.returns-clause-told
returns-clause-told c = λ from.
    subst (λ (x : Server). on_blob x from BlockGet ≡ block_told_by x from (chunks_by (state_of c.args.self.now)) c.block_get.result) c.look.ensures.server
    (c.block_get.ensures.told (held_by (state_of c.args.self.now)) (chunks_by (state_of c.args.self.now)) from)
