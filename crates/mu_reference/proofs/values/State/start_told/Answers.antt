use Rattle.std.proofs.Common.{◌≡◌, subst}
use Rattle.mu_model_node.specs.BlobMessages.{TransferStart}
use Rattle.mu_model_node.specs.BlobServer.{Server}
use Rattle.mu_model_node.specs.BlobTable.{on_blob}
use Rattle.mu_blob_rows.specs.Rows.{told_by}
use Rattle.mu_reference.specs.View.{state_of}
use Rattle.mu_reference.specs.BlobRows.{held_by, chunks_by}
use Rattle.mu_reference.proofs.Looked.{begins_within}
use Rattle.mu_reference.proofs.values.State.start_told.Goals as goal

pub returns-clause-within : goal.returns-clause-within
returns-clause-within c = rw c.look.ensures.capacity at (begins_within c.look.result.serving c.look.result.capacity c.args.parameters c.transfer_start.result.change c.transfer_start.ensures.fits)

pub returns-clause-told : goal.returns-clause-told
returns-clause-told c = λ from.
    subst (λ (x : Server). on_blob x from (TransferStart c.args.id c.args.parameters) ≡ told_by x from c.args.parameters c.transfer_start.result) c.look.ensures.server
    (c.transfer_start.ensures.told (held_by (state_of c.args.self.now)) (chunks_by (state_of c.args.self.now)) from)
