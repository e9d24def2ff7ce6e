use Rattle.std.proofs.Common.{◌≡◌, subst}
use Rattle.mu_model_node.specs.declared.Parameters.{Parameters}
use Rattle.mu_model_node.specs.BlobMessages.{TransferCancel}
use Rattle.mu_model_node.specs.BlobServer.{Server}
use Rattle.mu_model_node.specs.BlobTable.{on_blob}
use Rattle.mu_blob_rows.specs.Rows.{told_by}
use Rattle.mu_reference.specs.View.{state_of}
use Rattle.mu_reference.specs.BlobRows.{held_by, chunks_by}
use Rattle.mu_reference.proofs.Looked.{begins_within}
use Rattle.mu_reference.proofs.values.State.cancel_told.Goals as goal

abbrev unused : Parameters
unused = record { mode = 1; size = 1; log = 12; mtu = 20 }

pub returns-clause-within : goal.returns-clause-within
returns-clause-within c = λ p. rw c.look.ensures.capacity at (begins_within c.look.result.serving c.look.result.capacity p c.transfer_cancel.result.change (c.transfer_cancel.ensures.fits p))

pub returns-clause-told : goal.returns-clause-told
returns-clause-told c = λ from.
    subst (λ (x : Server). on_blob x from (TransferCancel c.args.id) ≡ told_by x from unused c.transfer_cancel.result) c.look.ensures.server
    (c.transfer_cancel.ensures.told (held_by (state_of c.args.self.now)) (chunks_by (state_of c.args.self.now)) from unused)
