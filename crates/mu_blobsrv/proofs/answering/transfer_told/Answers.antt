use Rattle.std.proofs.Common.{◌∙◌, ap}
use Rattle.mu_model_node.specs.BlobServer.{BlobPhase, server_phase}
use Rattle.mu_model_node.specs.BlobTable.{transfer_status}
use Rattle.mu_block.specs.Coming.{chunks_of}
use Rattle.mu_blob_session.specs.Sessions.{coming_in}
use Rattle.mu_blobsrv.proofs.Answered.{shown_phase}
use Rattle.mu_blobsrv.proofs.answering.transfer_told.Goals as goal

pub transfer_reply-requires-clause-shown : goal.transfer_reply-requires-clause-shown
transfer_reply-requires-clause-shown c = shown_phase c.look.result c.args.kept.serving c.phase-phase.result c.look.ensures.serving c.requires.sound c.phase-phase.ensures.found

pub returns : goal.returns
returns c = λ held now e.
    c.transfer_reply.ensures held (chunks_of (coming_in c.args.session.now)) e
    ∙ ap (λ (p : BlobPhase). transfer_status c.args.status p) (c.phase-phase.ensures.phase held (chunks_of (coming_in c.args.session.now)) ∙ ap server_phase (c.look.ensures.server held))
