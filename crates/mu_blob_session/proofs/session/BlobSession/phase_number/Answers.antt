use Rattle.std.proofs.Common.{ap, ◌∙◌}
use Rattle.mu_model_node.specs.BlobServer.{blob_number}
use Rattle.mu_block.specs.Coming.{chunks_of}
use Rattle.mu_blob_session.proofs.session.BlobSession.phase_number.Goals as goal

pub returns : goal.returns
returns c = λ held now. c.number.ensures held (chunks_of c.args.self.now.block) ∙ ap blob_number (c.phase.ensures held now)
