use Rattle.mu_blob_session.specs.Blocks.{current_of}
use Rattle.mu_blob_session.proofs.session.BlobSession.unlink.Goals as goal

pub returns-clause-session : goal.returns-clause-session
returns-clause-session c = rw c.close.ensures (c.unlink.ensures (current_of c.args.self.now.block))
