use Rattle.std.proofs.Common.{refl}
use Rattle.mu_blobsrv.proofs.server.BlobServer.information.Goals as goal

pub returns : goal.returns
returns g c = record { row = λ held now. rw (c.information_reply.ensures, c.capacity.ensures) refl }
