use Rattle.std.proofs.Common.{◌≡◌, subst}
use Rattle.mu_model_node.specs.BlobServer.{blob_number, server_phase}
use Rattle.mu_blob_session.specs.declared.session.Kept.{Kept}
use Rattle.mu_blob_session.specs.Sessions.{server_in}
use Rattle.mu_blobsrv.proofs.server.BlobServer.phase.Goals as goal

pub returns : goal.returns
returns g c = λ held now.
    subst (λ (k : Kept). c.phase_number.result ≡ blob_number (server_phase (server_in c.args.self.now.session k held now))) c.kept.ensures.looks (c.phase_number.ensures held now)
