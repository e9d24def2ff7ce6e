use Rattle.std.proofs.Common.{◌∷◌, [], sym, ap}
use Rattle.mu_model_node.specs.BlobServer.{Serving, Same, serving_phase}
use Rattle.mu_model_node.specs.BlobTable.{transfer_status}
use Rattle.mu_blobsrv.specs.Views.{session_of, server_of}
use Rattle.mu_blobsrv.proofs.Told.{same_after}
use Rattle.mu_blobsrv.proofs.server.BlobServer.transfer_get.Goals as goal

pub returns : goal.returns
returns g c = record {
  row = λ held now shows.
      rw (c.transfer_told.ensures held now (sym (c.blocks_missing-missing.ensures.shows held shows)), c.kept-kept.ensures.looks)
      (ap (λ (v : Serving). record { session = session_of c.args.self.now; change = Same; replies = (c.args.from, transfer_status 0 (serving_phase (session_of c.args.self.now) v)) ∷ [] }) (same_after (server_of c.args.self.now held now).serving));
}
