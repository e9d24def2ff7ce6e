use Rattle.std.proofs.Common.{◌≡◌, refl, subst}
use Rattle.mu_model_node.specs.BlobServer.{Same}
use Rattle.mu_model_node.specs.BlobTable.{on_server_time}
use Rattle.mu_blob_session.specs.declared.session.Kept.{Kept}
use Rattle.mu_blob_session.specs.Sessions.{session_in, server_in}
use Rattle.mu_blobsrv.specs.Views.{store_of}
use Rattle.mu_blobsrv.specs.Replies.{replies_of}
use Rattle.mu_blobsrv.proofs.Quiet.{quiet_row, is_served}
use Rattle.mu_blobsrv.proofs.server.BlobServer.on_time.Goals as goal

pub returns-clause-row : goal.returns-clause-row
returns-clause-row g c = λ held shows.
    let row = subst (λ (k : Kept). on_server_time (server_in c.args.self.now.session k held c.args.now) (server_in c.args.self.now.session k held c.args.now).serving ≡ record { session = session_in c.time-due.new.self; change = Same; replies = replies_of c.asked.result })
    c.kept.ensures.looks (rw c.asked.ensures (c.time-due.ensures.row held)) in
    is_served c.args.me (store_of c.args.self.now) held _ _ (replies_of c.asked.result) _ (quiet_row (store_of c.args.self.now) _ held _ (replies_of c.asked.result) refl shows row) c.reply.ensures
