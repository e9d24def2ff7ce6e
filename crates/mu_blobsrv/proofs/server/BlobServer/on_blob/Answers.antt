use Rattle.std.proofs.Common.{ℕ, Option}
use Rattle.mu_model_node.specs.BlobMessages.{BlobReply, blob_request_of as request_in}
use Rattle.mu_blobmsg.specs.View.{view}
use Rattle.mu_blobsrv.specs.Views.{store_of, place_of, server_of}
use Rattle.mu_blobsrv.specs.Rows.{served_by}
use Rattle.mu_blobsrv.specs.Replies.{replies_of}
use Rattle.mu_blobsrv.proofs.Quiet.{is_served, faults_ok, faults_err}
use Rattle.mu_blobsrv.proofs.Work.{few_steps}
use Rattle.mu_blobsrv.proofs.server.BlobServer.on_blob.Goals as goal

pub returns-in-Ok-clause-row : goal.returns-in-Ok-clause-row
returns-in-Ok-clause-row g c = λ held shows.
    is_served c.args.me (store_of c.args.self.now) held _ _ (replies_of c.in-Ok.answer) _ (c.in-Ok.ensures.row held shows) c.reply.ensures

pub returns-in-Ok-clause-faults : goal.returns-in-Ok-clause-faults
returns-in-Ok-clause-faults g c = λ none held shows. faults_ok (served_by (server_of c.args.self.now held c.args.now) c.args.from (request_in (view c.args.msg.now))).change (place_of c.args.self.now) c.in-Ok.answer tt (c.in-Ok.ensures.faults held shows)

pub returns-in-Err-clause-faults : goal.returns-in-Err-clause-faults
returns-in-Err-clause-faults g c = λ none held shows. faults_err (Option (ℕ × BlobReply)) (Unit {0}) (served_by (server_of c.args.self.now held c.args.now) c.args.from (request_in (view c.args.msg.now))).change (place_of c.args.self.now) c.in-Err.why (c.in-Err.ensures.faults held shows)

pub returns-in-Ok-clause-work : goal.returns-in-Ok-clause-work
returns-in-Ok-clause-work g c = λ none s held shows.
    few_steps (store_of c.args.self.now) s (served_by (server_of c.args.self.now held c.args.now) c.args.from (request_in (view c.args.msg.now))).change (c.in-Ok.ensures.one held shows)

pub returns-in-Err-clause-work : goal.returns-in-Err-clause-work
returns-in-Err-clause-work g c = λ none s held shows.
    few_steps (store_of c.args.self.now) s (served_by (server_of c.args.self.now held c.args.now) c.args.from (request_in (view c.args.msg.now))).change (c.in-Err.ensures.one held shows)
