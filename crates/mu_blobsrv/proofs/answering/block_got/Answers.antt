use Rattle.mu_blob_session.specs.Sessions.{coming_in}
use Rattle.mu_blobsrv.proofs.Answered.{can_report}
use Rattle.mu_blobsrv.proofs.answering.block_got.Goals as goal

pub block_reply-requires-clause-report : goal.block_reply-requires-clause-report
block_reply-requires-clause-report c =
    can_report c.block_get-told.result.report (coming_in c.args.session.now) c.missing-missing.result c.known.ensures c.block_get-told.ensures.report c.missing-missing.ensures.missing

pub returns-clause-row : goal.returns-clause-row
returns-clause-row c = λ held. rw (c.block_reply.ensures, c.missing-missing.ensures.missing) (c.block_get-told.ensures.row held)
