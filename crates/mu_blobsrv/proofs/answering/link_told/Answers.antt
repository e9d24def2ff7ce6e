use Rattle.mu_blob_rows.specs.Looks.{serving_with}
use Rattle.mu_blob_session.specs.Sessions.{session_in}
use Rattle.mu_blobsrv.proofs.Told.{link_row}
use Rattle.mu_blobsrv.proofs.answering.link_told.Goals as goal

pub returns-clause-row : goal.returns-clause-row
returns-clause-row c = λ v held p e n m s.
    link_row v c.args.from p c.args.told c.args.now (session_in c.args.session.now) (session_in c.link.new.self) (serving_with c.args.after.serving held) c.transfer_told.result e n s c.link.ensures.session
    (c.transfer_told.ensures held c.args.now m)
