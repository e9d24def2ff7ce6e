use Rattle.std.proofs.Common.{refl, sym, ◌∷◌, []}
use Rattle.mu_blob_rows.specs.declared.table.TransferChange.TheVariants.{Nothing}
use Rattle.mu_blob_rows.specs.Rows.{told_by}
use Rattle.mu_blob_session.specs.Sessions.{session_in}
use Rattle.mu_blobsrv.specs.Views.{server_of}
use Rattle.mu_blobsrv.proofs.Told.{after_nothing, changed_row}
use Rattle.mu_blobsrv.proofs.server.BlobServer.tell.Goals as goal

pub returns-clause-row : goal.returns-clause-row
returns-clause-row g c = λ held p shows.
    let row = c.link_told-answer.ensures.row (server_of c.args.self.now held c.args.now) held p refl refl (sym (c.blocks_missing-missing.ensures.shows held shows))
    (rw c.kept-kept.ensures.looks (after_nothing p c.args.told (server_of c.args.self.now held c.args.now).serving c.requires.nothing)) in
    changed_row (told_by (server_of c.args.self.now held c.args.now) c.args.from p c.args.told) (session_in c.link_told-answer.new.session) p c.args.told.change Nothing
    ((c.args.from, c.link_told-answer.result) ∷ []) row c.requires.nothing
