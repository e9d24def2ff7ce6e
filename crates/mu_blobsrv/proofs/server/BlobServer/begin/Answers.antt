use Rattle.std.proofs.Common.{refl, sym, ◌∷◌, []}
use Rattle.mu_model_node.specs.BlobServer.{Begins}
use Rattle.mu_blob_rows.specs.declared.table.TransferChange.TheVariants.{Begin}
use Rattle.mu_blob_rows.specs.Rows.{told_by}
use Rattle.mu_blob_session.specs.Sessions.{session_in}
use Rattle.mu_kept.specs.Shows.{held_after}
use Rattle.mu_blobsrv.specs.Views.{store_of, server_of}
use Rattle.mu_blobsrv.proofs.Told.{told_row, changed_row}
use Rattle.mu_blobsrv.proofs.server.BlobServer.begin.Goals as goal

pub returns-clause-row : goal.returns-clause-row
returns-clause-row g c = λ held shows.
    let changed = c.in_ok-begin.ensures.changed held shows in
    let row = c.link_told-answer.ensures.row (server_of c.args.self.now held c.args.now) (held_after (Begins c.args.parameters) held) c.args.parameters refl refl
    (sym (c.blocks_missing-missing.ensures.shows (held_after (Begins c.args.parameters) held) changed.shows)) (rw (c.kept-kept.ensures.looks, c.requires.begins) changed.serving) in
    told_row (store_of c.args.self.now) _ held _ (Begins c.args.parameters) _ changed
    (record { fields = c.in_ok-begin.ensures.fields; fresh = c.in_ok-begin.ensures.fresh; filling = c.in_ok-begin.ensures.filling; job = c.in_ok-begin.ensures.job; flags = c.in_ok-begin.ensures.flags })
    (changed_row (told_by (server_of c.args.self.now held c.args.now) c.args.from c.args.parameters c.args.told) (session_in c.link_told-answer.new.session) c.args.parameters c.args.told.change Begin
    ((c.args.from, c.link_told-answer.result) ∷ []) row c.requires.begins)
