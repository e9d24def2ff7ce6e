use Rattle.std.proofs.Common.{refl, sym, ◌∷◌, []}
use Rattle.mu_model_node.specs.BlobServer.{Drops}
use Rattle.mu_blob_rows.specs.declared.table.TransferChange.TheVariants.{Drop}
use Rattle.mu_blob_rows.specs.Rows.{told_by}
use Rattle.mu_blob_session.specs.Sessions.{session_in}
use Rattle.mu_kept.specs.Shows.{held_after}
use Rattle.mu_blobsrv.specs.Views.{store_of, server_of}
use Rattle.mu_blobsrv.proofs.Told.{told_row, changed_row}
use Rattle.mu_blobsrv.proofs.server.BlobServer.give_up.Goals as goal

pub returns-clause-row : goal.returns-clause-row
returns-clause-row g c = λ held p shows.
    let changed = c.in_ok-drop_transfer.ensures.changed held shows in
    let row = c.link_told-answer.ensures.row (server_of c.args.self.now held c.args.now) (held_after Drops held) p refl refl
    (sym (c.blocks_missing-missing.ensures.shows (held_after Drops held) changed.shows)) (rw (c.kept-kept.ensures.looks, c.requires.drops) changed.serving) in
    told_row (store_of c.args.self.now) _ held _ Drops _ changed
    (record { fields = c.in_ok-drop_transfer.ensures.fields; fresh = c.in_ok-drop_transfer.ensures.fresh; filling = c.in_ok-drop_transfer.ensures.filling; job = c.in_ok-drop_transfer.ensures.job; flags = c.in_ok-drop_transfer.ensures.flags })
    (changed_row (told_by (server_of c.args.self.now held c.args.now) c.args.from p c.args.told) (session_in c.link_told-answer.new.session) p c.args.told.change Drop
    ((c.args.from, c.link_told-answer.result) ∷ []) row c.requires.drops)
