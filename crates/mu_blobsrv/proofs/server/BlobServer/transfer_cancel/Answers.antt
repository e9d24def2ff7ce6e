use Rattle.std.proofs.Common.{◌≡◌, ◌∙◌, [], sym, ap, subst}
use Rattle.std.specs.Prelude.{IfOk}
use Rattle.mu_model_node.specs.BlobMessages.{TransferCancel}
use Rattle.mu_model_node.specs.BlobServer.{Server, Same, Drops}
use Rattle.mu_model_node.specs.BlobTable.{Served, on_blob}
use Rattle.mu_block.specs.Coming.{chunks_of}
use Rattle.mu_blob_rows.specs.Looks.{server_with as looked_server}
use Rattle.mu_blob_rows.specs.Rows.{change_by, told_by}
use Rattle.mu_blob_session.specs.declared.session.Kept.{Kept}
use Rattle.mu_blob_session.specs.Sessions.{coming_in, server_in}
use Rattle.mu_place.specs.Calls.{PlaceGoes}
use Rattle.mu_blobsrv.specs.Views.{store_of, place_of, server_of}
use Rattle.mu_blobsrv.specs.Replies.{replies_of}
use Rattle.mu_blobsrv.specs.Rows.{IsRow}
use Rattle.mu_blobsrv.specs.Runs.{change_steps, FaultBy}
use Rattle.mu_blobsrv.proofs.Quiet.{quiet_answers, quiet_row, quiet_faults, quiet_cause, quiet_runs}
use Rattle.mu_blobsrv.proofs.Work.{told_puts}
use Rattle.mu_blobsrv.proofs.Told.{cancel_never_begins, cancel_unlinks}
use Rattle.mu_blobsrv.proofs.server.BlobServer.transfer_cancel.Goals as goal

pub unreachable-requires : goal.unreachable-requires
unreachable-requires g c = cancel_never_begins (looked_server c.look.result [] []) (looked_server c.look.result [] []) c.args.from c.args.id (record { mode = 1; size = 1; log = 12; mtu = 20 }) c.transfer_cancel-told.result (c.transfer_cancel-told.ensures.told [] [] c.args.from (record { mode = 1; size = 1; log = 12; mtu = 20 })) c.in-Begin.is

pub returns-in-Nothing-clause-answers : goal.returns-in-Nothing-clause-answers
returns-in-Nothing-clause-answers g c = quiet_answers (store_of c.args.self.now) (store_of c.tell.new.self) c.tell.result c.tell.ensures.store c.requires.fault

pub returns-in-Nothing-clause-row : goal.returns-in-Nothing-clause-row
returns-in-Nothing-clause-row g c = λ held shows.
    let e = subst (λ (k : Kept). looked_server c.look.result held (chunks_of (coming_in c.args.self.now.session)) ≡ server_in c.args.self.now.session k held c.args.now) c.kept.ensures.looks (c.look.ensures.server held) in
    let told = subst (λ (x : Server). on_blob x c.args.from (TransferCancel c.args.id) ≡ told_by x c.args.from (record { mode = 1; size = 1; log = 12; mtu = 20 }) c.transfer_cancel-told.result) e (c.transfer_cancel-told.ensures.told held (chunks_of (coming_in c.args.self.now.session)) c.args.from (record { mode = 1; size = 1; log = 12; mtu = 20 })) in
    quiet_row (store_of c.args.self.now) c.tell.new.self held _ (replies_of c.tell.result) c.tell.ensures.store shows (told ∙ c.tell.ensures.row held (record { mode = 1; size = 1; log = 12; mtu = 20 }) shows)

pub returns-in-Nothing-clause-faults : goal.returns-in-Nothing-clause-faults
returns-in-Nothing-clause-faults g c = λ held shows.
    let e = subst (λ (k : Kept). looked_server c.look.result held (chunks_of (coming_in c.args.self.now.session)) ≡ server_in c.args.self.now.session k held c.args.now) c.kept.ensures.looks (c.look.ensures.server held) in
    let told = subst (λ (x : Server). on_blob x c.args.from (TransferCancel c.args.id) ≡ told_by x c.args.from (record { mode = 1; size = 1; log = 12; mtu = 20 }) c.transfer_cancel-told.result) e (c.transfer_cancel-told.ensures.told held (chunks_of (coming_in c.args.self.now.session)) c.args.from (record { mode = 1; size = 1; log = 12; mtu = 20 })) in
    quiet_faults (store_of c.args.self.now) c.tell.new.self _ (replies_of c.tell.result) c.tell.result (told ∙ c.tell.ensures.row held (record { mode = 1; size = 1; log = 12; mtu = 20 }) shows)

pub returns-in-Nothing-clause-cause : goal.returns-in-Nothing-clause-cause
returns-in-Nothing-clause-cause g c = quiet_cause g.F.Flash.seen (store_of c.args.self.now) (store_of c.tell.new.self) c.tell.result c.tell.ensures.store

pub returns-in-Nothing-clause-runs : goal.returns-in-Nothing-clause-runs
returns-in-Nothing-clause-runs g c = λ s held holds shows.
    let e = subst (λ (k : Kept). looked_server c.look.result held (chunks_of (coming_in c.args.self.now.session)) ≡ server_in c.args.self.now.session k held c.args.now) c.kept.ensures.looks (c.look.ensures.server held) in
    let told = subst (λ (x : Server). on_blob x c.args.from (TransferCancel c.args.id) ≡ told_by x c.args.from (record { mode = 1; size = 1; log = 12; mtu = 20 }) c.transfer_cancel-told.result) e (c.transfer_cancel-told.ensures.told held (chunks_of (coming_in c.args.self.now.session)) c.args.from (record { mode = 1; size = 1; log = 12; mtu = 20 })) in
    quiet_runs g.F.Flash.seen (store_of c.args.self.now) c.tell.new.self s _ (replies_of c.tell.result) c.tell.result c.tell.ensures.store (told ∙ c.tell.ensures.row held (record { mode = 1; size = 1; log = 12; mtu = 20 }) shows) (c.known.ensures.idle s holds) holds

pub returns-in-Drop-clause-row : goal.returns-in-Drop-clause-row
returns-in-Drop-clause-row g c = λ held shows.
    let e = subst (λ (k : Kept). looked_server c.look.result held (chunks_of (coming_in c.args.self.now.session)) ≡ server_in c.args.self.now.session k held c.args.now) c.kept.ensures.looks (c.look.ensures.server held) in
    let told = subst (λ (x : Server). on_blob x c.args.from (TransferCancel c.args.id) ≡ told_by x c.args.from (record { mode = 1; size = 1; log = 12; mtu = 20 }) c.transfer_cancel-told.result) e (c.transfer_cancel-told.ensures.told held (chunks_of (coming_in c.args.self.now.session)) c.args.from (record { mode = 1; size = 1; log = 12; mtu = 20 })) in
    subst (λ (o : Served). IfOk c.give_up.result (λ reply. IsRow (store_of c.args.self.now) held o c.give_up.new.self (replies_of reply))) (sym told) (c.give_up.ensures.row held (record { mode = 1; size = 1; log = 12; mtu = 20 }) shows)

pub returns-in-Drop-clause-faults : goal.returns-in-Drop-clause-faults
returns-in-Drop-clause-faults g c = λ held shows.
    let e = subst (λ (k : Kept). looked_server c.look.result held (chunks_of (coming_in c.args.self.now.session)) ≡ server_in c.args.self.now.session k held c.args.now) c.kept.ensures.looks (c.look.ensures.server held) in
    let told = subst (λ (x : Server). on_blob x c.args.from (TransferCancel c.args.id) ≡ told_by x c.args.from (record { mode = 1; size = 1; log = 12; mtu = 20 }) c.transfer_cancel-told.result) e (c.transfer_cancel-told.ensures.told held (chunks_of (coming_in c.args.self.now.session)) c.args.from (record { mode = 1; size = 1; log = 12; mtu = 20 })) in
    let change = ap (λ (o : Served). o.change) told ∙ ap (change_by (record { mode = 1; size = 1; log = 12; mtu = 20 })) c.in-Drop.is in
    subst (λ x. FaultBy x (place_of c.args.self.now) c.give_up.result) (sym change) c.give_up.ensures.worn

pub returns-in-Drop-clause-runs : goal.returns-in-Drop-clause-runs
returns-in-Drop-clause-runs g c = λ s held holds shows.
    let e = subst (λ (k : Kept). looked_server c.look.result held (chunks_of (coming_in c.args.self.now.session)) ≡ server_in c.args.self.now.session k held c.args.now) c.kept.ensures.looks (c.look.ensures.server held) in
    let told = subst (λ (x : Server). on_blob x c.args.from (TransferCancel c.args.id) ≡ told_by x c.args.from (record { mode = 1; size = 1; log = 12; mtu = 20 }) c.transfer_cancel-told.result) e (c.transfer_cancel-told.ensures.told held (chunks_of (coming_in c.args.self.now.session)) c.args.from (record { mode = 1; size = 1; log = 12; mtu = 20 })) in
    let change = ap (λ (o : Served). o.change) told ∙ ap (change_by (record { mode = 1; size = 1; log = 12; mtu = 20 })) c.in-Drop.is in
    subst (λ x. PlaceGoes g.F.Flash.seen s (change_steps (store_of c.args.self.now) s x) (place_of c.args.self.now) (place_of c.give_up.new.self) c.give_up.result) (sym change) (c.give_up.ensures.runs s holds)

pub give_up-requires-clause-fits : goal.give_up-requires-clause-fits
give_up-requires-clause-fits g c = λ p. rw (c.look.ensures.serving, c.look.ensures.capacity, c.kept.ensures.looks, c.in-Drop.is) at (c.transfer_cancel-told.ensures.fits p)

pub give_up-requires-clause-unlinks : goal.give_up-requires-clause-unlinks
give_up-requires-clause-unlinks g c =
    let held = [] in
    let e = subst (λ (k : Kept). looked_server c.look.result held (chunks_of (coming_in c.args.self.now.session)) ≡ server_in c.args.self.now.session k held c.args.now) c.kept.ensures.looks (c.look.ensures.server held) in
    let told = subst (λ (x : Server). on_blob x c.args.from (TransferCancel c.args.id) ≡ told_by x c.args.from (record { mode = 1; size = 1; log = 12; mtu = 20 }) c.transfer_cancel-told.result) e (c.transfer_cancel-told.ensures.told held (chunks_of (coming_in c.args.self.now.session)) c.args.from (record { mode = 1; size = 1; log = 12; mtu = 20 })) in
    cancel_unlinks (server_of c.args.self.now held c.args.now) (server_of c.args.self.now held c.args.now) c.args.from c.args.id (record { mode = 1; size = 1; log = 12; mtu = 20 }) c.transfer_cancel-told.result told c.in-Drop.is

pub returns-in-Nothing-clause-one : goal.returns-in-Nothing-clause-one
returns-in-Nothing-clause-one g c = λ held.
    let e = subst (λ (k : Kept). looked_server c.look.result held (chunks_of (coming_in c.args.self.now.session)) ≡ server_in c.args.self.now.session k held c.args.now) c.kept.ensures.looks (c.look.ensures.server held) in
    let told = subst (λ (x : Server). on_blob x c.args.from (TransferCancel c.args.id) ≡ told_by x c.args.from (record { mode = 1; size = 1; log = 12; mtu = 20 }) c.transfer_cancel-told.result) e (c.transfer_cancel-told.ensures.told held (chunks_of (coming_in c.args.self.now.session)) c.args.from (record { mode = 1; size = 1; log = 12; mtu = 20 })) in
    told_puts (on_blob (server_of c.args.self.now held c.args.now) c.args.from (TransferCancel c.args.id)) (record { mode = 1; size = 1; log = 12; mtu = 20 }) c.transfer_cancel-told.result.change (ap (λ (o : Served). o.change) told)

pub returns-in-Drop-clause-one : goal.returns-in-Drop-clause-one
returns-in-Drop-clause-one g c = λ held.
    let e = subst (λ (k : Kept). looked_server c.look.result held (chunks_of (coming_in c.args.self.now.session)) ≡ server_in c.args.self.now.session k held c.args.now) c.kept.ensures.looks (c.look.ensures.server held) in
    let told = subst (λ (x : Server). on_blob x c.args.from (TransferCancel c.args.id) ≡ told_by x c.args.from (record { mode = 1; size = 1; log = 12; mtu = 20 }) c.transfer_cancel-told.result) e (c.transfer_cancel-told.ensures.told held (chunks_of (coming_in c.args.self.now.session)) c.args.from (record { mode = 1; size = 1; log = 12; mtu = 20 })) in
    told_puts (on_blob (server_of c.args.self.now held c.args.now) c.args.from (TransferCancel c.args.id)) (record { mode = 1; size = 1; log = 12; mtu = 20 }) c.transfer_cancel-told.result.change (ap (λ (o : Served). o.change) told)

pub returns-in-Drop-clause-still : goal.returns-in-Drop-clause-still
returns-in-Drop-clause-still g c = λ held same.
    let e = subst (λ (k : Kept). looked_server c.look.result held (chunks_of (coming_in c.args.self.now.session)) ≡ server_in c.args.self.now.session k held c.args.now) c.kept.ensures.looks (c.look.ensures.server held) in
    let told = subst (λ (x : Server). on_blob x c.args.from (TransferCancel c.args.id) ≡ told_by x c.args.from (record { mode = 1; size = 1; log = 12; mtu = 20 }) c.transfer_cancel-told.result) e (c.transfer_cancel-told.ensures.told held (chunks_of (coming_in c.args.self.now.session)) c.args.from (record { mode = 1; size = 1; log = 12; mtu = 20 })) in
    let change : Drops ≡ Same = sym (ap (λ (o : Served). o.change) told ∙ ap (change_by (record { mode = 1; size = 1; log = 12; mtu = 20 })) c.in-Drop.is) ∙ same in absurd (cc change)
