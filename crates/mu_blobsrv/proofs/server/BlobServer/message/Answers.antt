use Rattle.std.proofs.Common.{ℕ, refl, sym, ap, subst, [], Option, None}
use Rattle.std.specs.Prelude.{IfOk}
use Rattle.mu_model_node.specs.BlobMessages.{BlobRequest, BlobReply}
use Rattle.mu_place.specs.Calls.{PlaceGoes}
use Rattle.mu_blobsrv.specs.Views.{store_of, place_of, server_of}
use Rattle.mu_blobsrv.specs.Replies.{replies_of}
use Rattle.mu_blobsrv.specs.Rows.{served_by, IsRow}
use Rattle.mu_blobsrv.specs.Runs.{change_steps, FaultBy, PutsOneBlock}
use Rattle.mu_blobsrv.proofs.Quiet.{quiet_row, quiet_faults, quiet_runs}
use Rattle.mu_blobsrv.proofs.Work.{quiet_puts}
use Rattle.mu_blobsrv.proofs.server.BlobServer.message.Goals as goal

pub returns-in-None-clause-row : goal.returns-in-None-clause-row
returns-in-None-clause-row g c = λ held shows.
    quiet_row (store_of c.args.self.now) c.args.self.now held _ [] refl shows (ap (served_by (server_of c.args.self.now held c.args.now) c.args.from) (sym c.in-None.ensures.asks))

pub returns-in-None-clause-faults : goal.returns-in-None-clause-faults
returns-in-None-clause-faults g c = λ held shows.
    quiet_faults (store_of c.args.self.now) c.args.self.now _ [] _ (ap (served_by (server_of c.args.self.now held c.args.now) c.args.from) (sym c.in-None.ensures.asks))

pub returns-in-None-clause-runs : goal.returns-in-None-clause-runs
returns-in-None-clause-runs g c = λ s held holds shows.
    quiet_runs {T = Option (ℕ × BlobReply)} g.F.Flash.seen (store_of c.args.self.now) c.args.self.now s _ [] None refl (ap (served_by (server_of c.args.self.now held c.args.now) c.args.from) (sym c.in-None.ensures.asks)) (c.known.ensures.idle s holds) holds

pub returns-in-Some-clause-row : goal.returns-in-Some-clause-row
returns-in-Some-clause-row g c = λ held shows.
    subst (λ (q : Option BlobRequest). IfOk c.request.result (λ reply. IsRow (store_of c.args.self.now) held (served_by (server_of c.args.self.now held c.args.now) c.args.from q) c.request.new.self (replies_of reply)))
    c.in-Some.ensures.asks (c.request.ensures.row held shows)

pub returns-in-Some-clause-faults : goal.returns-in-Some-clause-faults
returns-in-Some-clause-faults g c = λ held shows.
    subst (λ (q : Option BlobRequest). FaultBy (served_by (server_of c.args.self.now held c.args.now) c.args.from q).change (place_of c.args.self.now) c.request.result)
    c.in-Some.ensures.asks (c.request.ensures.faults held shows)

pub returns-in-Some-clause-runs : goal.returns-in-Some-clause-runs
returns-in-Some-clause-runs g c = λ s held holds shows.
    subst (λ (q : Option BlobRequest). PlaceGoes g.F.Flash.seen s (change_steps (store_of c.args.self.now) s (served_by (server_of c.args.self.now held c.args.now) c.args.from q).change) (place_of c.args.self.now) (place_of c.request.new.self) c.request.result)
    c.in-Some.ensures.asks (c.request.ensures.runs s held holds shows)

pub returns-in-None-clause-one : goal.returns-in-None-clause-one
returns-in-None-clause-one g c = λ held shows.
    quiet_puts _ c.args.self.now [] (ap (served_by (server_of c.args.self.now held c.args.now) c.args.from) (sym c.in-None.ensures.asks))

pub returns-in-Some-clause-one : goal.returns-in-Some-clause-one
returns-in-Some-clause-one g c = λ held shows.
    subst (λ (q : Option BlobRequest). PutsOneBlock (served_by (server_of c.args.self.now held c.args.now) c.args.from q).change) c.in-Some.ensures.asks (c.request.ensures.one held shows)
