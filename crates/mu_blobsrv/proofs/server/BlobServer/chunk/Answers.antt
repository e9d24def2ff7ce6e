use Rattle.std.proofs.Common.{◌≡◌, ℕ, Option, None, [], refl, subst, ap}
use Rattle.std.specs.Prelude.{IfOk}
use Rattle.mu_model_node.specs.BlobMessages.{ChunkTransfer, BlobReply}
use Rattle.mu_model_node.specs.BlobServer.{Same}
use Rattle.mu_model_node.specs.BlobTable.{Served, on_blob}
use Rattle.mu_blob_session.specs.declared.session.Kept.{Kept}
use Rattle.mu_blob_session.specs.Sessions.{session_in, coming_in, server_in}
use Rattle.mu_blob_session.specs.Came.{CameAs}
use Rattle.mu_place.specs.Calls.{PlaceGoes}
use Rattle.mu_blobsrv.specs.Views.{store_of, place_of, server_of}
use Rattle.mu_blobsrv.specs.Replies.{replies_of}
use Rattle.mu_blobsrv.specs.Rows.{IsRow}
use Rattle.mu_blobsrv.specs.Runs.{change_steps, FaultBy, PutsOneBlock}
use Rattle.mu_blobsrv.proofs.Quiet.{quiet_row, same_runs}
use Rattle.mu_blobsrv.proofs.Came.{came_whole, came_row}
use Rattle.mu_blobsrv.proofs.Work.{same_puts}
use Rattle.mu_blobsrv.proofs.server.BlobServer.chunk.Goals as goal

pub returns-in-InPart-clause-row : goal.returns-in-InPart-clause-row
returns-in-InPart-clause-row g c = λ held from shows.
    let came = subst (λ (k : Kept). CameAs (on_blob (server_in c.args.self.now.session k held c.args.now) from (ChunkTransfer c.args.chunk c.args.octets.now)) (session_in c.chunk.new.self) (coming_in c.chunk.new.self) c.chunk.result) c.kept-kept.ensures.looks (c.chunk.ensures.row held from) in
    quiet_row (store_of c.args.self.now) _ held _ [] refl shows (rw c.in-InPart.is at came)

pub returns-in-InPart-clause-runs : goal.returns-in-InPart-clause-runs
returns-in-InPart-clause-runs g c = λ s held from holds shows.
    let came = subst (λ (k : Kept). CameAs (on_blob (server_in c.args.self.now.session k held c.args.now) from (ChunkTransfer c.args.chunk c.args.octets.now)) (session_in c.chunk.new.self) (coming_in c.chunk.new.self) c.chunk.result) c.kept-kept.ensures.looks (c.chunk.ensures.row held from) in
    same_runs {T = Option (ℕ × BlobReply)} g.F.Flash.seen (store_of c.args.self.now) (store_of c.args.self.now) s (on_blob (server_of c.args.self.now held c.args.now) from (ChunkTransfer c.args.chunk c.args.octets.now)).change None refl
    (ap (λ (o : Served). o.change) (rw c.in-InPart.is at came)) (c.known.ensures.idle s holds) holds

pub put-requires-clause-whole : goal.put-requires-clause-whole
put-requires-clause-whole g c =
    let came = subst (λ (k : Kept). CameAs (on_blob (server_in c.args.self.now.session k [] c.args.now) 0 (ChunkTransfer c.args.chunk c.args.octets.now)) (session_in c.chunk.new.self) (coming_in c.chunk.new.self) c.chunk.result) c.kept-kept.ensures.looks (c.chunk.ensures.row [] 0) in
    came_whole (on_blob (server_of c.args.self.now [] c.args.now) 0 (ChunkTransfer c.args.chunk c.args.octets.now)) (session_in c.chunk.new.self) c.in-Whole.parameters (coming_in c.chunk.new.self) (rw c.in-Whole.is at came)

pub returns-in-Whole-clause-row : goal.returns-in-Whole-clause-row
returns-in-Whole-clause-row g c = λ held from shows.
    let came = subst (λ (k : Kept). CameAs (on_blob (server_in c.args.self.now.session k held c.args.now) from (ChunkTransfer c.args.chunk c.args.octets.now)) (session_in c.chunk.new.self) (coming_in c.chunk.new.self) c.chunk.result) c.kept-kept.ensures.looks (c.chunk.ensures.row held from) in
    came_row (λ (o : Served). IfOk c.put.result (λ reply. IsRow (store_of c.args.self.now) held o c.put.new.self (replies_of reply)))
    (on_blob (server_of c.args.self.now held c.args.now) from (ChunkTransfer c.args.chunk c.args.octets.now)) (session_in c.chunk.new.self) c.in-Whole.parameters (coming_in c.chunk.new.self) (rw c.in-Whole.is at came) (λ d is. c.put.ensures.row d held is shows)

pub returns-in-Whole-clause-faults : goal.returns-in-Whole-clause-faults
returns-in-Whole-clause-faults g c = λ held from shows.
    let came = subst (λ (k : Kept). CameAs (on_blob (server_in c.args.self.now.session k held c.args.now) from (ChunkTransfer c.args.chunk c.args.octets.now)) (session_in c.chunk.new.self) (coming_in c.chunk.new.self) c.chunk.result) c.kept-kept.ensures.looks (c.chunk.ensures.row held from) in
    came_row (λ (o : Served). FaultBy o.change (place_of c.args.self.now) c.put.result)
    (on_blob (server_of c.args.self.now held c.args.now) from (ChunkTransfer c.args.chunk c.args.octets.now)) (session_in c.chunk.new.self) c.in-Whole.parameters (coming_in c.chunk.new.self) (rw c.in-Whole.is at came) (λ d is. c.put.ensures.why)

pub returns-in-Whole-clause-runs : goal.returns-in-Whole-clause-runs
returns-in-Whole-clause-runs g c = λ s held from holds shows.
    let came = subst (λ (k : Kept). CameAs (on_blob (server_in c.args.self.now.session k held c.args.now) from (ChunkTransfer c.args.chunk c.args.octets.now)) (session_in c.chunk.new.self) (coming_in c.chunk.new.self) c.chunk.result) c.kept-kept.ensures.looks (c.chunk.ensures.row held from) in
    came_row (λ (o : Served). PlaceGoes g.F.Flash.seen s (change_steps (store_of c.args.self.now) s o.change) (place_of c.args.self.now) (place_of c.put.new.self) c.put.result)
    (on_blob (server_of c.args.self.now held c.args.now) from (ChunkTransfer c.args.chunk c.args.octets.now)) (session_in c.chunk.new.self) c.in-Whole.parameters (coming_in c.chunk.new.self) (rw c.in-Whole.is at came) (λ d is. c.put.ensures.runs d s is holds)

pub returns-in-InPart-clause-one : goal.returns-in-InPart-clause-one
returns-in-InPart-clause-one g c = λ held from.
    let came = subst (λ (k : Kept). CameAs (on_blob (server_in c.args.self.now.session k held c.args.now) from (ChunkTransfer c.args.chunk c.args.octets.now)) (session_in c.chunk.new.self) (coming_in c.chunk.new.self) c.chunk.result) c.kept-kept.ensures.looks (c.chunk.ensures.row held from) in
    same_puts (on_blob (server_of c.args.self.now held c.args.now) from (ChunkTransfer c.args.chunk c.args.octets.now)).change (ap (λ (o : Served). o.change) (rw c.in-InPart.is at came))

pub returns-in-Whole-clause-one : goal.returns-in-Whole-clause-one
returns-in-Whole-clause-one g c = λ held from.
    let came = subst (λ (k : Kept). CameAs (on_blob (server_in c.args.self.now.session k held c.args.now) from (ChunkTransfer c.args.chunk c.args.octets.now)) (session_in c.chunk.new.self) (coming_in c.chunk.new.self) c.chunk.result) c.kept-kept.ensures.looks (c.chunk.ensures.row held from) in
    came_row (λ (o : Served). PutsOneBlock o.change)
    (on_blob (server_of c.args.self.now held c.args.now) from (ChunkTransfer c.args.chunk c.args.octets.now)) (session_in c.chunk.new.self) c.in-Whole.parameters (coming_in c.chunk.new.self) (rw c.in-Whole.is at came) (λ d is. c.put.ensures.one d is)

pub returns-in-Whole-clause-still : goal.returns-in-Whole-clause-still
returns-in-Whole-clause-still g c = λ held from.
    let came = subst (λ (k : Kept). CameAs (on_blob (server_in c.args.self.now.session k held c.args.now) from (ChunkTransfer c.args.chunk c.args.octets.now)) (session_in c.chunk.new.self) (coming_in c.chunk.new.self) c.chunk.result) c.kept-kept.ensures.looks (c.chunk.ensures.row held from) in
    came_row (λ (o : Served). o.change ≡ Same → store_of c.put.new.self ≡ store_of c.args.self.now)
    (on_blob (server_of c.args.self.now held c.args.now) from (ChunkTransfer c.args.chunk c.args.octets.now)) (session_in c.chunk.new.self) c.in-Whole.parameters (coming_in c.chunk.new.self) (rw c.in-Whole.is at came) (λ d is e. absurd (cc e))
