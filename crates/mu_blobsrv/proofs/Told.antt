-- Rows that tell the phase after them.
use Rattle.std.proofs.Common.{◌≡◌, ◌∙◌, ℕ, Bool, true, false, List, [], ◌∷◌, Option, Some, None, refl, sym, ap, subst, cond}
use Rattle.std.specs.Prelude.{◌==◌, ◌||◌, nat_lt, not}
use Rattle.mu_model_node.specs.declared.Parameters.{Parameters}
use Rattle.mu_model_node.specs.Slots.{Slots}
use Rattle.mu_model_node.specs.BlobMessages.{BlobReply, TransferStart, TransferCancel, least_log, most_log}
use Rattle.mu_model_node.specs.BlobServer.{Session, unlinked, heard_at, linked, Server, Serving, NoJob, Lacking, Whole, Transfer, BlobPhase, Inactive, WaitingForStart, NextBlock, NextChunk, Complete, Suspended, server_phase, serving_phase, serving_after, Change, Same, Begins, Drops}
use Rattle.mu_model_node.specs.BlobTable.{Served, on_blob, tell, transfer_status, refuse, success, invalid_block_size, wrong_phase, invalid_parameter, wrong_blob_id, blob_too_large, same_parameters, are_parameters, starts, resumes, repeats, for_id, is_ready, on_transfer_start, drop_transfer, on_transfer_cancel}
use Rattle.mu_blob_rows.specs.declared.table.Told.{Told}
use Rattle.mu_blob_rows.specs.declared.table.TransferChange.{TransferChange}
use Rattle.mu_blob_rows.specs.declared.table.TransferChange.TheVariants.{Nothing, Begin, Drop}
use Rattle.mu_blob_rows.specs.Sessions.{link_by}
use Rattle.mu_blob_rows.specs.Rows.{change_by, told_by}
use Rattle.mu_kept.specs.declared.store.JobStore.{JobStore}
use Rattle.mu_kept.specs.Shows.{IsChanged}
use Rattle.mu_blobsrv.specs.declared.server.BlobServer.{BlobServer}
use Rattle.mu_blobsrv.specs.Views.{store_of, session_of}
use Rattle.mu_blobsrv.specs.Changes.{IsChangedTo}
use Rattle.mu_blobsrv.specs.Rows.{IsRow}

pub told_row : {F : Type 0} {g : _} (old : JobStore F g) (new : BlobServer F g) (held : Slots) (o : Served) (change : Change) (replies : List (ℕ × BlobReply)) → IsChanged old (store_of new) change held
    → IsChangedTo old (store_of new) change → o ≡ record { session = session_of new; change = change; replies = replies } → IsRow old held o new replies
told_row old new held o change replies changed stands row =
    subst (λ (x : Served). IsRow old held x new replies) (sym row) (record { session = refl; changed = changed; stands = stands; replies_are = refl })

-- ---- a start drops nothing

record IsStart (o : Served) : Type 0 where
  never : o.change ≡ Drops → ⊥

start_if : (b : Bool) (x y : Served) → IsStart x → IsStart y → IsStart (cond b x y)
start_if true x y a b = a
start_if false x y a b = b

start_same : (v : Server) (l : Session) (to status : ℕ) → IsStart (tell v l Same to status)
start_same v l to status = record { never = λ e. absurd (cc e) }

start_begins : (v : Server) (l : Session) (p : Parameters) (to status : ℕ) → IsStart (tell v l (Begins p) to status)
start_begins v l p to status = record { never = λ e. absurd (cc e) }

abbrev third : Server → ℕ → Parameters → Transfer → Served
third v to p t = cond (not (p.size == t.size)) (refuse v to invalid_parameter) (tell v (linked v.now to v.session) (Begins p) to success)

abbrev second : Server → ℕ → Parameters → Transfer → Served
second v to p t = cond (nat_lt p.log least_log || nat_lt most_log p.log) (refuse v to invalid_block_size) (third v to p t)

starts_so : (v : Server) (to : ℕ) (p : Parameters) (t : Transfer) → IsStart (starts v to p t)
starts_so v to p t =
    start_if (nat_lt v.capacity p.size) (refuse v to blob_too_large) (second v to p t) (start_same v v.session to blob_too_large)
    (start_if (nat_lt p.log least_log || nat_lt most_log p.log) (refuse v to invalid_block_size) (third v to p t) (start_same v v.session to invalid_block_size)
    (start_if (not (p.size == t.size)) (refuse v to invalid_parameter) (tell v (linked v.now to v.session) (Begins p) to success) (start_same v v.session to invalid_parameter)
    (start_begins v (linked v.now to v.session) p to success)))

repeats_so : (v : Server) (l : Session) (to : ℕ) (p : Parameters) (t : Transfer) → IsStart (repeats v l to p t)
repeats_so v l to p t = start_if (are_parameters p t.parameters) (tell v l Same to success) (refuse v to wrong_phase) (start_same v l to success) (start_same v v.session to wrong_phase)

resumes_so : (v : Server) (to : ℕ) (p q : Parameters) → IsStart (resumes v to p q)
resumes_so v to p q =
    start_if (same_parameters p q) (tell v (linked v.now to v.session) Same to success) (refuse v to invalid_parameter) (start_same v (linked v.now to v.session) to success)
    (start_same v v.session to invalid_parameter)

start_for : (v : Server) (to id : ℕ) (t : Transfer) (o : Served) → IsStart o → IsStart (for_id v to id t o)
start_for v to id t o h = start_if (id == t.id) o (refuse v to wrong_blob_id) h (start_same v v.session to wrong_blob_id)

start_so : (v : Server) (to id : ℕ) (p : Parameters) (phase : BlobPhase) → IsStart (on_transfer_start v to id p phase)
start_so v to id p Inactive = start_same v v.session to wrong_phase
start_so v to id p (WaitingForStart t) = start_for v to id t (starts v to p t) (starts_so v to p t)
start_so v to id p (NextBlock t q) = start_for v to id t (repeats v (heard_at v.now v.session) to p t) (repeats_so v (heard_at v.now v.session) to p t)
start_so v to id p (NextChunk t q c) = start_for v to id t (repeats v (heard_at v.now v.session) to p t) (repeats_so v (heard_at v.now v.session) to p t)
start_so v to id p (Complete t) = start_for v to id t (repeats v v.session to p t) (repeats_so v v.session to p t)
start_so v to id p (Suspended t q) =
    start_if (is_ready v.session.link) (for_id v to id t (resumes v to p q)) (refuse v to wrong_phase) (start_for v to id t (resumes v to p q) (resumes_so v to p q)) (start_same v v.session to wrong_phase)

pub start_never_drops : (v w : Server) (to id : ℕ) (p : Parameters) (told : Told) → on_blob v to (TransferStart id p) ≡ told_by w to p told → told.change ≡ Drop → ⊥
start_never_drops v w to id p told row drop =
    let so : IsStart (on_transfer_start v to id p (server_phase v)) = start_so v to id p (server_phase v) in
    so.never (ap (λ (o : Served). o.change) row ∙ ap (change_by p) drop)

-- ---- a cancel begins nothing, and where it drops the parameters it unlinks

record IsCancel (l : Session) (o : Served) : Type 0 where
  never : (p : Parameters) → o.change ≡ Begins p → ⊥
  unlinks : o.change ≡ Drops → o.session ≡ unlinked l

cancel_if : (l : Session) (b : Bool) (x y : Served) → IsCancel l x → IsCancel l y → IsCancel l (cond b x y)
cancel_if l true x y a b = a
cancel_if l false x y a b = b

cancel_same : (l : Session) (v : Server) (m : Session) (to status : ℕ) → IsCancel l (tell v m Same to status)
cancel_same l v m to status = record { never = λ p e. absurd (cc e); unlinks = λ e. absurd (cc e) }

cancel_drop : (v : Server) (to : ℕ) (q : Option Parameters) → IsCancel v.session (drop_transfer v to q)
cancel_drop v to None = cancel_same v.session v (unlinked v.session) to success
cancel_drop v to (Some p) = record { never = λ p e. absurd (cc e); unlinks = λ e. refl }

cancel_for : (v : Server) (to id : ℕ) (t : Transfer) (o : Served) → IsCancel v.session o → IsCancel v.session (for_id v to id t o)
cancel_for v to id t o h = cancel_if v.session (id == t.id) o (refuse v to wrong_blob_id) h (cancel_same v.session v v.session to wrong_blob_id)

cancel_so : (v : Server) (to id : ℕ) (serving : Serving) → IsCancel v.session (on_transfer_cancel v to id serving)
cancel_so v to id NoJob = cancel_same v.session v v.session to success
cancel_so v to id (Lacking t) = cancel_for v to id t (drop_transfer v to t.parameters) (cancel_drop v to t.parameters)
cancel_so v to id (Whole t) = cancel_for v to id t (refuse v to wrong_phase) (cancel_same v.session v v.session to wrong_phase)

pub cancel_never_begins : (v w : Server) (to id : ℕ) (p : Parameters) (told : Told) → on_blob v to (TransferCancel id) ≡ told_by w to p told → told.change ≡ Begin → ⊥
cancel_never_begins v w to id p told row begin =
    let so : IsCancel v.session (on_transfer_cancel v to id v.serving) = cancel_so v to id v.serving in
    so.never p (ap (λ (o : Served). o.change) row ∙ ap (change_by p) begin)

pub cancel_unlinks : (v w : Server) (to id : ℕ) (p : Parameters) (told : Told) → on_blob v to (TransferCancel id) ≡ told_by w to p told → told.change ≡ Drop → link_by told.link w.now to w.session ≡ unlinked v.session
cancel_unlinks v w to id p told row drop =
    let so : IsCancel v.session (on_transfer_cancel v to id v.serving) = cancel_so v to id v.serving in
    sym (ap (λ (o : Served). o.session) row) ∙ so.unlinks (ap (λ (o : Served). o.change) row ∙ ap (change_by p) drop)

-- ---- the row that is told, by its parts

pub link_row : (v : Server) (from : ℕ) (p : Parameters) (told : Told) (now : ℕ) (old new : Session) (after : Serving) (answer : BlobReply) → v.session ≡ old → v.now ≡ now
    → after ≡ serving_after (change_by p told.change) v.serving → new ≡ link_by told.link now from old → answer ≡ transfer_status told.status (serving_phase new after)
    → told_by v from p told ≡ record { session = new; change = change_by p told.change; replies = (from, answer) ∷ [] }
link_row v from p told now old new after answer e n s l a = rw (a, l, s, ← e, ← n) refl

pub same_after : (v : Serving) → serving_after Same v ≡ v
same_after NoJob = refl
same_after (Lacking t) = refl
same_after (Whole t) = refl

-- nothing is changed
pub after_nothing : (p : Parameters) (told : Told) (v : Serving) → told.change ≡ Nothing → v ≡ serving_after (change_by p told.change) v
after_nothing p told v e = sym (ap (λ (x : TransferChange). serving_after (change_by p x) v) e ∙ same_after v)

-- the change that is told, by its name
pub changed_row : (o : Served) (l : Session) (p : Parameters) (x y : TransferChange) (replies : List (ℕ × BlobReply)) → o ≡ record { session = l; change = change_by p x; replies = replies } → x ≡ y
    → o ≡ record { session = l; change = change_by p y; replies = replies }
changed_row o l p x y replies row e = subst (λ (z : TransferChange). o ≡ record { session = l; change = change_by p z; replies = replies }) e row
