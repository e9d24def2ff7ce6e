-- Each time event keeps a state sound.
use Rattle.std.proofs.Common.{◌≡◌, ℕ, ◌+◌, ◌*◌, Bool, true, false, List, [], ◌∷◌, refl, sym, ap, subst, ◌∙◌, cond, arith, Option, Some, None, ◌⊎◌, inl, inr}
use Rattle.std.specs.Prelude.{◌==◌, not, nat_le}
use Rattle.std.specs.List.{list_any}
use Rattle.std.proofs.lemmas.Bool.Decides.{nat_tests}
use Rattle.std.proofs.lemmas.Slice.Eq.{bytes_eq-Decides}
use Rattle.sha2.specs.Sha256.{sha256}
use Rattle.mu_model_image.specs.declared.Meta.{Meta}
use Rattle.mu_model_image.specs.Meta.{IsFit, is_fit}
use Rattle.mu_model_node.specs.declared.Link.{Link}
use Rattle.mu_model_node.specs.declared.Link.TheVariants.{Cut, Ready, Running}
use Rattle.mu_model_node.specs.Slots.{joined}
use Rattle.mu_model_node.specs.BlobServer.{Transfer as BlobTransfer, CurrentBlock, unlinked, Serving, NoJob, Lacking, Whole, Server, BlobPhase, Inactive, WaitingForStart, NextBlock, NextChunk, Complete, Suspended, server_phase, Same}
use Rattle.mu_model_node.specs.BlobTable.{Served, silently, is_pull, is_due, pulls, waits as blob_waits, times_out, on_server_time}
use Rattle.mu_model_client.specs.declared.Stage.{Stage}
use Rattle.mu_model_client.specs.declared.Stage.TheVariants.{Transfer, Verified, Applying, Canceling, Ended}
use Rattle.mu_model_client.specs.Client.{Client, is_active}
use Rattle.mu_model_client.specs.Begin.{stage_of}
use Rattle.mu_model_client.specs.Due.{due}
use Rattle.mu_model_distributor.specs.DistMessages.{Sent}
use Rattle.mu_model_distributor.specs.declared.DistPhase.{DistPhase}
use Rattle.mu_model_distributor.specs.declared.DistPhase.TheVariants.{Idle, TransferActive, TransferSuccess, ApplyingUpdate, Completed, Failed, CancelingUpdate, TransferSuspended}
use Rattle.mu_model_distributor.specs.DistState.{UploadJob, Upload, NoUpload, Uploading, Broken, Uploaded, job_of, run_by, run_upload, DistState, is_at_rest, server_of, offered}
use Rattle.mu_model_distributor.specs.Commit.{ends}
use Rattle.mu_model_distributor.specs.Distribution.{with_client, in_phase}
use Rattle.mu_model_distributor.specs.Uploads.{with_session}
use Rattle.mu_model_distributor.specs.DistTime.{is_whole, stored, verified, verifies, broken_by, server_waits, has_phase, goes_on_by, goes_on, has_verified, has_applied, advanced, after_turn, octets_of, has_turns, client_turns, client_waits, waits, on_time}
use Rattle.mu_model_distributor.specs.Sound.{IsUploadJob, HasUploadJob, HasUpload, HasCurrent, IsDistState}
use Rattle.mu_model_distributor_laws.proofs.ClientDue.{due_rows}
use Rattle.mu_model_distributor_laws.proofs.Images.{stored_join, differ_join}
use Rattle.mu_model_distributor_laws.proofs.Moved.{has_rows, client_turned, phase_moved, phase_rested, ready, begun_sound, committed_sound}
use Rattle.mu_model_distributor_laws.proofs.Uploads.{uploading}

-- ---- the BLOB server's part

-- nothing that is kept changes, and the current block stands or goes
pub record Waits (v : Server) (o : Served) : Type 0 where
  pub change : o.change ≡ Same
  pub current : (o.session.current ≡ v.session.current) ⊎ (o.session.current ≡ None)

split : (v : Server) (b : Bool) (x y : Served) → Waits v x → Waits v y → Waits v (cond b x y)
split v true x y h k = h
split v false x y h k = k

over : (v : Server) → Waits v (silently v.session)
over v = record { change = refl; current = inl refl }

pulled : (v : Server) (c : CurrentBlock) → Waits v (pulls v c)
pulled v c = split v (is_due v c v.session.report) _ _ (record { change = refl; current = inl refl }) (over v)

waited : (v : Server) (phase : BlobPhase) → Waits v (blob_waits v phase)
waited v (NextChunk t p c) = split v (is_pull p) _ _ (pulled v c) (over v)
waited v Inactive = over v
waited v (WaitingForStart t) = over v
waited v (NextBlock t p) = over v
waited v (Complete t) = over v
waited v (Suspended t p) = over v

timed : (v : Server) (t : BlobTransfer) (link : Link) → Waits v (times_out v t link)
timed v t Cut = over v
timed v t Ready = split v (nat_le (v.session.heard + 10000 * (t.base + 1)) v.now) _ _ (record { change = refl; current = inr refl }) (waited v (server_phase v))
timed v t Running = split v (nat_le (v.session.heard + 10000 * (t.base + 1)) v.now) _ _ (record { change = refl; current = inr refl }) (waited v (server_phase v))

server_time : (v : Server) (serving : Serving) → Waits v (on_server_time v serving)
server_time v NoJob = over v
server_time v (Lacking t) = timed v t v.session.link
server_time v (Whole t) = over v

waits_current : (job : Option UploadJob) (old new : Option CurrentBlock) → (new ≡ old) ⊎ (new ≡ None) → HasCurrent job old → HasCurrent job new
waits_current job old new (inl e) h = rw e h
waits_current job old new (inr e) h = rw e tt

broken_sound : (s : DistState) (link : Link) (upload : Upload) → run_upload s ≡ upload → IsDistState s → IsDistState (broken_by link upload s)
broken_sound s Cut (Uploading j) e h =
    let job : job_of s.durable.upload ≡ Some j = run_job_of s.lags s.durable.upload j e in
    uploading s (Broken (Some j)) s.durable.upload_ttl s.durable.upload_meta s.session h h.durable.upload_ttl h.durable.upload_meta
    (subst (HasUploadJob s.durable.capacity s.durable.images s.durable.upload_meta) job h.durable.upload_job) tt
    (subst (λ o. HasCurrent o s.session.current) job h.current)
  where
    run_job_of : (lags : Bool) (upload : Upload) (j : UploadJob) → run_by lags upload ≡ Uploading j → job_of upload ≡ Some j
    run_job_of true NoUpload j e = cc
    run_job_of true (Uploading x) j e = cc
    run_job_of true (Broken job) j e = cc
    run_job_of true Uploaded j e = cc
    run_job_of false upload j e = ap job_of e
broken_sound s Cut NoUpload e h = h
broken_sound s Cut (Broken job) e h = h
broken_sound s Cut Uploaded e h = h
broken_sound s Ready upload e h = h
broken_sound s Running upload e h = h

server_sound : (s : DistState) (serving : Serving) → IsDistState s → IsDistState (server_waits s (on_server_time (server_of s) serving))
server_sound s serving h =
    let o = on_server_time (server_of s) serving in
    let w = server_time (server_of s) serving in
    broken_sound (with_session s o.session) o.session.link (run_upload s) refl (record {
      durable = h.durable;
      fresh = h.fresh;
      current = waits_current (job_of s.durable.upload) s.session.current o.session.current w.current h.current;
      client = h.client;
      progress = h.progress;
      percents = h.percents;
    })

pub server_client : (s : DistState) (link : Link) (upload : Upload) → (broken_by link upload s).client ≡ s.client
server_client s Cut (Uploading j) = refl
server_client s Cut NoUpload = refl
server_client s Cut (Broken job) = refl
server_client s Cut Uploaded = refl
server_client s Ready upload = refl
server_client s Running upload = refl

-- ---- the client's part

either : (b : Bool) (x y : DistState) → IsDistState x → IsDistState y → IsDistState (cond b x y)
either true x y h k = h
either false x y h k = k

going_by : (address : ℕ) (s : DistState) (b : Bool) → IsDistState s → IsDistState (goes_on_by address s b)
going_by address s true h = h
going_by address s false h = begun_sound address s (ready s h)

going : (address : ℕ) (s : DistState) (c : Client) (p : DistPhase) → IsDistState s → is_at_rest s.durable.phase ≡ false → is_at_rest p ≡ false → IsDistState (goes_on address s c p)
going address s c p h busy other = going_by address (in_phase s p) (list_any is_active c.receivers) (phase_moved s p h busy other)

policy_phase : (b : Bool) → is_at_rest (cond b ApplyingUpdate TransferSuccess) ≡ false
policy_phase true = refl
policy_phase false = refl

applied_phase : (b : Bool) → is_at_rest (cond b Completed Failed) ≡ true
applied_phase true = refl
applied_phase false = refl

verifying : (address : ℕ) (s : DistState) (c : Client) → IsDistState s → is_at_rest s.durable.phase ≡ false → IsDistState (has_verified address s c)
verifying address s c h busy =
    either (not (has_phase s.durable.receivers (4 ∷ 6 ∷ 8 ∷ []))) _ _ (phase_rested s Failed h busy refl)
    (going address s c (cond (s.durable.settings.policy == 1) ApplyingUpdate TransferSuccess) h busy (policy_phase (s.durable.settings.policy == 1)))

confirming : (s : DistState) → IsDistState s → is_at_rest s.durable.phase ≡ false → IsDistState (has_applied s)
confirming s h busy = phase_rested s (cond (has_phase s.durable.receivers (8 ∷ [])) Completed Failed) h busy (applied_phase (has_phase s.durable.receivers (8 ∷ [])))

advances : (address : ℕ) (s : DistState) (c : Client) (p : DistPhase) (stage : Stage) → IsDistState s → is_at_rest s.durable.phase ≡ false → IsDistState (advanced address s c p stage)
advances address s c TransferActive Transfer h busy = h
advances address s c TransferActive Verified h busy = verifying address s c h busy
advances address s c TransferActive Applying h busy = verifying address s c h busy
advances address s c TransferActive Canceling h busy = verifying address s c h busy
advances address s c TransferActive Ended h busy = verifying address s c h busy
advances address s c ApplyingUpdate Ended h busy = confirming s h busy
advances address s c ApplyingUpdate Transfer h busy = h
advances address s c ApplyingUpdate Verified h busy = h
advances address s c ApplyingUpdate Applying h busy = h
advances address s c ApplyingUpdate Canceling h busy = h
advances address s c CancelingUpdate Ended h busy = phase_rested s Idle h busy refl
advances address s c CancelingUpdate Transfer h busy = h
advances address s c CancelingUpdate Verified h busy = h
advances address s c CancelingUpdate Applying h busy = h
advances address s c CancelingUpdate Canceling h busy = h
advances address s c Idle stage h busy = h
advances address s c TransferSuccess stage h busy = h
advances address s c Completed stage h busy = h
advances address s c Failed stage h busy = h
advances address s c TransferSuspended stage h busy = h

turns : (address : ℕ) (t : DistState) (c : Client) (image : List ℕ) (now : ℕ) → t.client ≡ Some c → IsDistState t → IsDistState (after_turn address t (due c image now).next)
turns address t c image now e h =
    let busy : is_at_rest t.durable.phase ≡ false = (has_rows (is_at_rest t.durable.phase) t.durable.receivers t.progress t.client c h.client e).0 in
    advances address (with_client t (due c image now).next) (due c image now).next t.durable.phase (stage_of (due c image now).next) (client_turned t c (due c image now).next h e (due_rows c image now)) busy

client_soundly : (address : ℕ) (s t : DistState) (reports : List (ℕ × Sent)) (client : Option Client) → t.client ≡ client → IsDistState t → IsDistState (client_waits address s t reports client).next
client_soundly address s t reports None e h = committed_sound s t h
client_soundly address s t reports (Some c) e h = by_phase (has_turns t.durable.phase)
  where
    by_phase : (b : Bool) → IsDistState (cond b (client_turns address s t reports (due c (octets_of (offered t.durable)) t.moment)) (ends s t (λ u. reports))).next
    by_phase true = committed_sound s _ (turns address t c (octets_of (offered t.durable)) t.moment e h)
    by_phase false = committed_sound s t h

waits_soundly : (address : ℕ) (s : DistState) (serving : Serving) → IsDistState s → IsDistState (waits address s (on_server_time (server_of s) serving)).next
waits_soundly address s serving h =
    let o = on_server_time (server_of s) serving in
    client_soundly address s (server_waits s o) _ s.client (server_client (with_session s o.session) o.session.link (run_upload s)) (server_sound s serving h)

-- ---- an upload that is verified

fits_true : (octets : List ℕ) (meta : Meta) → is_fit octets meta ≡ true → IsFit octets meta
fits_true octets meta e = record {
  size = grind (arith, nat_tests);
  digest = grind (arith, nat_tests, bytes_eq-Decides (sha256 octets) meta.digest);
}

pub run_is : (lags : Bool) (upload : Upload) (j : UploadJob) → run_by lags upload ≡ Uploading j → upload ≡ Uploading j
run_is true NoUpload j e = cc
run_is true (Uploading x) j e = cc
run_is true (Broken job) j e = cc
run_is true Uploaded j e = cc
run_is false upload j e = e

stores : (s : DistState) (j : UploadJob) (b : Bool) → s.durable.upload ≡ Uploading j → (b ≡ true → IsFit (joined j.transfer.held) s.durable.upload_meta) → IsDistState s → IsDistState (verified s j b)
stores s j true e fit h =
    let job : job_of s.durable.upload ≡ Some j = ap job_of e in
    let own : IsUploadJob s.durable.capacity s.durable.images s.durable.upload_meta j = subst (HasUploadJob s.durable.capacity s.durable.images s.durable.upload_meta) job h.durable.upload_job in
    let rest : is_at_rest s.durable.phase ≡ true = subst (HasUpload s.durable.phase) e h.durable.upload in
    record {
      durable = record {
        capacity = h.durable.capacity;
        images = stored_join s.durable.capacity s.durable.images (stored s j) h.durable.images (record { bank = own.bank; meta = own.meta; image = record { some = own.meta.some; room = rw (own.size) (own.room); fit = fit refl } });
        banks = differ_join s.durable.images (stored s j) h.durable.banks own.free;
        counter = h.durable.counter;
        unbegun = h.durable.unbegun;
        begun = h.durable.begun;
        image = λ busy. let never : true ≡ false = sym rest ∙ busy in cc;
        some_receiver = h.durable.some_receiver;
        receivers = h.durable.receivers;
        addresses = h.durable.addresses;
        few_receivers = h.durable.few_receivers;
        upload_ttl = h.durable.upload_ttl;
        upload_meta = h.durable.upload_meta;
        upload_job = tt;
        upload = tt;
      };
      fresh = h.fresh;
      current = tt;
      client = h.client;
      progress = h.progress;
      percents = h.percents;
    }
stores s j false e fit h = uploading s (Broken None) s.durable.upload_ttl s.durable.upload_meta (unlinked s.session) h h.durable.upload_ttl h.durable.upload_meta tt tt tt

verifies_soundly : (s : DistState) (j : UploadJob) → s.durable.upload ≡ Uploading j → IsDistState s → IsDistState (verifies s j).next
verifies_soundly s j e h = committed_sound s _ (stores s j (is_fit (joined j.transfer.held) s.durable.upload_meta) e (fits_true (joined j.transfer.held) s.durable.upload_meta) h)

pub times_soundly : (address : ℕ) (s : DistState) (upload : Upload) → run_upload s ≡ upload → IsDistState s → IsDistState (on_time address s upload).next
times_soundly address s (Uploading j) e h = by_whole (is_whole j.transfer)
  where
    by_whole : (b : Bool) → IsDistState (cond b (verifies s j) (waits address s (on_server_time (server_of s) (server_of s).serving))).next
    by_whole true = verifies_soundly s j (run_is s.lags s.durable.upload j e) h
    by_whole false = waits_soundly address s (server_of s).serving h
times_soundly address s NoUpload e h = waits_soundly address s (server_of s).serving h
times_soundly address s (Broken job) e h = waits_soundly address s (server_of s).serving h
times_soundly address s Uploaded e h = waits_soundly address s (server_of s).serving h
