-- Each BLOB message of an uploader keeps a state sound.
use Rattle.std.proofs.Common.{◌≡◌, ◌<◌, ℕ, List, refl, subst, Option, Some, None}
use Rattle.mu_model_image.specs.declared.Meta.{Meta}
use Rattle.mu_model_node.specs.BlobMessages.{BlobRequest}
use Rattle.mu_model_node.specs.BlobServer.{Transfer, CurrentBlock, Session, Change, Same, Begins, Drops, Puts, changed}
use Rattle.mu_model_node.specs.BlobTable.{on_blob}
use Rattle.mu_model_node.specs.Sound.{BlobRequestFits}
use Rattle.mu_model_node.specs.Laws.{RequestsKeepStatesSound}
use Rattle.mu_model_distributor.specs.declared.DistPhase.{DistPhase}
use Rattle.mu_model_distributor.specs.DistState.{StoredImage, UploadJob, Upload, NoUpload, Uploading, Broken, Uploaded, job_of, DistDurable, DistState, server_of}
use Rattle.mu_model_distributor.specs.Commit.{is_long}
use Rattle.mu_model_distributor.specs.Uploads.{with_session}
use Rattle.mu_model_distributor.specs.DistTable.{job_changed, upload_changed, blob_changed, served}
use Rattle.mu_model_distributor.specs.Sound.{IsUploadJob, HasUploadJob, HasUpload, IsDistDurable, HasCurrent, IsDistState}
use Rattle.mu_model_distributor_laws.proofs.Moved.{fresh_below}
use Rattle.mu_model_distributor_laws.proofs.Served.{ServedSoundly, serves_soundly, serves_nothing}

-- what a BLOB message does to an upload
abbrev pub JobFacts : ℕ → Option UploadJob → Change → Option CurrentBlock → Type 0
JobFacts capacity None c current = current ≡ None
JobFacts capacity (Some j) c current = ServedSoundly capacity j c current

pub job_facts : RequestsKeepStatesSound → (s : DistState) (job : Option UploadJob) (from : ℕ) (request : BlobRequest) → job_of s.durable.upload ≡ job → BlobRequestFits request → IsDistState s → JobFacts s.durable.capacity job (on_blob (server_of s) from request).change (on_blob (server_of s) from request).session.current
job_facts law s None from request e fits h =
    serves_nothing law (server_of s) from request fits h.durable.capacity (rw e refl) (none_of s.session.current (subst (λ o. HasCurrent o s.session.current) e h.current))
  where
    none_of : (current : Option CurrentBlock) → HasCurrent None current → current ≡ None
    none_of None k = refl
    none_of (Some c) k = let never : None ≡ Some k.of = k.is in cc
job_facts law s (Some j) from request e fits h =
    let own : IsUploadJob s.durable.capacity s.durable.images s.durable.upload_meta j = subst (HasUploadJob s.durable.capacity s.durable.images s.durable.upload_meta) e h.durable.upload_job in
    let some : 0 < j.transfer.size = subst (λ n. 0 < n) own.size own.meta.some in
    serves_soundly law (server_of s) j from request fits h.durable.capacity (rw e refl) (record { some = some; room = own.room; blocks = own.blocks }) (subst (λ o. HasCurrent o s.session.current) e h.current)

-- ---- what is kept

changed_size : (c : Change) (t : Transfer) → ((changed c t).size ≡ t.size) × ((changed c t).id ≡ t.id) × ((changed c t).base ≡ t.base)
changed_size Same t = (refl, refl, refl)
changed_size (Begins p) t = (refl, refl, refl)
changed_size Drops t = (refl, refl, refl)
changed_size (Puts block octets) t = (refl, refl, refl)

changed_job : (capacity : ℕ) (images : List StoredImage) (meta : Meta) (j : UploadJob) (c : Change) (current : Option CurrentBlock) → IsUploadJob capacity images meta j → ServedSoundly capacity j c current → IsUploadJob capacity images meta (job_changed c j)
changed_job capacity images meta j c current h k =
    let e = changed_size c j.transfer in
    record {
      id = rw (e.1) (h.id);
      base = rw (e.2) (h.base);
      bank = h.bank;
      free = h.free;
      meta = h.meta;
      size = rw (e.0) (h.size);
      room = rw (e.0) (h.room);
      blocks = rw (e.0) (k.blocks);
    }

changed_has : (capacity : ℕ) (images : List StoredImage) (meta : Meta) (upload : Upload) (c : Change) (current : Option CurrentBlock) → HasUploadJob capacity images meta (job_of upload) → JobFacts capacity (job_of upload) c current → HasUploadJob capacity images meta (job_of (upload_changed c upload)) × HasCurrent (job_of (upload_changed c upload)) current
changed_has capacity images meta NoUpload c current h k = (tt, rw k tt)
changed_has capacity images meta (Uploading j) c current h k = (changed_job capacity images meta j c current h k, k.current_is)
changed_has capacity images meta (Broken None) c current h k = (tt, rw k tt)
changed_has capacity images meta (Broken (Some j)) c current h k = (changed_job capacity images meta j c current h k, k.current_is)
changed_has capacity images meta Uploaded c current h k = (tt, rw k tt)

changed_phase : (p : DistPhase) (upload : Upload) (c : Change) → HasUpload p upload → HasUpload p (upload_changed c upload)
changed_phase p NoUpload c h = tt
changed_phase p (Uploading j) c h = h
changed_phase p (Broken None) c h = tt
changed_phase p (Broken (Some j)) c h = tt
changed_phase p Uploaded c h = tt

changed_durable : (d : DistDurable) (c : Change) (count : ℕ) (current : Option CurrentBlock) → IsDistDurable d → JobFacts d.capacity (job_of d.upload) c current → IsDistDurable (record d { count = count; upload = upload_changed c d.upload })
changed_durable d c count current h k = record {
  capacity = h.capacity;
  images = h.images;
  banks = h.banks;
  counter = h.counter;
  unbegun = h.unbegun;
  begun = h.begun;
  image = h.image;
  some_receiver = h.some_receiver;
  receivers = h.receivers;
  addresses = h.addresses;
  few_receivers = h.few_receivers;
  upload_ttl = h.upload_ttl;
  upload_meta = h.upload_meta;
  upload_job = (changed_has d.capacity d.images d.upload_meta d.upload c current h.upload_job k).0;
  upload = changed_phase d.phase d.upload c h.upload;
}

same_current : (upload : Upload) (current : Option CurrentBlock) → HasCurrent (job_of (upload_changed Same upload)) current → HasCurrent (job_of upload) current
same_current NoUpload current h = h
same_current (Uploading j) None h = tt
same_current (Uploading j) (Some c) h = h
same_current (Broken None) current h = h
same_current (Broken (Some j)) None h = tt
same_current (Broken (Some j)) (Some c) h = h
same_current Uploaded current h = h

changes : (s : DistState) (c : Change) (l : Session) → IsDistState s → JobFacts s.durable.capacity (job_of s.durable.upload) c l.current → IsDistState (with_session (blob_changed s c) l)
changes s Same l h k = record {
  durable = h.durable;
  fresh = h.fresh;
  current = same_current s.durable.upload l.current (changed_has s.durable.capacity s.durable.images s.durable.upload_meta s.durable.upload Same l.current h.durable.upload_job k).1;
  client = h.client;
  progress = h.progress;
  percents = h.percents;
}
changes s (Puts block octets) l h k = record {
  durable = changed_durable s.durable (Puts block octets) s.durable.count l.current h.durable k;
  fresh = h.fresh;
  current = (changed_has s.durable.capacity s.durable.images s.durable.upload_meta s.durable.upload (Puts block octets) l.current h.durable.upload_job k).1;
  client = h.client;
  progress = h.progress;
  percents = h.percents;
}
changes s (Begins p) l h k = record {
  durable = changed_durable s.durable (Begins p) _ l.current h.durable k;
  fresh = fresh_below (is_long s.durable) s.fresh h.fresh;
  current = (changed_has s.durable.capacity s.durable.images s.durable.upload_meta s.durable.upload (Begins p) l.current h.durable.upload_job k).1;
  client = h.client;
  progress = h.progress;
  percents = h.percents;
}
changes s Drops l h k = record {
  durable = changed_durable s.durable Drops _ l.current h.durable k;
  fresh = fresh_below (is_long s.durable) s.fresh h.fresh;
  current = (changed_has s.durable.capacity s.durable.images s.durable.upload_meta s.durable.upload Drops l.current h.durable.upload_job k).1;
  client = h.client;
  progress = h.progress;
  percents = h.percents;
}

pub blobs_soundly : RequestsKeepStatesSound → (s : DistState) (from : ℕ) (request : BlobRequest) → BlobRequestFits request → IsDistState s → IsDistState (served s (on_blob (server_of s) from request)).next
blobs_soundly law s from request fits h = changes s (on_blob (server_of s) from request).change (on_blob (server_of s) from request).session h (job_facts law s (job_of s.durable.upload) from request refl fits h)
