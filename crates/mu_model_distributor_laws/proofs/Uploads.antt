-- Each request on uploads and images keeps a state sound.
use Rattle.std.proofs.Common.{◌≡◌, ◌<◌, ℕ, Bool, true, false, List, [], ◌∷◌, refl, sym, subst, ◌∙◌, cond, arith, Option, Some, None, Err}
use Rattle.std.specs.Prelude.{◌==◌, ◌&&◌, not, nat_lt, bytes_eq, is_none, MatchOption}
use Rattle.std.specs.List.{filter}
use Rattle.std.proofs.lemmas.Bool.Decides.{nat_tests}
use Rattle.mu_model_image.specs.declared.Meta.{Meta}
use Rattle.mu_model_image.specs.Meta.{IsMeta, meta_from}
use Rattle.mu_model_node.specs.declared.Link.{Link}
use Rattle.mu_model_node.specs.declared.Link.TheVariants.{Cut, Ready, Running}
use Rattle.mu_model_node.specs.BlobServer.{Session, unlinked, made_ready}
use Rattle.mu_model_distributor.specs.Requests.{UploadStart}
use Rattle.mu_model_distributor.specs.declared.DistPhase.{DistPhase}
use Rattle.mu_model_distributor.specs.DistState.{StoredImage, UploadJob, Upload, NoUpload, Uploading, Broken, Uploaded, job_of, run_by, run_upload, DistDurable, DistState, is_at_rest}
use Rattle.mu_model_distributor.specs.Receivers.{empty_banks}
use Rattle.mu_model_distributor.specs.Uploads.{agreed, offered_meta, own_id, same_upload_start, has_image, with_upload, with_fields, with_session, finds, new_job, takes_in, takes, taken_up, resumes, takes_or_resumes, offers, upload_start, upload_cancel}
use Rattle.mu_model_distributor.specs.Firmware.{has_id, index_of, with_images, is_in_upload, firmware_delete, firmware_delete_all}
use Rattle.mu_model_distributor.specs.Sound.{AreStored, BanksDiffer, HasUploadJob, AreMetaNumbers, HasUpload, IsDistDurable, HasCurrent, IsDistState, IsUploadStart}
use Rattle.mu_model_distributor_laws.proofs.Images.{empty_bank, stored_filter, differ_filter}
use Rattle.mu_model_distributor_laws.proofs.Requests.{Leads, split}

meta_numbers : (meta : Meta) → IsMeta meta → AreMetaNumbers meta
meta_numbers meta h = record { size = h.size; version = h.version; digest_length = h.digest_length; digest_octets = h.digest_octets }

-- ---- another upload

pub uploads : (d : DistDurable) (upload : Upload) (ttl : ℕ) (meta : Meta) → IsDistDurable d → ttl < 256 → AreMetaNumbers meta → HasUploadJob d.capacity d.images meta (job_of upload) → HasUpload d.phase upload → IsDistDurable (record d { upload = upload; upload_ttl = ttl; upload_meta = meta })
uploads d upload ttl meta h ttl_below meta_is job has = record {
  capacity = h.capacity;
  images = h.images;
  banks = h.banks;
  counter = h.counter;
  unbegun = h.unbegun;
  begun = h.begun;
  image = h.image;
  some_receiver = h.some_receiver;
  receivers = h.receivers;
  addresses = h.addresses;
  few_receivers = h.few_receivers;
  upload_ttl = ttl_below;
  upload_meta = meta_is;
  upload_job = job;
  upload = has;
}

-- ... in a state, without a current block
pub uploading : (s : DistState) (upload : Upload) (ttl : ℕ) (meta : Meta) (l : Session) → IsDistState s → ttl < 256 → AreMetaNumbers meta → HasUploadJob s.durable.capacity s.durable.images meta (job_of upload) → HasUpload s.durable.phase upload → HasCurrent (job_of upload) l.current → IsDistState (with_session (with_fields (with_upload s upload) ttl meta) l)
uploading s upload ttl meta l h ttl_below meta_is job has current = record {
  durable = uploads s.durable upload ttl meta h.durable ttl_below meta_is job has;
  fresh = h.fresh;
  current = current;
  client = h.client;
  progress = h.progress;
  percents = h.percents;
}

-- ---- what is offered

agreed_is : (u : UploadStart) (offer : Option Meta) (meta : Meta) → agreed u offer ≡ Some meta → (offer ≡ Some meta) × (u.size ≡ meta.size)
agreed_is u None meta e = cc
agreed_is u (Some m) meta e = by_test ((u.size == m.size) && bytes_eq u.fwid (own_id m)) refl e
  where
    by_test : (b : Bool) → ((u.size == m.size) && bytes_eq u.fwid (own_id m)) ≡ b → cond b (Some m) None ≡ Some meta → (Some m ≡ Some meta) × (u.size ≡ meta.size)
    by_test true is e = let same : m ≡ meta = cc in let size : u.size ≡ m.size = grind (arith, nat_tests) in (e, subst (λ (x : Meta). u.size ≡ x.size) same size)
    by_test false is e = cc

offer_fits : (offer : Option Meta) (meta : Meta) → offer ≡ Some meta → MatchOption offer (Unit {0}) IsMeta → IsMeta meta
offer_fits None meta e h = cc
offer_fits (Some m) meta e h = let same : m ≡ meta = cc in subst IsMeta same h

pub record IsOffered (u : UploadStart) (meta : Meta) : Type 0 where
  pub start : IsUploadStart u
  pub meta_is : IsMeta meta
  pub size : u.size ≡ meta.size

offered_is : (u : UploadStart) (meta : Meta) → offered_meta u ≡ Some meta → IsUploadStart u → IsOffered u meta
offered_is u meta e h =
    let k = agreed_is u (meta_from u.metadata) meta e in
    record { start = h; meta_is = offer_fits (meta_from u.metadata) meta k.0 h.metadata; size = k.1 }

-- ---- rows

found : (s : DistState) (u : UploadStart) (meta : Meta) → IsDistState s → IsOffered u meta → IsDistState (finds s u meta)
found s u meta h o = uploading s Uploaded u.ttl meta (unlinked s.session) h o.start.ttl (meta_numbers meta o.meta_is) tt tt tt

taken : (s : DistState) (u : UploadStart) (meta : Meta) (banks : List ℕ) → empty_banks s.durable.images None ≡ banks → is_at_rest s.durable.phase ≡ true → IsDistState s → IsOffered u meta → Leads (takes_in s u meta banks)
taken s u meta [] e rest h o = tt
taken s u meta (bank ∷ others) e rest h o =
    let empty = empty_bank s.durable.images None bank others e in
    let some : 0 < meta.size = o.meta_is.some in
    split (nat_lt s.durable.capacity u.size) _ _ (λ k. tt)
    (λ k. uploading s (Uploading (new_job u bank)) u.ttl meta (made_ready s.moment (unlinked s.session)) h o.start.ttl (meta_numbers meta o.meta_is) (record {
      id = o.start.id;
      base = o.start.base;
      bank = empty.below;
      free = empty.free;
      meta = o.meta_is;
      size = sym o.size;
      room = grind (arith, nat_tests);
      blocks = refl;
    }) rest tt)

takes_soundly : (s : DistState) (u : UploadStart) (meta : Meta) → is_at_rest s.durable.phase ≡ true → IsDistState s → IsOffered u meta → Leads (takes s u meta)
takes_soundly s u meta rest h o = taken s u meta (empty_banks s.durable.images None) refl rest h o

up_current : (now : ℕ) (l : Session) (link : Link) → (taken_up now l link).current ≡ l.current
up_current now l Cut = refl
up_current now l Ready = refl
up_current now l Running = refl

run_of : (lags : Bool) (upload : Upload) (j : UploadJob) → run_by lags upload ≡ Broken (Some j) → job_of upload ≡ Some j
run_of true NoUpload j e = cc
run_of true (Uploading x) j e = cc
run_of true (Broken job) j e = cc
run_of true Uploaded j e = cc
run_of false NoUpload j e = cc
run_of false (Uploading x) j e = cc
run_of false (Broken job) j e = cc
run_of false Uploaded j e = cc

resumed : (s : DistState) (j : UploadJob) → run_upload s ≡ Broken (Some j) → is_at_rest s.durable.phase ≡ true → IsDistState s → IsDistState (resumes s j)
resumed s j e rest h =
    let job : job_of s.durable.upload ≡ Some j = run_of s.lags s.durable.upload j e in
    uploading s (Uploading j) s.durable.upload_ttl s.durable.upload_meta (taken_up s.moment s.session s.session.link) h h.durable.upload_ttl h.durable.upload_meta
    (subst (HasUploadJob s.durable.capacity s.durable.images s.durable.upload_meta) job h.durable.upload_job) rest
    (rw (up_current s.moment s.session s.session.link) (subst (λ o. HasCurrent o s.session.current) job h.current))

takes_or : (s : DistState) (u : UploadStart) (meta : Meta) (upload : Upload) → run_upload s ≡ upload → is_at_rest s.durable.phase ≡ true → IsDistState s → IsOffered u meta → Leads (takes_or_resumes s u meta upload)
takes_or s u meta (Broken (Some j)) e rest h o = split (same_upload_start u s.durable j) _ _ (λ k. resumed s j e rest h) (λ k. takes_soundly s u meta rest h o)
takes_or s u meta (Broken None) e rest h o = takes_soundly s u meta rest h o
takes_or s u meta NoUpload e rest h o = takes_soundly s u meta rest h o
takes_or s u meta (Uploading j) e rest h o = takes_soundly s u meta rest h o
takes_or s u meta Uploaded e rest h o = takes_soundly s u meta rest h o

offers_soundly : (s : DistState) (u : UploadStart) (upload : Upload) (offer : Option Meta) → run_upload s ≡ upload → offered_meta u ≡ offer → is_at_rest s.durable.phase ≡ true → IsDistState s → IsUploadStart u → Leads (offers s u upload offer)
offers_soundly s u upload None e k rest h fits = tt
offers_soundly s u upload (Some meta) e k rest h fits =
    let o = offered_is u meta k fits in
    split (has_image s.durable.images meta) _ _ (λ t. found s u meta h o) (λ t. takes_or s u meta upload e rest h o)

at_rest_offers : (s : DistState) (u : UploadStart) (upload : Upload) → run_upload s ≡ upload → IsDistState s → IsUploadStart u → Leads (cond (is_at_rest s.durable.phase) (offers s u upload (offered_meta u)) (Err 7))
at_rest_offers s u upload e h fits = split (is_at_rest s.durable.phase) _ _ (λ rest. offers_soundly s u upload (offered_meta u) e refl rest h fits) (λ busy. tt)

pub upload_soundly : (s : DistState) (u : UploadStart) (upload : Upload) → run_upload s ≡ upload → IsDistState s → IsUploadStart u → Leads (upload_start s u upload)
upload_soundly s u (Uploading j) e h fits = split (same_upload_start u s.durable j) _ _ (λ k. h) (λ k. tt)
upload_soundly s u NoUpload e h fits = at_rest_offers s u NoUpload e h fits
upload_soundly s u (Broken job) e h fits = at_rest_offers s u (Broken job) e h fits
upload_soundly s u Uploaded e h fits = at_rest_offers s u Uploaded e h fits

pub cancels_upload : (s : DistState) → IsDistState s → IsDistState (upload_cancel s)
cancels_upload s h = uploading s NoUpload s.durable.upload_ttl s.durable.upload_meta (unlinked s.session) h h.durable.upload_ttl h.durable.upload_meta tt tt tt

-- ---- images that go

no_job : (lags : Bool) (upload : Upload) → is_in_upload (run_by lags upload) ≡ false → job_of upload ≡ None
no_job true NoUpload e = refl
no_job true (Uploading j) e = cc
no_job true (Broken job) e = cc
no_job true Uploaded e = refl
no_job false NoUpload e = refl
no_job false (Uploading j) e = cc
no_job false (Broken job) e = cc
no_job false Uploaded e = refl

fewer : (s : DistState) (images : List StoredImage) → IsDistState s → is_at_rest s.durable.phase ≡ true → job_of s.durable.upload ≡ None → AreStored s.durable.capacity images → BanksDiffer images → IsDistState (with_images s images)
fewer s images h rest none stored differ = record {
  durable = record {
    capacity = h.durable.capacity;
    images = stored;
    banks = differ;
    counter = h.durable.counter;
    unbegun = h.durable.unbegun;
    begun = h.durable.begun;
    image = λ busy. let never : true ≡ false = sym rest ∙ busy in cc;
    some_receiver = h.durable.some_receiver;
    receivers = h.durable.receivers;
    addresses = h.durable.addresses;
    few_receivers = h.durable.few_receivers;
    upload_ttl = h.durable.upload_ttl;
    upload_meta = h.durable.upload_meta;
    upload_job = rw none tt;
    upload = h.durable.upload;
  };
  fresh = h.fresh;
  current = h.current;
  client = h.client;
  progress = h.progress;
  percents = h.percents;
}

rests : (p : DistPhase) → not (is_at_rest p) ≡ false → is_at_rest p ≡ true
rests p e = elim (is_at_rest p) as (λ b. not b ≡ false → b ≡ true) [ true ↦ λ k. refl | false ↦ λ k. cc ] e

pub deletes_soundly : (s : DistState) (fwid : List ℕ) → IsDistState s → Leads (firmware_delete s fwid)
deletes_soundly s fwid h =
    split (not (is_at_rest s.durable.phase)) _ _ (λ a. tt)
    (λ a. split (is_in_upload (run_upload s)) _ _ (λ b. tt)
    (λ b. split (is_none (index_of s.durable.images fwid)) _ _ (λ c. tt)
    (λ c. fewer s (filter (λ (x : StoredImage). not (has_id fwid x)) s.durable.images) h (rests s.durable.phase a) (no_job s.lags s.durable.upload b)
    (stored_filter s.durable.capacity (λ (x : StoredImage). not (has_id fwid x)) s.durable.images h.durable.images)
    (differ_filter (λ (x : StoredImage). not (has_id fwid x)) s.durable.images h.durable.banks))))

pub deletes_all_soundly : (s : DistState) → IsDistState s → Leads (firmware_delete_all s)
deletes_all_soundly s h =
    split (not (is_at_rest s.durable.phase)) _ _ (λ a. tt)
    (λ a. split (is_in_upload (run_upload s)) _ _ (λ b. tt) (λ b. fewer s [] h (rests s.durable.phase a) (no_job s.lags s.durable.upload b) tt tt))
