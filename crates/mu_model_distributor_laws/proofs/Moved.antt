-- A sound state with other receivers, another phase, or another client is sound.
use Rattle.std.proofs.Common.{◌≡◌, ◌<◌, ◌≤◌, ℕ, ◌-◌, Bool, true, false, List, length, refl, sym, ap, subst, ◌∙◌, cond, arith, Option, Some, None}
use Rattle.std.specs.Prelude.{◌==◌}
use Rattle.mu_model_client.specs.declared.Plan.{Plan}
use Rattle.mu_model_client.specs.declared.Stage.{Stage}
use Rattle.mu_model_client.specs.declared.Stage.TheVariants.{Transfer, Verified, Applying, Canceling}
use Rattle.mu_model_client.specs.Client.{Client, rows}
use Rattle.mu_model_client.specs.Begin.{resume}
use Rattle.mu_model_node.specs.FlashWork.{fresh_after}
use Rattle.mu_model_distributor.specs.declared.DistPhase.{DistPhase}
use Rattle.mu_model_distributor.specs.declared.DistPhase.TheVariants.{Idle, TransferActive, TransferSuccess, ApplyingUpdate, Completed, Failed, CancelingUpdate, TransferSuspended}
use Rattle.mu_model_distributor.specs.DistState.{Receiver, Upload, NoUpload, Uploading, Broken, Uploaded, job_of, run_by, DistDurable, DistState, is_at_rest, rows_of}
use Rattle.mu_model_distributor.specs.Commit.{is_long, recorded, recorded_if, committed}
use Rattle.mu_model_distributor.specs.Distribution.{plan_of, stage_in, begun_at, client_begun, with_client, in_phase, at_rest}
use Rattle.mu_model_distributor.specs.Sound.{AreReceivers, AddressesDiffer, IsDistDurable, HasUpload, HasRows, HasClient, HasCurrent, IsDistState}
use Rattle.mu_model_distributor_laws.proofs.ClientDue.{RowsKeep, begin_rows}
use Rattle.mu_model_distributor_laws.proofs.Rows.{kept_of, percents_of, ArePercents, kept_ranges, kept_differ, kept_length, percents_length, rows_back}

-- ---- receivers

pub with_receivers : (d : DistDurable) (new : List Receiver) → IsDistDurable d → AreReceivers new → AddressesDiffer new → length new ≤ 128 → (is_at_rest d.phase ≡ false → 0 < length new) → IsDistDurable (record d { receivers = new })
with_receivers d new h receivers differ few some = record {
  capacity = h.capacity;
  images = h.images;
  banks = h.banks;
  counter = h.counter;
  unbegun = h.unbegun;
  begun = h.begun;
  image = h.image;
  some_receiver = some;
  receivers = receivers;
  addresses = differ;
  few_receivers = few;
  upload_ttl = h.upload_ttl;
  upload_meta = h.upload_meta;
  upload_job = h.upload_job;
  upload = h.upload;
}

-- a client is there exactly while there is a distribution
pub has_rows : (rest : Bool) (receivers : List Receiver) (progress : List ℕ) (client : Option Client) (c : Client) → HasClient rest receivers progress client → client ≡ Some c → (rest ≡ false) × HasRows receivers progress c
has_rows true receivers progress client c h e = let never : None ≡ Some c = sym h ∙ e in cc
has_rows false receivers progress None c h e = absurd h
has_rows false receivers progress (Some x) c h e = let same : x ≡ c = cc in (refl, subst (HasRows receivers progress) same h)

pub client_turned : (s : DistState) (c d : Client) → IsDistState s → s.client ≡ Some c → RowsKeep c.receivers d.receivers → IsDistState (with_client s d)
client_turned s c d h e k =
    let own = has_rows (is_at_rest s.durable.phase) s.durable.receivers s.progress s.client c h.client e in
    let kept : kept_of c.receivers ≡ s.durable.receivers = own.1.receivers in
    let done : percents_of c.receivers ≡ s.progress = own.1.progress in
    let ranges = kept_ranges c.receivers d.receivers k (subst AreReceivers (sym kept) h.durable.receivers) (subst ArePercents (sym done) h.percents) in
    let differ : AddressesDiffer (kept_of d.receivers) = kept_differ c.receivers d.receivers k (subst AddressesDiffer (sym kept) h.durable.addresses) in
    let long : length (kept_of d.receivers) ≡ length s.durable.receivers = kept_length c.receivers d.receivers k ∙ ap length kept in
    record {
      durable = with_receivers s.durable (kept_of d.receivers) h.durable ranges.0 differ (rw long (h.durable.few_receivers)) (λ busy. rw long (h.durable.some_receiver busy));
      fresh = h.fresh;
      current = h.current;
      client = rw (own.0) (record { receivers = refl; progress = refl });
      progress = percents_length d.receivers;
      percents = ranges.1;
    }

-- ---- phases

busy_upload : (p q : DistPhase) (upload : Upload) → is_at_rest p ≡ false → HasUpload p upload → HasUpload q upload
busy_upload p q NoUpload busy h = tt
busy_upload p q (Uploading j) busy h = let never : true ≡ false = sym h ∙ busy in cc
busy_upload p q (Broken job) busy h = tt
busy_upload p q Uploaded busy h = tt

idle_rests : (p : DistPhase) → p ≡ Idle → is_at_rest p ≡ true
idle_rests p e = ap is_at_rest e

-- while there is a distribution, the counter isn't 0
pub counted : (d : DistDurable) → IsDistDurable d → is_at_rest d.phase ≡ false → d.counter ≡ 0 → ⊥
counted d h busy zero_is = let never : true ≡ false = sym (idle_rests d.phase (h.unbegun zero_is).0) ∙ busy in cc

-- from one distribution phase to another
pub busy_phase : (d : DistDurable) (p : DistPhase) → IsDistDurable d → is_at_rest d.phase ≡ false → IsDistDurable (record d { phase = p })
busy_phase d p h busy = record {
  capacity = h.capacity;
  images = h.images;
  banks = h.banks;
  counter = h.counter;
  unbegun = λ e. absurd (counted d h busy e);
  begun = h.begun;
  image = λ e. h.image busy;
  some_receiver = λ e. h.some_receiver busy;
  receivers = h.receivers;
  addresses = h.addresses;
  few_receivers = h.few_receivers;
  upload_ttl = h.upload_ttl;
  upload_meta = h.upload_meta;
  upload_job = h.upload_job;
  upload = busy_upload d.phase p d.upload busy h.upload;
}

-- with the client that it has
pub phase_moved : (s : DistState) (p : DistPhase) → IsDistState s → is_at_rest s.durable.phase ≡ false → is_at_rest p ≡ false → IsDistState (in_phase s p)
phase_moved s p h busy other = record {
  durable = busy_phase s.durable p h.durable busy;
  fresh = h.fresh;
  current = h.current;
  client = rw other (subst (λ b. HasClient b s.durable.receivers s.progress s.client) busy h.client);
  progress = h.progress;
  percents = h.percents;
}

-- without it
pub phase_rested : (s : DistState) (p : DistPhase) → IsDistState s → is_at_rest s.durable.phase ≡ false → is_at_rest p ≡ true → IsDistState (at_rest s p)
phase_rested s p h busy rest = record {
  durable = busy_phase s.durable p h.durable busy;
  fresh = h.fresh;
  current = h.current;
  client = rw rest refl;
  progress = h.progress;
  percents = h.percents;
}

-- ---- a client that begins

-- all of a state but its client
pub record IsReady (s : DistState) : Type 0 where
  pub durable : IsDistDurable s.durable
  pub fresh : s.fresh ≤ 3
  pub current : HasCurrent (job_of s.durable.upload) s.session.current
  pub progress : length s.progress ≡ length s.durable.receivers
  pub percents : ArePercents s.progress

pub ready : (s : DistState) → IsDistState s → IsReady s
ready s h = record { durable = h.durable; fresh = h.fresh; current = h.current; progress = h.progress; percents = h.percents }

resume_rows : (s : DistState) (stage : Stage) (plan : Plan) → length s.progress ≡ length s.durable.receivers → HasRows s.durable.receivers s.progress (resume plan (rows_of s) stage)
resume_rows s stage plan e =
    let back = rows_back s.durable.receivers s.progress e in
    let given : rows (resume plan (rows_of s) stage) ≡ rows_of s = begin_rows plan (rows_of s) stage in
    record { receivers = rw given (back.0); progress = rw given (back.1) }

client_begins : (s : DistState) (p : DistPhase) (plan : Plan) → length s.progress ≡ length s.durable.receivers → HasClient (is_at_rest p) s.durable.receivers s.progress (begun_at plan (rows_of s) (stage_in p))
client_begins s Idle plan e = refl
client_begins s TransferActive plan e = resume_rows s Transfer plan e
client_begins s TransferSuccess plan e = resume_rows s Verified plan e
client_begins s ApplyingUpdate plan e = resume_rows s Applying plan e
client_begins s Completed plan e = refl
client_begins s Failed plan e = refl
client_begins s CancelingUpdate plan e = resume_rows s Canceling plan e
client_begins s TransferSuspended plan e = resume_rows s Transfer plan e

pub begun_sound : (address : ℕ) (s : DistState) → IsReady s → IsDistState (client_begun address s)
begun_sound address s h = record {
  durable = h.durable;
  fresh = h.fresh;
  current = h.current;
  client = client_begins s s.durable.phase (plan_of address s.durable) h.progress;
  progress = h.progress;
  percents = h.percents;
}

-- ---- a record

pub run_job : (lags : Bool) (upload : Upload) → job_of (run_by lags upload) ≡ job_of upload
run_job true NoUpload = refl
run_job true (Uploading j) = refl
run_job true (Broken job) = refl
run_job true Uploaded = refl
run_job false upload = refl

run_has : (lags : Bool) (p : DistPhase) (upload : Upload) → HasUpload p upload → HasUpload p (run_by lags upload)
run_has true p NoUpload h = tt
run_has true p (Uploading j) h = tt
run_has true p (Broken job) h = tt
run_has true p Uploaded h = tt
run_has false p upload h = h

pub fresh_below : (is_long : Bool) (fresh : ℕ) → fresh ≤ 3 → fresh_after is_long fresh ≤ 3
fresh_below true fresh h = omega arith
fresh_below false fresh h = elim (fresh == 0) as (λ b. cond b 3 (fresh - 1) ≤ 3) [ true ↦ omega arith | false ↦ omega arith ]

recorded_durable : (d : DistDurable) (lags : Bool) (count : ℕ) → IsDistDurable d → IsDistDurable (record d { count = count; upload = run_by lags d.upload })
recorded_durable d lags count h = record {
  capacity = h.capacity;
  images = h.images;
  banks = h.banks;
  counter = h.counter;
  unbegun = h.unbegun;
  begun = h.begun;
  image = h.image;
  some_receiver = h.some_receiver;
  receivers = h.receivers;
  addresses = h.addresses;
  few_receivers = h.few_receivers;
  upload_ttl = h.upload_ttl;
  upload_meta = h.upload_meta;
  upload_job = rw (run_job lags d.upload) (h.upload_job);
  upload = run_has lags d.phase d.upload h.upload;
}

pub recorded_sound : (t : DistState) → IsDistState t → IsDistState (recorded t)
recorded_sound t h = record {
  durable = recorded_durable t.durable t.lags _ h.durable;
  fresh = fresh_below (is_long t.durable) t.fresh h.fresh;
  current = rw (run_job t.lags t.durable.upload) (h.current);
  client = h.client;
  progress = h.progress;
  percents = h.percents;
}

recorded_if_sound : (t : DistState) (b : Bool) → IsDistState t → IsDistState (recorded_if t b)
recorded_if_sound t true h = h
recorded_if_sound t false h = recorded_sound t h

pub committed_sound : (s t : DistState) → IsDistState t → IsDistState (committed s t)
committed_sound s t h = recorded_if_sound t _ h
