-- What each event writes.
use Rattle.std.proofs.Common.{◌≡◌, ◌<◌, ◌≤◌, ℕ, zero, suc, ◌+◌, ◌*◌, Bool, true, false, List, [], ◌∷◌, ◌++◌, length, replicate, refl, sym, ap, subst, ◌∙◌, cond, arith, Option, Some, None, Result, Ok, Err, ◌⊎◌, inl, inr, get_or}
use Rattle.std.specs.Prelude.{◌==◌, MatchOption}
use Rattle.std.specs.List.{AllByRecursion}
use Rattle.std.proofs.lemmas.List.{length-replicate, length-append}
use Rattle.mu_model_image.specs.Meta.{is_fit}
use Rattle.mu_model_image.specs.Pieces.{piece_count}
use Rattle.mu_model_node.specs.declared.FlashWork.{FlashWork}
use Rattle.mu_model_node.specs.declared.FlashWork.TheVariants.{Untouched, Recorded, Begun, PutBlock}
use Rattle.mu_model_node.specs.declared.Parameters.{Parameters}
use Rattle.mu_model_node.specs.FlashWork.{passed_by, record_work, work_by}
use Rattle.mu_model_node.specs.Slots.{at, put, is_full, joined, held_count}
use Rattle.mu_model_node.specs.BlobMessages.{BlobRequest}
use Rattle.mu_model_node.specs.BlobServer.{Transfer, CurrentBlock, Lacking, Whole, serving_by, BlobPhase, Inactive, WaitingForStart, NextBlock, NextChunk, Complete, Suspended, server_phase, Change, Same, Begins, Drops, Puts, changed}
use Rattle.mu_model_node.specs.BlobTable.{Served, on_blob, on_server_time}
use Rattle.mu_model_node.specs.Events.{NodeEvent, PacketComes, TimeComes}
use Rattle.mu_model_node.specs.Sound.{AreBlocks, HasBlocks, IsCurrent, BlobRequestFits}
use Rattle.mu_model_node.specs.Laws.{RequestsKeepStatesSound}
use Rattle.mu_model_client.specs.Answers.{Answer}
use Rattle.mu_model_client.specs.Client.{Client}
use Rattle.mu_model_client.specs.Told.{told}
use Rattle.mu_model_client.specs.Due.{due}
use Rattle.mu_model_distributor.specs.Requests.{DistRequest, ReceiversAdd, ReceiversDeleteAll, ReceiversGet, CapabilitiesGet, DistributionGet, DistributionStart, DistributionSuspend, DistributionCancel, DistributionApply, UploadGet, StartUpload, StartUploadOob, UploadCancel, FirmwareGet, FirmwareGetByIndex, FirmwareDelete, FirmwareDeleteAll}
use Rattle.mu_model_distributor.specs.Replies.{DistReply}
use Rattle.mu_model_distributor.specs.DistMessages.{Taken, OfDistribution, OfBlob, OfReceiver, taken_at, Sent}
use Rattle.mu_model_distributor.specs.DistState.{UploadJob, Upload, NoUpload, Uploading, Broken, Uploaded, job_of, run_upload, DistDurable, DistState, serving_job, server_of, offered}
use Rattle.mu_model_distributor.specs.Same.{same_durable}
use Rattle.mu_model_distributor.specs.Commit.{is_long, recorded_if, work_to, committed, ends, answered}
use Rattle.mu_model_distributor.specs.Receivers.{receivers_status, receivers_add, receivers_delete_all}
use Rattle.mu_model_distributor.specs.Distribution.{with_client, distribution_status, distribution_start, distribution_suspend, distribution_cancel, distribution_apply}
use Rattle.mu_model_distributor.specs.Uploads.{with_session, upload_status, upload_start, upload_cancel}
use Rattle.mu_model_distributor.specs.Firmware.{no_index, firmware_status, firmware_delete, firmware_delete_all}
use Rattle.mu_model_distributor.specs.DistTable.{on_request, upload_changed, blob_changed, blob_work, served, hears, on_taken}
use Rattle.mu_model_distributor.specs.DistTime.{is_whole, verifies, server_waits, octets_of, has_turns, after_turn, client_turns, client_waits, waits, on_time}
use Rattle.mu_model_distributor.specs.DistEvents.{at_moment, on_packet, on_event, dist_step}
use Rattle.mu_model_distributor.specs.Sound.{HasCurrent, IsDistState, TakenFits}
use Rattle.mu_model_distributor_laws.specs.Laws.{EventFits, blocks_held, PassesFrom, StatesPassRising, WorkLeavesOldOrNew, WorkLeadsToTheNew, pages_put, WorkIsBounded, IsLongBy, RecordsAreLongByReceivers, RecordsSaySomething}
use Rattle.mu_model_distributor_laws.proofs.Same.{same_durable_true, same_durable_refl}
use Rattle.mu_model_distributor_laws.proofs.Served.{ServedSoundly}
use Rattle.mu_model_distributor_laws.proofs.Blobs.{job_facts}
use Rattle.mu_model_distributor_laws.proofs.Puts.{PutsIn, puts_in, comes_in, count_put, at_put, few_pages}
use Rattle.mu_model_distributor_laws.proofs.Counts.{SameCount, then_counts, Counts, add_counts, delete_counts, start_counts, suspend_counts, cancel_counts, apply_counts, upload_counts, firmware_counts, all_counts, verified_counts, broken_counts, turn_counts}

-- what the work of an event says of the durable state after it
abbrev pub WorkIs : DistDurable → DistDurable → FlashWork → Type 0
WorkIs old new Untouched = new ≡ old
WorkIs old new (Recorded long) = (new.count ≡ old.count + 1) × (long ≡ is_long new)
WorkIs old new (Begun long) = (new.count ≡ old.count + 1) × (long ≡ is_long new)
WorkIs old new (PutBlock pages) = (pages ≤ 4) × (new.count ≡ old.count) × (blocks_held (job_of new.upload) ≡ blocks_held (job_of old.upload) + 1)

-- ---- an event's end

ended_by : (s t : DistState) (b : Bool) → same_durable s.durable t.durable ≡ b → SameCount s t → WorkIs s.durable (recorded_if t b).durable (work_to t b)
ended_by s t true e h = sym (same_durable_true s.durable t.durable e)
ended_by s t false e h = (ap (λ n. n + 1) h.0, refl)

pub ended : (s t : DistState) → SameCount s t → WorkIs s.durable (committed s t).durable (work_to t (same_durable s.durable t.durable))
ended s t h = ended_by s t (same_durable s.durable t.durable) refl h

led : (s : DistState) (to : ℕ) (show : ℕ → DistState → DistReply) (r : Result DistState ℕ) → Counts s r → WorkIs s.durable (answered s to show r).next.durable (answered s to show r).work
led s to show (Ok t) h = ended s t h
led s to show (Err status) h = refl

request_writes : (address : ℕ) (s : DistState) (to : ℕ) (request : DistRequest) → WorkIs s.durable (on_request address s to request).next.durable (on_request address s to request).work
request_writes address s to (ReceiversAdd entries) = led s to receivers_status (receivers_add s entries) (add_counts s entries)
request_writes address s to ReceiversDeleteAll = led s to receivers_status (receivers_delete_all s) (delete_counts s)
request_writes address s to (ReceiversGet first limit) = refl
request_writes address s to CapabilitiesGet = refl
request_writes address s to DistributionGet = refl
request_writes address s to (DistributionStart ask) = led s to distribution_status (distribution_start address s ask s.durable.phase) (start_counts address s ask s.durable.phase)
request_writes address s to DistributionSuspend = led s to distribution_status (distribution_suspend s s.durable.phase) (suspend_counts s s.durable.phase)
request_writes address s to DistributionCancel = led s to distribution_status (distribution_cancel s s.durable.phase) (cancel_counts s s.durable.phase)
request_writes address s to DistributionApply = led s to distribution_status (distribution_apply s s.durable.phase) (apply_counts s s.durable.phase)
request_writes address s to UploadGet = refl
request_writes address s to (StartUpload u) = led s to upload_status (upload_start s u (run_upload s)) (upload_counts s u (run_upload s))
request_writes address s to StartUploadOob = refl
request_writes address s to UploadCancel = ended s (upload_cancel s) (refl, omega arith)
request_writes address s to (FirmwareGet fwid) = refl
request_writes address s to (FirmwareGetByIndex index) = refl
request_writes address s to (FirmwareDelete fwid) = led s to (firmware_status no_index (Some fwid)) (firmware_delete s fwid) (firmware_counts s fwid)
request_writes address s to FirmwareDeleteAll = led s to (firmware_status no_index None) (firmware_delete_all s) (all_counts s)

hears_writes : (s : DistState) (from : ℕ) (answer : Answer) (client : Option Client) → WorkIs s.durable (hears s from answer client).next.durable (hears s from answer client).work
hears_writes s from answer None = refl
hears_writes s from answer (Some c) = ended s (with_client s (told c from answer s.moment)) (refl, omega arith)

-- ---- a BLOB message

-- an upload that is served lacks blocks
record IsJobOf (job : Option UploadJob) (t : Transfer) : Type 0 where
  of : UploadJob
  is : job ≡ Some of
  transfer : of.transfer ≡ t

by_full : (j : UploadJob) (t : Transfer) (b : Bool) → cond b (Whole j.transfer) (Lacking j.transfer) ≡ Lacking t → j.transfer ≡ t
by_full j t true e = cc
by_full j t false e = cc

by_parameters : (j : UploadJob) (t : Transfer) (parameters : Option Parameters) → serving_by j.transfer parameters ≡ Lacking t → j.transfer ≡ t
by_parameters j t None e = cc
by_parameters j t (Some p) e = by_full j t (is_full j.transfer.held) e

lacking_job : (job : Option UploadJob) (t : Transfer) → serving_job job ≡ Lacking t → IsJobOf job t
lacking_job None t e = cc
lacking_job (Some j) t e = record { of = j; is = refl; transfer = by_parameters j t j.transfer.parameters e }

changed_held : (upload : Upload) (j : UploadJob) (c : Change) → job_of upload ≡ Some j → blocks_held (job_of (upload_changed c upload)) ≡ held_count (changed c j.transfer).held
changed_held NoUpload j c e = cc
changed_held (Uploading x) j c e = let same : x ≡ j = cc in ap (λ (y : UploadJob). held_count (changed c y.transfer).held) same
changed_held (Broken None) j c e = cc
changed_held (Broken (Some x)) j c e = let same : x ≡ j = cc in ap (λ (y : UploadJob). held_count (changed c y.transfer).held) same
changed_held Uploaded j c e = cc

-- a block that is put
record IsPut (s : DistState) (block : ℕ) (octets : List ℕ) : Type 0 where
  of : UploadJob
  is : job_of s.durable.upload ≡ Some of
  parameters : Parameters
  below : block < length of.transfer.held
  unheld : at of.transfer.held block ≡ None
  blocks : AreBlocks of.transfer.size parameters (put of.transfer.held block octets)

put_writes : (s : DistState) (block : ℕ) (octets : List ℕ) → IsPut s block octets → WorkIs s.durable (blob_changed s (Puts block octets)).durable (PutBlock (piece_count (length octets) 4096))
put_writes s block octets h =
    let more : held_count (put h.of.transfer.held block octets) ≡ held_count h.of.transfer.held + 1 = count_put h.of.transfer.held block octets h.below h.unheld in
    let old : blocks_held (job_of s.durable.upload) ≡ held_count h.of.transfer.held = ap blocks_held h.is in
    let new : blocks_held (job_of (upload_changed (Puts block octets) s.durable.upload)) ≡ held_count (put h.of.transfer.held block octets) = changed_held s.durable.upload h.of (Puts block octets) h.is in
    (few_pages h.of.transfer.size h.parameters (put h.of.transfer.held block octets) block octets h.blocks (at_put h.of.transfer.held block octets h.below), refl, new ∙ (more ∙ ap (λ n. n + 1) (sym old)))

put_is : (s : DistState) (block : ℕ) (octets : List ℕ) (j : UploadJob) (c : CurrentBlock) (current : Option CurrentBlock) → job_of s.durable.upload ≡ Some j → block ≡ c.number → HasCurrent (Some j) (Some c) → ServedSoundly s.durable.capacity j (Puts block octets) current → IsPut s block octets
put_is s block octets j c current e b h k =
    let same : h.of ≡ j = cc h.is in
    let has : j.transfer.parameters ≡ Some h.parameters = subst (λ (x : UploadJob). x.transfer.parameters ≡ Some h.parameters) same h.has in
    let is = subst (λ (x : UploadJob). IsCurrent h.parameters x.transfer.held c) same h.current in
    record {
      of = j;
      is = e;
      parameters = h.parameters;
      below = rw b (is.number);
      unheld = rw b (is.unheld);
      blocks = subst (λ o. HasBlocks j.transfer.size o (put j.transfer.held block octets)) has k.blocks;
    }

put_by : RequestsKeepStatesSound → (s : DistState) (from : ℕ) (request : BlobRequest) (block : ℕ) (octets : List ℕ) (phase : BlobPhase) → BlobRequestFits request → IsDistState s → (on_blob (server_of s) from request).change ≡ Puts block octets → server_phase (server_of s) ≡ phase → PutsIn phase (Puts block octets) → IsPut s block octets
put_by law s from request block octets (NextChunk t p c) fits h e phase b =
    let k = comes_in (server_of s) (server_of s).serving t p c refl phase in
    let job = lacking_job (job_of s.durable.upload) t k.serving in
    let own : HasCurrent (Some job.of) (Some c) = subst (λ current. HasCurrent (Some job.of) current) k.current (subst (λ o. HasCurrent o s.session.current) job.is h.current) in
    let facts = job_facts law s (Some job.of) from request job.is fits h in
    put_is s block octets job.of c _ job.is b own (subst (λ change. ServedSoundly s.durable.capacity job.of change (on_blob (server_of s) from request).session.current) e facts)
put_by law s from request block octets Inactive fits h e phase b = absurd b
put_by law s from request block octets (WaitingForStart t) fits h e phase b = absurd b
put_by law s from request block octets (NextBlock t p) fits h e phase b = absurd b
put_by law s from request block octets (Complete t) fits h e phase b = absurd b
put_by law s from request block octets (Suspended t p) fits h e phase b = absurd b

change_writes : (s : DistState) (c : Change) → ((block : ℕ) (octets : List ℕ) → c ≡ Puts block octets → IsPut s block octets) → WorkIs s.durable (blob_changed s c).durable (blob_work (is_long s.durable) c)
change_writes s Same h = refl
change_writes s (Begins p) h = (refl, refl)
change_writes s Drops h = (refl, refl)
change_writes s (Puts block octets) h = put_writes s block octets (h block octets refl)

blob_writes : RequestsKeepStatesSound → (s : DistState) (from : ℕ) (request : BlobRequest) → BlobRequestFits request → IsDistState s → WorkIs s.durable (served s (on_blob (server_of s) from request)).next.durable (served s (on_blob (server_of s) from request)).work
blob_writes law s from request fits h =
    change_writes s (on_blob (server_of s) from request).change (λ block octets e. put_by law s from request block octets (server_phase (server_of s)) fits h e refl (subst (PutsIn (server_phase (server_of s))) e (puts_in (server_of s) from request)))

-- ---- time

client_writes : (address : ℕ) (s t : DistState) (reports : List (ℕ × Sent)) (client : Option Client) → SameCount s t → WorkIs s.durable (client_waits address s t reports client).next.durable (client_waits address s t reports client).work
client_writes address s t reports None e = ended s t e
client_writes address s t reports (Some c) e = by_phase (has_turns t.durable.phase)
  where
    by_phase : (b : Bool) → WorkIs s.durable (cond b (client_turns address s t reports (due c (octets_of (offered t.durable)) t.moment)) (ends s t (λ u. reports))).next.durable (cond b (client_turns address s t reports (due c (octets_of (offered t.durable)) t.moment)) (ends s t (λ u. reports))).work
    by_phase true = ended s (after_turn address t (due c (octets_of (offered t.durable)) t.moment).next) (then_counts s t (after_turn address t (due c (octets_of (offered t.durable)) t.moment).next) e (turn_counts address t (due c (octets_of (offered t.durable)) t.moment).next))
    by_phase false = ended s t e

waits_write : (address : ℕ) (s : DistState) (o : Served) → WorkIs s.durable (waits address s o).next.durable (waits address s o).work
waits_write address s o = client_writes address s (server_waits s o) _ s.client (broken_counts (with_session s o.session) o.session.link (run_upload s))

time_writes : (address : ℕ) (s : DistState) (upload : Upload) → WorkIs s.durable (on_time address s upload).next.durable (on_time address s upload).work
time_writes address s (Uploading j) = by_whole (is_whole j.transfer)
  where
    by_whole : (b : Bool) → WorkIs s.durable (cond b (verifies s j) (waits address s (on_server_time (server_of s) (server_of s).serving))).next.durable (cond b (verifies s j) (waits address s (on_server_time (server_of s) (server_of s).serving))).work
    by_whole true = ended s _ (verified_counts s j (is_fit (joined j.transfer.held) s.durable.upload_meta))
    by_whole false = waits_write address s (on_server_time (server_of s) (server_of s).serving)
time_writes address s NoUpload = waits_write address s (on_server_time (server_of s) (server_of s).serving)
time_writes address s (Broken job) = waits_write address s (on_server_time (server_of s) (server_of s).serving)
time_writes address s Uploaded = waits_write address s (on_server_time (server_of s) (server_of s).serving)

-- ---- events

taken_writes : RequestsKeepStatesSound → (address : ℕ) (s : DistState) (from : ℕ) (taken : Taken) → TakenFits taken → IsDistState s → WorkIs s.durable (on_taken address s from taken).next.durable (on_taken address s from taken).work
taken_writes law address s from (OfDistribution request) fits h = request_writes address s from request
taken_writes law address s from (OfBlob request) fits h = blob_writes law s from request fits h
taken_writes law address s from (OfReceiver answer) fits h = hears_writes s from answer s.client

packet_writes : RequestsKeepStatesSound → (address : ℕ) (s : DistState) (from : ℕ) (taken : Option Taken) → MatchOption taken (Unit {0}) TakenFits → IsDistState s → WorkIs s.durable (on_packet address s from taken).next.durable (on_packet address s from taken).work
packet_writes law address s from (Some taken) fits h = taken_writes law address s from taken fits h
packet_writes law address s from None fits h = refl

event_writes : RequestsKeepStatesSound → (address : ℕ) (s : DistState) (event : NodeEvent) → EventFits event → IsDistState s → WorkIs s.durable (on_event address s event).next.durable (on_event address s event).work
event_writes law address s (PacketComes packet) fits h =
    elim (packet.to == address) as (λ b. WorkIs s.durable (cond b (on_packet address s packet.from (taken_at packet.payload)) (record { next = s; sends = []; sent = []; handled = false; work = Untouched })).next.durable (cond b (on_packet address s packet.from (taken_at packet.payload)) (record { next = s; sends = []; sent = []; handled = false; work = Untouched })).work) [
      | true ↦ packet_writes law address s packet.from (taken_at packet.payload) fits h
      | false ↦ refl
    ]
event_writes law address s TimeComes fits h = time_writes address s (run_upload s)

pub step_writes : RequestsKeepStatesSound → (address : ℕ) (s : DistState) (event : NodeEvent) (now : ℕ) → EventFits event → IsDistState s → WorkIs s.durable (dist_step address s event now).next.durable (dist_step address s event now).work
step_writes law address s event now fits h = event_writes law address (at_moment s now) event fits (record { durable = h.durable; fresh = h.fresh; current = h.current; client = h.client; progress = h.progress; percents = h.percents })

-- ---- states passed

passes_from : (old new : DistDurable) (work : FlashWork) → WorkIs old new work → PassesFrom old new (passed_by old new work)
passes_from old new Untouched w = (refl, sym w)
passes_from old new (Recorded long) w = (refl, inl w.0, (refl, refl))
passes_from old new (Begun long) w = (refl, inl w.0, (refl, refl))
passes_from old new (PutBlock pages) w = (refl, inr (w.1, w.2), (refl, refl))

pub states_pass : RequestsKeepStatesSound → StatesPassRising
states_pass law address s event now fits h = passes_from s.durable _ _ (step_writes law address s event now fits h)

-- ---- work

record_length : {D : Type 0} (long : Bool) (fresh : ℕ) (old new : D) → length (record_work long fresh old new) ≤ 2
record_length true fresh old new = omega arith
record_length false fresh old new = elim (fresh == 0) as (λ b. length (cond b (old ∷ new ∷ []) (new ∷ [])) ≤ 2) [ true ↦ omega arith | false ↦ omega arith ]

work_length : (fresh : ℕ) (old new : DistDurable) (work : FlashWork) → WorkIs old new work → (length (work_by fresh old new work) ≤ pages_put work + 5) × (pages_put work ≤ 4)
work_length fresh old new Untouched w = (omega arith, omega arith)
work_length fresh old new (Recorded long) w = let l = record_length long fresh old new in (omega arith, omega arith)
work_length fresh old new (Begun long) w = let l = record_length long fresh old new in (omega arith, omega arith)
work_length fresh old new (PutBlock pages) w =
    let few : pages ≤ 4 = w.0 in
    let l : length (replicate (2 * pages) old ++ new ∷ []) ≡ 2 * pages + 1 = simp (length-append, length-replicate) in
    (omega arith, few)

pub work_is_bounded : RequestsKeepStatesSound → WorkIsBounded
work_is_bounded law address s event now fits h = work_length s.fresh s.durable _ _ (step_writes law address s event now fits h)

-- every state is the old one or the new one
abbrev OldOrNew : DistDurable → DistDurable → List DistDurable → Type 0
OldOrNew old new ds = AllByRecursion (λ (d : DistDurable). (d ≡ old) ⊎ (d ≡ new)) ds

copies_are : (old new : DistDurable) (n : ℕ) → OldOrNew old new (replicate n old ++ new ∷ [])
copies_are old new zero = (inr refl, tt)
copies_are old new (suc n) = (inl refl, copies_are old new n)

record_is : (long : Bool) (fresh : ℕ) (old new : DistDurable) → OldOrNew old new (record_work long fresh old new)
record_is true fresh old new = (inl refl, (inr refl, tt))
record_is false fresh old new = elim (fresh == 0) as (λ b. OldOrNew old new (cond b (old ∷ new ∷ []) (new ∷ []))) [ true ↦ (inl refl, (inr refl, tt)) | false ↦ (inr refl, tt) ]

work_is : (fresh : ℕ) (old new : DistDurable) (work : FlashWork) → OldOrNew old new (work_by fresh old new work)
work_is fresh old new Untouched = tt
work_is fresh old new (Recorded long) = record_is long fresh old new
work_is fresh old new (Begun long) = (inl refl, record_is long fresh old new)
work_is fresh old new (PutBlock pages) = copies_are old new (2 * pages)

pub work_leaves : WorkLeavesOldOrNew
work_leaves address s event now = work_is s.fresh s.durable _ (dist_step address s event now).work

copies_lead : (old new : DistDurable) (n : ℕ) → get_or (replicate n old ++ new ∷ []) n old ≡ new
copies_lead old new zero = refl
copies_lead old new (suc n) = copies_lead old new n

record_leads : (long : Bool) (fresh : ℕ) (old new first : DistDurable) → get_or (first ∷ record_work long fresh old new) (length (record_work long fresh old new)) old ≡ new
record_leads true fresh old new first = refl
record_leads false fresh old new first = elim (fresh == 0) as (λ b. get_or (first ∷ cond b (old ∷ new ∷ []) (new ∷ [])) (length (cond b (old ∷ new ∷ []) (new ∷ []))) old ≡ new) [ true ↦ refl | false ↦ refl ]

work_leads : (fresh : ℕ) (old new : DistDurable) (work : FlashWork) → WorkIs old new work → get_or (old ∷ work_by fresh old new work) (length (work_by fresh old new work)) old ≡ new
work_leads fresh old new Untouched w = sym w
work_leads fresh old new (Recorded long) w = record_leads long fresh old new old
work_leads fresh old new (Begun long) w = record_leads long fresh old new old
work_leads fresh old new (PutBlock pages) w =
    let l : length (replicate (2 * pages) old ++ new ∷ []) ≡ suc (2 * pages) = simp (length-append, length-replicate) (omega arith) in
    rw l (copies_lead old new (2 * pages))

pub work_leads_there : RequestsKeepStatesSound → WorkLeadsToTheNew
work_leads_there law address s event now fits h = work_leads s.fresh s.durable _ _ (step_writes law address s event now fits h)

-- ---- records

long_by : (old new : DistDurable) (work : FlashWork) → WorkIs old new work → IsLongBy new work
long_by old new Untouched w = tt
long_by old new (Recorded long) w = w.1
long_by old new (Begun long) w = w.1
long_by old new (PutBlock pages) w = tt

pub long_by_receivers : RequestsKeepStatesSound → RecordsAreLongByReceivers
long_by_receivers law address s event now fits h = long_by s.durable _ _ (step_writes law address s event now fits h)

untouched_if : (t : DistState) (b : Bool) → work_to t b ≡ Untouched → b ≡ true
untouched_if t true e = refl
untouched_if t false e = cc

pub records_say : RecordsSaySomething
records_say s t = (
  λ e. sym (same_durable_true s.durable t.durable (untouched_if t (same_durable s.durable t.durable) e)),
  λ e. ap (work_to t) (subst (λ d. same_durable s.durable d ≡ true) (sym e) (same_durable_refl s.durable)),
)
