-- What time makes of a distributor's rows, and any event.
use Rattle.std.proofs.Common.{◌≡◌, ℕ, Bool, true, false, List, [], ◌∷◌, map, refl, sym, ap, subst, ◌∙◌, cond, Option, Some, None}
use Rattle.std.specs.Prelude.{◌==◌, not, max}
use Rattle.std.specs.List.{list_any}
use Rattle.mu_model_wire.specs.Packet.{Packet}
use Rattle.mu_model_node.specs.declared.Link.{Link}
use Rattle.mu_model_node.specs.declared.Link.TheVariants.{Cut, Ready, Running}
use Rattle.mu_model_node.specs.BlobTable.{Served, on_server_time}
use Rattle.mu_model_node.specs.Events.{NodeEvent, PacketComes, TimeComes}
use Rattle.mu_model_client.specs.declared.Stage.{Stage}
use Rattle.mu_model_client.specs.declared.Stage.TheVariants.{Transfer, Verified, Applying, Canceling, Ended}
use Rattle.mu_model_client.specs.Begin.{stage_of}
use Rattle.mu_model_client.specs.Client.{Receiver as Told, Client, is_active, rows, row_of as row_in}
use Rattle.mu_model_client.specs.Due.{due}
use Rattle.mu_model_client_laws.specs.Laws.{RowsFollowPackets}
use Rattle.mu_model_distributor.specs.DistMessages.{Sent, taken_at}
use Rattle.mu_model_distributor.specs.declared.DistPhase.{DistPhase}
use Rattle.mu_model_distributor.specs.declared.DistPhase.TheVariants.{Idle, TransferActive, TransferSuccess, ApplyingUpdate, Completed, Failed, CancelingUpdate, TransferSuspended}
use Rattle.mu_model_distributor.specs.DistState.{Receiver, UploadJob, Upload, NoUpload, Uploading, Broken, Uploaded, run_by, run_upload, DistDurable, DistState, is_at_rest, server_of, offered, receiver_of}
use Rattle.mu_model_distributor.specs.Commit.{committed, ends}
use Rattle.mu_model_distributor.specs.Distribution.{with_client, in_phase, at_rest}
use Rattle.mu_model_distributor.specs.Uploads.{with_session}
use Rattle.mu_model_distributor.specs.DistTable.{by_blob}
use Rattle.mu_model_distributor.specs.DistTime.{is_whole, verifies, broken_by, server_waits, has_phase, goes_on_by, goes_on, has_verified, advanced, after_turn, octets_of, has_turns, client_turns, client_waits, waits, on_time}
use Rattle.mu_model_distributor.specs.DistEvents.{at_moment, on_packet, passed_over, dist_step}
use Rattle.mu_model_distributor.specs.Sound.{HasUpload, IsDistState}
use Rattle.mu_model_distributor_laws.specs.Laws.{EventFits}
use Rattle.mu_model_distributor_laws.specs.Planned.{IsPlanned}
use Rattle.mu_model_distributor_laws.specs.RowMoves.{ReceiversMove, RowsMoveByCause}
use Rattle.mu_model_rows.specs.Clients.{Each, IsInTime, phase_in_time}
use Rattle.mu_model_rows.specs.Distributors.{phase_kept, phase_said, phases_waited, RowsAreExact}
use Rattle.mu_model_rows.proofs.Timed.{time_is_exact}
use Rattle.mu_model_rows.proofs.Heard.{committed_rows, packet_exact}

-- ---- the client's turn

in_time : (c : Client) (now : ℕ) (rs ss : List Told) → Each (IsInTime c now) rs ss → map phase_kept (map receiver_of (map row_in ss)) ≡ map (phase_in_time c now) rs
in_time c now [] [] h = refl
in_time c now [] (s ∷ ss) h = absurd h
in_time c now (r ∷ rs) [] h = absurd h
in_time c now (r ∷ rs) (s ∷ ss) h = rw (h.0.phase_is, in_time c now rs ss h.1) refl

abbrev SameRows : DistState → DistState → Type 0
SameRows s t = t.durable.receivers ≡ s.durable.receivers

going_rows : (address : ℕ) (s : DistState) (b : Bool) → SameRows s (goes_on_by address s b)
going_rows address s true = refl
going_rows address s false = refl

either : (s : DistState) (b : Bool) (x y : DistState) → SameRows s x → SameRows s y → SameRows s (cond b x y)
either s true x y h k = h
either s false x y h k = k

verifying_rows : (address : ℕ) (s : DistState) (c : Client) → SameRows s (has_verified address s c)
verifying_rows address s c =
    let p : DistPhase = cond (s.durable.settings.policy == 1) ApplyingUpdate TransferSuccess in
    either s (not (has_phase s.durable.receivers (4 ∷ 6 ∷ 8 ∷ []))) (at_rest s Failed) (goes_on address s c p) refl (going_rows address (in_phase s p) (list_any is_active c.receivers))

advanced_rows : (address : ℕ) (s : DistState) (c : Client) (p : DistPhase) (stage : Stage) → SameRows s (advanced address s c p stage)
advanced_rows address s c TransferActive Transfer = refl
advanced_rows address s c TransferActive Verified = verifying_rows address s c
advanced_rows address s c TransferActive Applying = verifying_rows address s c
advanced_rows address s c TransferActive Canceling = verifying_rows address s c
advanced_rows address s c TransferActive Ended = verifying_rows address s c
advanced_rows address s c ApplyingUpdate Ended = refl
advanced_rows address s c ApplyingUpdate Transfer = refl
advanced_rows address s c ApplyingUpdate Verified = refl
advanced_rows address s c ApplyingUpdate Applying = refl
advanced_rows address s c ApplyingUpdate Canceling = refl
advanced_rows address s c CancelingUpdate Ended = refl
advanced_rows address s c CancelingUpdate Transfer = refl
advanced_rows address s c CancelingUpdate Verified = refl
advanced_rows address s c CancelingUpdate Applying = refl
advanced_rows address s c CancelingUpdate Canceling = refl
advanced_rows address s c Idle stage = refl
advanced_rows address s c TransferSuccess stage = refl
advanced_rows address s c Completed stage = refl
advanced_rows address s c Failed stage = refl
advanced_rows address s c TransferSuspended stage = refl

-- ---- the BLOB server's part

abbrev Alike : DistState → DistState → Type 0
Alike s t = (t.durable.receivers ≡ s.durable.receivers) × (t.durable.phase ≡ s.durable.phase) × (t.moment ≡ s.moment)

broken_alike : (s : DistState) (link : Link) (upload : Upload) → Alike s (broken_by link upload s)
broken_alike s Cut (Uploading j) = (refl, refl, refl)
broken_alike s Cut NoUpload = (refl, refl, refl)
broken_alike s Cut (Broken job) = (refl, refl, refl)
broken_alike s Cut Uploaded = (refl, refl, refl)
broken_alike s Ready upload = (refl, refl, refl)
broken_alike s Running upload = (refl, refl, refl)

client_exact : (address : ℕ) (s t : DistState) (reports : List (ℕ × Sent)) (client : Option Client) → Alike s t → map phase_kept (client_waits address s t reports client).next.durable.receivers ≡ phases_waited s s.moment client
client_exact address s t reports None a = ap (λ rs. map phase_kept rs) (committed_rows s t ∙ a.0)
client_exact address s t reports (Some c) a =
    subst (λ p. map phase_kept (client_waits address s t reports (Some c)).next.durable.receivers ≡ cond (has_turns p) (map (phase_in_time c s.moment) c.receivers) (map phase_kept s.durable.receivers)) a.1 (by_turns (has_turns t.durable.phase))
  where
    by_turns : (b : Bool) → map phase_kept (cond b (client_turns address s t reports (due c (octets_of (offered t.durable)) t.moment)) (ends s t (λ u. reports))).next.durable.receivers ≡ cond b (map (phase_in_time c s.moment) c.receivers) (map phase_kept s.durable.receivers)
    by_turns true =
        let n : Client = (due c (octets_of (offered t.durable)) t.moment).next in
        ap (λ rs. map phase_kept rs) (committed_rows s (after_turn address t n) ∙ advanced_rows address (with_client t n) n t.durable.phase (stage_of n))
        ∙ (in_time c t.moment c.receivers n.receivers (time_is_exact c t.moment) ∙ ap (λ m. map (phase_in_time c m) c.receivers) a.2)
    by_turns false = ap (λ rs. map phase_kept rs) (committed_rows s t ∙ a.0)

waits_exact : (address : ℕ) (s : DistState) (o : Served) → map phase_kept (waits address s o).next.durable.receivers ≡ phases_waited s s.moment s.client
waits_exact address s o = client_exact address s (server_waits s o) (map by_blob o.replies) s.client (broken_alike (with_session s o.session) o.session.link (run_upload s))

still_uploading : (lags : Bool) (upload : Upload) (j : UploadJob) → run_by lags upload ≡ Uploading j → upload ≡ Uploading j
still_uploading true (Uploading x) j e = cc
still_uploading true NoUpload j e = cc
still_uploading true (Broken job) j e = cc
still_uploading true Uploaded j e = cc
still_uploading false upload j e = e

time_exact : (address : ℕ) (s : DistState) (upload : Upload) → run_upload s ≡ upload → IsDistState s → is_at_rest s.durable.phase ≡ false → map phase_kept (on_time address s upload).next.durable.receivers ≡ phases_waited s s.moment s.client
time_exact address s (Uploading j) e h busy =
    let rest : is_at_rest s.durable.phase ≡ true = subst (HasUpload s.durable.phase) (still_uploading s.lags s.durable.upload j e) h.durable.upload in
    let never : true ≡ false = sym rest ∙ busy in
    cc
time_exact address s NoUpload e h busy = waits_exact address s (on_server_time (server_of s) (server_of s).serving)
time_exact address s (Broken job) e h busy = waits_exact address s (on_server_time (server_of s) (server_of s).serving)
time_exact address s Uploaded e h busy = waits_exact address s (on_server_time (server_of s) (server_of s).serving)

-- ---- any event

later : (s : DistState) (now : ℕ) → IsDistState s → IsDistState (at_moment s now)
later s now h = record { durable = h.durable; fresh = h.fresh; current = h.current; client = h.client; progress = h.progress; percents = h.percents }

later_planned : (address : ℕ) (s : DistState) (now : ℕ) → IsPlanned address s → IsPlanned address (at_moment s now)
later_planned address s now k = record { plan = k.plan; place = k.place }

pub rows_are_exact : RowsFollowPackets → RowsMoveByCause → RowsAreExact
rows_are_exact law causes address s (PacketComes p) now fits h plan busy = by_address (p.to == address) (causes address s (PacketComes p) now fits h plan)
  where
    by_address : (b : Bool) → ReceiversMove address s.durable (PacketComes p) (cond b (on_packet address (at_moment s now) p.from (taken_at p.payload)) (passed_over (at_moment s now))).next.durable
        → map phase_kept (cond b (on_packet address (at_moment s now) p.from (taken_at p.payload)) (passed_over (at_moment s now))).next.durable.receivers ≡ cond b (map (phase_said address s.durable p.from (taken_at p.payload)) s.durable.receivers) (map phase_kept s.durable.receivers)
    by_address true move = packet_exact law address (at_moment s now) p (later s now h) (later_planned address s now plan) busy (taken_at p.payload) refl move
    by_address false move = refl
rows_are_exact law causes address s TimeComes now fits h plan busy = time_exact address (at_moment s now) (run_upload s) refl (later s now h) busy
