-- What a time event does at a distributor (this profile).
use Rattle.std.specs.Prelude.{ℕ, ◌==◌, not, Bool, true, false, ◌&&◌, List, [], ◌∷◌, ◌++◌, map, Option, Some, None, if◌then◌else◌, is_some}
use Rattle.std.specs.List.{list_any, filter}
use Rattle.mu_model_image.specs.Meta.{is_fit}
use Rattle.mu_model_node.specs.Slots.{is_full, joined}
use Rattle.mu_model_node.specs.BlobServer.{Transfer as BlobTransfer, unlinked}
use Rattle.mu_model_node.specs.declared.Link.{Link}
use Rattle.mu_model_node.specs.declared.Link.TheVariants.{Cut}
use Rattle.mu_model_node.specs.BlobTable.{Served, on_server_time}
use Rattle.mu_model_distributor.specs.DistMessages.{Sent, ByClient}
use Rattle.mu_model_node.specs.UpdateMessages.{UpdateApply}
use Rattle.mu_model_node.specs.NodeMessages.{Request, OfUpdate}
use Rattle.mu_model_client.specs.declared.Stage.{Stage}
use Rattle.mu_model_client.specs.declared.Stage.TheVariants.{Transfer, Ended}
use Rattle.mu_model_client.specs.Client.{Client, is_active}
use Rattle.mu_model_client.specs.Begin.{stage_of}
use Rattle.mu_model_client.specs.Due.{Due, due}
use Rattle.mu_model_distributor.specs.DistState.{StoredImage, Receiver, UploadJob, Upload, Uploading, Broken, Uploaded, DistPhase, Idle, TransferActive, TransferSuccess, ApplyingUpdate, Completed, Failed, CancelingUpdate, DistState, run_upload, server_of, offered}
use Rattle.mu_model_distributor.specs.Commit.{Outcome, ends}
use Rattle.mu_model_distributor.specs.Distribution.{client_begun, with_client, in_phase, at_rest}
use Rattle.mu_model_distributor.specs.Uploads.{with_upload, with_session}
use Rattle.mu_model_distributor.specs.Firmware.{with_images}
use Rattle.mu_model_distributor.specs.DistTable.{by_blob}

-- ---- an upload whose blocks are all held

abbrev pub is_whole : BlobTransfer → Bool
is_whole t = is_some t.parameters && is_full t.held

abbrev pub stored : DistState → UploadJob → StoredImage
stored s j = record { bank = j.bank; image = record { octets = joined j.transfer.held; meta = s.durable.upload_meta } }

-- the blocks joined are the image that was offered, or they go; there is no job then
abbrev pub verified : DistState → UploadJob → Bool → DistState
verified s j true = with_session (with_upload (with_images s (s.durable.images ++ stored s j ∷ [])) Uploaded) (unlinked s.session)
verified s j false = with_session (with_upload s (Broken None)) (unlinked s.session)

abbrev pub verifies : DistState → UploadJob → Outcome
verifies s j = ends s (verified s j (is_fit (joined j.transfer.held) s.durable.upload_meta)) (λ u. [])

-- ---- the BLOB server

-- an active upload whose link is cut is broken off
abbrev pub broken_by : Link → Upload → DistState → DistState
broken_by Cut (Uploading j) s = with_upload s (Broken (Some j))
broken_by link upload s = s

abbrev pub server_waits : DistState → Served → DistState
server_waits s o = broken_by o.session.link (run_upload s) (with_session s o.session)

-- ---- the client

abbrev pub is_phase : List ℕ → Receiver → Bool
is_phase phases r = list_any (λ p. r.phase == p) phases

-- whether a row is in one of these phases
abbrev pub has_phase : List Receiver → List ℕ → Bool
has_phase receivers phases = list_any (is_phase phases) receivers

-- when no receiver is active any more, the client goes on as after a boot in the phase
abbrev pub goes_on_by : ℕ → DistState → Bool → DistState
goes_on_by address s true = s
goes_on_by address s false = client_begun address s

abbrev pub goes_on : ℕ → DistState → Client → DistPhase → DistState
goes_on address s c phase = goes_on_by address (in_phase s phase) (list_any is_active c.receivers)

-- verifying has ended: no receiver has the image, or it is to be applied, or that is all
abbrev pub has_verified : ℕ → DistState → Client → DistState
has_verified address s c =
    if not (has_phase s.durable.receivers (4 ∷ 6 ∷ 8 ∷ [])) then at_rest s Failed
    else goes_on address s c (if s.durable.settings.policy == 1 then ApplyingUpdate else TransferSuccess)

-- confirming has ended
abbrev pub has_applied : DistState → DistState
has_applied s = at_rest s (if has_phase s.durable.receivers (8 ∷ []) then Completed else Failed)

-- what the distribution comes to where its client is at a stage
abbrev pub advanced : ℕ → DistState → Client → DistPhase → Stage → DistState
advanced address s c TransferActive Transfer = s
advanced address s c TransferActive stage = has_verified address s c
advanced address s c ApplyingUpdate Ended = has_applied s
advanced address s c CancelingUpdate Ended = at_rest s Idle
advanced address s c phase stage = s

abbrev pub after_turn : ℕ → DistState → Client → DistState
after_turn address s c = advanced address (with_client s c) c s.durable.phase (stage_of c)

abbrev pub is_apply : Request → Bool
is_apply (OfUpdate UpdateApply) = true
is_apply _ = false

-- a distribution that has failed asks nobody to apply
abbrev pub sent_in : DistPhase → List (ℕ × Request) → List (ℕ × Request)
sent_in Failed packets = filter (λ (packet : ℕ × Request). not (is_apply packet.1)) packets
sent_in _ packets = packets

abbrev pub by_client : ℕ × Request → ℕ × Sent
by_client packet = (packet.0, ByClient packet.1)

-- s before the event, t after the BLOB server's part of it, with what that sends
abbrev pub client_turns : ℕ → DistState → DistState → List (ℕ × Sent) → Due → Outcome
client_turns address s t reports d = ends s (after_turn address t d.next) (λ u. reports ++ map by_client (sent_in u.durable.phase d.packets))

-- the octets that are distributed
abbrev pub octets_of : Option StoredImage → List ℕ
octets_of None = []
octets_of (Some x) = x.image.octets

-- the phases in which the client has time events
abbrev pub has_turns : DistPhase → Bool
has_turns TransferActive = true
has_turns ApplyingUpdate = true
has_turns CancelingUpdate = true
has_turns _ = false

abbrev pub client_waits : ℕ → DistState → DistState → List (ℕ × Sent) → Option Client → Outcome
client_waits address s t reports None = ends s t (λ u. reports)
client_waits address s t reports (Some c) =
    if has_turns t.durable.phase then client_turns address s t reports (due c (octets_of (offered t.durable)) t.moment)
    else ends s t (λ u. reports)

-- ---- the event

-- the BLOB server's packets come before the client's
abbrev pub waits : ℕ → DistState → Served → Outcome
waits address s o = client_waits address s (server_waits s o) (map by_blob o.replies) s.client

abbrev pub on_time : ℕ → DistState → Upload → Outcome
on_time address s (Uploading j) = if is_whole j.transfer then verifies s j else waits address s (on_server_time (server_of s) (server_of s).serving)
on_time address s _ = waits address s (on_server_time (server_of s) (server_of s).serving)
