-- A distributor at rest sends nothing but Partial Block Reports, and these only where time passes; whatever a node tells it, it stays at rest.
use Rattle.std.proofs.Common.{◌≡◌, ℕ, Bool, true, false, List, [], ◌∷◌, map, refl, sym, ap, subst, ◌∙◌, cond, Option, Some, None}
use Rattle.std.specs.Prelude.{◌==◌}
use Rattle.std.specs.List.{AllByRecursion}
use Rattle.mu_model_wire.specs.Opcodes.{OneOctetIsKept}
use Rattle.mu_model_wire.specs.Packet.{Packet}
use Rattle.mu_model_wire.specs.Laws.{CanonicalIsRead, GrammarHolds}
use Rattle.mu_model_node.specs.declared.Link.{Link}
use Rattle.mu_model_node.specs.declared.Link.TheVariants.{Cut, Ready, Running}
use Rattle.mu_model_node.specs.BlobMessages.{BlobReply, BlobInformationStatus, TransferStatus, BlockStatus, PartialBlockReport}
use Rattle.mu_model_image.specs.Meta.{is_fit}
use Rattle.mu_model_node.specs.Slots.{joined}
use Rattle.mu_model_node.specs.BlobServer.{Transfer, unlinked, Serving, NoJob, Lacking, Whole, Server, BlobPhase, Inactive, WaitingForStart, NextBlock, NextChunk, Complete, Suspended, server_phase}
use Rattle.mu_model_node.specs.BlobTable as b
use Rattle.mu_model_node.specs.BlobTable.{Served, silently, is_pull, pulls, waits, times_out, on_server_time}
use Rattle.mu_model_node.specs.UpdateMessages.{InformationStatus, MetadataStatus, UpdateStatus}
use Rattle.mu_model_node.specs.NodeMessages.{Reply, ByUpdate, ByBlob, message_of, reply_octets}
use Rattle.mu_model_node.specs.Events.{PacketComes, TimeComes}
use Rattle.mu_model_client.specs.Answers.{Answer, answer_of, answer_at}
use Rattle.mu_model_client.specs.Client.{Client}
use Rattle.mu_model_client.specs.Told.{told}
use Rattle.mu_model_distributor.specs.DistMessages as dist
use Rattle.mu_model_distributor.specs.DistMessages.{Sent, taken_of, taken_as, taken_in, taken_at, sent_packet}
use Rattle.mu_model_distributor.specs.DistState.{UploadJob, Upload, NoUpload, Uploading, Broken, Uploaded, DistState, run_upload, server_of}
use Rattle.mu_model_distributor.specs.Commit as commit
use Rattle.mu_model_distributor.specs.Commit.{Outcome, ends}
use Rattle.mu_model_distributor.specs.Same.{same_durable}
use Rattle.mu_model_distributor.specs.Distribution.{with_client}
use Rattle.mu_model_distributor.specs.DistTable as table
use Rattle.mu_model_distributor.specs.DistTable.{by_blob}
use Rattle.mu_model_distributor.specs.DistTime as t
use Rattle.mu_model_distributor.specs.DistTime.{has_turns}
use Rattle.mu_model_distributor.specs.DistEvents as e
use Rattle.mu_model_distributor.specs.DistEvents.{DistStep, dist_step, passed_over}
use Rattle.mu_model_mesh_completion.proofs.Replies.{ReplyFits, reply_message_read}
use Rattle.mu_model_mesh_completion.proofs.Strays.{IsReport, report_is, takes_answer, IsStray}

-- in phase 0, 2, 4, 5 or 7
abbrev pub Rests : DistState → Type 0
Rests s = has_turns s.durable.phase ≡ false

committed_rests : (x : DistState) (b : Bool) → Rests x → Rests (commit.recorded_if x b)
committed_rests x true h = h
committed_rests x false h = h

-- ---- time: reports are all that the BLOB server sends

abbrev Reports : List (ℕ × BlobReply) → Type 0
Reports replies = AllByRecursion (λ (r : ℕ × BlobReply). (chunks : List ℕ) × (r.1 ≡ PartialBlockReport chunks)) replies

abbrev SendsReports : List (ℕ × Sent) → Type 0
SendsReports sends = AllByRecursion (λ (x : ℕ × Sent). (chunks : List ℕ) × (x.1 ≡ dist.ByBlob (PartialBlockReport chunks))) sends

either : (test : Bool) (x y : Served) → Reports x.replies → Reports y.replies → Reports (cond test x y).replies
either true x y h k = h
either false x y h k = k

to_client_reports : (client : Option ℕ) (chunks : List ℕ) → Reports (b.to_client client chunks)
to_client_reports None chunks = tt
to_client_reports (Some client) chunks = ((chunks, refl), tt)

waits_reports : (v : Server) (phase : BlobPhase) → Reports (waits v phase).replies
waits_reports v (NextChunk x p c) =
    either (is_pull p) (pulls v c) (silently v.session) (either (b.is_due v c v.session.report) _ (silently v.session) (to_client_reports v.session.client (b.asked_for c)) tt) tt
waits_reports v Inactive = tt
waits_reports v (WaitingForStart x) = tt
waits_reports v (NextBlock x p) = tt
waits_reports v (Complete x) = tt
waits_reports v (Suspended x p) = tt

out_reports : (v : Server) (x : Transfer) (link : Link) → Reports (times_out v x link).replies
out_reports v x Cut = tt
out_reports v x Ready = either _ (silently (unlinked v.session)) (waits v (server_phase v)) tt (waits_reports v (server_phase v))
out_reports v x Running = either _ (silently (unlinked v.session)) (waits v (server_phase v)) tt (waits_reports v (server_phase v))

server_reports : (v : Server) (serving : Serving) → Reports (on_server_time v serving).replies
server_reports v (Lacking x) = out_reports v x v.session.link
server_reports v NoJob = tt
server_reports v (Whole x) = tt

all_reports : (replies : List (ℕ × BlobReply)) → Reports replies → SendsReports (map by_blob replies)
all_reports [] h = tt
all_reports (r ∷ replies) h = ((h.0.0, ap (λ (reply : BlobReply). dist.ByBlob reply) h.0.1), all_reports replies h.1)

-- ---- time: the distributor

record TimeRests (o : Outcome) : Type 0 where
  next : Rests o.next
  reports : SendsReports o.sends

ended_rests : (s x : DistState) → Rests x → TimeRests (ends s x (λ u. []))
ended_rests s x h = record { next = committed_rests x (same_durable s.durable x.durable) h; reports = tt }

verified_rests : (s : DistState) (j : UploadJob) (b : Bool) → Rests s → Rests (t.verified s j b)
verified_rests s j true h = h
verified_rests s j false h = h

broken_rests : (link : Link) (upload : Upload) (s : DistState) → Rests s → Rests (t.broken_by link upload s)
broken_rests Cut (Uploading j) s h = h
broken_rests Cut NoUpload s h = h
broken_rests Cut (Broken job) s h = h
broken_rests Cut Uploaded s h = h
broken_rests Ready upload s h = h
broken_rests Running upload s h = h

client_rests : (address : ℕ) (s x : DistState) (sends : List (ℕ × Sent)) (c : Option Client) → Rests x → SendsReports sends → TimeRests (t.client_waits address s x sends c)
client_rests address s x sends None h k = record { next = committed_rests x (same_durable s.durable x.durable) h; reports = k }
client_rests address s x sends (Some c) h k = rw h (record { next = committed_rests x (same_durable s.durable x.durable) h; reports = k })

waits_rests : (address : ℕ) (s : DistState) → Rests s → TimeRests (t.waits address s (on_server_time (server_of s) (server_of s).serving))
waits_rests address s h =
    let o : Served = on_server_time (server_of s) (server_of s).serving in
    client_rests address s (t.server_waits s o) (map by_blob o.replies) s.client (broken_rests o.session.link (run_upload s) _ h) (all_reports o.replies (server_reports (server_of s) (server_of s).serving))

whole_or_not : (b : Bool) (x y : Outcome) → TimeRests x → TimeRests y → TimeRests (cond b x y)
whole_or_not true x y h k = h
whole_or_not false x y h k = k

time_rests : (address : ℕ) (s : DistState) (upload : Upload) → Rests s → TimeRests (t.on_time address s upload)
time_rests address s (Uploading j) h = whole_or_not (t.is_whole j.transfer) _ _ (ended_rests s (t.verified s j (is_fit (joined j.transfer.held) s.durable.upload_meta)) (verified_rests s j (is_fit (joined j.transfer.held) s.durable.upload_meta) h)) (waits_rests address s h)
time_rests address s NoUpload h = waits_rests address s h
time_rests address s (Broken job) h = waits_rests address s h
time_rests address s Uploaded h = waits_rests address s h

module _ (kept : OneOctetIsKept) (D : ℕ → Type 0) (address : ℕ) (no : D address → ⊥) where
  sent_strays : (sends : List (ℕ × Sent)) → SendsReports sends → AllByRecursion (IsStray D) (map (sent_packet address) sends)
  sent_strays [] h = tt
  sent_strays (x ∷ sends) h = (record { sender = no; report = subst (λ (sent : Sent). IsReport (dist.sent_octets sent)) (sym h.0.1) (report_is kept h.0.0) }, sent_strays sends h.1)

  pub record StepReports (step : DistStep) : Type 0 where
    pub next : Rests step.next
    pub strays : AllByRecursion (IsStray D) step.sent

  pub dist_time_rests : (s : DistState) (now : ℕ) → Rests s → StepReports (dist_step address s TimeComes now)
  dist_time_rests s now h =
      let r = time_rests address (e.at_moment s now) (run_upload (e.at_moment s now)) h in
      record { next = r.next; strays = sent_strays _ r.reports }

-- ---- a packet

pub record StepRests (step : DistStep) : Type 0 where
  pub next : Rests step.next
  pub quiet : step.sent ≡ []

passed_rests : (s : DistState) → Rests s → StepRests (passed_over s)
passed_rests s h = record { next = h; quiet = refl }

quiet_rests : (address : ℕ) (s x : DistState) → Rests x → StepRests (e.stepped address (ends s x (λ u. [])))
quiet_rests address s x h = record { next = committed_rests x (same_durable s.durable x.durable) h; quiet = refl }

hears_rests : (address : ℕ) (s : DistState) (from : ℕ) (answer : Answer) (c : Option Client) → Rests s → StepRests (e.stepped address (table.hears s from answer c))
hears_rests address s from answer None h = record { next = h; quiet = refl }
hears_rests address s from answer (Some c) h = quiet_rests address s (with_client s (told c from answer s.moment)) h

answer_rests : (address : ℕ) (s : DistState) (from : ℕ) (answer : Option Answer) → Rests s → StepRests (e.on_packet address s from (taken_as None None answer))
answer_rests address s from None h = passed_rests s h
answer_rests address s from (Some answer) h = hears_rests address s from answer s.client h

-- a packet to another address is passed over, and what is heard in one changes no phase
hears_only : (address : ℕ) (s : DistState) (now : ℕ) (packet : Packet) (answer : Option Answer) → taken_at packet.payload ≡ taken_as None None answer → Rests s → StepRests (dist_step address s (PacketComes packet) now)
hears_only address s now packet answer is h =
    elim (packet.to == address) as (λ b. StepRests (cond b (e.on_packet address (e.at_moment s now) packet.from (taken_at packet.payload)) (passed_over (e.at_moment s now)))) [
      | true ↦ subst (λ x. StepRests (e.on_packet address (e.at_moment s now) packet.from x)) (sym is) (answer_rests address (e.at_moment s now) packet.from answer h)
      | false ↦ passed_rests (e.at_moment s now) h
    ]

told_as : (reply : Reply) → taken_of (message_of reply) ≡ taken_as None None (answer_of (message_of reply))
told_as (ByUpdate (InformationStatus count first ids)) = refl
told_as (ByUpdate (MetadataStatus status index)) = refl
told_as (ByUpdate (UpdateStatus status phase job)) = refl
told_as (ByBlob (BlobInformationStatus capacity)) = refl
told_as (ByBlob (TransferStatus status means phase id parameters absent)) = refl
told_as (ByBlob (BlockStatus status block size report)) = refl
told_as (ByBlob (PartialBlockReport chunks)) = refl

pub dist_hears : GrammarHolds → CanonicalIsRead → (address : ℕ) (s : DistState) (now : ℕ) (packet : Packet) (reply : Reply) → packet.payload ≡ reply_octets reply → ReplyFits reply → Rests s → StepRests (dist_step address s (PacketComes packet) now)
dist_hears grammar again address s now packet reply is fit h =
    hears_only address s now packet (answer_of (message_of reply)) (ap taken_at is ∙ (ap taken_in (reply_message_read grammar again reply fit) ∙ told_as reply)) h

pub dist_hears_report : (address : ℕ) (s : DistState) (now : ℕ) (packet : Packet) → IsReport packet.payload → Rests s → StepRests (dist_step address s (PacketComes packet) now)
dist_hears_report address s now packet report h = hears_only address s now packet (answer_at packet.payload) (takes_answer packet.payload report) h

pub dist_passes : (address : ℕ) (s : DistState) (now : ℕ) (packet : Packet) → (packet.to == address) ≡ false → Rests s → StepRests (dist_step address s (PacketComes packet) now)
dist_passes address s now packet other h = rw other (passed_rests (e.at_moment s now) h)
