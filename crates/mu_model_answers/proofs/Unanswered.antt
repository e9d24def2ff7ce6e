-- What is sent on a packet is answered by nothing.
use Rattle.std.proofs.Common.{◌≡◌, ℕ, Bool, true, false, List, [], ◌∷◌, map, refl, sym, ap, subst, ◌∙◌, cond, Option, Some, None, Result, Ok, Err}
use Rattle.std.specs.Prelude.{◌==◌}
use Rattle.std.specs.List.{AllByRecursion}
use Rattle.mu_model_wire.specs.Packet.{Packet}
use Rattle.mu_model_node.specs.declared.NodeConfig.{NodeConfig}
use Rattle.mu_model_node.specs.NodeState.{NodeState, is_addressee}
use Rattle.mu_model_node.specs.BlobMessages.{BlobReply}
use Rattle.mu_model_node.specs.BlobTable.{on_blob}
use Rattle.mu_model_node.specs.NodeMessages.{Request, Reply, ByBlob as NodeByBlob, request_at, reply_octets, reply_packet}
use Rattle.mu_model_node.specs.Events.{PacketComes, node_step, on_packet as node_on_packet, passed_over as node_passed_over, at_moment as node_at_moment, on_request as node_on_request}
use Rattle.mu_model_client.specs.Answers.{Answer, answer_at}
use Rattle.mu_model_client.specs.Client.{Client}
use Rattle.mu_model_client.specs.Packets.{answer_handled}
use Rattle.mu_model_distributor.specs.Requests.{DistRequest, ReceiversAdd, ReceiversDeleteAll, ReceiversGet, CapabilitiesGet, DistributionGet, DistributionStart, DistributionSuspend, DistributionCancel, DistributionApply, UploadGet, StartUpload, StartUploadOob, UploadCancel, FirmwareGet, FirmwareGetByIndex, FirmwareDelete, FirmwareDeleteAll}
use Rattle.mu_model_distributor.specs.Replies.{DistReply}
use Rattle.mu_model_distributor.specs.DistMessages.{Taken, OfDistribution, OfBlob, OfReceiver, taken_at, Sent, ByDistribution, ByBlob, ByClient, sent_octets, sent_packet}
use Rattle.mu_model_distributor.specs.DistState.{DistState, server_of, run_upload}
use Rattle.mu_model_distributor.specs.Commit.{Outcome, answered}
use Rattle.mu_model_distributor.specs.Receivers.{receivers_status, receivers_add, receivers_delete_all}
use Rattle.mu_model_distributor.specs.Distribution.{distribution_status, distribution_start, distribution_suspend, distribution_cancel, distribution_apply}
use Rattle.mu_model_distributor.specs.Uploads.{upload_status, upload_start}
use Rattle.mu_model_distributor.specs.Firmware.{no_index, firmware_status, firmware_delete, firmware_delete_all}
use Rattle.mu_model_distributor.specs.DistTable.{by_blob, on_request, served, hears, on_taken}
use Rattle.mu_model_distributor.specs.DistEvents.{dist_step, on_packet, passed_over, at_moment}
use Rattle.mu_model_updater.specs.Updater.{Updater, updater_step}
use Rattle.mu_model_answers.specs.Laws.{AsksNothing, AreNoRequest, IsUnanswered, NodeAnswersAreUnanswered, DistributorAnswersAreUnanswered, UpdatersAnswerNothing, AsksOfNobody}

-- ---- nothing is sent

handled_silent : (c : Client) (from now : ℕ) (answer : Option Answer) → (answer_handled c from now answer).sent ≡ []
handled_silent c from now None = refl
handled_silent c from now (Some answer) = refl

pub updater_silent : UpdatersAnswerNothing
updater_silent u p now = by_address (p.to == u.client.sending.from)
  where
    by_address : (b : Bool) → (cond b (answer_handled u.client p.from now (answer_at p.payload)) (answer_handled u.client p.from now None)).sent ≡ []
    by_address true = handled_silent u.client p.from now (answer_at p.payload)
    by_address false = refl

node_quiet : (config : NodeConfig) (s : NodeState) (from : ℕ) (request : Option Request) → request ≡ None → (node_on_packet config s from request).sent ≡ []
node_quiet config s from request e = ap (λ r. (node_on_packet config s from r).sent) e

node_silent : (p : Packet) → request_at p.payload ≡ None → (config : NodeConfig) (s : NodeState) (now : ℕ) → (node_step config s (PacketComes p) now).sent ≡ []
node_silent p e config s now = by_address (is_addressee config p)
  where
    by_address : (b : Bool) → (cond b (node_on_packet config (node_at_moment s now) p.from (request_at p.payload)) (node_passed_over (node_at_moment s now))).sent ≡ []
    by_address true = node_quiet config (node_at_moment s now) p.from (request_at p.payload) e
    by_address false = refl

hears_silent : (address : ℕ) (s : DistState) (from : ℕ) (answer : Answer) (client : Option Client) → map (sent_packet address) (hears s from answer client).sends ≡ []
hears_silent address s from answer None = refl
hears_silent address s from answer (Some c) = refl

dist_quiet : (address : ℕ) (s : DistState) (from : ℕ) (taken : Option Taken) → AsksNothing taken → (on_packet address s from taken).sent ≡ []
dist_quiet address s from None h = refl
dist_quiet address s from (Some (OfReceiver answer)) h = hears_silent address s from answer s.client
dist_quiet address s from (Some (OfDistribution request)) h = absurd h
dist_quiet address s from (Some (OfBlob request)) h = absurd h

dist_silent : (p : Packet) → AsksNothing (taken_at p.payload) → (address : ℕ) (s : DistState) (now : ℕ) → (dist_step address s (PacketComes p) now).sent ≡ []
dist_silent p h address s now = by_address (p.to == address)
  where
    by_address : (b : Bool) → (cond b (on_packet address (at_moment s now) p.from (taken_at p.payload)) (passed_over (at_moment s now))).sent ≡ []
    by_address true = dist_quiet address (at_moment s now) p.from (taken_at p.payload) h
    by_address false = refl

silent : (p : Packet) → AreNoRequest p.payload → IsUnanswered p
silent p h = record { by_node = node_silent p h.of_node; by_distributor = dist_silent p h.of_distributor; by_updater = λ u now. updater_silent u p now }

-- ---- what a node sends

module _ (asks_nothing : AsksOfNobody) where
  replies_silent : (from : ℕ) (replies : List (ℕ × Reply)) → AllByRecursion IsUnanswered (map (reply_packet from) replies)
  replies_silent from [] = tt
  replies_silent from (r ∷ replies) = (silent (reply_packet from r) (asks_nothing.replies r.1), replies_silent from replies)

  node_answers : (config : NodeConfig) (s : NodeState) (from : ℕ) (request : Option Request) → AllByRecursion IsUnanswered (node_on_packet config s from request).sent
  node_answers config s from None = tt
  node_answers config s from (Some request) = replies_silent config.address (node_on_request s from request).replies

  pub node_unanswered : NodeAnswersAreUnanswered
  node_unanswered config s p now = by_address (is_addressee config p)
    where
      by_address : (b : Bool) → AllByRecursion IsUnanswered (cond b (node_on_packet config (node_at_moment s now) p.from (request_at p.payload)) (node_passed_over (node_at_moment s now))).sent
      by_address true = node_answers config (node_at_moment s now) p.from (request_at p.payload)
      by_address false = tt

  -- ---- what a distributor sends

  -- no message of its client
  abbrev IsReply : ℕ × Sent → Type 0
  IsReply (to, ByDistribution reply) = Unit {0}
  IsReply (to, ByBlob reply) = Unit {0}
  IsReply (to, ByClient request) = ⊥

  sent_silent : (from : ℕ) (sent : ℕ × Sent) → IsReply sent → IsUnanswered (sent_packet from sent)
  sent_silent from (to, ByDistribution reply) h = silent (sent_packet from (to, ByDistribution reply)) (asks_nothing.statuses reply)
  sent_silent from (to, ByBlob reply) h = silent (sent_packet from (to, ByBlob reply)) (asks_nothing.replies (NodeByBlob reply))
  sent_silent from (to, ByClient request) h = absurd h

  all_silent : (from : ℕ) (sends : List (ℕ × Sent)) → AllByRecursion IsReply sends → AllByRecursion IsUnanswered (map (sent_packet from) sends)
  all_silent from [] h = tt
  all_silent from (s ∷ sends) h = (sent_silent from s h.0, all_silent from sends h.1)

  blobs_reply : (replies : List (ℕ × BlobReply)) → AllByRecursion IsReply (map by_blob replies)
  blobs_reply [] = tt
  blobs_reply (r ∷ replies) = (tt, blobs_reply replies)

  answered_replies : (s : DistState) (to : ℕ) (show : ℕ → DistState → DistReply) (r : Result DistState ℕ) → AllByRecursion IsReply (answered s to show r).sends
  answered_replies s to show (Ok t) = (tt, tt)
  answered_replies s to show (Err status) = (tt, tt)

  hears_replies : (s : DistState) (from : ℕ) (answer : Answer) (client : Option Client) → AllByRecursion IsReply (hears s from answer client).sends
  hears_replies s from answer None = tt
  hears_replies s from answer (Some c) = tt

  request_replies : (address : ℕ) (s : DistState) (to : ℕ) (request : DistRequest) → AllByRecursion IsReply (on_request address s to request).sends
  request_replies address s to (ReceiversAdd entries) = answered_replies s to receivers_status (receivers_add s entries)
  request_replies address s to ReceiversDeleteAll = answered_replies s to receivers_status (receivers_delete_all s)
  request_replies address s to (ReceiversGet first limit) = (tt, tt)
  request_replies address s to CapabilitiesGet = (tt, tt)
  request_replies address s to DistributionGet = (tt, tt)
  request_replies address s to (DistributionStart ask) = answered_replies s to distribution_status (distribution_start address s ask s.durable.phase)
  request_replies address s to DistributionSuspend = answered_replies s to distribution_status (distribution_suspend s s.durable.phase)
  request_replies address s to DistributionCancel = answered_replies s to distribution_status (distribution_cancel s s.durable.phase)
  request_replies address s to DistributionApply = answered_replies s to distribution_status (distribution_apply s s.durable.phase)
  request_replies address s to UploadGet = (tt, tt)
  request_replies address s to (StartUpload u) = answered_replies s to upload_status (upload_start s u (run_upload s))
  request_replies address s to StartUploadOob = (tt, tt)
  request_replies address s to UploadCancel = (tt, tt)
  request_replies address s to (FirmwareGet fwid) = (tt, tt)
  request_replies address s to (FirmwareGetByIndex index) = (tt, tt)
  request_replies address s to (FirmwareDelete fwid) = answered_replies s to (firmware_status no_index (Some fwid)) (firmware_delete s fwid)
  request_replies address s to FirmwareDeleteAll = answered_replies s to (firmware_status no_index None) (firmware_delete_all s)

  taken_replies : (address : ℕ) (s : DistState) (from : ℕ) (taken : Taken) → AllByRecursion IsReply (on_taken address s from taken).sends
  taken_replies address s from (OfDistribution request) = request_replies address s from request
  taken_replies address s from (OfBlob request) = blobs_reply (on_blob (server_of s) from request).replies
  taken_replies address s from (OfReceiver answer) = hears_replies s from answer s.client

  dist_answers : (address : ℕ) (s : DistState) (from : ℕ) (taken : Option Taken) → AllByRecursion IsUnanswered (on_packet address s from taken).sent
  dist_answers address s from None = tt
  dist_answers address s from (Some taken) = all_silent address (on_taken address s from taken).sends (taken_replies address s from taken)

  pub distributor_unanswered : DistributorAnswersAreUnanswered
  distributor_unanswered address s p now = by_address (p.to == address)
    where
      by_address : (b : Bool) → AllByRecursion IsUnanswered (cond b (on_packet address (at_moment s now) p.from (taken_at p.payload)) (passed_over (at_moment s now))).sent
      by_address true = dist_answers address (at_moment s now) p.from (taken_at p.payload)
      by_address false = tt
