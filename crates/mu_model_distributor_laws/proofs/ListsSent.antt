-- Each packet that an event sends is a list of rows or none.
use Rattle.std.proofs.Common.{◌≡◌, ◌<◌, ◌≤◌, ℕ, zero, suc, Bool, true, false, List, [], ◌∷◌, ◌++◌, length, map, take, drop, refl, cond, arith, Option, Some, None, Result, Ok, Err}
use Rattle.std.specs.Prelude.{◌==◌, min, slice_get, MatchOption}
use Rattle.std.specs.List.{AllByRecursion}
use Rattle.std.proofs.lemmas.List.{length-take}
use Rattle.mu_model_wire.specs.Opcodes.{OneOctetIsKept, TwoOctetsAreKept}
use Rattle.mu_model_wire.specs.Packet.{Packet}
use Rattle.mu_model_wire.specs.Laws.{CanonicalIsRead, GrammarHolds}
use Rattle.mu_model_node.specs.BlobMessages.{BlobReply}
use Rattle.mu_model_node.specs.BlobTable.{Served, on_blob, on_server_time}
use Rattle.mu_model_node.specs.NodeMessages.{Request}
use Rattle.mu_model_node.specs.Events.{NodeEvent, PacketComes, TimeComes}
use Rattle.mu_model_client.specs.Answers.{Answer}
use Rattle.mu_model_client.specs.Rows.{Row}
use Rattle.mu_model_client.specs.Client.{Client}
use Rattle.mu_model_client.specs.Due.{due}
use Rattle.mu_model_distributor.specs.Requests.{DistRequest, ReceiversAdd, ReceiversDeleteAll, ReceiversGet, CapabilitiesGet, DistributionGet, DistributionStart, DistributionSuspend, DistributionCancel, DistributionApply, UploadGet, StartUpload, StartUploadOob, UploadCancel, FirmwareGet, FirmwareGetByIndex, FirmwareDelete, FirmwareDeleteAll}
use Rattle.mu_model_distributor.specs.Replies.{DistReply, ReceiversList, most_rows}
use Rattle.mu_model_distributor.specs.DistMessages.{Taken, OfDistribution, OfBlob, OfReceiver, taken_at, Sent, ByDistribution, ByBlob, ByClient, sent_octets, sent_packet}
use Rattle.mu_model_distributor.specs.DistState.{Receiver, StoredImage, Upload, NoUpload, Uploading, Broken, Uploaded, run_upload, DistState, server_of, offered, rows_by, rows_of}
use Rattle.mu_model_distributor.specs.Commit.{committed, ends, answered}
use Rattle.mu_model_distributor.specs.Receivers.{success, firmware_not_found, uri_not_supported, capabilities, rounded, receivers_status, receivers_add, receivers_delete_all}
use Rattle.mu_model_distributor.specs.Distribution.{distribution_status, distribution_start, distribution_suspend, distribution_cancel, distribution_apply}
use Rattle.mu_model_distributor.specs.Uploads.{own_id, upload_status, upload_start, upload_cancel}
use Rattle.mu_model_distributor.specs.Firmware.{no_index, index_of, firmware_status, firmware_found, firmware_at, firmware_delete, firmware_delete_all}
use Rattle.mu_model_distributor.specs.DistTable.{by_blob, on_request, hears, on_taken}
use Rattle.mu_model_distributor.specs.DistTime.{is_whole, verifies, server_waits, after_turn, sent_in, by_client, octets_of, has_turns, client_turns, client_waits, waits, on_time}
use Rattle.mu_model_distributor.specs.DistEvents.{passed_over, at_moment, on_packet, on_event}
use Rattle.mu_model_distributor.specs.Sound.{IsReceiver, AreReceivers, IsDistState, DistRequestFits, TakenFits}
use Rattle.mu_model_distributor_laws.specs.Laws.{EventFits}
use Rattle.mu_model_distributor_laws.specs.Lists.{list_at, ShowsRows, ListsShowRows}
use Rattle.mu_model_distributor_laws.proofs.Lists.{IsRow, no_list, client_other, blob_other, list_again}
use Rattle.mu_model_distributor_laws.proofs.Steps.{moved}

-- each of what is sent is no list, or shows rows of the state
abbrev Shows : DistState → ℕ × Sent → Type 0
Shows s x = ShowsRows s (list_at (sent_octets x.1))

abbrev Show : DistState → List (ℕ × Sent) → Type 0
Show s sends = AllByRecursion (Shows s) sends

none_shows : (s : DistState) (bytes : List ℕ) → list_at bytes ≡ None → ShowsRows s (list_at bytes)
none_shows s bytes e = rw e tt

-- ---- rows

pub all_dropped : (P : Row → Type 0) (n : ℕ) (given : List Row) → AllByRecursion P given → AllByRecursion P (drop n given)
all_dropped P zero given h = h
all_dropped P (suc n) [] h = tt
all_dropped P (suc n) (row ∷ given) h = all_dropped P n given h.1

pub all_taken : (P : Row → Type 0) (n : ℕ) (given : List Row) → AllByRecursion P given → AllByRecursion P (take n given)
all_taken P zero given h = tt
all_taken P (suc n) [] h = tt
all_taken P (suc n) (row ∷ given) h = (h.0, all_taken P n given h.1)

is_row : (r : Receiver) (n : ℕ) → IsReceiver r → n ≤ 100 → IsRow (rounded (record { address = r.address; phase = r.phase; update_status = r.update_status; transfer_status = r.transfer_status; progress = n; index = r.index }))
is_row r n h k = record {
  address_above = h.address_above;
  address_below = h.address_below;
  index = h.index;
  phase = h.phase;
  update_status = h.update_status;
  transfer_status = h.transfer_status;
  progress = omega (arith, k);
  even = omega arith;
}

are_rows : (rs : List Receiver) (ps : List ℕ) → AreReceivers rs → AllByRecursion (λ n. n ≤ 100) ps → AllByRecursion IsRow (map rounded (rows_by rs ps))
are_rows [] ps h k = tt
are_rows (r ∷ rs) [] h k = (is_row r 0 h.0 (omega arith), are_rows rs [] h.1 tt)
are_rows (r ∷ rs) (n ∷ ps) h k = (is_row r n h.0 k.0, are_rows rs ps h.1 k.1)

-- ---- answers

abbrev IsNoList : (ℕ → DistState → DistReply) → Type 0
IsNoList show = (n : ℕ) (u : DistState) → list_at (sent_octets (ByDistribution (show n u))) ≡ None

module _ (one : OneOctetIsKept) (two : TwoOctetsAreKept) where
  receivers_none : IsNoList receivers_status
  receivers_none n u = no_list one two (sent_octets (ByDistribution (receivers_status n u))) 0x13 _ refl refl

  distribution_none : IsNoList distribution_status
  distribution_none n u = no_list one two (sent_octets (ByDistribution (distribution_status n u))) 0x1D _ refl refl

  upload_none : IsNoList upload_status
  upload_none n u = no_list one two (sent_octets (ByDistribution (upload_status n u))) 0x22 _ refl refl

  firmware_none : (index : ℕ) (fwid : Option (List ℕ)) → IsNoList (firmware_status index fwid)
  firmware_none index fwid n u = no_list one two (sent_octets (ByDistribution (firmware_status index fwid n u))) 0x27 _ refl refl

  is_shown : (s : DistState) (show : ℕ → DistState → DistReply) → IsNoList show → (n : ℕ) (u : DistState) → ShowsRows s (list_at (sent_octets (ByDistribution (show n u))))
  is_shown s show none n u = none_shows s (sent_octets (ByDistribution (show n u))) (none n u)

  answer_shows : (s : DistState) (to : ℕ) (show : ℕ → DistState → DistReply) → IsNoList show → (r : Result DistState ℕ) → Show s (answered s to show r).sends
  answer_shows s to show n (Ok t) = (is_shown s show n 0 (committed s t), tt)
  answer_shows s to show n (Err status) = (is_shown s show n status s, tt)

  list_shows : CanonicalIsRead → GrammarHolds → (s : DistState) (first limit : ℕ) → first < 65536 → IsDistState s → ShowsRows s (list_at (sent_octets (ByDistribution (ReceiversList (length s.durable.receivers) first (take (min limit most_rows) (drop first (map rounded (rows_of s))))))))
  list_shows again grammar s first limit f h =
      let own : List Row = take (min limit most_rows) (drop first (map rounded (rows_of s))) in
      let fit : AllByRecursion IsRow own = all_taken IsRow (min limit most_rows) _ (all_dropped IsRow first _ (are_rows s.durable.receivers s.progress h.durable.receivers h.percents)) in
      let few : length own ≤ 74 = omega (arith, length-take (min limit most_rows) (drop first (map rounded (rows_of s)))) in
      rw (list_again again grammar (length s.durable.receivers) first own (omega (arith, h.durable.few_receivers)) f few fit) (first, min limit most_rows, refl)

  found_shows : (s : DistState) (fwid : List ℕ) (index : Option ℕ) → ShowsRows s (list_at (sent_octets (ByDistribution (firmware_found fwid index s))))
  found_shows s fwid None = is_shown s (firmware_status no_index (Some fwid)) (firmware_none no_index (Some fwid)) firmware_not_found s
  found_shows s fwid (Some index) = is_shown s (firmware_status index (Some fwid)) (firmware_none index (Some fwid)) success s

  at_shows : (s : DistState) (index : ℕ) (x : Option StoredImage) → ShowsRows s (list_at (sent_octets (ByDistribution (firmware_at index x s))))
  at_shows s index None = is_shown s (firmware_status index None) (firmware_none index None) firmware_not_found s
  at_shows s index (Some x) = is_shown s (firmware_status index (Some (own_id x.image.meta))) (firmware_none index (Some (own_id x.image.meta))) success s

  request_shows : CanonicalIsRead → GrammarHolds → (address : ℕ) (s : DistState) (to : ℕ) (request : DistRequest) → DistRequestFits request → IsDistState s → Show s (on_request address s to request).sends
  request_shows again grammar address s to (ReceiversAdd entries) fits h = answer_shows s to receivers_status receivers_none (receivers_add s entries)
  request_shows again grammar address s to ReceiversDeleteAll fits h = answer_shows s to receivers_status receivers_none (receivers_delete_all s)
  request_shows again grammar address s to (ReceiversGet first limit) fits h = (list_shows again grammar s first limit fits h, tt)
  request_shows again grammar address s to CapabilitiesGet fits h = (none_shows s (sent_octets (ByDistribution (capabilities s))) (no_list one two (sent_octets (ByDistribution (capabilities s))) 0x17 _ refl refl), tt)
  request_shows again grammar address s to DistributionGet fits h = (is_shown s distribution_status distribution_none success s, tt)
  request_shows again grammar address s to (DistributionStart ask) fits h = answer_shows s to distribution_status distribution_none (distribution_start address s ask s.durable.phase)
  request_shows again grammar address s to DistributionSuspend fits h = answer_shows s to distribution_status distribution_none (distribution_suspend s s.durable.phase)
  request_shows again grammar address s to DistributionCancel fits h = answer_shows s to distribution_status distribution_none (distribution_cancel s s.durable.phase)
  request_shows again grammar address s to DistributionApply fits h = answer_shows s to distribution_status distribution_none (distribution_apply s s.durable.phase)
  request_shows again grammar address s to UploadGet fits h = (is_shown s upload_status upload_none success s, tt)
  request_shows again grammar address s to (StartUpload u) fits h = answer_shows s to upload_status upload_none (upload_start s u (run_upload s))
  request_shows again grammar address s to StartUploadOob fits h = (is_shown s upload_status upload_none uri_not_supported s, tt)
  request_shows again grammar address s to UploadCancel fits h = answer_shows s to upload_status upload_none (Ok (upload_cancel s))
  request_shows again grammar address s to (FirmwareGet fwid) fits h = (found_shows s fwid (index_of s.durable.images fwid), tt)
  request_shows again grammar address s to (FirmwareGetByIndex index) fits h = (at_shows s index (slice_get s.durable.images index), tt)
  request_shows again grammar address s to (FirmwareDelete fwid) fits h = answer_shows s to (firmware_status no_index (Some fwid)) (firmware_none no_index (Some fwid)) (firmware_delete s fwid)
  request_shows again grammar address s to FirmwareDeleteAll fits h = answer_shows s to (firmware_status no_index None) (firmware_none no_index None) (firmware_delete_all s)

  -- ---- events

  blob_shows : (s : DistState) (replies : List (ℕ × BlobReply)) → Show s (map by_blob replies)
  blob_shows s [] = tt
  blob_shows s (reply ∷ replies) = (none_shows s (sent_octets (ByBlob reply.1)) (blob_other one two reply.1), blob_shows s replies)

  client_shows : (s : DistState) (packets : List (ℕ × Request)) → Show s (map by_client packets)
  client_shows s [] = tt
  client_shows s (packet ∷ packets) = (none_shows s (sent_octets (ByClient packet.1)) (client_other one two packet.1), client_shows s packets)

  join_shows : (s : DistState) (a b : List (ℕ × Sent)) → Show s a → Show s b → Show s (a ++ b)
  join_shows s [] b h k = k
  join_shows s (x ∷ a) b h k = (h.0, join_shows s a b h.1 k)

  hears_shows : (s : DistState) (from : ℕ) (answer : Answer) (client : Option Client) → Show s (hears s from answer client).sends
  hears_shows s from answer None = tt
  hears_shows s from answer (Some c) = tt

  taken_shows : CanonicalIsRead → GrammarHolds → (address : ℕ) (s : DistState) (from : ℕ) (taken : Taken) → TakenFits taken → IsDistState s → Show s (on_taken address s from taken).sends
  taken_shows again grammar address s from (OfDistribution request) fits h = request_shows again grammar address s from request fits h
  taken_shows again grammar address s from (OfBlob request) fits h = blob_shows s (on_blob (server_of s) from request).replies
  taken_shows again grammar address s from (OfReceiver answer) fits h = hears_shows s from answer s.client

  turn_shows : (address : ℕ) (s t : DistState) (reports : List (ℕ × Sent)) (client : Option Client) → Show s reports → Show s (client_waits address s t reports client).sends
  turn_shows address s t reports None k = k
  turn_shows address s t reports (Some c) k = by_phase (has_turns t.durable.phase)
    where
      by_phase : (b : Bool) → Show s (cond b (client_turns address s t reports (due c (octets_of (offered t.durable)) t.moment)) (ends s t (λ u. reports))).sends
      by_phase true =
          let u : DistState = committed s (after_turn address t (due c (octets_of (offered t.durable)) t.moment).next) in
          join_shows s reports _ k (client_shows s (sent_in u.durable.phase (due c (octets_of (offered t.durable)) t.moment).packets))
      by_phase false = k

  waits_shows : (address : ℕ) (s : DistState) (o : Served) → Show s (waits address s o).sends
  waits_shows address s o = turn_shows address s (server_waits s o) (map by_blob o.replies) s.client (blob_shows s o.replies)

  time_shows : (address : ℕ) (s : DistState) (upload : Upload) → Show s (on_time address s upload).sends
  time_shows address s (Uploading j) = by_whole (is_whole j.transfer)
    where
      by_whole : (b : Bool) → Show s (cond b (verifies s j) (waits address s (on_server_time (server_of s) (server_of s).serving))).sends
      by_whole true = tt
      by_whole false = waits_shows address s (on_server_time (server_of s) (server_of s).serving)
  time_shows address s NoUpload = waits_shows address s (on_server_time (server_of s) (server_of s).serving)
  time_shows address s (Broken job) = waits_shows address s (on_server_time (server_of s) (server_of s).serving)
  time_shows address s Uploaded = waits_shows address s (on_server_time (server_of s) (server_of s).serving)

  -- what is sent goes out in packets
  packets_show : (address : ℕ) (s : DistState) (sends : List (ℕ × Sent)) → Show s sends → AllByRecursion (λ (p : Packet). ShowsRows s (list_at p.payload)) (map (sent_packet address) sends)
  packets_show address s [] h = tt
  packets_show address s (x ∷ sends) h = (h.0, packets_show address s sends h.1)

  abbrev SentShow : DistState → List Packet → Type 0
  SentShow s sent = AllByRecursion (λ (p : Packet). ShowsRows s (list_at p.payload)) sent

  taken_sent : CanonicalIsRead → GrammarHolds → (address : ℕ) (s : DistState) (from : ℕ) (taken : Option Taken) → MatchOption taken (Unit {0}) TakenFits → IsDistState s → SentShow s (on_packet address s from taken).sent
  taken_sent again grammar address s from (Some taken) fits h = packets_show address s (on_taken address s from taken).sends (taken_shows again grammar address s from taken fits h)
  taken_sent again grammar address s from None fits h = tt

  event_shows : CanonicalIsRead → GrammarHolds → (address : ℕ) (s : DistState) (event : NodeEvent) → EventFits event → IsDistState s → SentShow s (on_event address s event).sent
  event_shows again grammar address s (PacketComes packet) fits h =
      elim (packet.to == address) as (λ b. SentShow s (cond b (on_packet address s packet.from (taken_at packet.payload)) (passed_over s)).sent) [ true ↦ taken_sent again grammar address s packet.from (taken_at packet.payload) fits h | false ↦ tt ]
  event_shows again grammar address s TimeComes fits h = packets_show address s (on_time address s (run_upload s)).sends (time_shows address s (run_upload s))

  pub lists_show : CanonicalIsRead → GrammarHolds → ListsShowRows
  lists_show again grammar address s event now fits h = event_shows again grammar address (at_moment s now) event fits (moved s now h)
