-- An event of a distributor that sends a Receivers List begins no distribution.
use Rattle.std.proofs.Common.{arith, ◌≡◌, ◌⊎◌, ◌<◌, ℕ, ◌+◌, ◌*◌, ◌==◌, Bool, true, false, cond, List, [], ◌∷◌, length, map, refl, sym, subst, ◌∙◌, inl, inr, Option, Some, None, Result, Ok, Err, Contains}
use Rattle.std.specs.Prelude.{◌%◌, nat_lt}
use Rattle.std.specs.List.{AllByRecursion}
use Rattle.mu_model_wire.specs.Fields.{Message}
use Rattle.mu_model_wire.specs.Opcodes.{TwoOctetsAreKept}
use Rattle.mu_model_wire.specs.Packet.{Packet}
use Rattle.mu_model_wire.specs.Reading.{message_at}
use Rattle.mu_model_wire.specs.Table.{rows}
use Rattle.mu_model_wire.specs.declared.Refusal.{Refusal}
use Rattle.mu_model_node.specs.declared.Link.{Link}
use Rattle.mu_model_node.specs.declared.Link.TheVariants.{Cut, Ready, Running}
use Rattle.mu_model_node.specs.BlobServer.{Change, Same, Begins, Drops, Puts}
use Rattle.mu_model_node.specs.BlobTable.{Served, on_blob, on_server_time}
use Rattle.mu_model_node.specs.Events.{NodeEvent, PacketComes, TimeComes}
use Rattle.mu_model_client.specs.Answers.{Answer}
use Rattle.mu_model_client.specs.Client.{Client}
use Rattle.mu_model_client.specs.Rows.{Row}
use Rattle.mu_model_distributor.specs.Commit.{Outcome, committed, recorded_if, answered}
use Rattle.mu_model_distributor.specs.DistEvents.{at_moment, passed_over, on_packet, on_event, stepped, dist_step}
use Rattle.mu_model_distributor.specs.DistMessages.{Taken, OfDistribution, OfBlob, OfReceiver, taken_at, Sent, ByDistribution, sent_octets, sent_packet}
use Rattle.mu_model_distributor.specs.DistState.{Upload, NoUpload, Uploading, Broken, Uploaded, run_upload, DistState, server_of, is_at_rest}
use Rattle.mu_model_distributor.specs.DistTable.{by_blob, blob_changed, hears, on_request, on_taken}
use Rattle.mu_model_distributor.specs.DistTime.{is_whole, verifies, broken_by, server_waits, waits, client_waits, on_time}
use Rattle.mu_model_distributor.specs.Distribution.{distribution_status, distribution_start, distribution_suspend, distribution_cancel, distribution_apply}
use Rattle.mu_model_distributor.specs.Firmware.{no_index, firmware_status, firmware_delete, firmware_delete_all}
use Rattle.mu_model_distributor.specs.Receivers.{receivers_status, receivers_add, receivers_delete_all}
use Rattle.mu_model_distributor.specs.Replies.{DistReply}
use Rattle.mu_model_distributor.specs.Requests.{DistRequest, ReceiversAdd, ReceiversDeleteAll, ReceiversGet, CapabilitiesGet, DistributionGet, DistributionStart, DistributionSuspend, DistributionCancel, DistributionApply, UploadGet, StartUpload, StartUploadOob, UploadCancel, FirmwareGet, FirmwareGetByIndex, FirmwareDelete, FirmwareDeleteAll}
use Rattle.mu_model_distributor.specs.Same.{same_durable}
use Rattle.mu_model_distributor.specs.Sound.{IsDistState, HasClient}
use Rattle.mu_model_distributor.specs.Uploads.{with_session, upload_status, upload_start, upload_cancel}
use Rattle.mu_model_distributor_laws.specs.Lists.{list_in, list_at}
use Rattle.mu_model_distributor_laws.specs.RowsTold.{OffersStand}
use Rattle.mu_model_mesh_safety.proofs.Shown.{first_or}

-- ---- what is no list

-- octets of another opcode
other : (opcode : ℕ) (r : Result Message Refusal) → ((m : Message) → r ≡ Ok m → m.opcode ≡ opcode) → (opcode == 0x8315) ≡ false → list_in r ≡ None
other opcode (Ok m) keeps n =
    let same : m.opcode ≡ opcode = keeps m refl in
    rw (same, n) refl
other opcode (Err e) keeps n = refl

module _ (two : TwoOctetsAreKept) where
  no_list : (bytes : List ℕ) (low : ℕ) (body : List ℕ) → bytes ≡ 0x83 ∷ low ∷ body → (0x83 * 256 + low == 0x8315) ≡ false → list_at bytes ≡ None
  no_list bytes low body e n = rw e (other (0x83 * 256 + low) (message_at rows (0x83 ∷ low ∷ body)) (two rows 0x83 low body (omega arith) (omega arith)) n)

  abbrev IsNoList : (ℕ → DistState → DistReply) → Type 0
  IsNoList show = (n : ℕ) (u : DistState) → list_at (sent_octets (ByDistribution (show n u))) ≡ None

  receivers_none : IsNoList receivers_status
  receivers_none n u = no_list (sent_octets (ByDistribution (receivers_status n u))) 0x13 _ refl refl

  distribution_none : IsNoList distribution_status
  distribution_none n u = no_list (sent_octets (ByDistribution (distribution_status n u))) 0x1D _ refl refl

  upload_none : IsNoList upload_status
  upload_none n u = no_list (sent_octets (ByDistribution (upload_status n u))) 0x22 _ refl refl

  firmware_none : (index : ℕ) (fwid : Option (List ℕ)) → IsNoList (firmware_status index fwid)
  firmware_none index fwid n u = no_list (sent_octets (ByDistribution (firmware_status index fwid n u))) 0x27 _ refl refl

  -- ---- the number stays, or no list is sent

  abbrev NoLists : List (ℕ × Sent) → Type 0
  NoLists sends = AllByRecursion (λ (x : ℕ × Sent). list_at (sent_octets x.1) ≡ None) sends

  abbrev StaysOr : DistState → Outcome → Type 0
  StaysOr s o = (o.next.durable.counter ≡ s.durable.counter) ⊎ NoLists o.sends

  answer_or : (s : DistState) (to : ℕ) (show : ℕ → DistState → DistReply) → IsNoList show → (r : Result DistState ℕ) → StaysOr s (answered s to show r)
  answer_or s to show n (Ok t) = inr (n 0 (committed s t), tt)
  answer_or s to show n (Err status) = inl refl

  request_or : (address : ℕ) (s : DistState) (to : ℕ) (request : DistRequest) → StaysOr s (on_request address s to request)
  request_or address s to (ReceiversAdd entries) = answer_or s to receivers_status receivers_none (receivers_add s entries)
  request_or address s to ReceiversDeleteAll = answer_or s to receivers_status receivers_none (receivers_delete_all s)
  request_or address s to (ReceiversGet first limit) = inl refl
  request_or address s to CapabilitiesGet = inl refl
  request_or address s to DistributionGet = inl refl
  request_or address s to (DistributionStart ask) = answer_or s to distribution_status distribution_none (distribution_start address s ask s.durable.phase)
  request_or address s to DistributionSuspend = answer_or s to distribution_status distribution_none (distribution_suspend s s.durable.phase)
  request_or address s to DistributionCancel = answer_or s to distribution_status distribution_none (distribution_cancel s s.durable.phase)
  request_or address s to DistributionApply = answer_or s to distribution_status distribution_none (distribution_apply s s.durable.phase)
  request_or address s to UploadGet = inl refl
  request_or address s to (StartUpload u) = answer_or s to upload_status upload_none (upload_start s u (run_upload s))
  request_or address s to StartUploadOob = inl refl
  request_or address s to UploadCancel = answer_or s to upload_status upload_none (Ok (upload_cancel s))
  request_or address s to (FirmwareGet fwid) = inl refl
  request_or address s to (FirmwareGetByIndex index) = inl refl
  request_or address s to (FirmwareDelete fwid) = answer_or s to (firmware_status no_index (Some fwid)) (firmware_none no_index (Some fwid)) (firmware_delete s fwid)
  request_or address s to FirmwareDeleteAll = answer_or s to (firmware_status no_index None) (firmware_none no_index None) (firmware_delete_all s)

  changed_counter : (s : DistState) (c : Change) → (blob_changed s c).durable.counter ≡ s.durable.counter
  changed_counter s Same = refl
  changed_counter s (Puts block octets) = refl
  changed_counter s (Begins p) = refl
  changed_counter s Drops = refl

  hears_or : (s : DistState) (from : ℕ) (answer : Answer) (client : Option Client) → StaysOr s (hears s from answer client)
  hears_or s from answer None = inl refl
  hears_or s from answer (Some c) = inr tt

  taken_or : (address : ℕ) (s : DistState) (from : ℕ) (taken : Taken) → StaysOr s (on_taken address s from taken)
  taken_or address s from (OfDistribution request) = request_or address s from request
  taken_or address s from (OfBlob request) = inl (changed_counter s (on_blob (server_of s) from request).change)
  taken_or address s from (OfReceiver answer) = hears_or s from answer s.client

  -- ---- time at rest

  recorded_counter : (t : DistState) (b : Bool) → (recorded_if t b).durable.counter ≡ t.durable.counter
  recorded_counter t true = refl
  recorded_counter t false = refl

  broken_counter : (link : Link) (upload : Upload) (s : DistState) → (broken_by link upload s).durable.counter ≡ s.durable.counter
  broken_counter Cut (Uploading j) s = refl
  broken_counter Cut NoUpload s = refl
  broken_counter Cut (Broken job) s = refl
  broken_counter Cut Uploaded s = refl
  broken_counter Ready upload s = refl
  broken_counter Running upload s = refl

  -- without a client
  client_or : (address : ℕ) (s t : DistState) (reports : List (ℕ × Sent)) (client : Option Client) → client ≡ None → t.durable.counter ≡ s.durable.counter → StaysOr s (client_waits address s t reports client)
  client_or address s t reports None e same = inl (recorded_counter t (same_durable s.durable t.durable) ∙ same)
  client_or address s t reports (Some c) e same = absurd cc

  waits_or : (address : ℕ) (s : DistState) (o : Served) → s.client ≡ None → StaysOr s (waits address s o)
  waits_or address s o e = client_or address s (server_waits s o) (map by_blob o.replies) s.client e (broken_counter o.session.link (run_upload s) (with_session s o.session))

  time_or : (address : ℕ) (s : DistState) (upload : Upload) → s.client ≡ None → StaysOr s (on_time address s upload)
  time_or address s (Uploading j) e = by_whole (is_whole j.transfer)
    where
      by_whole : (b : Bool) → StaysOr s (cond b (verifies s j) (waits address s (on_server_time (server_of s) (server_of s).serving)))
      by_whole true = inr tt
      by_whole false = waits_or address s (on_server_time (server_of s) (server_of s).serving) e
  time_or address s NoUpload e = waits_or address s (on_server_time (server_of s) (server_of s).serving) e
  time_or address s (Broken job) e = waits_or address s (on_server_time (server_of s) (server_of s).serving) e
  time_or address s Uploaded e = waits_or address s (on_server_time (server_of s) (server_of s).serving) e

  -- ---- events

  packets_none : (address : ℕ) (sends : List (ℕ × Sent)) → NoLists sends → (p : Packet) → Contains (map (sent_packet address) sends) p → list_at p.payload ≡ None
  packets_none address [] h p has =
      let none : has.0 < 0 = has.1 in
      absurd (omega (arith, none))
  packets_none address (x ∷ sends) h p has =
      elim (first_or (sent_packet address x) (map (sent_packet address) sends) p has) [
        | inl is ↦ subst (λ (q : Packet). list_at q.payload ≡ None) is h.0
        | inr k ↦ packets_none address sends h.1 p k
      ]

  abbrev Stays : DistState → DistState → List Packet → Type 0
  Stays s next sent = (p : Packet) (given : List Row) → Contains sent p → list_at p.payload ≡ Some given → next.durable.counter ≡ s.durable.counter

  stepped_stays : (address : ℕ) (s : DistState) (o : Outcome) → StaysOr s o → Stays s o.next (stepped address o).sent
  stepped_stays address s o (inl e) p given has is = e
  stepped_stays address s o (inr none) p given has is =
      let never : None ≡ Some given = sym (packets_none address o.sends none p has) ∙ is in
      cc

  taken_stays : (address : ℕ) (s : DistState) (from : ℕ) (taken : Option Taken) → Stays s (on_packet address s from taken).next (on_packet address s from taken).sent
  taken_stays address s from (Some taken) = stepped_stays address s (on_taken address s from taken) (taken_or address s from taken)
  taken_stays address s from None = λ p given has is. refl

  event_stays : (address : ℕ) (s : DistState) (event : NodeEvent) → s.client ≡ None → Stays s (on_event address s event).next (on_event address s event).sent
  event_stays address s TimeComes e = stepped_stays address s (on_time address s (run_upload s)) (time_or address s (run_upload s) e)
  event_stays address s (PacketComes packet) e = by_address (packet.to == address)
    where
      by_address : (b : Bool) → Stays s (cond b (on_packet address s packet.from (taken_at packet.payload)) (passed_over s)).next (cond b (on_packet address s packet.from (taken_at packet.payload)) (passed_over s)).sent
      by_address true = taken_stays address s packet.from (taken_at packet.payload)
      by_address false = λ p given has is. refl

  no_client : (s : DistState) → is_at_rest s.durable.phase ≡ true → IsDistState s → s.client ≡ None
  no_client s rest h = subst (λ b. HasClient b s.durable.receivers s.progress s.client) rest h.client

  pub lists_begin_nothing : OffersStand → (address : ℕ) (s : DistState) (event : NodeEvent) (now : ℕ) → IsDistState s → (p : Packet) (given : List Row) → Contains (dist_step address s event now).sent p → list_at p.payload ≡ Some given
      → (dist_step address s event now).next.durable.counter ≡ s.durable.counter
  lists_begin_nothing stand address s event now h p given has is = by_rest (is_at_rest s.durable.phase) refl
    where
      by_rest : (b : Bool) → is_at_rest s.durable.phase ≡ b → (dist_step address s event now).next.durable.counter ≡ s.durable.counter
      by_rest true e = event_stays address (at_moment s now) event (no_client s e h) p given has is
      by_rest false e = (stand address s event now h e).0
