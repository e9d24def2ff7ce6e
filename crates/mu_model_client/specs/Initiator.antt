-- An initiator: it uploads an image to a distributor, has it distributed, and gets the receivers' rows (MshDFU, Firmware
-- Distribution Client; its steps and ends are this profile's).
use Rattle.std.specs.Prelude.{ℕ, ◌+◌, ◌==◌, ◌&&◌, ◌||◌, not, max, nat_le, Bool, true, false, List, [], ◌∷◌, ◌++◌, length, map, take, Option, Some, None, if◌then◌else◌}
use Rattle.mu_model_wire.specs.Limits.{most_receivers, most_rows}
use Rattle.mu_model_image.specs.Meta.{meta_octets, firmware_id, own_company}
use Rattle.mu_model_node.specs.NodeMessages.{Request}
use Rattle.mu_model_wire.specs.Packet.{Packet}
use Rattle.mu_model_client.specs.Answers.{BlobAnswer, Answer, FromBlob, answer_at}
use Rattle.mu_model_client.specs.Rows.{Row}
use Rattle.mu_model_client.specs.Client.{Sending, Plan, Dropped, Status, Standing, Gone, Receiver, Client, round_time}
use Rattle.mu_model_client.specs.Begin.{start_blob, is_ended}
use Rattle.mu_model_client.specs.Told.{told}
use Rattle.mu_model_client.specs.Due.{Due, due, most_silent}
use Rattle.mu_model_client.specs.Packets.{request_octets}
use Rattle.mu_model_client.specs.InitiatorMessages.{UploadAsked, StartAsked, InitiatorRequest, UploadStart, UploadGet, DistributionCancel, ReceiversDeleteAll, ReceiversAdd, FirmwareGet, DistributionStart, DistributionGet, ReceiversGet, InitiatorAnswer, UploadIs, DistributionIs, ReceiversAre, FirmwareIs, RowsAre, initiator_octets, initiator_answer_at}
pub use Rattle.mu_model_client.specs.declared.InitEnd.{InitEnd}
pub use Rattle.mu_model_client.specs.declared.InitEnd.TheVariants.{Done, Refused, Silent as SilentEnd}

-- what it is asked to do: the upload and the distribution go by the plan
pub record Ask : Type 0 where
  pub plan : Plan
  pub distributor : ℕ
  -- the receivers' addresses
  pub to : List ℕ

pub data InitStep : Type 0 where
  Uploading : InitStep
  Uploads : InitStep
  Uploaded : InitStep
  Clearing : InitStep
  Deleting : InitStep
  Adding : InitStep
  Finding : InitStep
  Starting : InitStep
  Watching : InitStep
  Listing : InitStep

abbrev pub init_number : InitStep → ℕ
init_number Uploading = 1
init_number Uploads = 2
init_number Uploaded = 3
init_number Clearing = 4
init_number Deleting = 5
init_number Adding = 6
init_number Finding = 7
init_number Starting = 8
init_number Watching = 9
init_number Listing = 10

pub data InitPlace : Type 0 where
  -- the step begins in the next time event
  InitBefore : InitStep → InitPlace
  -- the distributor is asked; its silent rounds, and when the round began
  Asking : InitStep → (silent began : ℕ) → InitPlace
  -- the BLOB is sent
  Transfers : Client → InitPlace
  -- the last list is had: done in the next time event
  Listed : InitPlace
  InitOver : InitEnd → InitPlace

pub record Initiator : Type 0 where
  pub ask : Ask
  pub place : InitPlace
  -- the image's index at the distributor
  pub image : ℕ
  pub rows : List Row
  -- the greatest moment that was handed in, in milliseconds
  pub moment : ℕ

abbrev pub new_initiator : Ask → Initiator
new_initiator ask = record { ask = ask; place = InitBefore Uploading; image = 0; rows = []; moment = 0 }

abbrev pub moment_in : Initiator → ℕ → Initiator
moment_in i now = record i { moment = max i.moment now }

abbrev pub placed : InitPlace → Initiator → Initiator
placed place i = record i { place = place }

abbrev pub refuses : InitStep → ℕ → Initiator → Initiator
refuses step status i = placed (InitOver (Refused (init_number step) status)) i

abbrev pub no_answer : InitStep → Initiator → Initiator
no_answer step i = placed (InitOver (SilentEnd (init_number step))) i

abbrev pub then_does : InitStep → Initiator → Initiator
then_does step i = placed (InitBefore step) i

-- ---- the message of each step

abbrev pub upload_asked : Plan → UploadAsked
upload_asked plan = record {
  ttl = plan.sending.ttl;
  base = plan.sending.base;
  id = plan.sending.id;
  size = plan.sending.size;
  metadata = meta_octets plan.meta;
  firmware_id = firmware_id own_company plan.meta;
}

abbrev pub policy_of : Bool → ℕ
policy_of true = 1
policy_of false = 0

abbrev pub start_asked : Plan → ℕ → StartAsked
start_asked plan image = record {
  appkey = 0;
  ttl = plan.sending.ttl;
  base = plan.sending.base;
  mode = plan.sending.mode;
  policy = policy_of plan.apply;
  image = image;
  group = plan.sending.group;
}

-- none for the BLOB: its client has messages of its own
abbrev pub init_message : Initiator → InitStep → Option InitiatorRequest
init_message i Uploading = Some (UploadStart (upload_asked i.ask.plan))
init_message i Uploads = None
init_message i Uploaded = Some UploadGet
init_message i Clearing = Some DistributionCancel
init_message i Deleting = Some ReceiversDeleteAll
init_message i Adding = Some (ReceiversAdd (map (λ address. (address, 0)) i.ask.to))
init_message i Finding = Some (FirmwareGet (firmware_id own_company i.ask.plan.meta))
init_message i Starting = Some (DistributionStart (start_asked i.ask.plan i.image))
init_message i Watching = Some DistributionGet
init_message i Listing = Some (ReceiversGet (length i.rows) most_rows)

-- the upload's transfer: by push without a group, log 12, chunks of 200
abbrev pub upload_sending : Sending → Sending
upload_sending p = record p { log = 12; chunk = 200; mode = 1; group = 0 }

abbrev pub upload_client : Ask → Client
upload_client ask = start_blob (upload_sending ask.plan.sending) (ask.distributor ∷ [])

-- ---- what an answer of the distributor does, one definition a step

-- a status other than 0 ends; else the step's row is looked at
abbrev pub if_accepted : Initiator → InitStep → ℕ → Initiator → Initiator
if_accepted i step status next = if status == 0 then next else refuses step status i

-- no silent round is counted any more
abbrev pub still_asking : Initiator → InitStep → ℕ → Initiator
still_asking i step began = placed (Asking step 0 began) i

-- 1 Upload Start: phase 1 or 3
abbrev pub on_upload_start : Initiator → ℕ → Initiator
on_upload_start i phase = if phase == 1 then then_does Uploads i else if phase == 3 then then_does Uploaded i else i

-- 3 Upload Get: phase 3; phase 1 is waited for, phase 2 ends with status 3
abbrev pub on_upload_get : Initiator → ℕ → ℕ → Initiator
on_upload_get i began phase =
    if phase == 3 then then_does Clearing i
    else if phase == 1 then still_asking i Uploaded began
    else if phase == 2 then refuses Uploaded 3 i
    else i

-- 4 Distribution Cancel: phase 0
abbrev pub on_clearing : Initiator → ℕ → Initiator
on_clearing i phase = if phase == 0 then then_does Deleting i else i

-- 9 Distribution Get: phases 4 and 5, and 2 under Verify Only; others are waited for
abbrev pub has_finished : Plan → ℕ → Bool
has_finished plan phase = (phase == 4) || (phase == 5) || ((phase == 2) && not plan.apply)

abbrev pub on_watching : Initiator → ℕ → ℕ → Initiator
on_watching i began phase = if has_finished i.ask.plan phase then then_does Listing i else still_asking i Watching began

-- 10 Receivers Get: the rows are added until all are had
abbrev pub with_rows : Initiator → List Row → Initiator
with_rows i rows = record i { rows = take most_receivers (i.rows ++ rows) }

abbrev pub has_all : ℕ → ℕ → Bool
has_all count had = nat_le count had || nat_le most_receivers had

abbrev pub brought : Initiator → List Row → Initiator
brought i [] = i
brought i (row ∷ rows) = then_does Listing (with_rows i (row ∷ rows))

abbrev pub on_rows : Initiator → ℕ → ℕ → List Row → Initiator
on_rows i count first rows =
    if not (first == length i.rows) then i
    else if has_all count (length (with_rows i rows).rows) then placed Listed (with_rows i rows)
    else brought i rows

-- only the status that answers the step's request is looked at
abbrev pub asked_told : Initiator → ℕ → InitStep → InitiatorAnswer → Initiator
asked_told i began Uploading (UploadIs status phase) = if_accepted i Uploading status (on_upload_start i phase)
asked_told i began Uploaded (UploadIs status phase) = if_accepted i Uploaded status (on_upload_get i began phase)
asked_told i began Clearing (DistributionIs status phase) = if_accepted i Clearing status (on_clearing i phase)
asked_told i began Deleting (ReceiversAre status) = if_accepted i Deleting status (then_does Adding i)
asked_told i began Adding (ReceiversAre status) = if_accepted i Adding status (then_does Finding i)
asked_told i began Finding (FirmwareIs status index) = if_accepted i Finding status (then_does Starting (record i { image = index }))
asked_told i began Starting (DistributionIs status phase) = if_accepted i Starting status (then_does Watching i)
asked_told i began Watching (DistributionIs status phase) = if_accepted i Watching status (on_watching i began phase)
asked_told i began Listing (RowsAre count first rows) = on_rows i count first rows
asked_told i began _ _ = i

abbrev pub place_answered : Initiator → InitiatorAnswer → InitPlace → Initiator
place_answered i answer (Asking step silent began) = asked_told i began step answer
place_answered i answer _ = i

-- a status or a list of an address, at a moment
abbrev pub initiator_told : Initiator → (from : ℕ) → InitiatorAnswer → ℕ → Initiator
initiator_told i from answer now =
    if from == i.ask.distributor then place_answered (moment_in i now) answer i.place else moment_in i now

-- a message of a BLOB server goes to the transfer's client
abbrev pub place_heard : Initiator → ℕ → BlobAnswer → ℕ → InitPlace → Initiator
place_heard i from answer now (Transfers client) = placed (Transfers (told client from (FromBlob answer) now)) i
place_heard i from answer now _ = i

abbrev pub initiator_heard : Initiator → (from : ℕ) → BlobAnswer → ℕ → Initiator
initiator_heard i from answer now = place_heard (moment_in i now) from answer now i.place

-- ---- a time event

pub data Asked : Type 0 where
  ToDistributor : InitiatorRequest → Asked
  ToServer : Request → Asked

pub record InitDue : Type 0 where
  pub next : Initiator
  pub packets : List (ℕ × Asked)

abbrev pub asks_nothing : Initiator → InitDue
asks_nothing i = record { next = i; packets = [] }

abbrev pub to_server : ℕ × Request → ℕ × Asked
to_server packet = (packet.0, ToServer packet.1)

-- the step's message, in a round that begins now
abbrev pub asks : Initiator → InitStep → ℕ → Option InitiatorRequest → InitDue
asks i step silent None = asks_nothing i
asks i step silent (Some request) =
    record { next = placed (Asking step silent i.moment) i; packets = (i.ask.distributor, ToDistributor request) ∷ [] }

-- the transfer has begun or goes on
abbrev pub transfers : Initiator → Due → InitDue
transfers i d = record { next = placed (Transfers d.next) i; packets = map to_server d.packets }

abbrev pub init_begins : Initiator → List ℕ → InitStep → InitDue
init_begins i image Uploads = transfers i (due (upload_client i.ask) image i.moment)
init_begins i image step = asks i step 0 (init_message i step)

-- how a transfer that has ended comes out: a drop by status 4 to Block Get is a distributor that has verified the upload already
abbrev pub is_verified_early : ℕ → ℕ → Bool
is_verified_early step status = (step == 7) && (status == 4)

abbrev pub by_cause : Initiator → List ℕ → Dropped → InitDue
by_cause i image (Status step status) =
    if is_verified_early step status then init_begins i image Uploaded else asks_nothing (refuses Uploads status i)
by_cause i image _ = asks_nothing (no_answer Uploads i)

abbrev pub by_standing : Initiator → List ℕ → Standing → InitDue
by_standing i image (Gone cause) = by_cause i image cause
by_standing i image _ = init_begins i image Uploaded

abbrev pub by_receiver : Initiator → List ℕ → List Receiver → InitDue
by_receiver i image [] = init_begins i image Uploaded
by_receiver i image (r ∷ rs) = by_standing i image r.standing

abbrev pub transfer_due : Initiator → List ℕ → Due → Bool → InitDue
transfer_due i image d true = by_receiver i image d.next.receivers
transfer_due i image d false = transfers i d

-- a round without an answer: at the fifth the initiator ends
abbrev pub again_or_silent : Initiator → InitStep → ℕ → Bool → InitDue
again_or_silent i step silent true = asks_nothing (no_answer step i)
again_or_silent i step silent false = asks i step silent (init_message i step)

abbrev pub round_due : Initiator → InitStep → ℕ → Bool → InitDue
round_due i step silent true = again_or_silent i step (silent + 1) (nat_le most_silent (silent + 1))
round_due i step silent false = asks_nothing i

abbrev pub place_due : Initiator → List ℕ → InitPlace → InitDue
place_due i image (InitBefore step) = init_begins i image step
place_due i image (Asking step silent began) = round_due i step silent (nat_le (began + round_time i.ask.plan.sending) i.moment)
place_due i image (Transfers client) = transfer_due i image (due client image i.moment) (is_ended (due client image i.moment).next.place)
place_due i image Listed = asks_nothing (placed (InitOver Done) i)
place_due i image (InitOver end) = asks_nothing i

-- an initiator's time event at a moment
abbrev pub initiator_due : Initiator → List ℕ → ℕ → InitDue
initiator_due i image now = place_due (moment_in i now) image i.place

-- ---- how it has ended

abbrev pub end_at : InitPlace → Option InitEnd
end_at (InitOver end) = Some end
end_at _ = None

abbrev pub initiator_end : Initiator → Option InitEnd
initiator_end i = end_at i.place

-- ---- packets

abbrev pub asked_octets : Asked → List ℕ
asked_octets (ToDistributor request) = initiator_octets request
asked_octets (ToServer request) = request_octets request

abbrev pub asked_packet : ℕ → ℕ × Asked → Packet
asked_packet from sent = record { from = from; to = sent.0; payload = asked_octets sent.1 }

pub record InitiatorStep : Type 0 where
  pub next : Initiator
  pub sent : List Packet
  pub handled : Bool

-- the BLOB side of a client
abbrev pub blob_answer_in : Option Answer → Option BlobAnswer
blob_answer_in (Some (FromBlob answer)) = Some answer
blob_answer_in _ = None

abbrev pub either_handled : Initiator → ℕ → ℕ → Option InitiatorAnswer → Option BlobAnswer → InitiatorStep
either_handled i from now (Some answer) other = record { next = initiator_told i from answer now; sent = []; handled = true }
either_handled i from now None (Some answer) = record { next = initiator_heard i from answer now; sent = []; handled = true }
either_handled i from now None None = record { next = moment_in i now; sent = []; handled = false }

-- a packet is handled where it is addressed to the initiator and is a status, a report or a list that it takes
abbrev pub initiator_packet : Initiator → Packet → ℕ → InitiatorStep
initiator_packet i packet now =
    if packet.to == i.ask.plan.sending.from
    then either_handled i packet.from now (initiator_answer_at packet.payload) (blob_answer_in (answer_at packet.payload))
    else either_handled i packet.from now None None

abbrev pub initiator_sent : Initiator → InitDue → InitiatorStep
initiator_sent i d = record { next = d.next; sent = map (asked_packet i.ask.plan.sending.from) d.packets; handled = true }

abbrev pub initiator_time : Initiator → List ℕ → ℕ → InitiatorStep
initiator_time i image now = initiator_sent i (initiator_due i image now)
