-- Of worked rows: what comes to a distributor, octet by octet, and what is seen of it. The distributor is at 0001 and has banks of a
-- page; its receivers are at 0002 and 0003, and a stranger at 0009. The image is 61 62 63: version 2 is stocked, version 3 is uploaded
-- under BLOB ID 9_0000_0000_0007.
use Rattle.std.specs.Prelude.{ℕ, ◌≡◌, ◌++◌, ◌*◌, ◌/◌, ◌%◌, Bool, true, false, List, [], ◌∷◌, length, map, replicate, take}
use Rattle.std.specs.List.{flat_map}
pub use Rattle.mu_model_node.specs.Worked.{chunk, update_apply, update_get}
pub use Rattle.mu_model_scenes.specs.Octets.{blob_information_get, block_get, block_start, high, low, information_get, metadata_status, other_chunk, transfer_get, update_cancel, receivers_delete_all, capabilities_get, distribution_get, distribution_suspend, distribution_cancel, distribution_apply, upload_get, upload_cancel, firmware_delete_all}
pub use Rattle.mu_model_distributor_laws.specs.Scenes.{id_at}
use Rattle.mu_model_image.specs.Meta.{Image}
use Rattle.mu_model_wire.specs.Packet.{Packet}
use Rattle.mu_model_node.specs.Events.{PacketComes, TimeComes}
use Rattle.mu_model_node.specs.Safe.{Happening, Done, CutPower, Torn}
use Rattle.mu_model_node.specs.Worked.{digest_abc}
use Rattle.mu_model_client.specs.Rows.{Row as ReceiverRow}
use Rattle.mu_model_distributor.specs.declared.DistPhase.{DistPhase}
use Rattle.mu_model_distributor.specs.DistState.{Receiver, DistState, dist_number, upload_number, run_upload, rows_of}
use Rattle.mu_model_distributor.specs.DistEvents.{new_distributor, stocked, restarted, dist_step}
use Rattle.mu_model_distributor.specs.Runs.{happened, state_after}

-- ---- a row of a table

-- what comes from the stranger; whether it is handled, and the octets of each answer; and then the record count, the distribution
-- phase, the upload phase of the run, how many receivers and images there are, and the counter
abbrev pub Row : Type 0
Row = List ℕ × Bool × List (List ℕ) × List ℕ

abbrev pub comes : (from : ℕ) → List ℕ → Happening
comes from payload = Done (PacketComes (record { from = from; to = 1; payload = payload })) 0

abbrev pub counts : DistState → List ℕ
counts s =
    s.durable.count ∷ dist_number s.durable.phase ∷ upload_number (run_upload s) ∷ length s.durable.receivers ∷ length s.durable.images
    ∷ s.durable.counter
    ∷ []

abbrev pub row_of : DistState → List ℕ → Row
row_of s payload =
    let step = dist_step 1 s (PacketComes (record { from = 9; to = 1; payload = payload })) 0 in
    (payload, step.handled, map (λ (p : Packet). p.payload) step.sent, counts step.next)

-- each row of the table is what the distributor does in this state
abbrev pub Answers : DistState → List Row → Type 0
Answers s rows = map (λ (row : Row). row_of s row.0) rows ≡ rows

abbrev pub row : List ℕ → List ℕ → List ℕ → Row
row payload reply after = (payload, true, reply ∷ [], after)

-- handled, and not answered
abbrev pub told : List ℕ → List ℕ → Row
told payload after = (payload, true, [], after)

abbrev pub unread : List ℕ → List ℕ → Row
unread payload after = (payload, false, [], after)

-- ---- a turn of a run

-- what happens; what is sent, each with its destination; the record count, the distribution phase and the upload phase then; and the
-- phase, update status, transfer status and progress of each row
abbrev pub Turn : Type 0
Turn = Happening × List (ℕ × List ℕ) × List ℕ × List (List ℕ)

abbrev pub sent_by : DistState → Happening → List (ℕ × List ℕ)
sent_by s (Done event now) = map (λ (p : Packet). (p.to, p.payload)) (dist_step 1 s event now).sent
sent_by s CutPower = []
sent_by s (Torn event now operations) = []

abbrev pub phases : DistState → List ℕ
phases s = s.durable.count ∷ dist_number s.durable.phase ∷ upload_number (run_upload s) ∷ []

abbrev pub rows_seen : DistState → List (List ℕ)
rows_seen s = map (λ (row : ReceiverRow). row.phase ∷ row.update_status ∷ row.transfer_status ∷ row.progress ∷ []) (rows_of s)

abbrev pub turn_of : Happening → List (ℕ × List ℕ) → DistState → Turn
turn_of happening sent next = (happening, sent, phases next, rows_seen next)

abbrev pub turns_of : DistState → List Turn → List Turn
turns_of s [] = []
turns_of s (turn ∷ turns) = turn_of turn.0 (sent_by s turn.0) (happened 1 s turn.0) ∷ turns_of (happened 1 s turn.0) turns

abbrev pub Goes : DistState → List Turn → Type 0
Goes s turns = turns_of s turns ≡ turns

abbrev pub passes : (now : ℕ) → Happening
passes now = Done TimeComes now

-- a stranger's packet to an address, at a moment
abbrev pub passes_by : (to : ℕ) → List ℕ → (now : ℕ) → Happening
passes_by to payload now = Done (PacketComes (record { from = 9; to = to; payload = payload })) now

abbrev pub boots : Happening
boots = CutPower

abbrev pub sends : Happening → List (ℕ × List ℕ) → List ℕ → List (List ℕ) → Turn
sends happening sent after rows = (happening, sent, after, rows)

abbrev pub quiet : Happening → List ℕ → List (List ℕ) → Turn
quiet happening after rows = (happening, [], after, rows)

-- the stranger's request and its answer
abbrev pub asks : List ℕ → List ℕ → List ℕ → List (List ℕ) → Turn
asks payload reply after rows = (comes 9 payload, (9, reply) ∷ [], after, rows)

-- ---- requests

abbrev pub id_of : ℕ → List ℕ
id_of id = id ∷ 0 ∷ 0 ∷ 0 ∷ 0 ∷ 0 ∷ 9 ∷ 0 ∷ []

abbrev pub metadata : ℕ → List ℕ
metadata version = (3 ∷ 0 ∷ 0 ∷ 0 ∷ version ∷ 0 ∷ 0 ∷ 0 ∷ []) ++ digest_abc

-- each for image 0
abbrev pub receivers_add : List ℕ → List ℕ
receivers_add addresses = 0x83 ∷ 0x11 ∷ flat_map (λ address. address ∷ 0 ∷ 0 ∷ []) addresses

abbrev pub receivers_get : (first limit : ℕ) → List ℕ
receivers_get first limit = 0x83 ∷ 0x14 ∷ first ∷ 0 ∷ limit ∷ 0 ∷ []

-- mode and policy in one octet; the upper octet of the group
abbrev pub distribution_start : (appkey ttl base means image group : ℕ) → List ℕ
distribution_start appkey ttl base means image group = 0x83 ∷ 0x19 ∷ appkey ∷ 0 ∷ ttl ∷ base ∷ 0 ∷ means ∷ image ∷ 0 ∷ 0 ∷ group ∷ []

abbrev pub label_start_of : (image : ℕ) → List ℕ
label_start_of image = (0x83 ∷ 0x19 ∷ 0 ∷ 0 ∷ 5 ∷ 0 ∷ 0 ∷ 5 ∷ image ∷ 0 ∷ []) ++ replicate 16 7

abbrev pub upload_by : (ttl id : ℕ) → (size metadata firmware_id : List ℕ) → List ℕ
upload_by ttl id size metadata firmware_id =
    (0x83 ∷ 0x1f ∷ ttl ∷ 0 ∷ 0 ∷ []) ++ (id_of id ++ (size ++ (length metadata ∷ metadata ++ firmware_id)))

abbrev pub upload_start : (version ttl id : ℕ) → List ℕ
upload_start version ttl id = upload_by ttl id (3 ∷ 0 ∷ 0 ∷ 0 ∷ []) (metadata version) (id_at version)

-- of another size, or with another ID, than the metadata's
abbrev pub upload_start_of : (size metadata_version id_version : ℕ) → List ℕ
upload_start_of size metadata_version id_version = upload_by 5 7 (size ∷ 0 ∷ 0 ∷ 0 ∷ []) (metadata metadata_version) (id_at id_version)

abbrev pub short_upload_start : List ℕ
short_upload_start = upload_by 5 7 (3 ∷ 0 ∷ 0 ∷ 0 ∷ []) (take 39 (metadata 3)) (id_at 3)

abbrev pub foreign_upload_start : List ℕ
foreign_upload_start = upload_by 5 7 (3 ∷ 0 ∷ 0 ∷ 0 ∷ []) (metadata 3) ((0xfe ∷ 0xff ∷ 3 ∷ 0 ∷ 0 ∷ 0 ∷ []) ++ digest_abc)

-- one octet past a bank
abbrev pub large_upload_start : List ℕ
large_upload_start = upload_by 5 7 (1 ∷ 0x10 ∷ 0 ∷ 0 ∷ []) ((1 ∷ 0x10 ∷ 0 ∷ 0 ∷ 3 ∷ 0 ∷ 0 ∷ 0 ∷ []) ++ digest_abc) (id_at 3)

abbrev pub upload_start_oob : List ℕ
upload_start_oob = 0x83 ∷ 0x20 ∷ 1 ∷ 0x78 ∷ id_at 3

abbrev pub firmware_get : (version : ℕ) → List ℕ
firmware_get version = 0x83 ∷ 0x23 ∷ id_at version

abbrev pub firmware_get_by_index : (index : ℕ) → List ℕ
firmware_get_by_index index = 0x83 ∷ 0x24 ∷ index ∷ 0 ∷ []

abbrev pub firmware_delete : (version : ℕ) → List ℕ
firmware_delete version = 0x83 ∷ 0x25 ∷ id_at version

abbrev pub transfer_start : List ℕ
transfer_start = (0x83 ∷ 0x01 ∷ 0x40 ∷ []) ++ (id_of 7 ++ (3 ∷ 0 ∷ 0 ∷ 0 ∷ 12 ∷ 0x7c ∷ 1 ∷ []))

abbrev pub transfer_cancel : List ℕ
transfer_cancel = (0x83 ∷ 0x02 ∷ []) ++ id_of 7

-- ---- answers

abbrev pub receivers_status : (status count : ℕ) → List ℕ
receivers_status status count = 0x83 ∷ 0x13 ∷ status ∷ count ∷ 0 ∷ []

abbrev pub no_distribution : (status : ℕ) → List ℕ
no_distribution status = 0x83 ∷ 0x1d ∷ status ∷ 0 ∷ []

-- the group C000, AppKey 0, TTL 5, base 0, push, Verify And Apply, image 0
abbrev pub distribution_status : (status phase : ℕ) → List ℕ
distribution_status status phase = 0x83 ∷ 0x1d ∷ status ∷ phase ∷ 0 ∷ 0xc0 ∷ 0 ∷ 0 ∷ 5 ∷ 0 ∷ 0 ∷ 5 ∷ 0 ∷ 0 ∷ []

abbrev pub no_upload : (status : ℕ) → List ℕ
no_upload status = 0x83 ∷ 0x22 ∷ status ∷ 0 ∷ []

abbrev pub upload_status : (status phase progress version : ℕ) → List ℕ
upload_status status phase progress version = 0x83 ∷ 0x22 ∷ status ∷ phase ∷ progress ∷ id_at version

abbrev pub firmware_status : (status count index : ℕ) → (firmware_id : List ℕ) → List ℕ
firmware_status status count index firmware_id = (0x83 ∷ 0x27 ∷ status ∷ count ∷ 0 ∷ low index ∷ high index ∷ []) ++ firmware_id

-- 128 receivers, 4 images, banks of a page, four of them, and so many empty; no out-of-band schemes
abbrev pub capabilities_status : (empty : ℕ) → List ℕ
capabilities_status empty = 0x83 ∷ 0x17 ∷ 128 ∷ 0 ∷ 4 ∷ 0 ∷ 0 ∷ 0x10 ∷ 0 ∷ 0 ∷ 0 ∷ 0x40 ∷ 0 ∷ 0 ∷ 0 ∷ 16 * empty ∷ 0 ∷ 0 ∷ 0 ∷ []

-- ---- what a distributor's client sends, by the number of the distribution, and what it is told

abbrev pub transfer_id : ℕ → List ℕ
transfer_id number = number ∷ 0 ∷ 0 ∷ 0 ∷ 0 ∷ 0 ∷ 1 ∷ 0 ∷ []

abbrev pub metadata_check : List ℕ
metadata_check = 0x83 ∷ 0x0a ∷ 0 ∷ metadata 2

abbrev pub update_start : (number : ℕ) → List ℕ
update_start number = (0x83 ∷ 0x0d ∷ 5 ∷ 0 ∷ 0 ∷ []) ++ (transfer_id number ++ (0 ∷ metadata 2))

abbrev pub transfer_of : (number : ℕ) → List ℕ
transfer_of number = (0x83 ∷ 0x01 ∷ 0x40 ∷ []) ++ (transfer_id number ++ (3 ∷ 0 ∷ 0 ∷ 0 ∷ 12 ∷ 0x7c ∷ 1 ∷ []))

abbrev pub metadata_refused : (status : ℕ) → List ℕ
metadata_refused status = 0x83 ∷ 0x0b ∷ status ∷ 0 ∷ []

-- a Transfer Status of a server without a transfer
abbrev pub transfer_refused : (status : ℕ) → List ℕ
transfer_refused status = 0x83 ∷ 0x03 ∷ status ∷ 0 ∷ []

-- status and phase are in the first octet
abbrev pub update_status : (first number : ℕ) → List ℕ
update_status first number = (0x83 ∷ 0x10 ∷ first ∷ 5 ∷ 0 ∷ 0 ∷ 0 ∷ []) ++ (transfer_id number ++ (0 ∷ []))

abbrev pub no_job_status : (status : ℕ) → List ℕ
no_job_status status = 0x83 ∷ 0x10 ∷ status ∷ []

abbrev pub limits : List ℕ
limits = 0x83 ∷ 0x07 ∷ 12 ∷ 14 ∷ 0 ∷ 8 ∷ 0x78 ∷ 1 ∷ 0 ∷ 0x10 ∷ 0 ∷ 0 ∷ 0x7c ∷ 1 ∷ 3 ∷ []

abbrev pub transfer_told : (phase number blocks : ℕ) → List ℕ
transfer_told phase number blocks =
    (0x83 ∷ 0x03 ∷ 0x40 ∷ phase ∷ []) ++ (transfer_id number ++ (3 ∷ 0 ∷ 0 ∷ 0 ∷ 12 ∷ 0x7c ∷ 1 ∷ blocks ∷ []))

abbrev pub block_status : (first : ℕ) → List ℕ
block_status first = 0x67 ∷ first ∷ 0 ∷ 0 ∷ 200 ∷ 0 ∷ []

abbrev pub shown_image : List ℕ
shown_image = (0x83 ∷ 0x09 ∷ 1 ∷ 0 ∷ 0x26 ∷ []) ++ (id_at 2 ++ (0 ∷ []))

-- ---- where the distributor is

abbrev pub image_at : (version : ℕ) → Image
image_at version = record { octets = 0x61 ∷ 0x62 ∷ 0x63 ∷ []; meta = record { size = 3; version = version; digest = digest_abc } }

abbrev pub empty : DistState
empty = restarted 1 (new_distributor 1)

abbrev pub after : DistState → List (List ℕ) → DistState
after s payloads = state_after 1 s (map (comes 9) payloads)

abbrev pub ready : DistState
ready = after (stocked empty (image_at 2)) (receivers_add (2 ∷ 3 ∷ []) ∷ [])

abbrev pub of_three : DistState
of_three = stocked (stocked ready (image_at 3)) (image_at 4)

abbrev pub active : DistState
active = after ready (distribution_start 0 5 0 5 0 0xc0 ∷ [])

-- a boot finds the distribution in a phase, with its rows in these
abbrev pub rows_in : List Receiver → List ℕ → List Receiver
rows_in [] phases = []
rows_in (r ∷ receivers) [] = []
rows_in (r ∷ receivers) (phase ∷ phases) = record r { phase = phase } ∷ rows_in receivers phases

abbrev pub found : DistPhase → List ℕ → DistState
found phase phases = restarted 1 (record (active.durable) { phase = phase; receivers = rows_in active.durable.receivers phases })

abbrev pub uploading : DistState
uploading = after ready (upload_start 3 5 7 ∷ [])

abbrev pub receiving : DistState
receiving = after uploading (transfer_start ∷ block_start ∷ [])

abbrev pub whole : DistState
whole = after receiving (chunk ∷ [])

abbrev pub broken : DistState
broken = state_after 1 (after uploading (transfer_start ∷ [])) (CutPower ∷ [])

abbrev pub stored : DistState
stored = state_after 1 whole (passes 0 ∷ [])
