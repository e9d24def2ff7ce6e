-- What a packet from a receiver does: first to its row, while the transfer is present; then, where the receiver is pending, by the
-- step. One definition a step, in the order of the client's table (MshMBT, BLOB Transfer Client; MshDFU, Firmware Update Client; what drops a receiver is
-- this profile's).
use Rattle.std.specs.Prelude.{ℕ, ◌+◌, ◌-◌, ◌*◌, ◌/◌, ◌==◌, ◌&&◌, ◌||◌, not, min, nat_lt, nat_le, Bool, true, false, List, [], ◌∷◌, length, map, take, set, Option, Some, None, if◌then◌else◌}
use Rattle.mu_model_wire.specs.Reports.{members, no_number, union}
use Rattle.mu_model_wire.specs.declared.reports.Report.{Report}
use Rattle.mu_model_node.specs.declared.Parameters.{Parameters}
use Rattle.mu_model_node.specs.UpdateMessages.{ShownJob, UpdateReply, MetadataStatus, UpdateStatus}
use Rattle.mu_model_client.specs.Sets.{has_some, size_of, set_of, all_below, set_of_field, named_set}
use Rattle.mu_model_client.specs.Answers.{Limits, BlobAnswer, InformationIs, TransferIs, BlockIs, PartIs, Answer, FromUpdate, FromBlob}
use Rattle.mu_model_client.specs.Rows.{row_after, apply_success}
use Rattle.mu_model_client.specs.Client.{Sending, Dropped, Status, Barren, Phase, Purpose, Blob, Update, Step, Check, Start, Information, Transfer, Block, Pull, Get, Verify, Apply, Confirm, Cancel, step_number, Part, Cancelling, part_of, Gone, Receiver, Place, Before, At, Verified, Ended, Client, at_moment, block_total, chunk_total, full_chunks, is_push}

-- ---- what an answer does to a receiver

abbrev pub answered : Receiver → Receiver
answered r = record r { pending = false; wanted = [] }

abbrev pub dropped : Dropped → Receiver → Receiver
dropped cause r = record r { standing = Gone cause; pending = false; wanted = [] }

-- dropped by a status of an update message: it stands in the row's update status
abbrev pub refused_update : Step → ℕ → Receiver → Receiver
refused_update step status r =
    dropped (Status (step_number step) status) (record r { row = record (r.row) { update_status = status } })

-- by a status of a BLOB message: it stands in the row's transfer status
abbrev pub refused_transfer : Step → ℕ → Receiver → Receiver
refused_transfer step status r =
    dropped (Status (step_number step) status) (record r { row = record (r.row) { transfer_status = status } })

-- the per cent of blocks held
abbrev pub held_percent : List Bool → ℕ
held_percent blocks = 100 * (length blocks - size_of blocks) / length blocks

-- its missing blocks are these
abbrev pub with_blocks : List Bool → Receiver → Receiver
with_blocks blocks r = record r { blocks = blocks; row = record (r.row) { progress = held_percent blocks } }

-- its missing chunks of the block are these; with none it holds the block
abbrev pub holds_block : ℕ → Receiver → Receiver
holds_block b r = with_blocks (set r.blocks b false) r

abbrev pub with_chunks : ℕ → List Bool → Receiver → Receiver
with_chunks b chunks r =
    if has_some chunks then record r { chunks = chunks } else holds_block b (record r { chunks = chunks })

abbrev pub is_of : ℕ → Option ShownJob → Bool
is_of id None = false
is_of id (Some job) = job.id == id

-- ---- 1 check: a Metadata Status with its index

abbrev pub on_check : Receiver → UpdateReply → Receiver
on_check r (MetadataStatus status index) =
    if not (index == r.row.index) then r
    else if status == 0 then answered r
    else refused_update Check status r
on_check r _ = r

-- ---- 2 start: an Update Status

-- the transfer may go on, or is done
abbrev pub has_taken : ℕ → Bool
has_taken phase = (phase == 2) || (phase == 3) || (phase == 4) || (phase == 6)

abbrev pub on_start : Sending → Receiver → UpdateReply → Receiver
on_start p r (UpdateStatus status phase job) =
    if not (status == 0) then refused_update Start status r
    else if is_of p.id job && has_taken phase then answered r
    else r
on_start p r _ = r

-- ---- 3 information: a BLOB Information Status

abbrev pub takes_mode : Sending → Limits → Bool
takes_mode p limits = if is_push p then limits.push else limits.pull

abbrev pub on_limits : Sending → Receiver → Limits → Receiver
on_limits p r limits =
    if nat_lt limits.most_size p.size then refused_transfer Information 7 r
    else if nat_lt p.log limits.least_log || nat_lt limits.most_log p.log then refused_transfer Information 2 r
    else if nat_lt (min limits.most_chunk (limits.mtu - 4)) p.chunk || nat_lt limits.most_chunks (full_chunks p)
    then refused_transfer Information 3 r
    else if not (takes_mode p limits) then refused_transfer Information 8 r
    else answered r

abbrev pub on_information : Sending → Receiver → BlobAnswer → Receiver
on_information p r (InformationIs limits) = on_limits p r limits
on_information p r _ = r

-- ---- 4 transfer: a Transfer Status of this BLOB

abbrev pub is_ours : Sending → Option ℕ → Option Parameters → Bool
is_ours p (Some id) (Some q) = (id == p.id) && (q.size == p.size) && (q.log == p.log)
is_ours p _ _ = false

abbrev pub blocks_told : Receiver → Option (List Bool) → Receiver
blocks_told r None = r
blocks_told r (Some blocks) = answered (with_blocks blocks r)

-- its missing blocks, in phases 2 and 3; none in phase 4
abbrev pub blocks_in : Sending → ℕ → List ℕ → Option (List Bool)
blocks_in p phase field =
    if (phase == 2) || (phase == 3) then set_of_field (block_total p) field
    else if phase == 4 then Some (no_number (block_total p))
    else None

abbrev pub on_transfer : Sending → Receiver → BlobAnswer → Receiver
on_transfer p r (TransferIs status phase id parameters field) =
    if not (status == 0) then refused_transfer Transfer status r
    else if is_ours p id parameters then blocks_told r (blocks_in p phase field)
    else r
on_transfer p r _ = r

-- ---- 5 block: a Block Status of this block

-- the missing chunks that it tells; none where it tells of another block or names no set
abbrev pub chunks_in : Sending → ℕ → ℕ → ℕ → Report → Option (List Bool)
chunks_in p b block size report = if (block == b) && (size == p.chunk) then named_set (chunk_total p b) report else None

abbrev pub block_told : ℕ → Receiver → Option (List Bool) → Receiver
block_told b r None = r
block_told b r (Some chunks) = answered (with_chunks b chunks r)

abbrev pub on_block : Sending → ℕ → Receiver → BlobAnswer → Receiver
on_block p b r (BlockIs status block size report) =
    if not (status == 0) then refused_transfer (Block b) status r else block_told b r (chunks_in p b block size report)
on_block p b r _ = r

-- ---- 6 pull: a Partial Block Report or a Block Status of this block

abbrev pub hears : Receiver → Receiver
hears r = record r { heard = true }

-- wanted numbers add up between time events
abbrev pub wants : ℕ → List ℕ → Receiver → Receiver
wants n numbers r = record r { wanted = union (set_of n numbers) r.wanted }

abbrev pub part_told : ℕ → ℕ → Receiver → List ℕ → Receiver
part_told n b r [] = answered (with_chunks b (no_number n) (hears r))
part_told n b r (k ∷ ks) = wants n (k ∷ ks) (hears r)

-- chunks that a pulling receiver wants at once at most
abbrev pub most_wanted : ℕ
most_wanted = 16

-- the first missing chunks are wanted
abbrev pub pull_told : ℕ → Receiver → Option (List Bool) → Receiver
pull_told b r None = r
pull_told b r (Some chunks) =
    if has_some chunks then wants (length chunks) (take most_wanted (members chunks)) (with_chunks b chunks (hears r))
    else answered (with_chunks b chunks (hears r))

abbrev pub on_pull : Sending → ℕ → Receiver → BlobAnswer → Receiver
on_pull p b r (PartIs chunks) = if all_below (chunk_total p b) chunks then part_told (chunk_total p b) b r chunks else r
on_pull p b r (BlockIs status block size report) =
    if not (status == 0) then refused_transfer (Pull b) status r else pull_told b r (chunks_in p b block size report)
on_pull p b r _ = r

-- ---- 7 get: a Block Status of this block

-- fruitless answers in a row that drop
abbrev pub most_barren : ℕ
most_barren = 5

-- an answer that misses no fewer chunks than before is fruitless; the fifth one in a row drops
abbrev pub with_barren : ℕ → Receiver → Receiver
with_barren barren r = if nat_le most_barren barren then dropped Barren (record r { barren = barren }) else record r { barren = barren }

abbrev pub barren_after : Receiver → List Bool → ℕ
barren_after r chunks = if nat_le (size_of r.chunks) (size_of chunks) then r.barren + 1 else 0

abbrev pub get_told : ℕ → Receiver → Option (List Bool) → Receiver
get_told b r None = r
get_told b r (Some chunks) = with_barren (barren_after r chunks) (answered (with_chunks b chunks r))

abbrev pub on_get : Sending → ℕ → Receiver → BlobAnswer → Receiver
on_get p b r (BlockIs status block size report) =
    if not (status == 0) then refused_transfer (Get b) status r else get_told b r (chunks_in p b block size report)
on_get p b r _ = r

-- ---- 8 verify: an Update Status of this transfer

abbrev pub on_phase : Receiver → ℕ → Receiver
on_phase r phase =
    if (phase == 4) || (phase == 6) then answered r
    else if (phase == 1) || (phase == 5) then dropped (Phase phase) r
    else if phase == 3 then record r { silent = 0 }
    else r

abbrev pub on_verify : Sending → Receiver → UpdateReply → Receiver
on_verify p r (UpdateStatus status phase job) = if is_of p.id job then on_phase r phase else r
on_verify p r _ = r

-- ---- 9 apply: an Update Status of this transfer

abbrev pub on_apply : Sending → Receiver → UpdateReply → Receiver
on_apply p r (UpdateStatus status phase job) =
    if not (is_of p.id job) then r
    else if not (status == 0) then refused_update Apply status r
    else if phase == 6 then answered r
    else r
on_apply p r _ = r

-- ---- 10 confirm: any packet once its row is in Apply Success

abbrev pub on_confirm : Receiver → Receiver
on_confirm r = if r.row.phase == apply_success then answered r else r

-- ---- 11 cancel: an Update Status without the transfer

abbrev pub on_cancel : Sending → Receiver → UpdateReply → Receiver
on_cancel p r (UpdateStatus status phase job) = if (phase == 0) || not (is_of p.id job) then answered r else r
on_cancel p r _ = r

-- ---- all steps

abbrev pub update_told : Sending → Step → Receiver → UpdateReply → Receiver
update_told p Check r reply = on_check r reply
update_told p Start r reply = on_start p r reply
update_told p Verify r reply = on_verify p r reply
update_told p Apply r reply = on_apply p r reply
update_told p Cancel r reply = on_cancel p r reply
update_told p _ r reply = r

abbrev pub blob_told : Sending → Step → Receiver → BlobAnswer → Receiver
blob_told p Information r answer = on_information p r answer
blob_told p Transfer r answer = on_transfer p r answer
blob_told p (Block b) r answer = on_block p b r answer
blob_told p (Pull b) r answer = on_pull p b r answer
blob_told p (Get b) r answer = on_get p b r answer
blob_told p _ r answer = r

abbrev pub answer_told : Sending → Step → Receiver → Answer → Receiver
answer_told p step r (FromUpdate reply) = update_told p step r reply
answer_told p step r (FromBlob answer) = blob_told p step r answer

abbrev pub step_told : Sending → Answer → Receiver → Step → Receiver
step_told p answer r Confirm = on_confirm r
step_told p answer r step = answer_told p step r answer

abbrev pub if_pending : Sending → Answer → Step → Receiver → Bool → Receiver
if_pending p answer step r true = step_told p answer r step
if_pending p answer step r false = r

abbrev pub place_told : Sending → Answer → Receiver → Place → Receiver
place_told p answer r (At step) = if_pending p answer step r r.pending
place_told p answer r _ = r

-- a BLOB alone has no row of an update
abbrev pub row_told : Sending → Answer → Receiver → Purpose → Receiver
row_told p answer r Blob = r
row_told p answer r (Update offered apply) = record r { row = row_after p.id offered r.row answer }

-- whether the transfer is present: not once it is being canceled
abbrev pub is_canceled : Part → Bool
is_canceled Cancelling = true
is_canceled _ = false

abbrev pub is_present : Place → Bool
is_present (Before step) = not (is_canceled (part_of step))
is_present (At step) = not (is_canceled (part_of step))
is_present (Ended part) = not (is_canceled part)
is_present Verified = true

-- a packet counts for its row while the transfer is present (this profile)
abbrev pub row_counted : Sending → Answer → Receiver → Purpose → (present : Bool) → Receiver
row_counted p answer r purpose true = row_told p answer r purpose
row_counted p answer r purpose false = r

abbrev pub receiver_told : Client → Answer → Receiver → Receiver
receiver_told c answer r = place_told c.sending answer (row_counted c.sending answer r c.purpose (is_present c.place)) c.place

abbrev pub told_if : Client → Answer → Receiver → Bool → Receiver
told_if c answer r true = receiver_told c answer r
told_if c answer r false = r

-- a client after a packet of a receiver, at a moment
abbrev pub told : Client → (from : ℕ) → Answer → ℕ → Client
told c from answer now =
    record (at_moment c now) { receivers = map (λ r. told_if c answer r (r.row.address == from)) c.receivers }
