-- What a packet does to a client's rows: addresses and indexes stand, and numbers stay in their ranges.
use Rattle.std.proofs.Common.{◌≡◌, ◌<◌, ◌≤◌, ℕ, ◌-◌, Bool, true, false, List, [], ◌∷◌, length, take, set, refl, ◌∙◌, cond, arith, Option, Some, None, ap}
use Rattle.std.specs.Prelude.{◌==◌, ◌&&◌, ◌||◌, not, nat_lt, nat_le, min, bytes_eq}
use Rattle.std.proofs.Math.Nat.{div-le_of_le-mul}
use Rattle.std.proofs.lemmas.Bool.Decides.{nat_tests}
use Rattle.mu_model_image.specs.declared.Meta.{Meta}
use Rattle.mu_model_image.specs.Meta.{firmware_id, own_company}
use Rattle.mu_model_wire.specs.Reports.{no_number, members}
use Rattle.mu_model_node.specs.UpdateMessages.{ShownJob, UpdateReply, InformationStatus, MetadataStatus, UpdateStatus}
use Rattle.mu_model_client.specs.declared.Sending.{Sending}
use Rattle.mu_model_client.specs.Sets.{has_some, all_below}
use Rattle.mu_model_client.specs.Answers.{Limits, BlobAnswer, InformationIs, TransferIs, BlockIs, PartIs, Answer, FromUpdate, FromBlob}
use Rattle.mu_model_client.specs.Rows.{Row, is_reported, rank, phase_reported, phase_of_job, phase_shown, phase_after_update, row_after}
use Rattle.mu_model_client.specs.Client.{Purpose, Blob, Update, Step, Check, Start, Information, Transfer, Block, Pull, Get, Verify, Apply, Confirm, Cancel, Receiver, Place, At, Client, chunk_total, full_chunks}
use Rattle.mu_model_client.specs.Told.{answered, held_percent, with_blocks, with_chunks, is_of, on_check, has_taken, on_start, takes_mode, on_limits, on_information, is_ours, blocks_told, blocks_in, on_transfer, chunks_in, block_told, on_block, hears, wants, part_told, pull_told, on_pull, with_barren, barren_after, get_told, on_get, on_phase, on_verify, on_apply, on_confirm, on_cancel, update_told, blob_told, answer_told, step_told, if_pending, place_told, row_told, is_present, row_counted, told_if}
use Rattle.mu_model_distributor.specs.Sound.{AnswerFits, UpdateAnswerFits, BlobAnswerFits}

-- the numbers of a row
pub record InRange (row : Row) : Type 0 where
  pub phase : row.phase ≤ 10
  pub update_status : row.update_status < 8
  pub transfer_status : row.transfer_status ≤ 10
  pub progress : row.progress ≤ 100

pub record Keeps (old new : Row) : Type 0 where
  pub address : new.address ≡ old.address
  pub index : new.index ≡ old.index
  pub in_range : InRange old → InRange new

-- ... and the phase too
pub record Stays (old new : Row) : Type 0 where
  pub keeps : Keeps old new
  pub phase : new.phase ≡ old.phase

pub keeps_same : (row : Row) → Keeps row row
keeps_same row = record { address = refl; index = refl; in_range = λ h. h }

same : (row : Row) → Stays row row
same row = record { keeps = keeps_same row; phase = refl }

pub then_keeps : {a b c : Row} → Keeps a b → Keeps b c → Keeps a c
then_keeps h k = record { address = k.address ∙ h.address; index = k.index ∙ h.index; in_range = λ r. k.in_range (h.in_range r) }

then_stays : {a b c : Row} → Stays a b → Stays b c → Stays a c
then_stays h k = record { keeps = then_keeps h.keeps k.keeps; phase = k.phase ∙ h.phase }

-- ---- what an answer does

either : (r : Receiver) (b : Bool) (x y : Receiver) → Stays r.row x.row → Stays r.row y.row → Stays r.row (cond b x y).row
either r true x y h k = h
either r false x y h k = k

update_status_kept : (r : Receiver) (status : ℕ) → status < 8 → Stays r.row (record (r.row) { update_status = status })
update_status_kept r status h = record { keeps = record { address = refl; index = refl; in_range = λ k. record { phase = k.phase; update_status = h; transfer_status = k.transfer_status; progress = k.progress } }; phase = refl }

transfer_status_kept : (r : Receiver) (status : ℕ) → status ≤ 10 → Stays r.row (record (r.row) { transfer_status = status })
transfer_status_kept r status h = record { keeps = record { address = refl; index = refl; in_range = λ k. record { phase = k.phase; update_status = k.update_status; transfer_status = h; progress = k.progress } }; phase = refl }

progress_kept : (row : Row) (progress : ℕ) → progress ≤ 100 → Stays row (record row { progress = progress })
progress_kept row progress h = record { keeps = record { address = refl; index = refl; in_range = λ k. record { phase = k.phase; update_status = k.update_status; transfer_status = k.transfer_status; progress = h } }; phase = refl }

percent_below : (blocks : List Bool) → held_percent blocks ≤ 100
percent_below blocks = div-le_of_le-mul (length blocks) (omega arith)

with_blocks_kept : (blocks : List Bool) (r : Receiver) → Stays r.row (with_blocks blocks r).row
with_blocks_kept blocks r = progress_kept r.row (held_percent blocks) (percent_below blocks)

with_chunks_kept : (b : ℕ) (chunks : List Bool) (r : Receiver) → Stays r.row (with_chunks b chunks r).row
with_chunks_kept b chunks r = either r (has_some chunks) _ _ (same r.row) (with_blocks_kept (set r.blocks b false) (record r { chunks = chunks }))

check_kept : (r : Receiver) (reply : UpdateReply) → UpdateAnswerFits reply → Stays r.row (on_check r reply).row
check_kept r (MetadataStatus status index) h = either r (not (index == r.row.index)) _ _ (same r.row) (either r (status == 0) _ _ (same r.row) (update_status_kept r status h))
check_kept r (InformationStatus count first ids) h = same r.row
check_kept r (UpdateStatus status phase job) h = same r.row

start_kept : (p : Sending) (r : Receiver) (reply : UpdateReply) → UpdateAnswerFits reply → Stays r.row (on_start p r reply).row
start_kept p r (UpdateStatus status phase job) h = either r (not (status == 0)) _ _ (update_status_kept r status h) (either r (is_of p.id job && has_taken phase) _ _ (same r.row) (same r.row))
start_kept p r (InformationStatus count first ids) h = same r.row
start_kept p r (MetadataStatus status index) h = same r.row

limits_kept : (p : Sending) (r : Receiver) (l : Limits) → Stays r.row (on_limits p r l).row
limits_kept p r l =
    either r (nat_lt l.most_size p.size) _ _ (transfer_status_kept r 7 (omega arith))
    (either r (nat_lt p.log l.least_log || nat_lt l.most_log p.log) _ _ (transfer_status_kept r 2 (omega arith))
    (either r (nat_lt (min l.most_chunk (l.mtu - 4)) p.chunk || nat_lt l.most_chunks (full_chunks p)) _ _ (transfer_status_kept r 3 (omega arith))
    (either r (not (takes_mode p l)) _ _ (transfer_status_kept r 8 (omega arith)) (same r.row))))

information_kept : (p : Sending) (r : Receiver) (answer : BlobAnswer) → Stays r.row (on_information p r answer).row
information_kept p r (InformationIs l) = limits_kept p r l
information_kept p r (TransferIs status phase id parameters blocks) = same r.row
information_kept p r (BlockIs status block size report) = same r.row
information_kept p r (PartIs chunks) = same r.row

blocks_kept : (r : Receiver) (blocks : Option (List Bool)) → Stays r.row (blocks_told r blocks).row
blocks_kept r None = same r.row
blocks_kept r (Some blocks) = with_blocks_kept blocks r

transfer_kept : (p : Sending) (r : Receiver) (answer : BlobAnswer) → BlobAnswerFits answer → Stays r.row (on_transfer p r answer).row
transfer_kept p r (TransferIs status phase id parameters field) h =
    either r (not (status == 0)) _ _ (transfer_status_kept r status h)
    (either r (is_ours p id parameters) _ _ (blocks_kept r (blocks_in p phase field)) (same r.row))
transfer_kept p r (InformationIs l) h = same r.row
transfer_kept p r (BlockIs status block size report) h = same r.row
transfer_kept p r (PartIs chunks) h = same r.row

block_told_kept : (b : ℕ) (r : Receiver) (chunks : Option (List Bool)) → Stays r.row (block_told b r chunks).row
block_told_kept b r None = same r.row
block_told_kept b r (Some chunks) = with_chunks_kept b chunks r

block_kept : (p : Sending) (b : ℕ) (r : Receiver) (answer : BlobAnswer) → BlobAnswerFits answer → Stays r.row (on_block p b r answer).row
block_kept p b r (BlockIs status block size report) h = either r (not (status == 0)) _ _ (transfer_status_kept r status h) (block_told_kept b r (chunks_in p b block size report))
block_kept p b r (InformationIs l) h = same r.row
block_kept p b r (TransferIs status phase id parameters field) h = same r.row
block_kept p b r (PartIs chunks) h = same r.row

part_kept : (n b : ℕ) (r : Receiver) (chunks : List ℕ) → Stays r.row (part_told n b r chunks).row
part_kept n b r [] = with_chunks_kept b (no_number n) (hears r)
part_kept n b r (k ∷ ks) = same r.row

pull_told_kept : (b : ℕ) (r : Receiver) (chunks : Option (List Bool)) → Stays r.row (pull_told b r chunks).row
pull_told_kept b r None = same r.row
pull_told_kept b r (Some chunks) =
    either r (has_some chunks) (wants (length chunks) (take 16 (members chunks)) (with_chunks b chunks (hears r))) (answered (with_chunks b chunks (hears r))) (with_chunks_kept b chunks (hears r)) (with_chunks_kept b chunks (hears r))

pull_kept : (p : Sending) (b : ℕ) (r : Receiver) (answer : BlobAnswer) → BlobAnswerFits answer → Stays r.row (on_pull p b r answer).row
pull_kept p b r (PartIs chunks) h = either r (all_below (chunk_total p b) chunks) _ _ (part_kept (chunk_total p b) b r chunks) (same r.row)
pull_kept p b r (BlockIs status block size report) h = either r (not (status == 0)) _ _ (transfer_status_kept r status h) (pull_told_kept b r (chunks_in p b block size report))
pull_kept p b r (InformationIs l) h = same r.row
pull_kept p b r (TransferIs status phase id parameters field) h = same r.row

barren_kept : (n : ℕ) (r : Receiver) → Stays r.row (with_barren n r).row
barren_kept n r = either r (nat_le 5 n) _ _ (same r.row) (same r.row)

get_told_kept : (b : ℕ) (r : Receiver) (chunks : Option (List Bool)) → Stays r.row (get_told b r chunks).row
get_told_kept b r None = same r.row
get_told_kept b r (Some chunks) = then_stays (with_chunks_kept b chunks r) (barren_kept (barren_after r chunks) (answered (with_chunks b chunks r)))

get_kept : (p : Sending) (b : ℕ) (r : Receiver) (answer : BlobAnswer) → BlobAnswerFits answer → Stays r.row (on_get p b r answer).row
get_kept p b r (BlockIs status block size report) h = either r (not (status == 0)) _ _ (transfer_status_kept r status h) (get_told_kept b r (chunks_in p b block size report))
get_kept p b r (InformationIs l) h = same r.row
get_kept p b r (TransferIs status phase id parameters field) h = same r.row
get_kept p b r (PartIs chunks) h = same r.row

phase_kept : (r : Receiver) (phase : ℕ) → Stays r.row (on_phase r phase).row
phase_kept r phase =
    either r ((phase == 4) || (phase == 6)) _ _ (same r.row)
    (either r ((phase == 1) || (phase == 5)) _ _ (same r.row) (either r (phase == 3) _ _ (same r.row) (same r.row)))

verify_kept : (p : Sending) (r : Receiver) (reply : UpdateReply) → Stays r.row (on_verify p r reply).row
verify_kept p r (UpdateStatus status phase job) = either r (is_of p.id job) _ _ (phase_kept r phase) (same r.row)
verify_kept p r (InformationStatus count first ids) = same r.row
verify_kept p r (MetadataStatus status index) = same r.row

apply_kept : (p : Sending) (r : Receiver) (reply : UpdateReply) → UpdateAnswerFits reply → Stays r.row (on_apply p r reply).row
apply_kept p r (UpdateStatus status phase job) h =
    either r (not (is_of p.id job)) _ _ (same r.row)
    (either r (not (status == 0)) _ _ (update_status_kept r status h) (either r (phase == 6) _ _ (same r.row) (same r.row)))
apply_kept p r (InformationStatus count first ids) h = same r.row
apply_kept p r (MetadataStatus status index) h = same r.row

confirm_kept : (r : Receiver) → Stays r.row (on_confirm r).row
confirm_kept r = either r (r.row.phase == 8) _ _ (same r.row) (same r.row)

cancel_kept : (p : Sending) (r : Receiver) (reply : UpdateReply) → Stays r.row (on_cancel p r reply).row
cancel_kept p r (UpdateStatus status phase job) = either r ((phase == 0) || not (is_of p.id job)) _ _ (same r.row) (same r.row)
cancel_kept p r (InformationStatus count first ids) = same r.row
cancel_kept p r (MetadataStatus status index) = same r.row

update_kept : (p : Sending) (step : Step) (r : Receiver) (reply : UpdateReply) → UpdateAnswerFits reply → Stays r.row (update_told p step r reply).row
update_kept p Check r reply h = check_kept r reply h
update_kept p Start r reply h = start_kept p r reply h
update_kept p Verify r reply h = verify_kept p r reply
update_kept p Apply r reply h = apply_kept p r reply h
update_kept p Cancel r reply h = cancel_kept p r reply
update_kept p _ r reply h = same r.row

blob_kept : (p : Sending) (step : Step) (r : Receiver) (answer : BlobAnswer) → BlobAnswerFits answer → Stays r.row (blob_told p step r answer).row
blob_kept p Information r answer h = information_kept p r answer
blob_kept p Transfer r answer h = transfer_kept p r answer h
blob_kept p (Block b) r answer h = block_kept p b r answer h
blob_kept p (Pull b) r answer h = pull_kept p b r answer h
blob_kept p (Get b) r answer h = get_kept p b r answer h
blob_kept p _ r answer h = same r.row

answer_kept : (p : Sending) (step : Step) (r : Receiver) (answer : Answer) → AnswerFits answer → Stays r.row (answer_told p step r answer).row
answer_kept p step r (FromUpdate reply) h = update_kept p step r reply h
answer_kept p step r (FromBlob answer) h = blob_kept p step r answer h

step_kept : (p : Sending) (answer : Answer) (r : Receiver) (step : Step) → AnswerFits answer → Stays r.row (step_told p answer r step).row
step_kept p answer r Confirm h = confirm_kept r
step_kept p answer r step h = answer_kept p step r answer h

pending_kept : (p : Sending) (answer : Answer) (step : Step) (r : Receiver) (b : Bool) → AnswerFits answer → Stays r.row (if_pending p answer step r b).row
pending_kept p answer step r true h = step_kept p answer r step h
pending_kept p answer step r false h = same r.row

place_kept : (p : Sending) (answer : Answer) (r : Receiver) (place : Place) → AnswerFits answer → Stays r.row (place_told p answer r place).row
place_kept p answer r (At step) h = pending_kept p answer step r r.pending h
place_kept p answer r _ h = same r.row

-- ---- what a packet says

fits_reported : (old new : ℕ) → old ≤ 10 → phase_reported old new ≤ 10
fits_reported old new h = elim (is_reported new && (nat_lt (rank old) 5 && nat_le (rank old) (rank new))) as (λ b. is_reported new && (nat_lt (rank old) 5 && nat_le (rank old) (rank new)) ≡ b → cond b new old ≤ 10) [ true ↦ λ e. grind (arith, nat_tests) | false ↦ λ e. h ] refl

fits_job : (id old phase : ℕ) (job : Option ShownJob) → old ≤ 10 → phase_of_job id old phase job ≤ 10
fits_job id old phase None h = h
fits_job id old phase (Some job) h = elim (job.id == id) as (λ b. cond b (phase_reported old phase) old ≤ 10) [ true ↦ fits_reported old phase h | false ↦ h ]

fits_shown : (offered : Meta) (old : ℕ) (ids : List (List ℕ)) → old ≤ 10 → phase_shown offered old ids ≤ 10
fits_shown offered old [] h = h
fits_shown offered old (shown ∷ more) h = elim (bytes_eq shown (firmware_id own_company offered) && is_reported old) as (λ b. cond b 8 old ≤ 10) [ true ↦ omega arith | false ↦ h ]

fits_after : (id : ℕ) (offered : Meta) (row : Row) (reply : UpdateReply) → row.phase ≤ 10 → phase_after_update id offered row reply ≤ 10
fits_after id offered row (UpdateStatus status phase job) h = fits_job id row.phase phase job h
fits_after id offered row (InformationStatus count first ids) h = elim (first == row.index) as (λ b. cond b (phase_shown offered row.phase ids) row.phase ≤ 10) [ true ↦ fits_shown offered row.phase ids h | false ↦ h ]
fits_after id offered row (MetadataStatus status index) h = h

row_kept : (id : ℕ) (offered : Meta) (row : Row) (answer : Answer) → Keeps row (row_after id offered row answer)
row_kept id offered row (FromUpdate reply) = record { address = refl; index = refl; in_range = λ h. record { phase = fits_after id offered row reply h.phase; update_status = h.update_status; transfer_status = h.transfer_status; progress = h.progress } }
row_kept id offered row (FromBlob answer) = keeps_same row

row_told_kept : (p : Sending) (answer : Answer) (r : Receiver) (purpose : Purpose) → Keeps r.row (row_told p answer r purpose).row
row_told_kept p answer r Blob = keeps_same r.row
row_told_kept p answer r (Update offered apply) = row_kept p.id offered r.row answer

counted_kept : (p : Sending) (answer : Answer) (r : Receiver) (purpose : Purpose) (present : Bool) → Keeps r.row (row_counted p answer r purpose present).row
counted_kept p answer r purpose true = row_told_kept p answer r purpose
counted_kept p answer r purpose false = keeps_same r.row

pub told_keeps : (c : Client) (answer : Answer) (r : Receiver) (b : Bool) → AnswerFits answer → Keeps r.row (told_if c answer r b).row
told_keeps c answer r true h = then_keeps (counted_kept c.sending answer r c.purpose (is_present c.place)) (place_kept c.sending answer (row_counted c.sending answer r c.purpose (is_present c.place)) c.place h).keeps
told_keeps c answer r false h = keeps_same r.row

-- the phase is what the packet says of it, while the transfer is present
told_phase : (c : Client) (answer : Answer) (r : Receiver) → AnswerFits answer → (told_if c answer r true).row.phase ≡ (row_counted c.sending answer r c.purpose (is_present c.place)).row.phase
told_phase c answer r h = (place_kept c.sending answer (row_counted c.sending answer r c.purpose (is_present c.place)) c.place h).phase

pub present_phase : (c : Client) (answer : Answer) (r : Receiver) → AnswerFits answer → is_present c.place ≡ true → (told_if c answer r true).row.phase ≡ (row_told c.sending answer r c.purpose).row.phase
present_phase c answer r h e = told_phase c answer r h ∙ ap (λ b. (row_counted c.sending answer r c.purpose b).row.phase) e

pub canceled_phase : (c : Client) (answer : Answer) (r : Receiver) → AnswerFits answer → is_present c.place ≡ false → (told_if c answer r true).row.phase ≡ r.row.phase
canceled_phase c answer r h e = told_phase c answer r h ∙ ap (λ b. (row_counted c.sending answer r c.purpose b).row.phase) e
