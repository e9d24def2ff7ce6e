-- A status by which a receiver is dropped stands in its row.
use Rattle.std.proofs.Common.{◌≡◌, ℕ, Bool, true, false, List, [], ◌∷◌, map, refl, sym, ap, subst, ◌∙◌, cond, Option, Some, None}
use Rattle.std.specs.Prelude.{◌+◌, ◌-◌, ◌==◌, ◌&&◌, ◌||◌, not, min, nat_lt, nat_le, length, take}
use Rattle.mu_model_wire.specs.Reports.{members, no_number}
use Rattle.mu_model_wire.specs.declared.reports.Report.{Report}
use Rattle.mu_model_node.specs.declared.Parameters.{Parameters}
use Rattle.mu_model_node.specs.UpdateMessages.{ShownJob, UpdateReply, InformationStatus, MetadataStatus, UpdateStatus}
use Rattle.mu_model_client.specs.Answers.{Limits, BlobAnswer, InformationIs, TransferIs, BlockIs, PartIs, Answer, FromUpdate, FromBlob}
use Rattle.mu_model_client.specs.declared.Dropped.TheVariants.{Barren}
use Rattle.mu_model_client.specs.declared.Sending.{Sending}
use Rattle.mu_model_client.specs.Rows.{apply_success}
use Rattle.mu_model_client.specs.Sets.{has_some, size_of, all_below}
use Rattle.mu_model_client.specs.Client.{Purpose, Blob, Update, Step, Check, Start, Information, Transfer, Block, Chunks, Pull, Get, Verify, Apply, Confirm, Cancel, step_number, Receiver, Place, Before, At, Verified, Ended, Client, chunk_total, full_chunks}
use Rattle.mu_model_client.specs.Told as t
use Rattle.mu_model_client.specs.Told.{told}
use Rattle.mu_model_rows.specs.Clients.{Each, IsNoStatus, StatusStands, as_before, by_update, by_transfer, by_none, StatusesStand}

-- ---- what keeps standing and statuses

pub record Stays (before after : Receiver) : Type 0 where
  pub standing : after.standing ≡ before.standing
  pub update : after.row.update_status ≡ before.row.update_status
  pub transfer : after.row.transfer_status ≡ before.row.transfer_status

same : (r : Receiver) → Stays r r
same r = record { standing = refl; update = refl; transfer = refl }

told_same : (p : Sending) (answer : Answer) (r : Receiver) (purpose : Purpose) → Stays r (t.row_told p answer r purpose)
told_same p answer r Blob = same r
told_same p (FromUpdate reply) r (Update offered applies) = record { standing = refl; update = refl; transfer = refl }
told_same p (FromBlob answer) r (Update offered applies) = record { standing = refl; update = refl; transfer = refl }

counted_same : (p : Sending) (answer : Answer) (r : Receiver) (purpose : Purpose) (present : Bool) → Stays r (t.row_counted p answer r purpose present)
counted_same p answer r purpose true = told_same p answer r purpose
counted_same p answer r purpose false = same r

with_chunks_same : (b : ℕ) (chunks : List Bool) (r : Receiver) (some : Bool) → Stays r (cond some (record r { chunks = chunks }) (t.holds_block b (record r { chunks = chunks })))
with_chunks_same b chunks r true = record { standing = refl; update = refl; transfer = refl }
with_chunks_same b chunks r false = record { standing = refl; update = refl; transfer = refl }

chunks_same : (b : ℕ) (chunks : List Bool) (r : Receiver) → Stays r (t.with_chunks b chunks r)
chunks_same b chunks r = with_chunks_same b chunks r (has_some chunks)

module _ (c : Client) where
  stays : (r s : Receiver) → Stays r s → StatusStands c r s
  stays r s h = as_before h.standing h.update h.transfer

  -- what was told to a receiver whose row was told
  after : (r y z : Receiver) → Stays r y → StatusStands c y z → StatusStands c r z
  after r y z h (as_before a u w) = as_before (a ∙ h.standing) (u ∙ h.update) (w ∙ h.transfer)
  after r y z h (by_update step is at a w) = by_update step is at a (w ∙ h.transfer)
  after r y z h (by_transfer step is at a u) = by_transfer step is at a (u ∙ h.update)
  after r y z h (by_none n u w) = by_none n (u ∙ h.update) (w ∙ h.transfer)

  either : (b : Bool) (r x y : Receiver) → StatusStands c r x → StatusStands c r y → StatusStands c r (cond b x y)
  either true r x y h k = h
  either false r x y h k = k

  nothing : (r : Receiver) → StatusStands c r r
  nothing r = as_before refl refl refl

  -- ---- one step after the other

  module _ (r : Receiver) where
    answers : StatusStands c r (t.answered r)
    answers = as_before refl refl refl

    check_stands : c.place ≡ At Check → (reply : UpdateReply) → StatusStands c r (t.on_check r reply)
    check_stands e (MetadataStatus status index) =
        either (not (index == r.row.index)) r _ _ (nothing r) (either (status == 0) r _ _ answers (by_update Check tt e refl refl))
    check_stands e (UpdateStatus status phase job) = nothing r
    check_stands e (InformationStatus count first ids) = nothing r

    start_stands : (p : Sending) → c.place ≡ At Start → (reply : UpdateReply) → StatusStands c r (t.on_start p r reply)
    start_stands p e (UpdateStatus status phase job) =
        either (not (status == 0)) r _ _ (by_update Start tt e refl refl) (either (t.is_of p.id job && t.has_taken phase) r _ _ answers (nothing r))
    start_stands p e (MetadataStatus status index) = nothing r
    start_stands p e (InformationStatus count first ids) = nothing r

    limits_stand : (p : Sending) (limits : Limits) → c.place ≡ At Information → StatusStands c r (t.on_limits p r limits)
    limits_stand p limits e =
        either (nat_lt limits.most_size p.size) r _ _ (by_transfer Information tt e refl refl)
        (either (nat_lt p.log limits.least_log || nat_lt limits.most_log p.log) r _ _ (by_transfer Information tt e refl refl)
        (either (nat_lt (min limits.most_chunk (limits.mtu - 4)) p.chunk || nat_lt limits.most_chunks (full_chunks p)) r _ _ (by_transfer Information tt e refl refl)
        (either (not (t.takes_mode p limits)) r _ _ (by_transfer Information tt e refl refl) answers)))

    information_stands : (p : Sending) → c.place ≡ At Information → (answer : BlobAnswer) → StatusStands c r (t.on_information p r answer)
    information_stands p e (InformationIs limits) = limits_stand p limits e
    information_stands p e (TransferIs status phase id parameters field) = nothing r
    information_stands p e (BlockIs status block size report) = nothing r
    information_stands p e (PartIs chunks) = nothing r

    blocks_stand : (found : Option (List Bool)) → StatusStands c r (t.blocks_told r found)
    blocks_stand None = nothing r
    blocks_stand (Some blocks) = as_before refl refl refl

    transfer_stands : (p : Sending) → c.place ≡ At Transfer → (answer : BlobAnswer) → StatusStands c r (t.on_transfer p r answer)
    transfer_stands p e (TransferIs status phase id parameters field) =
        either (not (status == 0)) r _ _ (by_transfer Transfer tt e refl refl) (either (t.is_ours p id parameters) r _ _ (blocks_stand (t.blocks_in p phase field)) (nothing r))
    transfer_stands p e (InformationIs limits) = nothing r
    transfer_stands p e (BlockIs status block size report) = nothing r
    transfer_stands p e (PartIs chunks) = nothing r

    answered_chunks : (b : ℕ) (chunks : List Bool) → StatusStands c r (t.answered (t.with_chunks b chunks r))
    answered_chunks b chunks = let k = chunks_same b chunks r in as_before k.standing k.update k.transfer

    block_told : (b : ℕ) (found : Option (List Bool)) → StatusStands c r (t.block_told b r found)
    block_told b None = nothing r
    block_told b (Some chunks) = answered_chunks b chunks

    block_stands : (p : Sending) (b : ℕ) → c.place ≡ At (Block b) → (answer : BlobAnswer) → StatusStands c r (t.on_block p b r answer)
    block_stands p b e (BlockIs status block size report) =
        either (not (status == 0)) r _ _ (by_transfer (Block b) tt e refl refl) (block_told b (t.chunks_in p b block size report))
    block_stands p b e (InformationIs limits) = nothing r
    block_stands p b e (TransferIs status phase id parameters field) = nothing r
    block_stands p b e (PartIs chunks) = nothing r

    part_stands : (n b : ℕ) (chunks : List ℕ) → StatusStands c r (t.part_told n b r chunks)
    part_stands n b [] = let k = chunks_same b (no_number n) (t.hears r) in as_before k.standing k.update k.transfer
    part_stands n b (k ∷ ks) = as_before refl refl refl

    pull_told : (b : ℕ) (found : Option (List Bool)) → StatusStands c r (t.pull_told b r found)
    pull_told b None = nothing r
    pull_told b (Some chunks) =
        let k = chunks_same b chunks (t.hears r) in
        either (has_some chunks) r (t.wants (length chunks) (take 16 (members chunks)) (t.with_chunks b chunks (t.hears r))) (t.answered (t.with_chunks b chunks (t.hears r)))
        (as_before k.standing k.update k.transfer) (as_before k.standing k.update k.transfer)

    pull_stands : (p : Sending) (b : ℕ) → c.place ≡ At (Pull b) → (answer : BlobAnswer) → StatusStands c r (t.on_pull p b r answer)
    pull_stands p b e (PartIs chunks) = either (all_below (chunk_total p b) chunks) r _ _ (part_stands (chunk_total p b) b chunks) (nothing r)
    pull_stands p b e (BlockIs status block size report) =
        either (not (status == 0)) r _ _ (by_transfer (Pull b) tt e refl refl) (pull_told b (t.chunks_in p b block size report))
    pull_stands p b e (InformationIs limits) = nothing r
    pull_stands p b e (TransferIs status phase id parameters field) = nothing r

    barren_stands : (b : ℕ) (chunks : List Bool) (barren : ℕ) → StatusStands c r (t.with_barren barren (t.answered (t.with_chunks b chunks r)))
    barren_stands b chunks barren =
        let k = chunks_same b chunks r in
        let y : Receiver = t.answered (t.with_chunks b chunks r) in
        either (nat_le 5 barren) r (t.dropped Barren (record y { barren = barren })) (record y { barren = barren }) (by_none tt k.update k.transfer) (as_before k.standing k.update k.transfer)

    get_told : (b : ℕ) (found : Option (List Bool)) → StatusStands c r (t.get_told b r found)
    get_told b None = nothing r
    get_told b (Some chunks) = barren_stands b chunks (t.barren_after r chunks)

    get_stands : (p : Sending) (b : ℕ) → c.place ≡ At (Get b) → (answer : BlobAnswer) → StatusStands c r (t.on_get p b r answer)
    get_stands p b e (BlockIs status block size report) =
        either (not (status == 0)) r _ _ (by_transfer (Get b) tt e refl refl) (get_told b (t.chunks_in p b block size report))
    get_stands p b e (InformationIs limits) = nothing r
    get_stands p b e (TransferIs status phase id parameters field) = nothing r
    get_stands p b e (PartIs chunks) = nothing r

    phase_stands : (phase : ℕ) → StatusStands c r (t.on_phase r phase)
    phase_stands phase =
        either ((phase == 4) || (phase == 6)) r _ _ answers
        (either ((phase == 1) || (phase == 5)) r _ _ (by_none tt refl refl) (either (phase == 3) r _ _ (as_before refl refl refl) (nothing r)))

    verify_stands : (p : Sending) (reply : UpdateReply) → StatusStands c r (t.on_verify p r reply)
    verify_stands p (UpdateStatus status phase job) = either (t.is_of p.id job) r _ _ (phase_stands phase) (nothing r)
    verify_stands p (MetadataStatus status index) = nothing r
    verify_stands p (InformationStatus count first ids) = nothing r

    apply_stands : (p : Sending) → c.place ≡ At Apply → (reply : UpdateReply) → StatusStands c r (t.on_apply p r reply)
    apply_stands p e (UpdateStatus status phase job) =
        either (not (t.is_of p.id job)) r _ _ (nothing r)
        (either (not (status == 0)) r _ _ (by_update Apply tt e refl refl) (either (phase == 6) r _ _ answers (nothing r)))
    apply_stands p e (MetadataStatus status index) = nothing r
    apply_stands p e (InformationStatus count first ids) = nothing r

    cancel_stands : (p : Sending) (reply : UpdateReply) → StatusStands c r (t.on_cancel p r reply)
    cancel_stands p (UpdateStatus status phase job) = either ((phase == 0) || not (t.is_of p.id job)) r _ _ answers (nothing r)
    cancel_stands p (MetadataStatus status index) = nothing r
    cancel_stands p (InformationStatus count first ids) = nothing r

    step_stands : (p : Sending) (answer : Answer) (step : Step) → c.place ≡ At step → StatusStands c r (t.step_told p answer r step)
    step_stands p (FromUpdate reply) Check e = check_stands e reply
    step_stands p (FromUpdate reply) Start e = start_stands p e reply
    step_stands p (FromUpdate reply) Information e = nothing r
    step_stands p (FromUpdate reply) Transfer e = nothing r
    step_stands p (FromUpdate reply) (Block b) e = nothing r
    step_stands p (FromUpdate reply) (Chunks b) e = nothing r
    step_stands p (FromUpdate reply) (Pull b) e = nothing r
    step_stands p (FromUpdate reply) (Get b) e = nothing r
    step_stands p (FromUpdate reply) Verify e = verify_stands p reply
    step_stands p (FromUpdate reply) Apply e = apply_stands p e reply
    step_stands p (FromUpdate reply) Cancel e = cancel_stands p reply
    step_stands p (FromBlob answer) Check e = nothing r
    step_stands p (FromBlob answer) Start e = nothing r
    step_stands p (FromBlob answer) Information e = information_stands p e answer
    step_stands p (FromBlob answer) Transfer e = transfer_stands p e answer
    step_stands p (FromBlob answer) (Block b) e = block_stands p b e answer
    step_stands p (FromBlob answer) (Chunks b) e = nothing r
    step_stands p (FromBlob answer) (Pull b) e = pull_stands p b e answer
    step_stands p (FromBlob answer) (Get b) e = get_stands p b e answer
    step_stands p (FromBlob answer) Verify e = nothing r
    step_stands p (FromBlob answer) Apply e = nothing r
    step_stands p (FromBlob answer) Cancel e = nothing r
    step_stands p answer Confirm e = either (r.row.phase == apply_success) r _ _ answers (nothing r)

    pending_stands : (p : Sending) (answer : Answer) (step : Step) → c.place ≡ At step → (b : Bool) → StatusStands c r (t.if_pending p answer step r b)
    pending_stands p answer step e true = step_stands p answer step e
    pending_stands p answer step e false = nothing r

    place_stands : (p : Sending) (answer : Answer) (place : Place) → c.place ≡ place → StatusStands c r (t.place_told p answer r place)
    place_stands p answer (At step) e = pending_stands p answer step e r.pending
    place_stands p answer (Before step) e = nothing r
    place_stands p answer Verified e = nothing r
    place_stands p answer (Ended part) e = nothing r

  told_stands : (answer : Answer) (r : Receiver) (is_from : Bool) → StatusStands c r (t.told_if c answer r is_from)
  told_stands answer r true =
      let y : Receiver = t.row_counted c.sending answer r c.purpose (t.is_present c.place) in
      after r y (t.place_told c.sending answer y c.place) (counted_same c.sending answer r c.purpose (t.is_present c.place)) (place_stands y c.sending answer c.place refl)
  told_stands answer r false = nothing r

  all_stand : (from : ℕ) (answer : Answer) (rs : List Receiver) → Each (StatusStands c) rs (map (λ r. t.told_if c answer r (r.row.address == from)) rs)
  all_stand from answer [] = tt
  all_stand from answer (r ∷ rs) = (told_stands answer r (r.row.address == from), all_stand from answer rs)

pub statuses_stand : StatusesStand
statuses_stand c from answer now = all_stand c from answer c.receivers
