-- What an answer does to a receiver, step by step: its address and its row's phase stay, a pending one stands as before with no
-- more silent rounds, and who was dropped wasn't so for silence.
use Rattle.std.proofs.Common.{◌≡◌, ◌≤◌, ℕ, List, [], ◌∷◌, refl, true, false, Bool, Option, Some, None, arith, length, take}
use Rattle.mu_model_wire.specs.Reports.{members, no_number}
use Rattle.std.specs.Prelude.{if◌then◌else◌, nat_le}
use Rattle.mu_model_node.specs.UpdateMessages.{UpdateReply, InformationStatus, MetadataStatus, UpdateStatus}
use Rattle.mu_model_client.specs.Sets.{has_some}
use Rattle.mu_model_client.specs.Answers.{BlobAnswer, InformationIs, TransferIs, BlockIs, PartIs, Answer, FromUpdate, FromBlob}
use Rattle.mu_model_client.specs.declared.Sending.{Sending}
use Rattle.mu_model_client.specs.declared.Dropped.{Dropped}
use Rattle.mu_model_client.specs.declared.Dropped.TheVariants.{Silent, Barren, Phase}
use Rattle.mu_model_client.specs.Client.{Step, Check, Start, Information, Transfer, Block, Chunks, Pull, Get, Verify, Apply, Confirm, Cancel, Standing, Gone, Receiver, Place, Before, At, Verified, Ended, chunk_total}
use Rattle.mu_model_client.specs.Told as t

-- a cause of an answer
abbrev pub IsAnswered : Dropped → Type 0
IsAnswered (Silent step) = ⊥
IsAnswered _ = Unit {0}

pub data StandsAfter (before : Standing) : Standing → Type 0 where
  as_before : StandsAfter before before
  was_refused : (cause : Dropped) → IsAnswered cause → StandsAfter before (Gone cause)

pub record Fated (r s : Receiver) : Type 0 where
  pub address : s.row.address ≡ r.row.address
  pub index : s.row.index ≡ r.row.index
  pub phase : s.row.phase ≡ r.row.phase
  pub pending : s.pending ≡ true → r.pending ≡ true
  pub stands : s.pending ≡ true → s.standing ≡ r.standing
  pub silent : s.silent ≤ r.silent
  pub standing : StandsAfter r.standing s.standing

pub never : {A : Type 0} → false ≡ true → A
never e = absurd (false_true e)
  where
    false_true : false ≡ true → ⊥
    false_true h = grind (arith, h)

pub same : (r : Receiver) → Fated r r
same r = record { address = refl; index = refl; phase = refl; pending = λ e. e; stands = λ e. refl; silent = omega arith; standing = as_before }

either : {r x y : Receiver} (b : Bool) → Fated r x → Fated r y → Fated r (if b then x else y)
either true h k = h
either false h k = k

module _ (r : Receiver) where
  answers : Fated r (t.answered r)
  answers = record { address = refl; index = refl; phase = refl; pending = λ e. never e; stands = λ e. never e; silent = omega arith; standing = as_before }

  drops : (cause : Dropped) → IsAnswered cause → Fated r (t.dropped cause r)
  drops cause h = record { address = refl; index = refl; phase = refl; pending = λ e. never e; stands = λ e. never e; silent = omega arith; standing = was_refused cause h }

  by_update : (step : Step) (status : ℕ) → Fated r (t.refused_update step status r)
  by_update step status = record { address = refl; index = refl; phase = refl; pending = λ e. never e; stands = λ e. never e; silent = omega arith; standing = was_refused _ tt }

  by_transfer : (step : Step) (status : ℕ) → Fated r (t.refused_transfer step status r)
  by_transfer step status = record { address = refl; index = refl; phase = refl; pending = λ e. never e; stands = λ e. never e; silent = omega arith; standing = was_refused _ tt }

  chunks_answered : (b : ℕ) (heard : Bool) (chunks : List Bool) → Fated r (t.answered (t.with_chunks b chunks (record r { heard = heard })))
  chunks_answered b heard chunks = by_some (has_some chunks)
    where
      by_some : (some : Bool) → Fated r (t.answered (if some then record r { heard = heard; chunks = chunks } else t.holds_block b (record r { heard = heard; chunks = chunks })))
      by_some true = record { address = refl; index = refl; phase = refl; pending = λ e. never e; stands = λ e. never e; silent = omega arith; standing = as_before }
      by_some false = record { address = refl; index = refl; phase = refl; pending = λ e. never e; stands = λ e. never e; silent = omega arith; standing = as_before }

  blocks : (told : Option (List Bool)) → Fated r (t.blocks_told r told)
  blocks None = same r
  blocks (Some told) = record { address = refl; index = refl; phase = refl; pending = λ e. never e; stands = λ e. never e; silent = omega arith; standing = as_before }

  block : (b : ℕ) (told : Option (List Bool)) → Fated r (t.block_told b r told)
  block b None = same r
  block b (Some chunks) = chunks_answered b r.heard chunks

  part : (n b : ℕ) (chunks : List ℕ) → Fated r (t.part_told n b r chunks)
  part n b [] = chunks_answered b true (no_number n)
  part n b (k ∷ ks) = record { address = refl; index = refl; phase = refl; pending = λ e. e; stands = λ e. refl; silent = omega arith; standing = as_before }

  pulled : (b : ℕ) (told : Option (List Bool)) → Fated r (t.pull_told b r told)
  pulled b None = same r
  pulled b (Some chunks) = by_some (has_some chunks)
    where
      wanting : (n : ℕ) (numbers : List ℕ) (some : Bool)
          → Fated r (t.wants n numbers (if some then record r { heard = true; chunks = chunks } else t.holds_block b (record r { heard = true; chunks = chunks })))
      wanting n numbers true = record { address = refl; index = refl; phase = refl; pending = λ e. e; stands = λ e. refl; silent = omega arith; standing = as_before }
      wanting n numbers false = record { address = refl; index = refl; phase = refl; pending = λ e. e; stands = λ e. refl; silent = omega arith; standing = as_before }

      by_some : (some : Bool) → Fated r (if some then t.wants (length chunks) (take 16 (members chunks)) (t.with_chunks b chunks (t.hears r)) else t.answered (t.with_chunks b chunks (t.hears r)))
      by_some true = wanting (length chunks) (take 16 (members chunks)) (has_some chunks)
      by_some false = chunks_answered b true chunks

  barren_if : (b : ℕ) (chunks : List Bool) (barren : ℕ) (some five : Bool)
      → Fated r (if five then t.dropped Barren (record (t.answered (if some then record r { chunks = chunks } else t.holds_block b (record r { chunks = chunks }))) { barren = barren }) else record (t.answered (if some then record r { chunks = chunks } else t.holds_block b (record r { chunks = chunks }))) { barren = barren })
  barren_if b chunks barren true true = record { address = refl; index = refl; phase = refl; pending = λ e. never e; stands = λ e. never e; silent = omega arith; standing = was_refused _ tt }
  barren_if b chunks barren true false = record { address = refl; index = refl; phase = refl; pending = λ e. never e; stands = λ e. never e; silent = omega arith; standing = as_before }
  barren_if b chunks barren false true = record { address = refl; index = refl; phase = refl; pending = λ e. never e; stands = λ e. never e; silent = omega arith; standing = was_refused _ tt }
  barren_if b chunks barren false false = record { address = refl; index = refl; phase = refl; pending = λ e. never e; stands = λ e. never e; silent = omega arith; standing = as_before }

  got : (b : ℕ) (told : Option (List Bool)) → Fated r (t.get_told b r told)
  got b None = same r
  got b (Some chunks) = barren_if b chunks (t.barren_after r chunks) (has_some chunks) (nat_le 5 (t.barren_after r chunks))

  pub by_reply : (p : Sending) (step : Step) (reply : UpdateReply) → Fated r (t.update_told p step r reply)
  by_reply p Check (MetadataStatus status index) = either _ (same r) (either _ answers (by_update Check status))
  by_reply p Check (InformationStatus count first ids) = same r
  by_reply p Check (UpdateStatus status phase job) = same r
  by_reply p Start (UpdateStatus status phase job) = either _ (by_update Start status) (either _ answers (same r))
  by_reply p Start (InformationStatus count first ids) = same r
  by_reply p Start (MetadataStatus status index) = same r
  by_reply p Verify (UpdateStatus status phase job) =
      either _ (either _ answers (either _ (drops (Phase phase) tt) (either _ quiet (same r)))) (same r)
    where
      quiet : Fated r (record r { silent = 0 })
      quiet = record { address = refl; index = refl; phase = refl; pending = λ e. e; stands = λ e. refl; silent = omega arith; standing = as_before }
  by_reply p Verify (InformationStatus count first ids) = same r
  by_reply p Verify (MetadataStatus status index) = same r
  by_reply p Apply (UpdateStatus status phase job) = either _ (same r) (either _ (by_update Apply status) (either _ answers (same r)))
  by_reply p Apply (InformationStatus count first ids) = same r
  by_reply p Apply (MetadataStatus status index) = same r
  by_reply p Cancel (UpdateStatus status phase job) = either _ answers (same r)
  by_reply p Cancel (InformationStatus count first ids) = same r
  by_reply p Cancel (MetadataStatus status index) = same r
  by_reply p Information reply = same r
  by_reply p Transfer reply = same r
  by_reply p (Block b) reply = same r
  by_reply p (Chunks b) reply = same r
  by_reply p (Pull b) reply = same r
  by_reply p (Get b) reply = same r
  by_reply p Confirm reply = same r

  pub by_answer : (p : Sending) (step : Step) (answer : BlobAnswer) → Fated r (t.blob_told p step r answer)
  by_answer p Information (InformationIs limits) =
      either _ (by_transfer Information 7) (either _ (by_transfer Information 2) (either _ (by_transfer Information 3) (either _ (by_transfer Information 8) answers)))
  by_answer p Information (TransferIs status phase id parameters field) = same r
  by_answer p Information (BlockIs status b size report) = same r
  by_answer p Information (PartIs chunks) = same r
  by_answer p Transfer (TransferIs status phase id parameters field) =
      either _ (by_transfer Transfer status) (either _ (blocks (t.blocks_in p phase field)) (same r))
  by_answer p Transfer (InformationIs limits) = same r
  by_answer p Transfer (BlockIs status b size report) = same r
  by_answer p Transfer (PartIs chunks) = same r
  by_answer p (Block b) (BlockIs status c size report) = either _ (by_transfer (Block b) status) (block b (t.chunks_in p b c size report))
  by_answer p (Block b) (InformationIs limits) = same r
  by_answer p (Block b) (TransferIs status phase id parameters field) = same r
  by_answer p (Block b) (PartIs chunks) = same r
  by_answer p (Pull b) (PartIs chunks) = either _ (part (chunk_total p b) b chunks) (same r)
  by_answer p (Pull b) (BlockIs status c size report) = either _ (by_transfer (Pull b) status) (pulled b (t.chunks_in p b c size report))
  by_answer p (Pull b) (InformationIs limits) = same r
  by_answer p (Pull b) (TransferIs status phase id parameters field) = same r
  by_answer p (Get b) (BlockIs status c size report) = either _ (by_transfer (Get b) status) (got b (t.chunks_in p b c size report))
  by_answer p (Get b) (InformationIs limits) = same r
  by_answer p (Get b) (TransferIs status phase id parameters field) = same r
  by_answer p (Get b) (PartIs chunks) = same r
  by_answer p Check answer = same r
  by_answer p Start answer = same r
  by_answer p (Chunks b) answer = same r
  by_answer p Verify answer = same r
  by_answer p Apply answer = same r
  by_answer p Confirm answer = same r
  by_answer p Cancel answer = same r

  by_either : (p : Sending) (step : Step) (answer : Answer) → Fated r (t.answer_told p step r answer)
  by_either p step (FromUpdate reply) = by_reply p step reply
  by_either p step (FromBlob answer) = by_answer p step answer

  pub by_step : (p : Sending) (answer : Answer) (step : Step) → Fated r (t.step_told p answer r step)
  by_step p answer Confirm = either _ answers (same r)
  by_step p answer Check = by_either p Check answer
  by_step p answer Start = by_either p Start answer
  by_step p answer Information = by_either p Information answer
  by_step p answer Transfer = by_either p Transfer answer
  by_step p answer (Block b) = by_either p (Block b) answer
  by_step p answer (Chunks b) = by_either p (Chunks b) answer
  by_step p answer (Pull b) = by_either p (Pull b) answer
  by_step p answer (Get b) = by_either p (Get b) answer
  by_step p answer Verify = by_either p Verify answer
  by_step p answer Apply = by_either p Apply answer
  by_step p answer Cancel = by_either p Cancel answer

  pub if_pending : (p : Sending) (answer : Answer) (step : Step) (pending : Bool) → Fated r (t.if_pending p answer step r pending)
  if_pending p answer step true = by_step p answer step
  if_pending p answer step false = same r

  pub by_place : (p : Sending) (answer : Answer) (place : Place) → Fated r (t.place_told p answer r place)
  by_place p answer (At step) = if_pending p answer step r.pending
  by_place p answer (Before step) = same r
  by_place p answer Verified = same r
  by_place p answer (Ended part) = same r
