-- What an answer does to a receiver that is within its bounds, step by step.
use Rattle.std.proofs.Common.{◌≡◌, ◌⊎◌, inl, inr, ◌≤◌, ◌<◌, ◌+◌, ◌==◌, ℕ, List, [], ◌∷◌, refl, sym, ◌∙◌, ap, subst, true, false, Bool, Option, Some, None, arith, length, take}
use Rattle.std.specs.Prelude.{if◌then◌else◌, nat_le}
use Rattle.std.proofs.lemmas.Bool.Decides.{nat_tests}
use Rattle.mu_model_wire.specs.Reports.{members, no_number, union}
use Rattle.mu_model_node.specs.UpdateMessages.{UpdateReply, InformationStatus, MetadataStatus, UpdateStatus}
use Rattle.mu_model_client.specs.Sets.{has_some, size_of, set_of}
use Rattle.mu_model_client.specs.Answers.{BlobAnswer, InformationIs, TransferIs, BlockIs, PartIs, Answer, FromUpdate, FromBlob}
use Rattle.mu_model_client.specs.declared.Sending.{Sending}
use Rattle.mu_model_client.specs.declared.Dropped.{Dropped}
use Rattle.mu_model_client.specs.declared.Dropped.TheVariants.{Silent, Barren, Phase}
use Rattle.mu_model_client.specs.Rows.{row_after}
use Rattle.mu_model_client.specs.Client.{Purpose, Blob, Update, Step, Check, Start, Information, Transfer, Block, Chunks, Pull, Get, Verify, Apply, Confirm, Cancel, Receiver, is_active, Place, Before, At, Verified, Ended, block_total, chunk_total}
use Rattle.mu_model_client.specs.Told as t
use Rattle.mu_model_client_laws.specs.Laws.{IsAsked}
use Rattle.mu_model_client_bounds.specs.Bounds.{StepFits, PlaceFits, HasLength, IsOfBlock, HasChunks, WantsIn, WantsAt, IsWithin}
use Rattle.mu_model_client_bounds.proofs.Sets.{IsLong, chunks_long, blocks_long, none_long, set_long, set_keeps, union_long, none_at}

pub never : {A : Type 0} → false ≡ true → A
never e = absurd (false_true e)
  where
    false_true : false ≡ true → ⊥
    false_true h = grind (arith, h)

module _ (p : Sending) (place : Place) where
  abbrev In : Receiver → Type 0
  In r = IsWithin p place r

  either : {x y : Receiver} (b : Bool) → In x → In y → In (if b then x else y)
  either true h k = h
  either false h k = k

  pub answers : (r : Receiver) → In r → In (t.answered r)
  answers r a = record { silent = a.silent; barren = a.barren; few_barren = a.few_barren; blocks = a.blocks; chunks = a.chunks; wanted = none_at p place }

  pub drops : (cause : Dropped) (r : Receiver) → In r → In (t.dropped cause r)
  drops cause r a = record { silent = a.silent; barren = a.barren; few_barren = λ e. never e; blocks = a.blocks; chunks = a.chunks; wanted = none_at p place }

  by_update : (step : Step) (status : ℕ) (r : Receiver) → In r → In (t.refused_update step status r)
  by_update step status r a = record { silent = a.silent; barren = a.barren; few_barren = λ e. never e; blocks = a.blocks; chunks = a.chunks; wanted = none_at p place }

  by_transfer : (step : Step) (status : ℕ) (r : Receiver) → In r → In (t.refused_transfer step status r)
  by_transfer step status r a = record { silent = a.silent; barren = a.barren; few_barren = λ e. never e; blocks = a.blocks; chunks = a.chunks; wanted = none_at p place }

  hears : (r : Receiver) → In r → In (t.hears r)
  hears r a = record { silent = a.silent; barren = a.barren; few_barren = a.few_barren; blocks = a.blocks; chunks = a.chunks; wanted = a.wanted }

  blocks : (r : Receiver) (told : Option (List Bool)) → IsLong (block_total p) told → In r → In (t.blocks_told r told)
  blocks r None h a = a
  blocks r (Some told) h a = record { silent = a.silent; barren = a.barren; few_barren = a.few_barren; blocks = inr h; chunks = a.chunks; wanted = none_at p place }

  with_chunks : (b : ℕ) (chunks : List Bool) (r : Receiver) → HasChunks p chunks → In r → In (t.with_chunks b chunks r)
  with_chunks b chunks r h a = by_some (has_some chunks)
    where
      by_some : (some : Bool) → In (if some then record r { chunks = chunks } else t.holds_block b (record r { chunks = chunks }))
      by_some true = record { silent = a.silent; barren = a.barren; few_barren = a.few_barren; blocks = a.blocks; chunks = h; wanted = a.wanted }
      by_some false = record { silent = a.silent; barren = a.barren; few_barren = a.few_barren; blocks = set_keeps (block_total p) r.blocks b false a.blocks; chunks = h; wanted = a.wanted }

  block : (b : ℕ) (r : Receiver) (told : Option (List Bool)) → b < block_total p → IsLong (chunk_total p b) told → In r → In (t.block_told b r told)
  block b r None k h a = a
  block b r (Some chunks) k h a = answers (t.with_chunks b chunks r) (with_chunks b chunks r (inr (record { block = b; within = k; long = h })) a)

  wants : (n : ℕ) (numbers : List ℕ) (r : Receiver) → ((wanted : List Bool) → length wanted ≡ n → WantsAt p place wanted) → In r → In (t.wants n numbers r)
  wants n numbers r here a = record {
    silent = a.silent;
    barren = a.barren;
    few_barren = a.few_barren;
    blocks = a.blocks;
    chunks = a.chunks;
    wanted = here (union (set_of n numbers) r.wanted) (union_long (set_of n numbers) r.wanted ∙ set_long n numbers);
  }

  part : (b : ℕ) (r : Receiver) (chunks : List ℕ) → b < block_total p → ((wanted : List Bool) → length wanted ≡ chunk_total p b → WantsAt p place wanted) → In r
      → In (t.part_told (chunk_total p b) b r chunks)
  part b r [] k here a =
      answers (t.with_chunks b (no_number (chunk_total p b)) (t.hears r))
      (with_chunks b (no_number (chunk_total p b)) (t.hears r) (inr (record { block = b; within = k; long = none_long (chunk_total p b) })) (hears r a))
  part b r (c ∷ cs) k here a = wants (chunk_total p b) (c ∷ cs) (t.hears r) here (hears r a)

  pulled : (b : ℕ) (r : Receiver) (told : Option (List Bool)) → b < block_total p → IsLong (chunk_total p b) told
      → ((wanted : List Bool) → length wanted ≡ chunk_total p b → WantsAt p place wanted) → In r → In (t.pull_told b r told)
  pulled b r None k h here a = a
  pulled b r (Some chunks) k h here a =
      either (has_some chunks) (wants (length chunks) (take 16 (members chunks)) (t.with_chunks b chunks (t.hears r)) (λ wanted e. here wanted (e ∙ h)) told)
      (answers (t.with_chunks b chunks (t.hears r)) told)
    where
      told : In (t.with_chunks b chunks (t.hears r))
      told = with_chunks b chunks (t.hears r) (inr (record { block = b; within = k; long = h })) (hears r a)

  -- an active receiver counts its fifth fruitless answer, and is dropped
  barren_if : (barren : ℕ) (five : Bool) (r : Receiver) → five ≡ nat_le 5 barren → barren ≤ 5 → In r
      → In (if five then t.dropped Barren (record r { barren = barren }) else record r { barren = barren })
  barren_if barren true r e most a = record { silent = a.silent; barren = most; few_barren = λ h. never h; blocks = a.blocks; chunks = a.chunks; wanted = none_at p place }
  barren_if barren false r e most a =
      record { silent = a.silent; barren = most; few_barren = λ h. grind (arith, nat_tests, e); blocks = a.blocks; chunks = a.chunks; wanted = a.wanted }

  barren_most : (r : Receiver) (fewer : Bool) → r.barren < 5 → (if fewer then r.barren + 1 else 0) ≤ 5
  barren_most r true h = omega (arith, h)
  barren_most r false h = omega arith

  got : (b : ℕ) (r : Receiver) (told : Option (List Bool)) → b < block_total p → IsLong (chunk_total p b) told → r.barren < 5 → In r → In (t.get_told b r told)
  got b r None k h few a = a
  got b r (Some chunks) k h few a =
      barren_if (t.barren_after r chunks) (nat_le 5 (t.barren_after r chunks)) (t.answered (t.with_chunks b chunks r)) refl
      (barren_most r (nat_le (size_of r.chunks) (size_of chunks)) few) (block b r (Some chunks) k h a)

  by_reply : (step : Step) (r : Receiver) (reply : UpdateReply) → In r → In (t.update_told p step r reply)
  by_reply Check r (MetadataStatus status index) a = either _ a (either _ (answers r a) (by_update Check status r a))
  by_reply Check r (InformationStatus count first ids) a = a
  by_reply Check r (UpdateStatus status phase job) a = a
  by_reply Start r (UpdateStatus status phase job) a = either _ (by_update Start status r a) (either _ (answers r a) a)
  by_reply Start r (InformationStatus count first ids) a = a
  by_reply Start r (MetadataStatus status index) a = a
  by_reply Verify r (UpdateStatus status phase job) a =
      either _ (either _ (answers r a) (either _ (drops (Phase phase) r a) (either _ quiet a))) a
    where
      quiet : In (record r { silent = 0 })
      quiet = record { silent = omega arith; barren = a.barren; few_barren = a.few_barren; blocks = a.blocks; chunks = a.chunks; wanted = a.wanted }
  by_reply Verify r (InformationStatus count first ids) a = a
  by_reply Verify r (MetadataStatus status index) a = a
  by_reply Apply r (UpdateStatus status phase job) a = either _ a (either _ (by_update Apply status r a) (either _ (answers r a) a))
  by_reply Apply r (InformationStatus count first ids) a = a
  by_reply Apply r (MetadataStatus status index) a = a
  by_reply Cancel r (UpdateStatus status phase job) a = either _ (answers r a) a
  by_reply Cancel r (InformationStatus count first ids) a = a
  by_reply Cancel r (MetadataStatus status index) a = a
  by_reply Information r reply a = a
  by_reply Transfer r reply a = a
  by_reply (Block b) r reply a = a
  by_reply (Chunks b) r reply a = a
  by_reply (Pull b) r reply a = a
  by_reply (Get b) r reply a = a
  by_reply Confirm r reply a = a

  row_is : (r : Receiver) (answer : Answer) (purpose : Purpose) → In r → In (t.row_told p answer r purpose)
  row_is r answer Blob a = a
  row_is r answer (Update offered applies) a = record { silent = a.silent; barren = a.barren; few_barren = a.few_barren; blocks = a.blocks; chunks = a.chunks; wanted = a.wanted }

  pub row_counted : (r : Receiver) (answer : Answer) (purpose : Purpose) (present : Bool) → In r → In (t.row_counted p answer r purpose present)
  row_counted r answer purpose true a = row_is r answer purpose a
  row_counted r answer purpose false a = a

-- ---- a pending receiver of a step

module _ (p : Sending) where
  by_answer : (step : Step) (r : Receiver) (answer : BlobAnswer) → StepFits p step → (is_active r ≡ true → r.barren < 5) → (asked : (b : ℕ) → step ≡ Get b → is_active r ≡ true)
      → IsWithin p (At step) r → IsWithin p (At step) (t.blob_told p step r answer)
  by_answer Information r (InformationIs limits) k few on a =
      either p (At Information) _ (by_transfer p (At Information) Information 7 r a)
      (either p (At Information) _ (by_transfer p (At Information) Information 2 r a)
      (either p (At Information) _ (by_transfer p (At Information) Information 3 r a)
      (either p (At Information) _ (by_transfer p (At Information) Information 8 r a) (answers p (At Information) r a))))
  by_answer Information r (TransferIs status phase id parameters field) k few on a = a
  by_answer Information r (BlockIs status b size report) k few on a = a
  by_answer Information r (PartIs chunks) k few on a = a
  by_answer Transfer r (TransferIs status phase id parameters field) k few on a =
      either p (At Transfer) _ (by_transfer p (At Transfer) Transfer status r a)
      (either p (At Transfer) _ (blocks p (At Transfer) r (t.blocks_in p phase field) (blocks_long p phase field) a) a)
  by_answer Transfer r (InformationIs limits) k few on a = a
  by_answer Transfer r (BlockIs status b size report) k few on a = a
  by_answer Transfer r (PartIs chunks) k few on a = a
  by_answer (Block b) r (BlockIs status c size report) k few on a =
      either p (At (Block b)) _ (by_transfer p (At (Block b)) (Block b) status r a)
      (block p (At (Block b)) b r (t.chunks_in p b c size report) k (chunks_long p b c size report) a)
  by_answer (Block b) r (InformationIs limits) k few on a = a
  by_answer (Block b) r (TransferIs status phase id parameters field) k few on a = a
  by_answer (Block b) r (PartIs chunks) k few on a = a
  by_answer (Pull b) r (PartIs chunks) k few on a = either p (At (Pull b)) _ (part p (At (Pull b)) b r chunks k (λ wanted e. inr e) a) a
  by_answer (Pull b) r (BlockIs status c size report) k few on a =
      either p (At (Pull b)) _ (by_transfer p (At (Pull b)) (Pull b) status r a)
      (pulled p (At (Pull b)) b r (t.chunks_in p b c size report) k (chunks_long p b c size report) (λ wanted e. inr e) a)
  by_answer (Pull b) r (InformationIs limits) k few on a = a
  by_answer (Pull b) r (TransferIs status phase id parameters field) k few on a = a
  by_answer (Get b) r (BlockIs status c size report) k few on a =
      either p (At (Get b)) _ (by_transfer p (At (Get b)) (Get b) status r a)
      (got p (At (Get b)) b r (t.chunks_in p b c size report) k (chunks_long p b c size report) (few (on b refl)) a)
  by_answer (Get b) r (InformationIs limits) k few on a = a
  by_answer (Get b) r (TransferIs status phase id parameters field) k few on a = a
  by_answer (Get b) r (PartIs chunks) k few on a = a
  by_answer Check r answer k few on a = a
  by_answer Start r answer k few on a = a
  by_answer (Chunks b) r answer k few on a = a
  by_answer Verify r answer k few on a = a
  by_answer Apply r answer k few on a = a
  by_answer Confirm r answer k few on a = a
  by_answer Cancel r answer k few on a = a

  by_either : (step : Step) (r : Receiver) (answer : Answer) → StepFits p step → (asked : (b : ℕ) → step ≡ Get b → is_active r ≡ true) → IsWithin p (At step) r
      → IsWithin p (At step) (t.answer_told p step r answer)
  by_either step r (FromUpdate reply) k on a = by_reply p (At step) step r reply a
  by_either step r (FromBlob answer) k on a = by_answer step r answer k a.few_barren on a

  by_step : (step : Step) (r : Receiver) (answer : Answer) → StepFits p step → (asked : (b : ℕ) → step ≡ Get b → is_active r ≡ true) → IsWithin p (At step) r
      → IsWithin p (At step) (t.step_told p answer r step)
  by_step Confirm r answer k on a = either p (At Confirm) _ (answers p (At Confirm) r a) a
  by_step Check r answer k on a = by_either Check r answer k on a
  by_step Start r answer k on a = by_either Start r answer k on a
  by_step Information r answer k on a = by_either Information r answer k on a
  by_step Transfer r answer k on a = by_either Transfer r answer k on a
  by_step (Block b) r answer k on a = by_either (Block b) r answer k on a
  by_step (Chunks b) r answer k on a = by_either (Chunks b) r answer k on a
  by_step (Pull b) r answer k on a = by_either (Pull b) r answer k on a
  by_step (Get b) r answer k on a = by_either (Get b) r answer k on a
  by_step Verify r answer k on a = by_either Verify r answer k on a
  by_step Apply r answer k on a = by_either Apply r answer k on a
  by_step Cancel r answer k on a = by_either Cancel r answer k on a

  -- a pending receiver of the step Get is active
  in_get : (step : Step) (r : Receiver) → IsAsked (At step) r → r.pending ≡ true → (b : ℕ) → step ≡ Get b → is_active r ≡ true
  in_get (Get b) r a e c is = a.may e
  in_get Check r a e c is = a.may e
  in_get Start r a e c is = a.may e
  in_get Information r a e c is = a.may e
  in_get Transfer r a e c is = a.may e
  in_get (Block b) r a e c is = a.may e
  in_get (Chunks b) r a e c is = a.may e
  in_get (Pull b) r a e c is = a.may e
  in_get Verify r a e c is = a.may e
  in_get Apply r a e c is = a.may e
  in_get Confirm r a e c is = a.may e
  in_get Cancel r a e c is = absurd cc

  if_pending : (step : Step) (r : Receiver) (answer : Answer) (pending : Bool) → r.pending ≡ pending → StepFits p step → IsAsked (At step) r → IsWithin p (At step) r
      → IsWithin p (At step) (t.if_pending p answer step r pending)
  if_pending step r answer true e k asked a = by_step step r answer k (in_get step r asked e) a
  if_pending step r answer false e k asked a = a

  pub by_place : (place : Place) (r : Receiver) (answer : Answer) → PlaceFits p place → IsAsked place r → IsWithin p place r → IsWithin p place (t.place_told p answer r place)
  by_place (At step) r answer k asked a = if_pending step r answer r.pending refl k asked a
  by_place (Before step) r answer k asked a = a
  by_place Verified r answer k asked a = a
  by_place (Ended part) r answer k asked a = a
