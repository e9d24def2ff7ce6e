-- A client: what it sends and what for, how far each receiver is, and where it is in its steps.
use Rattle.std.specs.Prelude.{ℕ, ◌+◌, ◌*◌, ◌^◌, ◌==◌, max, Bool, true, false, ◌&&◌, List, [], map}
use Rattle.mu_model_image.specs.declared.Meta.{Meta}
use Rattle.mu_model_image.specs.Pieces.{block_count, block_length, chunk_count}
use Rattle.mu_model_wire.specs.Reports.{has}
use Rattle.mu_model_node.specs.NodeMessages.{Request}
use Rattle.mu_model_client.specs.Sets.{has_some}
use Rattle.mu_model_client.specs.Rows.{Row, transfer_canceled}
pub use Rattle.mu_model_client.specs.declared.Sending.{Sending}
pub use Rattle.mu_model_client.specs.declared.Plan.{Plan}
pub use Rattle.mu_model_client.specs.declared.Dropped.{Dropped}
pub use Rattle.mu_model_client.specs.declared.Dropped.TheVariants.{Silent, Status, Barren, Phase}
use Rattle.mu_model_client.specs.declared.Purpose.{Purpose as PurposeInCode}
use Rattle.mu_model_client.specs.declared.Purpose.TheVariants as purpose_in_code
use Rattle.mu_model_client.specs.declared.Step.{Step as StepInCode}
use Rattle.mu_model_client.specs.declared.Step.TheVariants as step_in_code
use Rattle.mu_model_client.specs.declared.Part.{Part as PartInCode}
use Rattle.mu_model_client.specs.declared.Part.TheVariants as part_in_code
use Rattle.mu_model_client.specs.declared.Standing.{Standing as StandingInCode}
use Rattle.mu_model_client.specs.declared.Standing.TheVariants as standing_in_code
use Rattle.mu_model_client.specs.declared.Place.{Place as PlaceInCode}
use Rattle.mu_model_client.specs.declared.Place.TheVariants as place_in_code

-- ---- what is sent, and what for

abbrev pub Purpose : Type 0
Purpose = PurposeInCode

pattern abbrev pub Blob : Purpose
Blob = purpose_in_code.Blob

pattern abbrev pub Update : Meta → Bool → Purpose
Update x y = purpose_in_code.Update x y

-- blocks of the BLOB, chunks of a block, and chunks of a full block
abbrev pub block_total : Sending → ℕ
block_total p = block_count p.size p.log

abbrev pub chunk_total : Sending → ℕ → ℕ
chunk_total p b = chunk_count (block_length p.size p.log b) p.chunk

abbrev pub full_chunks : Sending → ℕ
full_chunks p = chunk_count (2 ^ p.log) p.chunk

-- milliseconds of a round (this profile)
abbrev pub round_time : Sending → ℕ
round_time p = 2000 * (p.base + 2) + 20 * p.ttl

abbrev pub is_push : Sending → Bool
is_push p = p.mode == 1

-- ---- steps

abbrev pub Step : Type 0
Step = StepInCode

pattern abbrev pub Check : Step
Check = step_in_code.Check

pattern abbrev pub Start : Step
Start = step_in_code.Start

pattern abbrev pub Information : Step
Information = step_in_code.Information

pattern abbrev pub Transfer : Step
Transfer = step_in_code.Transfer

pattern abbrev pub Block : ℕ → Step
Block x = step_in_code.Block x

pattern abbrev pub Chunks : ℕ → Step
Chunks x = step_in_code.Chunks x

pattern abbrev pub Pull : ℕ → Step
Pull x = step_in_code.Pull x

pattern abbrev pub Get : ℕ → Step
Get x = step_in_code.Get x

pattern abbrev pub Verify : Step
Verify = step_in_code.Verify

pattern abbrev pub Apply : Step
Apply = step_in_code.Apply

pattern abbrev pub Confirm : Step
Confirm = step_in_code.Confirm

pattern abbrev pub Cancel : Step
Cancel = step_in_code.Cancel

abbrev pub step_number : Step → ℕ
step_number Check = 1
step_number Start = 2
step_number Information = 3
step_number Transfer = 4
step_number (Block b) = 5
step_number (Chunks b) = 6
step_number (Pull b) = 6
step_number (Get b) = 7
step_number Verify = 8
step_number Apply = 9
step_number Confirm = 10
step_number Cancel = 11

abbrev pub Part : Type 0
Part = PartInCode

pattern abbrev pub Transferring : Part
Transferring = part_in_code.Transferring

pattern abbrev pub Applying : Part
Applying = part_in_code.Applying

pattern abbrev pub Cancelling : Part
Cancelling = part_in_code.Cancelling

-- the part that a step belongs to
abbrev pub part_of : Step → Part
part_of Apply = Applying
part_of Confirm = Applying
part_of Cancel = Cancelling
part_of _ = Transferring

-- ---- receivers

abbrev pub Standing : Type 0
Standing = StandingInCode

pattern abbrev pub Idle : Standing
Idle = standing_in_code.Idle

pattern abbrev pub Active : Standing
Active = standing_in_code.Active

pattern abbrev pub Gone : Dropped → Standing
Gone x = standing_in_code.Gone x

pub record Receiver : Type 0 where
  pub row : Row
  pub standing : Standing
  -- it hasn't answered the step
  pub pending : Bool
  -- it was heard in this round, in pull
  pub heard : Bool
  -- silent rounds of the step, and fruitless answers to Block Get
  pub silent : ℕ
  pub barren : ℕ
  -- what it misses as the client knows: blocks, and chunks of the present block
  pub blocks : List Bool
  pub chunks : List Bool
  -- the chunks that it asked for in pull
  pub wanted : List Bool

abbrev pub stands_active : Standing → Bool
stands_active Active = true
stands_active _ = false

abbrev pub is_active : Receiver → Bool
is_active r = stands_active r.standing

abbrev pub is_pending : Receiver → Bool
is_pending r = r.pending

abbrev pub misses_block : ℕ → Receiver → Bool
misses_block b r = is_active r && has r.blocks b

abbrev pub misses_chunks : Receiver → Bool
misses_chunks r = is_active r && has_some r.chunks

-- the receivers of a step; those of the cancelling are the canceled rows, dropped or not
abbrev pub is_in : Step → Receiver → Bool
is_in (Block b) r = misses_block b r
is_in (Chunks b) r = misses_chunks r
is_in (Pull b) r = misses_chunks r
is_in (Get b) r = misses_chunks r
is_in Cancel r = r.row.phase == transfer_canceled
is_in _ r = is_active r

-- where there is none of these the step isn't begun
abbrev pub is_begun_for : Step → Receiver → Bool
is_begun_for Cancel r = r.row.phase == transfer_canceled
is_begun_for _ r = is_active r

abbrev pub new_receiver : Row → Standing → Receiver
new_receiver row standing = record {
  row = row;
  standing = standing;
  pending = false;
  heard = false;
  silent = 0;
  barren = 0;
  blocks = [];
  chunks = [];
  wanted = [];
}

-- ---- the client

-- what is still to be sent: a message, or a chunk of a block, with its destination
pub data Item : Type 0 where
  Says : (to : ℕ) → Request → Item
  Sends : (to block chunk : ℕ) → Item

abbrev pub Place : Type 0
Place = PlaceInCode

pattern abbrev pub Before : Step → Place
Before x = place_in_code.Before x

pattern abbrev pub At : Step → Place
At x = place_in_code.At x

pattern abbrev pub Verified : Place
Verified = place_in_code.Verified

pattern abbrev pub Ended : Part → Place
Ended x = place_in_code.Ended x

pub record Client : Type 0 where
  pub sending : Sending
  pub purpose : Purpose
  pub receivers : List Receiver
  pub place : Place
  -- the rest of the round's list
  pub queue : List Item
  -- when the round began, and the greatest moment that was handed in, in milliseconds
  pub began : ℕ
  pub moment : ℕ

abbrev pub at_moment : Client → ℕ → Client
at_moment c now = record c { moment = max c.moment now }

abbrev pub row_of : Receiver → Row
row_of r = r.row

abbrev pub rows : Client → List Row
rows c = map row_of c.receivers
