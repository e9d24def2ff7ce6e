-- Worked rows: a distribution to one receiver at 0002, message by message, with cuts.
use Rattle.std.specs.Prelude.{ℕ, ◌*◌, ◌≡◌, ◌++◌, true, List, [], ◌∷◌, length, map}
use Rattle.mu_model_node.specs.Safe.{Happening, CutPower, Torn}
use Rattle.mu_model_node.specs.Worked.{metadata_at}
use Rattle.mu_model_distributor.specs.DistState.{Receiver, DistState}
use Rattle.mu_model_distributor.specs.DistEvents.{dist_work, is_worn}
use Rattle.mu_model_distributor_laws.specs.Scenes.{stocked_one, heard, said, told, time_passes, after, answers, sends_at, seen, receivers_add, distribution_start, distribution_suspend, distribution_cancel, distribution_status, id_at}

abbrev pub started : ℕ → List Happening
started index = said (receivers_add index) ∷ said (distribution_start 0) ∷ []

-- Metadata Check of the image, and what answers it
abbrev pub metadata_check : ℕ → List ℕ
metadata_check index = (0x83 ∷ 0x0a ∷ index ∷ []) ++ metadata_at 2

abbrev pub metadata_status : ℕ → ℕ → List ℕ
metadata_status status index = 0x83 ∷ 0x0b ∷ status ∷ index ∷ []

-- an Update Start of a distribution by its number
abbrev pub update_start : ℕ → List ℕ
update_start number = (0x83 ∷ 0x0d ∷ 5 ∷ 0 ∷ 0 ∷ number ∷ 0 ∷ 0 ∷ 0 ∷ 0 ∷ 0 ∷ 1 ∷ 0 ∷ 0 ∷ []) ++ metadata_at 2

-- an Update Status of a distribution, in a phase
abbrev pub update_status : ℕ → ℕ → List ℕ
update_status phase number = 0x83 ∷ 0x10 ∷ (32 * phase) ∷ 5 ∷ 0 ∷ 0 ∷ 0 ∷ number ∷ 0 ∷ 0 ∷ 0 ∷ 0 ∷ 0 ∷ 1 ∷ 0 ∷ 0 ∷ []

-- an Information Status with the image of a version
abbrev pub information_status : ℕ → List ℕ
information_status version = (0x83 ∷ 0x09 ∷ 1 ∷ 0 ∷ 0x26 ∷ []) ++ (id_at version ++ (0 ∷ []))

abbrev pub checked : List Happening
checked = started 0 ++ time_passes 0 ∷ told (metadata_status 0 0) ∷ []

-- the receiver takes the update, and says what it can take
abbrev pub up_to_information : List Happening
up_to_information =
    checked ++ time_passes 100 ∷ told (update_status 2 1) ∷ time_passes 200
    ∷ told (0x83 ∷ 0x07 ∷ 0x0c ∷ 0x0e ∷ 0 ∷ 8 ∷ 0x78 ∷ 1 ∷ 0 ∷ 0x10 ∷ 0 ∷ 0 ∷ 0x7c ∷ 1 ∷ 3 ∷ []) ∷ []

abbrev pub transfer_start : List ℕ
transfer_start = 0x83 ∷ 0x01 ∷ 0x40 ∷ 1 ∷ 0 ∷ 0 ∷ 0 ∷ 0 ∷ 0 ∷ 1 ∷ 0 ∷ 3 ∷ 0 ∷ 0 ∷ 0 ∷ 0x0c ∷ 0x7c ∷ 1 ∷ []

-- its one block is missing
abbrev pub transfer_status : List ℕ
transfer_status = 0x83 ∷ 0x03 ∷ 0x40 ∷ 2 ∷ 1 ∷ 0 ∷ 0 ∷ 0 ∷ 0 ∷ 0 ∷ 1 ∷ 0 ∷ 3 ∷ 0 ∷ 0 ∷ 0 ∷ 0x0c ∷ 0x7c ∷ 1 ∷ 1 ∷ []

-- address, index, phase and statuses of each row
abbrev pub rows_seen : DistState → List (List ℕ)
rows_seen s = map (λ (r : Receiver). r.address ∷ r.index ∷ r.phase ∷ r.update_status ∷ r.transfer_status ∷ []) s.durable.receivers

pub record ADistribution : Type 0 where
  pub told_started : answers stocked_one (said (receivers_add 0) ∷ []) (distribution_start 0) ≡ distribution_status 0 1 ∷ []
  pub check : sends_at 0 stocked_one (started 0) ≡ metadata_check 0 ∷ []
  pub start : sends_at 100 stocked_one checked ≡ update_start 1 ∷ []
  -- blocks of 4,096 octets, chunks of 200, and messages of 380
  pub transfer : sends_at 300 stocked_one up_to_information ≡ transfer_start ∷ []
  pub block : sends_at 400 stocked_one (up_to_information ++ time_passes 300 ∷ told transfer_status ∷ []) ≡ (0x83 ∷ 0x04 ∷ 0 ∷ 0 ∷ 0xc8 ∷ 0 ∷ []) ∷ []
  -- the power goes: the counter stands, and the same is sent again
  pub seen_cut : seen (after stocked_one (checked ++ time_passes 100 ∷ CutPower ∷ [])) ≡ 4 ∷ 1 ∷ 0 ∷ 0 ∷ 1 ∷ 1 ∷ 0 ∷ []
  pub check_again : sends_at 200 stocked_one (checked ++ time_passes 100 ∷ CutPower ∷ []) ≡ metadata_check 0 ∷ []
  pub start_again : sends_at 300 stocked_one (checked ++ time_passes 100 ∷ CutPower ∷ time_passes 200 ∷ told (metadata_status 0 0) ∷ []) ≡ update_start 1 ∷ []
  -- the next distribution has the next number
  pub next_start : sends_at 100 stocked_one (checked ++ said distribution_cancel ∷ time_passes 1 ∷ told (0x83 ∷ 0x10 ∷ 0 ∷ []) ∷ time_passes 2 ∷ said (distribution_start 0) ∷ time_passes 3 ∷ told (metadata_status 0 0) ∷ []) ≡ update_start 2 ∷ []
  -- an event of one operation, since a slot is fresh: torn, it has begun or not, and its answer is lost
  pub start_work : length (dist_work 1 (after stocked_one (said (receivers_add 0) ∷ [])) (heard (distribution_start 0)) 0) ≡ 1
  pub torn_before : seen (after stocked_one (said (receivers_add 0) ∷ Torn (heard (distribution_start 0)) 0 0 ∷ [])) ≡ 3 ∷ 0 ∷ 0 ∷ 0 ∷ 0 ∷ 1 ∷ 0 ∷ []
  pub torn_after : seen (after stocked_one (said (receivers_add 0) ∷ Torn (heard (distribution_start 0)) 0 1 ∷ [])) ≡ 4 ∷ 1 ∷ 0 ∷ 0 ∷ 1 ∷ 1 ∷ 0 ∷ []
  pub torn_sends : sends_at 0 stocked_one (said (receivers_add 0) ∷ Torn (heard (distribution_start 0)) 0 1 ∷ []) ≡ metadata_check 0 ∷ []
  -- a receiver that has no image of this index
  pub no_image : rows_seen (after stocked_one (started 1 ++ time_passes 0 ∷ told (metadata_status 4 1) ∷ [])) ≡ (2 ∷ 1 ∷ 10 ∷ 4 ∷ 0 ∷ []) ∷ []
  pub no_image_failed : seen (after stocked_one (started 1 ++ time_passes 0 ∷ told (metadata_status 4 1) ∷ time_passes 1 ∷ [])) ≡ 6 ∷ 5 ∷ 0 ∷ 0 ∷ 1 ∷ 1 ∷ 3 ∷ []
  -- nothing is sent while it is suspended, and the check comes again after it
  pub suspended : sends_at 100 stocked_one (checked ++ said distribution_suspend ∷ []) ≡ []
  pub resumed : answers stocked_one (checked ++ said distribution_suspend ∷ []) (distribution_start 0) ≡ distribution_status 0 1 ∷ []
  pub resumed_check : sends_at 100 stocked_one (checked ++ said distribution_suspend ∷ said (distribution_start 0) ∷ []) ≡ metadata_check 0 ∷ []
  pub resumed_number : seen (after stocked_one (checked ++ said distribution_suspend ∷ said (distribution_start 0) ∷ [])) ≡ 6 ∷ 1 ∷ 0 ∷ 0 ∷ 1 ∷ 1 ∷ 3 ∷ []
  -- canceled, the receiver is told, and the distribution is over once it has answered
  pub canceled_sends : sends_at 100 stocked_one (checked ++ said distribution_cancel ∷ []) ≡ (0x83 ∷ 0x0e ∷ []) ∷ []
  pub canceled_row : rows_seen (after stocked_one (checked ++ said distribution_cancel ∷ [])) ≡ (2 ∷ 0 ∷ 7 ∷ 0 ∷ 0 ∷ []) ∷ []
  pub canceled_over : seen (after stocked_one (checked ++ said distribution_cancel ∷ time_passes 1 ∷ told (0x83 ∷ 0x10 ∷ 0 ∷ []) ∷ time_passes 2 ∷ [])) ≡ 6 ∷ 0 ∷ 0 ∷ 0 ∷ 1 ∷ 1 ∷ 3 ∷ []
  pub worn : is_worn 1 (record stocked_one { durable = record (stocked_one.durable) { count = 4294967295 } }) (heard (receivers_add 0)) 0 ≡ true
