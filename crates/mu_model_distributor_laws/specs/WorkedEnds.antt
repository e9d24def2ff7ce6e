-- Worked rows: how a verification ends, and records that are long.
use Rattle.std.specs.Prelude.{ℕ, ◌≡◌, ◌*◌, ◌++◌, List, [], ◌∷◌, length, map, replicate}
use Rattle.std.specs.List.{flat_map, range_with_len}
use Rattle.mu_model_node.specs.Safe.{Happening}
use Rattle.mu_model_distributor.specs.declared.DistPhase.TheVariants.{ApplyingUpdate, TransferSuspended}
use Rattle.mu_model_distributor.specs.DistState.{Receiver, DistState}
use Rattle.mu_model_distributor.specs.Receivers.{new_receiver, with_receivers}
use Rattle.mu_model_distributor.specs.DistEvents.{dist_work}
use Rattle.mu_model_distributor_laws.specs.Scenes.{stocked_one, heard, said, told, time_passes, after, answers, sends_at, seen, receivers_add, receivers_delete_all, distribution_start_of, distribution_apply, receivers_status}
use Rattle.mu_model_distributor_laws.specs.WorkedPhases.{phases, found}
use Rattle.mu_model_distributor_laws.specs.WorkedRun.{metadata_status, update_status, information_status, rows_seen}

-- a distribution with an octet of mode and policy, whose receiver says at the Update Start that it has verified the image already, so
-- that nothing is sent to it, and then that its transfer has failed
abbrev pub up_to_verify : ℕ → List Happening
up_to_verify means =
    said (receivers_add 0) ∷ said (distribution_start_of 5 means 0 0xc0)
    ∷ time_passes 0 ∷ told (metadata_status 0 0)
    ∷ time_passes 1 ∷ told (update_status 4 1)
    ∷ time_passes 2 ∷ told (0x83 ∷ 0x07 ∷ 0x0c ∷ 0x0e ∷ 0 ∷ 8 ∷ 0x78 ∷ 1 ∷ 0 ∷ 0x10 ∷ 0 ∷ 0 ∷ 0x7c ∷ 1 ∷ 3 ∷ [])
    ∷ time_passes 3 ∷ told (0x83 ∷ 0x03 ∷ 0x40 ∷ 4 ∷ 1 ∷ 0 ∷ 0 ∷ 0 ∷ 0 ∷ 0 ∷ 1 ∷ 0 ∷ 3 ∷ 0 ∷ 0 ∷ 0 ∷ 0x0c ∷ 0x7c ∷ 1 ∷ 0 ∷ [])
    ∷ time_passes 4 ∷ []

abbrev pub dropped : ℕ → List Happening
dropped means = up_to_verify means ++ told (update_status 1 1) ∷ []

-- the image is active at the receiver
abbrev pub shown : ℕ → List Happening
shown means = up_to_verify means ++ told (information_status 2) ∷ told (update_status 1 1) ∷ []

pub record VerificationEnds : Type 0 where
  pub asks : sends_at 4 stocked_one (said (receivers_add 0) ∷ []) ≡ []
  pub row_stands : rows_seen (after stocked_one (dropped 1)) ≡ (2 ∷ 0 ∷ 4 ∷ 0 ∷ 0 ∷ []) ∷ []
  -- nobody is active any more, but a row is verified: the client goes on with it, as after a boot
  pub verify_only : seen (after stocked_one (dropped 1 ++ time_passes 5 ∷ [])) ≡ 6 ∷ 2 ∷ 0 ∷ 0 ∷ 1 ∷ 1 ∷ 3 ∷ []
  pub then_applies : sends_at 7 stocked_one (dropped 1 ++ time_passes 5 ∷ said distribution_apply ∷ []) ≡ (0x83 ∷ 0x0f ∷ []) ∷ []
  pub verify_and_apply : seen (after stocked_one (dropped 5 ++ time_passes 5 ∷ [])) ≡ 6 ∷ 3 ∷ 0 ∷ 0 ∷ 1 ∷ 1 ∷ 3 ∷ []
  pub applies : sends_at 6 stocked_one (dropped 5 ++ time_passes 5 ∷ []) ≡ (0x83 ∷ 0x0f ∷ []) ∷ []
  -- the only row is in Apply Success: there is nobody to ask, and the next time event completes the distribution
  pub only_success : rows_seen (after stocked_one (shown 5)) ≡ (2 ∷ 0 ∷ 8 ∷ 0 ∷ 0 ∷ []) ∷ []
  pub success_applying : seen (after stocked_one (shown 5 ++ time_passes 5 ∷ [])) ≡ 7 ∷ 3 ∷ 0 ∷ 0 ∷ 1 ∷ 1 ∷ 2 ∷ []
  pub success_completed : seen (after stocked_one (shown 5 ++ time_passes 5 ∷ time_passes 6 ∷ [])) ≡ 8 ∷ 4 ∷ 0 ∷ 0 ∷ 1 ∷ 1 ∷ 1 ∷ []
  -- an Information Status of another version, or of another distribution's Update Status, says nothing of this one
  pub other_version : rows_seen (after stocked_one (up_to_verify 5 ++ told (information_status 4) ∷ [])) ≡ (2 ∷ 0 ∷ 4 ∷ 0 ∷ 0 ∷ []) ∷ []
  pub other_distribution : rows_seen (after stocked_one (up_to_verify 5 ++ told (update_status 6 2) ∷ [])) ≡ (2 ∷ 0 ∷ 4 ∷ 0 ∷ 0 ∷ []) ∷ []
  -- nor does one of this version before the receiver has told a phase of this distribution
  pub untold : rows_seen (after stocked_one (said (receivers_add 0) ∷ said (distribution_start_of 5 5 0 0xc0) ∷ time_passes 0 ∷ told (information_status 2) ∷ [])) ≡ (2 ∷ 0 ∷ 10 ∷ 0 ∷ 0 ∷ []) ∷ []
  -- answered 4, and Verification Failed afterwards: no row is verified, so the distribution fails and asks nobody to apply
  pub failed_afterwards : sends_at 5 stocked_one (up_to_verify 5 ++ told (update_status 4 1) ∷ told (update_status 5 1) ∷ []) ≡ []
  pub seen_failed : seen (after stocked_one (up_to_verify 5 ++ told (update_status 4 1) ∷ told (update_status 5 1) ∷ time_passes 5 ∷ [])) ≡ 7 ∷ 5 ∷ 0 ∷ 0 ∷ 1 ∷ 1 ∷ 2 ∷ []

-- ---- what counts for a row

-- an Update Status says that the receiver has verified the present transfer: by the phase in which a boot found the distribution
abbrev pub told_verified : List DistState
told_verified = map (λ phase. after (found 2 phase) (told (update_status 4 1) ∷ [])) phases

-- it counts while the transfer is present; in Canceling Update the round alone is told, and no record is written
pub record AnswersCount : Type 0 where
  pub rows : map (λ (s : DistState). map (λ (r : Receiver). r.phase) s.durable.receivers) told_verified ≡ map (λ phase. phase ∷ []) (2 ∷ 4 ∷ 4 ∷ 4 ∷ 2 ∷ 2 ∷ 2 ∷ 4 ∷ [])
  pub counts : map (λ (s : DistState). s.durable.count) told_verified ≡ 4 ∷ 5 ∷ 5 ∷ 5 ∷ 4 ∷ 4 ∷ 4 ∷ 5 ∷ []

-- ---- confirmations

-- so much time passes that each round ends, so many times, without an answer
abbrev pub silence : ℕ → List Happening
silence n = map (λ k. time_passes (100000 * k)) (range_with_len 1 n)

-- a boot found the distribution in Applying Update, with the row in Applying Update or in Apply Success
pub record Confirmations : Type 0 where
  pub waits : seen (after (found 6 ApplyingUpdate) (silence 2)) ≡ 4 ∷ 3 ∷ 0 ∷ 0 ∷ 1 ∷ 1 ∷ 0 ∷ []
  -- nobody confirms: the row becomes Apply Failed, and so does the distribution
  pub unconfirmed : seen (after (found 6 ApplyingUpdate) (silence 20)) ≡ 5 ∷ 5 ∷ 0 ∷ 0 ∷ 1 ∷ 1 ∷ 3 ∷ []
  pub unconfirmed_row : rows_seen (after (found 6 ApplyingUpdate) (silence 20)) ≡ (2 ∷ 0 ∷ 9 ∷ 0 ∷ 0 ∷ []) ∷ []
  pub confirmed : seen (after (found 8 ApplyingUpdate) (silence 20)) ≡ 5 ∷ 4 ∷ 0 ∷ 0 ∷ 1 ∷ 1 ∷ 3 ∷ []
  pub confirmed_row : rows_seen (after (found 8 ApplyingUpdate) (silence 20)) ≡ (2 ∷ 0 ∷ 8 ∷ 0 ∷ 0 ∷ []) ∷ []
  -- no client has a turn while the distribution is suspended
  pub suspended : sends_at 100000 (found 10 TransferSuspended) [] ≡ []

-- ---- long records

-- so many receivers, from an address below 256 on
abbrev pub many : ℕ → ℕ → List ℕ
many first n = (0x83 ∷ 0x11 ∷ []) ++ flat_map (λ a. a ∷ 0 ∷ 0 ∷ []) (range_with_len first n)

-- flash operations of an event, where slots are fresh
abbrev pub work_of : List Happening → List ℕ → ℕ
work_of hs payload = length (dist_work 1 (after stocked_one hs) (heard payload) 0)

-- so many receivers from 0003 on are there
abbrev pub has_many : ℕ → DistState
has_many n = with_receivers stocked_one (map (λ a. new_receiver (record { address = a; index = 0 })) (range_with_len 3 n)) (replicate n 0)

pub record ManyReceivers : Type 0 where
  -- a short record is one operation, a long one two, and leaves no fresh slot
  pub ten : work_of [] (many 3 10) ≡ 1
  pub eleven : work_of [] (many 3 11) ≡ 1
  pub twelve : work_of [] (many 3 12) ≡ 2
  pub seen_twelve : seen (after stocked_one (said (many 3 12) ∷ [])) ≡ 3 ∷ 0 ∷ 0 ∷ 0 ∷ 0 ∷ 1 ∷ 0 ∷ []
  pub one_by_one : work_of (said (many 3 11) ∷ []) (many 14 1) ≡ 2
  pub short_again : seen (after stocked_one (said (many 3 12) ∷ said receivers_delete_all ∷ [])) ≡ 4 ∷ 0 ∷ 0 ∷ 0 ∷ 0 ∷ 1 ∷ 3 ∷ []
  -- 128 at most, each once
  pub most : answers (has_many 126) [] (many 127 4) ≡ receivers_status 0 128 ∷ []
  pub too_many : answers (has_many 126) [] (many 127 5) ≡ receivers_status 1 126 ∷ []
  -- a Receivers List has 74 rows at most, from the first that is asked for
  pub listed : map length (answers (has_many 100) [] (0x83 ∷ 0x14 ∷ 0 ∷ 0 ∷ 0xff ∷ 0xff ∷ [])) ≡ 376 ∷ []
  pub listed_rest : map length (answers (has_many 100) [] (0x83 ∷ 0x14 ∷ 98 ∷ 0 ∷ 0xff ∷ 0xff ∷ [])) ≡ 16 ∷ []
  pub listed_one : answers (has_many 100) [] (0x83 ∷ 0x14 ∷ 98 ∷ 0 ∷ 1 ∷ 0 ∷ []) ≡ (0x83 ∷ 0x15 ∷ 100 ∷ 0 ∷ 98 ∷ 0 ∷ 101 ∷ 0 ∷ 5 ∷ 0 ∷ 0 ∷ []) ∷ []
  pub listed_past : answers (has_many 100) [] (0x83 ∷ 0x14 ∷ 100 ∷ 0 ∷ 1 ∷ 0 ∷ []) ≡ (0x83 ∷ 0x15 ∷ 100 ∷ 0 ∷ 100 ∷ 0 ∷ []) ∷ []
  pub twice : answers stocked_one [] ((0x83 ∷ 0x11 ∷ []) ++ (2 ∷ 0 ∷ 0 ∷ 2 ∷ 0 ∷ 1 ∷ [])) ≡ receivers_status 0 1 ∷ []
