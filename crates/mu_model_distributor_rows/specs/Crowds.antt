-- A distributor with as many receivers as it may have: 128, at 0002 to 0081. Addresses that are there don't count again.
use Rattle.std.specs.Prelude.{ℕ, [], ◌∷◌, map}
use Rattle.std.specs.List.{range_with_len}
use Rattle.mu_model_distributor.specs.DistState.{Receiver, DistState}
use Rattle.mu_model_distributor.specs.DistEvents.{new_distributor, restarted}
use Rattle.mu_model_distributor_rows.specs.Scenes.{Answers, receivers_add, receivers_status, row}

abbrev pub unasked : ℕ → Receiver
unasked address = record { address = address; index = 0; phase = 10; update_status = 0; transfer_status = 0 }

-- with so many
abbrev pub crowd : ℕ → DistState
crowd many = restarted 1 (record (new_distributor 1) { receivers = map unasked (range_with_len 2 many) })

pub record EachCrowd : Type 0 where
  -- of 127: one that comes twice is one, and one that is there none; two are too many
  pub twice : Answers (crowd 127) (row (receivers_add (129 ∷ 129 ∷ [])) (receivers_status 0 128) (2 ∷ 0 ∷ 0 ∷ 128 ∷ 0 ∷ 0 ∷ []) ∷ [])
  pub known : Answers (crowd 127) (row (receivers_add (2 ∷ 129 ∷ [])) (receivers_status 0 128) (2 ∷ 0 ∷ 0 ∷ 128 ∷ 0 ∷ 0 ∷ []) ∷ [])
  pub two : Answers (crowd 127) (row (receivers_add (129 ∷ 130 ∷ [])) (receivers_status 1 127) (1 ∷ 0 ∷ 0 ∷ 127 ∷ 0 ∷ 0 ∷ []) ∷ [])
  -- of 128: those that are there are answered with success and no record, and one more is too many
  pub there : Answers (crowd 128) (row (receivers_add (129 ∷ 2 ∷ [])) (receivers_status 0 128) (1 ∷ 0 ∷ 0 ∷ 128 ∷ 0 ∷ 0 ∷ []) ∷ [])
  pub more : Answers (crowd 128) (row (receivers_add (130 ∷ [])) (receivers_status 1 128) (1 ∷ 0 ∷ 0 ∷ 128 ∷ 0 ∷ 0 ∷ []) ∷ [])
