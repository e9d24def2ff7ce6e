-- Statuses that several models have (MshMBT, Status; MshDFU, Status).
use Rattle.std.specs.Prelude.{ℕ}

-- in each of the three models
abbrev pub success : ℕ
success = 0

-- of firmware updates and of firmware distribution
abbrev pub wrong_phase : ℕ
wrong_phase = 2
