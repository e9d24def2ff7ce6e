-- The first octets of a record.
use Rattle.std.specs.Prelude.{ℕ, List, [], ◌∷◌, ◌++◌}
use Rattle.byteorder.specs.Endian.{little_bytes}
use Rattle.mu_model_record.specs.declared.Record.{Record}

-- name, format, number of banks, pages of a bank, count and four octets 0
abbrev pub header_of : ℕ → Record → List ℕ
header_of format r = 0x4D ∷ 0x55 ∷ 0x46 ∷ 0x31 ∷ format ∷ r.number ∷ (little_bytes 2 r.pages ++ (little_bytes 4 r.count ++ 0 ∷ 0 ∷ 0 ∷ 0 ∷ []))
