-- Octets of messages in worked scenes. A transfer is of 3 octets under the BLOB ID 0001000000000007, with chunks of 200 octets.
use Rattle.std.specs.Prelude.{ℕ, ◌/◌, ◌%◌, List, [], ◌∷◌, ◌++◌}

-- the octets of a number of two
abbrev pub low : ℕ → ℕ
low number = number % 256

abbrev pub high : ℕ → ℕ
high number = number / 256

-- a BLOB ID
abbrev pub id_of : ℕ → List ℕ
id_of id = id ∷ 0 ∷ 0 ∷ 0 ∷ 0 ∷ 0 ∷ 1 ∷ 0 ∷ []

-- ---- BLOB transfer

abbrev pub transfer_get : List ℕ
transfer_get = 0x83 ∷ 0x00 ∷ []

abbrev pub transfer_start : List ℕ
transfer_start = (0x83 ∷ 0x01 ∷ 0x40 ∷ []) ++ (id_of 7 ++ (3 ∷ 0 ∷ 0 ∷ 0 ∷ 12 ∷ 0x7c ∷ 1 ∷ []))

abbrev pub block_start : List ℕ
block_start = 0x83 ∷ 0x04 ∷ 0 ∷ 0 ∷ 200 ∷ 0 ∷ []

abbrev pub block_get : List ℕ
block_get = 0x83 ∷ 0x05 ∷ []

abbrev pub blob_information_get : List ℕ
blob_information_get = 0x83 ∷ 0x06 ∷ []

-- a chunk of another image than the one that was offered
abbrev pub other_chunk : List ℕ
other_chunk = 0x66 ∷ 0 ∷ 0 ∷ 0x61 ∷ 0x62 ∷ 0x64 ∷ []

-- ---- updates

abbrev pub information_get : List ℕ
information_get = 0x83 ∷ 0x08 ∷ 0 ∷ 1 ∷ []

-- status 0 for index 0
abbrev pub metadata_status : List ℕ
metadata_status = 0x83 ∷ 0x0b ∷ 0 ∷ 0 ∷ []

abbrev pub update_cancel : List ℕ
update_cancel = 0x83 ∷ 0x0e ∷ []

-- ---- distribution

abbrev pub receivers_delete_all : List ℕ
receivers_delete_all = 0x83 ∷ 0x12 ∷ []

abbrev pub capabilities_get : List ℕ
capabilities_get = 0x83 ∷ 0x16 ∷ []

abbrev pub distribution_get : List ℕ
distribution_get = 0x83 ∷ 0x18 ∷ []

abbrev pub distribution_suspend : List ℕ
distribution_suspend = 0x83 ∷ 0x1a ∷ []

abbrev pub distribution_cancel : List ℕ
distribution_cancel = 0x83 ∷ 0x1b ∷ []

abbrev pub distribution_apply : List ℕ
distribution_apply = 0x83 ∷ 0x1c ∷ []

abbrev pub upload_get : List ℕ
upload_get = 0x83 ∷ 0x1e ∷ []

abbrev pub upload_cancel : List ℕ
upload_cancel = 0x83 ∷ 0x21 ∷ []

abbrev pub firmware_delete_all : List ℕ
firmware_delete_all = 0x83 ∷ 0x26 ∷ []
