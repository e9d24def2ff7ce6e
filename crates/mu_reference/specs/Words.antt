-- Words that contracts of this crate's own functions use.
use Rattle.std.specs.Prelude.{ℕ, List, [], map, Option, Some, None}
use Rattle.mu_model_image.specs.Meta.{Image, firmware_id, own_company}

-- what is at a place, or no octets
abbrev pub piece_at : Option (List ℕ) → List ℕ
piece_at None = []
piece_at (Some octets) = octets

-- the Firmware IDs of images
abbrev pub ids_of : List Image → List (List ℕ)
ids_of images = map (λ image. firmware_id own_company image.meta) images
