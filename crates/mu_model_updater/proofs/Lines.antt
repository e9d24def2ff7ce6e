-- What a line of a script says is in the ranges of the grammar.
use Rattle.std.proofs.Common.{◌<◌, ◌^◌, ℕ, List, [], ◌∷◌, map, arith}
use Rattle.std.specs.List.{AllByRecursion}
use Rattle.mu_model_image.specs.Laws.{ImagesHaveMetadata}
use Rattle.mu_model_updater.specs.Updater.{first_image, blob_id}
use Rattle.mu_model_updater.specs.Laws.{LinesAreInRange}

first_images : (receivers : List ℕ) → AllByRecursion (λ (receiver : ℕ × ℕ). receiver.1 < 2 ^ 8) (map first_image receivers)
first_images [] = tt
first_images (address ∷ receivers) = (omega arith, first_images receivers)

id_below : (address id : ℕ) → address < 2 ^ 15 → id < 2 ^ 48 → blob_id address id < 2 ^ 64
id_below address id h k = omega (arith, h, k)

pub lines_in_range : ImagesHaveMetadata → LinesAreInRange
lines_in_range images line h = record {
  ttl = h.ttl;
  base = h.base;
  id = id_below line.address line.id h.address h.id;
  meta = images line.version line.content h.content_least (let most = h.content_most in omega (arith, most)) h.version;
  indexes = first_images line.receivers;
}
