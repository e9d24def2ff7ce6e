use Rattle.std.proofs.Common.{◌≡◌, ◌-◌, map}
use Rattle.arrayvec.specs.ArrayVec.{array_vec_len}
use Rattle.mu_reference.specs.View.{image_of}
use Rattle.mu_reference.specs.Words.{ids_of}
use Rattle.mu_reference.proofs.Ids.{from_on}
use Rattle.mu_reference.proofs.information.ids.Given as goal

abbrev pub invariant-loop-index : goal.invariant-loop-index
invariant-loop-index l = (array_vec_len l.ids ≡ l.index - l.first) × (map (λ id. id.items) l.ids.items ≡ from_on (ids_of (map image_of l.images)) l.first (l.index - l.first))
