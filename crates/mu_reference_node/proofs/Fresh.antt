-- New nodes are sound.
use Rattle.std.proofs.Common.{◌≡◌, ◌≤◌, ◌*◌, ℕ, zero, suc, List, [], ◌∷◌, length, refl, subst, arith, Some}
use Rattle.std.specs.Prelude.{slice_get}
use Rattle.mu_model_image.specs.Meta.{Image, image_of}
use Rattle.mu_model_node.specs.NodeState.{new_node, new_pair}
use Rattle.mu_model_node.specs.Sound.{IsActiveImage, IsNodeDurable}

own_image : (capacity version : ℕ) (octets : List ℕ) → 1 ≤ length octets → length octets ≤ capacity → IsActiveImage capacity (image_of version octets)
own_image capacity version octets some room = record { some = some; room = room; fit = record { size = refl; digest = refl } }

images_are : (P : Image → Type 0) (image : Image) → P image → (index : ℕ) (other : Image) → slice_get (image ∷ []) index ≡ Some other → P other
images_are P image h zero other e = let same : image ≡ other = cc in subst P same h
images_are P image h (suc index) other e = cc

pub new_is_sound : (pages version : ℕ) (octets : List ℕ) → 1 ≤ pages → pages ≤ 256 → 1 ≤ length octets → length octets ≤ 4096 * pages → IsNodeDurable (new_node pages (image_of version octets))
new_is_sound pages version octets least most some room = record {
  capacity = (pages, least, most, refl);
  some_image = omega arith;
  two_images = omega arith;
  images = images_are (IsActiveImage (4096 * pages)) (image_of version octets) (own_image (4096 * pages) version octets some room);
  job = tt;
}

both_are : (P : Image → Type 0) (image second : Image) → P image → P second → (index : ℕ) (other : Image) → slice_get (image ∷ second ∷ []) index ≡ Some other → P other
both_are P image second h k zero other e = let same : image ≡ other = cc in subst P same h
both_are P image second h k (suc zero) other e = let same : second ≡ other = cc in subst P same k
both_are P image second h k (suc (suc index)) other e = cc

pub pair_is_sound : (pages version second_version : ℕ) (octets second : List ℕ) → 1 ≤ pages → pages ≤ 256 → 1 ≤ length octets → length octets ≤ 4096 * pages → 1 ≤ length second → length second ≤ 4096 * pages → IsNodeDurable (new_pair pages (image_of version octets) (image_of second_version second))
pair_is_sound pages version second_version octets second least most some room second_some second_room = record {
  capacity = (pages, least, most, refl);
  some_image = omega arith;
  two_images = omega arith;
  images = both_are (IsActiveImage (4096 * pages)) (image_of version octets) (image_of second_version second) (own_image (4096 * pages) version octets some room) (own_image (4096 * pages) second_version second second_some second_room);
  job = tt;
}
