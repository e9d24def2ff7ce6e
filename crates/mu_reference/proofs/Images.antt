-- Images by index.
use Rattle.std.proofs.Common.{◌≡◌, ◌≤◌, ℕ, zero, suc, List, [], ◌∷◌, length, map, set, refl, ap, arith}
use Rattle.std.proofs.lemmas.List.{map-set}
use Rattle.mu_model_image.specs.Meta.{Image}
use Rattle.mu_reference.specs.View.{image_of}
use Rattle.mu_reference.specs.declared.values.Image.{Image as ImageHere}

pub images_set : (images : List ImageHere) (i : ℕ) (image : ImageHere) → map image_of (set images i image) ≡ set (map image_of images) i (image_of image)
images_set images i image = map-set image_of images i image

pub images_past : (images : List ImageHere) (i : ℕ) (image : Image) → length images ≤ i → set (map image_of images) i image ≡ map image_of images
images_past [] i image h = refl
images_past (x ∷ images) zero image h = absurd (omega arith)
images_past (x ∷ images) (suc i) image h = ap (λ others. image_of x ∷ others) (images_past images i image (omega arith))
