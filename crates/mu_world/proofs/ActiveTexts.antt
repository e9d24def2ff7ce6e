-- The texts of active images.
use Rattle.std.proofs.Common.{◌≡◌, ℕ, List, [], ◌∷◌, ◌++◌, length, map, Some, sym, ap, ◌∙◌, append-nil, append_assoc, slice_get, arith}
use Rattle.mu_model_image.specs.Meta.{Image}
use Rattle.mu_model_image.specs.declared.Meta.{Meta}
use Rattle.mu_model_script.specs.Texts.{active_text}
use Rattle.mu_model_world.specs.Outcomes.{active_texts}

abbrev metas : List Image → List Meta
metas images = map (λ image. image.meta) images

pub one_shown : (address : ℕ) (images : List Image) (first : Meta) (before : List ℕ) → slice_get (metas images) 0 ≡ Some first → length images ≡ 1
    → before ++ active_text address first.version first.size first.digest ≡ before ++ active_texts address images
one_shown address [] first before is one = absurd (omega arith)
one_shown address (image ∷ []) first before is one =
    let same : image.meta ≡ first = cc in
    rw same (ap (λ t. before ++ t) (sym (append-nil (active_text address first.version first.size first.digest))))
one_shown address (image ∷ next ∷ images) first before is one = absurd (omega arith)

pub two_shown : (address : ℕ) (images : List Image) (first second : Meta) (before : List ℕ) → slice_get (metas images) 0 ≡ Some first → slice_get (metas images) 1 ≡ Some second → length images ≡ 2
    → (before ++ active_text address first.version first.size first.digest) ++ active_text address second.version second.size second.digest ≡ before ++ active_texts address images
two_shown address [] first second before is next two = absurd (omega arith)
two_shown address (image ∷ []) first second before is next two = absurd (omega arith)
two_shown address (image ∷ other ∷ []) first second before is next two =
    let same : image.meta ≡ first = cc in
    let also : other.meta ≡ second = cc in
    let text = active_text address second.version second.size second.digest in
    rw (same, also) (append_assoc before (active_text address first.version first.size first.digest) text ∙ ap (λ t. before ++ (active_text address first.version first.size first.digest ++ t)) (sym (append-nil text)))
two_shown address (image ∷ other ∷ more ∷ images) first second before is next two = absurd (omega arith)
