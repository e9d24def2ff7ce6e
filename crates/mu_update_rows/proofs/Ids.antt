-- Firmware IDs from an index on.
use Rattle.std.proofs.Common.{◌≡◌, ℕ, List, [], ◌∷◌, length, map, take, drop, refl, ap, ◌∙◌}
use Rattle.std.proofs.lemmas.List.{length-map}
use Rattle.mu_model_image.specs.declared.Meta.{Meta}
use Rattle.mu_model_image.specs.Meta.{Image, firmware_id, own_company}
use Rattle.mu_model_node.specs.NodeState.{NodeState}
use Rattle.mu_update_rows.specs.Looks.{LooksAs, one_or_two}
use Rattle.mu_update_rows.specs.Decided.{ids_seen}
use Rattle.mu_update_rows.specs.declared.look.NodeLook.{NodeLook}

ids_of_images : (images : List Image) → map (λ (meta : Meta). firmware_id own_company meta) (map (λ (image : Image). image.meta) images) ≡ map (λ (image : Image). firmware_id own_company image.meta) images
ids_of_images [] = refl
ids_of_images (image ∷ images) = ap (λ ids. firmware_id own_company image.meta ∷ ids) (ids_of_images images)

pub ids_are : (look : NodeLook) (s : NodeState) (first limit : ℕ) → LooksAs look s → ids_seen look.active first limit ≡ take limit (drop first (map (λ (image : Image). firmware_id own_company image.meta) s.durable.images))
ids_are look s first limit looks =
    ap (λ metas. take limit (drop first (map (λ (meta : Meta). firmware_id own_company meta) metas))) looks.active
    ∙ ap (λ ids. take limit (drop first ids)) (ids_of_images s.durable.images)

pub count_is : (look : NodeLook) (s : NodeState) → LooksAs look s → length (one_or_two look.active) ≡ length s.durable.images
count_is look s looks = ap length looks.active ∙ length-map s.durable.images _
