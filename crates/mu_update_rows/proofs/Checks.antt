-- The check from what is looked at.
use Rattle.std.proofs.Common.{◌≡◌, ℕ, zero, suc, List, [], ◌∷◌, map, Option, Some, None, refl, ap, ◌∙◌}
use Rattle.std.specs.Prelude.{slice_get}
use Rattle.mu_model_image.specs.declared.Meta.{Meta}
use Rattle.mu_model_image.specs.Meta.{Image, meta_from}
use Rattle.mu_model_node.specs.NodeState.{NodeState}
use Rattle.mu_model_node.specs.UpdateTable.{check, check_image}
use Rattle.mu_update_rows.specs.Looks.{LooksAs, one_or_two, there}
use Rattle.mu_update_rows.specs.Decided.{check_metas, check_seen}
use Rattle.mu_update_rows.specs.declared.look.NodeLook.{NodeLook}

get_mapped : {A B : Type 0} (f : A → B) (xs : List A) (i : ℕ) → slice_get (map f xs) i ≡ there f (slice_get xs i)
get_mapped f [] i = refl
get_mapped f (x ∷ xs) zero = refl
get_mapped f (x ∷ xs) (suc i) = get_mapped f xs i

metas_are : (s : NodeState) (active : Option Image) (meta : Option Meta) → check_metas s.durable.capacity (there (λ image. image.meta) active) meta ≡ check_image s.durable active meta
metas_are s None meta = refl
metas_are s (Some active) None = refl
metas_are s (Some active) (Some meta) = refl

pub check_is : (look : NodeLook) (s : NodeState) (index : ℕ) (metadata : List ℕ) → LooksAs look s → check_seen look index metadata ≡ check s.durable index metadata
check_is look s index metadata looks =
    ap (λ capacity. check_metas capacity (slice_get (one_or_two look.active) index) (meta_from metadata)) looks.capacity
    ∙ ap (λ metas. check_metas s.durable.capacity (slice_get metas index) (meta_from metadata)) looks.active
    ∙ ap (λ active. check_metas s.durable.capacity active (meta_from metadata)) (get_mapped (λ (image : Image). image.meta) s.durable.images index)
    ∙ metas_are s (slice_get s.durable.images index) (meta_from metadata)
