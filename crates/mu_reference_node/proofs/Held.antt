-- What is read of a node's images and blocks.
use Rattle.std.proofs.Common.{◌≡◌, ◌≤◌, ◌<◌, ◌+◌, ◌-◌, ◌*◌, ◌/◌, ◌^◌, ℕ, zero, suc, List, [], ◌∷◌, length, map, refl, ap, subst, arith, Option, Some, None}
use Rattle.std.specs.Prelude.{slice_get, slice_index_or, is_some}
use Rattle.std.specs.List.{count_by}
use Rattle.std.proofs.lemmas.Nat.{div_below}
use Rattle.std.proofs.lemmas.List.Sums.{count_by-le-length}
use Rattle.std.proofs.Math.Pow.{pow_mono}
use Rattle.mu_model_image.specs.Pieces.{block_count}
use Rattle.mu_model_node.specs.declared.Parameters.{Parameters}
use Rattle.mu_model_node.specs.Slots.{Slots, held_count}
use Rattle.mu_model_node.specs.NodeState.{Job, NodeState}
use Rattle.mu_model_node.specs.Sound.{HasBlocks, IsJob, HasJob, IsNodeState}
use Rattle.mu_reference.specs.View.{image_of}
use Rattle.mu_reference.specs.declared.values.Image.{Image as ImageHere}

few_count : (size log : ℕ) → size ≤ 1048576 → 12 ≤ log → block_count size log ≤ 256
few_count size log h k =
    let least : 2 ^ 12 ≤ 2 ^ log = pow_mono k in
    let unit : 4096 ≤ 2 ^ log = least in
    let below : block_count size log < 257 = div_below (size + 2 ^ log - 1) (2 ^ log) 257 (omega arith) (omega arith) in
    omega arith

few_blocks : (expected : ℕ) (parameters : Option Parameters) (held : Slots) → expected ≤ 1048576 → HasBlocks expected parameters held → length held ≤ 256
few_blocks expected None held small h = rw h (omega arith)
few_blocks expected (Some p) held small h =
    let size : p.size ≡ expected = h.size in
    rw (h.count) (few_count p.size p.log (omega arith) h.log_above)

pub few_held : (s : NodeState) (j : Job) → IsNodeState s → s.durable.job ≡ Some j → held_count j.held ≤ 256
few_held s j h e =
    let own : IsJob s.durable.capacity s.durable.images j = subst (HasJob s.durable.capacity s.durable.images) e h.durable.job in
    let pages = h.durable.capacity in
    let most : pages.0 ≤ 256 = pages.2 in
    let capacity : s.durable.capacity ≡ 4096 * pages.0 = pages.3 in
    let room : j.meta.size ≤ s.durable.capacity = own.room in
    let few : length j.held ≤ 256 = few_blocks j.meta.size j.parameters j.held (omega arith) own.blocks in
    omega (arith, count_by-le-length is_some j.held)

pub meta_at : (images : List ImageHere) (i : ℕ) (d : ImageHere) → i < length images → slice_get (map (λ image. image.meta) (map image_of images)) i ≡ Some (slice_index_or images i d).meta
meta_at [] i d h = absurd (omega arith)
meta_at (image ∷ images) zero d h = refl
meta_at (image ∷ images) (suc i) d h = meta_at images i d (omega arith)
