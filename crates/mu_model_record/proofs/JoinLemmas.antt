-- The blocks of a bank that are all held, joined, are what lies in it.
use Rattle.std.proofs.Common.{◌≡◌, ◌⊎◌, inl, inr, ℕ, suc, ◌+◌, ◌-◌, ◌*◌, ◌^◌, ◌<◌, ◌≤◌, Option, Some, None, List, [], ◌∷◌, ◌++◌, length, refl, sym, ◌∙◌, ap, subst, arith}
use Rattle.std.specs.Prelude.{slice_index_or}
use Rattle.std.proofs.lemmas.Nat.{pow_pos, mod_below, div-add-mod'}
use Rattle.mu_model_image.specs.Pieces.{block_count, block_length}
use Rattle.mu_model_flash.specs.Bits.{part_of}
use Rattle.mu_model_record.specs.declared.Record.{Record}
use Rattle.mu_model_record.specs.Store.{bank_place, BlockLies, BlocksLie}
use Rattle.mu_model_record.specs.Changes.{joined}
use Rattle.mu_model_record.proofs.FrameLemmas.{block_begins}
use Rattle.mu_model_record.proofs.PartLemmas.{part_joined}

part_nothing : (c : List ℕ) (at : ℕ) → part_of c at 0 ≡ []
unfolding part_of
part_nothing c at = refl

-- the blocks reach the end
reaches : (size log : ℕ) → size ≤ block_count size log * 2 ^ log
reaches size log =
    let p : ℕ = 2 ^ log in
    let some : 0 < 2 ^ log = pow_pos log in
    omega (arith, div-add-mod' (size + 2 ^ log - 1) (2 ^ log), mod_below (size + 2 ^ log - 1) (2 ^ log) some, some)

module _ (r : Record) (b size log : ℕ) (image : List ℕ) where
  -- from a block on
  from_block : (blocks : List (Option (List ℕ))) (k : ℕ) → k + length blocks ≡ block_count size log
      → ((i : ℕ) → i < length blocks → BlockLies r b size log (k + i) (slice_index_or blocks i None) image) → ((i : ℕ) → i < length blocks → slice_index_or blocks i None ≡ None → ⊥)
      → part_of image (bank_place r b + k * 2 ^ log) (size - k * 2 ^ log) ≡ joined blocks
  from_block [] k count lies all =
      let ends = reaches size log in
      let same : k ≡ block_count size log = omega (arith, count) in
      let end : size ≤ k * 2 ^ log = subst (λ (n : ℕ). size ≤ n * 2 ^ log) (sym same) ends in
      let none : size - k * 2 ^ log ≡ 0 = omega (arith, end) in
      ap (λ (n : ℕ). part_of image (bank_place r b + k * 2 ^ log) n) none ∙ part_nothing image (bank_place r b + k * 2 ^ log)
  from_block (None ∷ blocks) k count lies all = absurd (all 0 (omega arith) refl)
  from_block (Some octets ∷ blocks) k count lies all =
      let zero_on : k + 0 ≡ k = omega arith in
      let lt : k < block_count size log = omega (arith, count) in
      let begins = block_begins size log k lt in
      let here = subst (λ (n : ℕ). BlockLies r b size log n (Some octets) image) zero_on (lies 0 (omega arith)) in
      let next : (k + 1) * 2 ^ log ≡ k * 2 ^ log + 2 ^ log = omega arith in
      let more = from_block blocks (k + 1) (omega (arith, count))
      (λ i i_lt. let on : k + suc i ≡ k + 1 + i = omega arith in subst (λ (n : ℕ). BlockLies r b size log n (slice_index_or blocks i None) image) on (lies (suc i) (omega (arith, i_lt))))
      (λ i i_lt. all (suc i) (omega (arith, i_lt))) in
      ap (λ (n : ℕ). part_of image (bank_place r b + k * 2 ^ log) n) (sizes begins next)
      ∙ sym (part_joined image (bank_place r b + k * 2 ^ log) (block_length size log k) (size - (k + 1) * 2 ^ log))
      ∙ (λ j. here.1 j ++ tail begins next (split ((k + 1) * 2 ^ log) size) j)
      ∙ ap (λ (l : List ℕ). octets ++ l) more
    where
      split : (x y : ℕ) → (x < y) ⊎ (y ≤ x)
      split x y = grind arith

      sizes : k * 2 ^ log < size → (k + 1) * 2 ^ log ≡ k * 2 ^ log + 2 ^ log → size - k * 2 ^ log ≡ block_length size log k + (size - (k + 1) * 2 ^ log)
      sizes begins next = omega (arith, begins, next)

      tail : k * 2 ^ log < size → (k + 1) * 2 ^ log ≡ k * 2 ^ log + 2 ^ log → ((k + 1) * 2 ^ log < size) ⊎ (size ≤ (k + 1) * 2 ^ log)
          → part_of image (bank_place r b + k * 2 ^ log + block_length size log k) (size - (k + 1) * 2 ^ log) ≡ part_of image (bank_place r b + (k + 1) * 2 ^ log) (size - (k + 1) * 2 ^ log)
      tail begins next (inl some) =
          let place : bank_place r b + k * 2 ^ log + block_length size log k ≡ bank_place r b + (k + 1) * 2 ^ log = omega (arith, begins, next, some) in
          ap (λ (n : ℕ). part_of image n (size - (k + 1) * 2 ^ log)) place
      tail begins next (inr last) =
          let none : size - (k + 1) * 2 ^ log ≡ 0 = omega (arith, last) in
          ap (λ (n : ℕ). part_of image (bank_place r b + k * 2 ^ log + block_length size log k) n) none ∙ part_nothing image (bank_place r b + k * 2 ^ log + block_length size log k)
          ∙ sym (ap (λ (n : ℕ). part_of image (bank_place r b + (k + 1) * 2 ^ log) n) none ∙ part_nothing image (bank_place r b + (k + 1) * 2 ^ log))

  pub bank_joined : (blocks : List (Option (List ℕ))) → length blocks ≡ block_count size log → BlocksLie r b size log blocks image → ((i : ℕ) → i < block_count size log → slice_index_or blocks i None ≡ None → ⊥)
      → part_of image (bank_place r b) size ≡ joined blocks
  bank_joined blocks count lies all =
      let zero_mul : 0 * 2 ^ log ≡ 0 = omega arith in
      let place : bank_place r b + 0 * 2 ^ log ≡ bank_place r b = omega (arith, zero_mul) in
      let size_is : size - 0 * 2 ^ log ≡ size = omega (arith, zero_mul) in
      sym (λ j. part_of image (place j) (size_is j))
      ∙ from_block blocks 0 (omega (arith, count))
      (λ i lt. let on : i ≡ 0 + i = omega arith in subst (λ (n : ℕ). BlockLies r b size log n (slice_index_or blocks i None) image) on (lies i (omega (arith, lt, count))))
      (λ i lt. all i (omega (arith, lt, count)))
