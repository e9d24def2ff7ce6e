-- Facts on places: what is put, what is empty, and how long all of it is.
use Rattle.std.proofs.Common.{◌≡◌, ◌<◌, ◌≤◌, ℕ, zero, suc, ◌+◌, ◌-◌, ◌*◌, ◌^◌, min, true, false, List, [], ◌∷◌, length, refl, sym, ap, subst, arith, Some, None, ◌⊎◌, inl, inr, ◌∙◌, length-append}
use Rattle.std.proofs.lemmas.Nat.{div-add-mod', mod_below}
use Rattle.std.proofs.Math.Pow.{pow_mono}
use Rattle.mu_model_image.specs.Pieces.{piece_count, piece_length, block_length}
use Rattle.mu_model_node.specs.Slots.{Slots, empty, at, put, is_full, joined}
use Rattle.mu_model_node.specs.Sound.{HaveLengths}

-- nothing is past the end
pub at_end : (slots : Slots) (i : ℕ) → length slots ≤ i → at slots i ≡ None
at_end [] i h = refl
at_end (x ∷ slots) zero h = absurd (omega arith)
at_end (x ∷ slots) (suc i) h = at_end slots i (omega arith)

pub at_empty : (n i : ℕ) → at (empty n) i ≡ None
at_empty zero i = refl
at_empty (suc n) zero = refl
at_empty (suc n) (suc i) = at_empty n i

pub empty_lengths : (length_of : ℕ → ℕ) (n : ℕ) → HaveLengths length_of (empty n)
empty_lengths length_of n i octets e = let none : None ≡ Some octets = sym (at_empty n i) ∙ e in cc

-- what is at a place after something was put at one
pub at_put : (slots : Slots) (k i : ℕ) (octets : List ℕ) → ((i ≡ k) × (at (put slots k octets) i ≡ Some octets)) ⊎ (at (put slots k octets) i ≡ at slots i)
at_put [] k i octets = inr refl
at_put (x ∷ slots) zero zero octets = inl (refl, refl)
at_put (x ∷ slots) zero (suc i) octets = inr refl
at_put (x ∷ slots) (suc k) zero octets = inr refl
at_put (x ∷ slots) (suc k) (suc i) octets =
    elim (at_put slots k i octets) [
      | inl p ↦ inl (ap suc p.0, p.1)
      | inr p ↦ inr p
    ]

pub put_lengths : (length_of : ℕ → ℕ) (slots : Slots) (k : ℕ) (octets : List ℕ) → length octets ≡ length_of k → HaveLengths length_of slots → HaveLengths length_of (put slots k octets)
put_lengths length_of slots k octets e h i others is =
    elim (at_put slots k i octets) [
      | inl p ↦ let same : octets ≡ others = cc in rw (sym same, p.0) e
      | inr p ↦ h i others (sym p ∙ is)
    ]

pub length_put : (slots : Slots) (k : ℕ) (octets : List ℕ) → length (put slots k octets) ≡ length slots
length_put [] k octets = refl
length_put (x ∷ slots) zero octets = refl
length_put (x ∷ slots) (suc k) octets = ap suc (length_put slots k octets)

-- a place with nothing keeps the others from being all
pub not_full : (slots : Slots) (i : ℕ) → i < length slots → at slots i ≡ None → is_full slots ≡ false
not_full [] i h e = absurd (omega arith)
not_full (None ∷ slots) i h e = refl
not_full (Some octets ∷ slots) zero h e = cc
not_full (Some octets ∷ slots) (suc i) h e = not_full slots i (omega arith) e

-- ---- the length of all that is there

step_length : (whole size k : ℕ) → piece_length whole size k + min whole (k * size) ≡ min whole ((k + 1) * size)
step_length whole size k =
    let e : (k + 1) * size ≡ k * size + size = grind arith in
    rw e (omega arith)

-- the pieces cover the whole
pub covered : (whole size : ℕ) → 0 < size → whole ≤ piece_count whole size * size
covered whole size positive = omega (arith, div-add-mod' (whole + size - 1) size, mod_below (whole + size - 1) size positive)

pub joined_length : (whole size k : ℕ) (slots : Slots) → is_full slots ≡ true → ((i : ℕ) (octets : List ℕ) → at slots i ≡ Some octets → length octets ≡ piece_length whole size (k + i)) → length (joined slots) + min whole (k * size) ≡ min whole ((k + length slots) * size)
joined_length whole size k [] full h =
    let count : k + 0 ≡ k = omega arith in
    let e : (k + 0) * size ≡ k * size = ap (λ n. n * size) count in
    rw e (omega arith)
joined_length whole size k (None ∷ slots) full h = cc
joined_length whole size k (Some octets ∷ slots) full h =
    let own : length octets ≡ piece_length whole size k = subst (λ n. length octets ≡ piece_length whole size n) (omega arith) (h 0 octets refl) in
    let others : length (joined slots) + min whole ((k + 1) * size) ≡ min whole ((k + 1 + length slots) * size) = joined_length whole size (k + 1) slots full (λ i more e. subst (λ n. length more ≡ piece_length whole size n) (omega arith) (h (suc i) more e)) in
    let here : piece_length whole size k + min whole (k * size) ≡ min whole ((k + 1) * size) = step_length whole size k in
    let count : k + suc (length slots) ≡ k + 1 + length slots = omega arith in
    rw (count, length-append) (omega arith)

-- all pieces are there, so their lengths sum to the whole's
pub whole_length : (whole size : ℕ) (slots : Slots) → 0 < size → is_full slots ≡ true → length slots ≡ piece_count whole size → HaveLengths (piece_length whole size) slots → length (joined slots) ≡ whole
whole_length whole size slots positive full count h =
    let all : length (joined slots) + min whole (0 * size) ≡ min whole ((0 + length slots) * size) = joined_length whole size 0 slots full (λ i octets e. subst (λ n. length octets ≡ piece_length whole size n) (omega arith) (h i octets e)) in
    let zero_size : 0 * size ≡ 0 = omega arith in
    let begins : (0 + length slots) * size ≡ length slots * size = ap (λ n. n * size) (omega arith) in
    let covers : whole ≤ piece_count whole size * size = covered whole size positive in
    let covered : whole ≤ length slots * size = rw count covers in
    omega arith

-- a block has at most 4 pages
pub block_is_short : (size log i : ℕ) → log ≤ 14 → block_length size log i ≤ 16384
block_is_short size log i h =
    let power : 2 ^ log ≤ 2 ^ 14 = pow_mono h in
    let e : (i + 1) * 2 ^ log ≡ i * 2 ^ log + 2 ^ log = grind arith in
    let bound : 2 ^ log ≤ 16384 = power in
    rw e (omega arith)

pub few_pages : (n : ℕ) → n ≤ 16384 → piece_count n 4096 ≤ 4
few_pages n h = omega arith
