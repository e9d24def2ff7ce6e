-- Pairs of octets that are complements, bit by bit.
use Rattle.std.proofs.Common.{◌≡◌, ◌⊎◌, inl, inr, ⊎_elim, ℕ, zero, suc, ◌+◌, ◌-◌, ◌<◌, ◌≤◌, min, bit_and, sym, ◌∙◌, ap, subst, arith, w8}
use Rattle.std.specs.Int.{bit_at}
use Rattle.std.proofs.lemmas.Nat.Bits.{bit_at-lt, bit_at_above, bit_at_ones, bit_at_not, same_from_bits, same_from_bits_below, bit_at_and}
use Rattle.std.proofs.lemmas.Nat.{and_le_r}
use Rattle.std.proofs.lemmas.Bool.{cases_eq}
use Rattle.mu_model_flash.specs.Bits.{IsMixOf}

le_same : (x y : ℕ) → y ≡ x → x ≤ y
le_same x y e = omega arith

le_one : (x y : ℕ) → x < 2 → y ≡ 1 → x ≤ y
le_one x y lt e = omega arith

le_zero : (x y : ℕ) → x ≡ 0 → x ≤ y
le_zero x y e = omega arith

split : (k n : ℕ) → (k < n) ⊎ (n ≤ k)
split k n = grind arith

min_low : (x y : ℕ) → x ≤ y → min x y ≡ x
min_low x y le = omega arith

-- no bit is above the other's
le_from_bits : (a b : ℕ) → ((k : ℕ) → bit_at a k ≤ bit_at b k) → a ≤ b
le_from_bits a b bits =
    let same : bit_and a b ≡ a = same_from_bits (bit_and a b) a (λ k. bit_at_and a b k ∙ min_low (bit_at a k) (bit_at b k) (bits k)) in
    subst (λ (x : ℕ). x ≤ b) same (and_le_r a b)

-- an erase that is cut short clears no bit
pub mix_above : (x g : ℕ) → x < 256 → IsMixOf x 255 g → (k : ℕ) → bit_at x k ≤ bit_at g k
mix_above x g lt mix k =
    ⊎_elim
    (λ was. le_same (bit_at x k) (bit_at g k) was)
    (λ now. ⊎_elim
    (λ low. le_one (bit_at x k) (bit_at g k) (bit_at-lt x k) (now ∙ bit_at_ones 8 k low))
    (λ high. le_zero (bit_at x k) (bit_at g k) (bit_at_above x 8 k lt high))
    (split k 8))
    (mix k)

pub pair_same : (a b g h : ℕ) → a + b ≡ 255 → IsMixOf a 255 g → IsMixOf b 255 h → g + h ≡ 255 → (g ≡ a) × (h ≡ b)
pair_same a b g h sum mix_a mix_b got =
    let low_a : a ≤ g = le_from_bits a g (mix_above a g (omega (arith, sum)) mix_a) in
    let low_b : b ≤ h = le_from_bits b h (mix_above b h (omega (arith, sum)) mix_b) in
    (omega (arith, low_a, low_b, sum, got), omega (arith, low_a, low_b, sum, got))

one_of : (x g k : ℕ) → k < 8 → bit_at x k ≡ 1 → IsMixOf x 255 g → bit_at g k ≡ 1
one_of x g k low is mix = ⊎_elim (λ was. was ∙ is) (λ now. now ∙ bit_at_ones 8 k low) (mix k)

pub never_pair : (x y g h k : ℕ) → k < 8 → bit_at x k ≡ 1 → bit_at y k ≡ 1 → IsMixOf x 255 g → IsMixOf y 255 h → g + h ≡ 255 → ⊥
never_pair x y g h k low x_is y_is mix_x mix_y got =
    let g_is : bit_at g k ≡ 1 = one_of x g k low x_is mix_x in
    let h_is : bit_at h k ≡ 1 = one_of y h k low y_is mix_y in
    let h_not : h ≡ 255 - g = omega (arith, got) in
    let n : bit_at (255 - g) k ≡ 1 - bit_at g k = bit_at_not w8 g k (omega (arith, got)) low in
    no (bit_at g k) (bit_at h k) g_is h_is (ap (λ (z : ℕ). bit_at z k) h_not ∙ n)
  where
    no : (p q : ℕ) → p ≡ 1 → q ≡ 1 → q ≡ 1 - p → ⊥
    no p q p_is q_is is = omega arith

pub mix_swap : (a b g : ℕ) → IsMixOf a b g → IsMixOf b a g
mix_swap a b g mix k = ⊎_elim (λ l. inr l) (λ r. inl r) (mix k)

-- a bit below n is 1 in both, or none is
both_or_none : (g h n : ℕ) → ((k : ℕ) × (k < n) × (bit_at g k ≡ 1) × (bit_at h k ≡ 1)) ⊎ ((k : ℕ) → k < n → bit_at g k ≡ 1 → bit_at h k ≡ 1 → ⊥)
both_or_none g h zero = inr (λ k lt. absurd (omega arith))
both_or_none g h (suc n) = ⊎_elim
    (λ found. inl (found.0, omega (arith, found.1), found.2, found.3))
    (λ none. ⊎_elim
    (λ g_one. ⊎_elim
    (λ h_one. inl (n, omega arith, g_one, h_one))
    (λ h_not. inr (λ k lt gk hk. ⊎_elim (λ low. none k low gk hk) (λ at. h_not (ap (λ (j : ℕ). bit_at h j) (sym at) ∙ hk)) (last k n lt)))
    (cases_eq (bit_at h n) 1))
    (λ g_not. inr (λ k lt gk hk. ⊎_elim (λ low. none k low gk hk) (λ at. g_not (ap (λ (j : ℕ). bit_at g j) (sym at) ∙ gk)) (last k n lt)))
    (cases_eq (bit_at g n) 1))
    (both_or_none g h n)
  where
    last : (k n : ℕ) → k < suc n → (k < n) ⊎ (k ≡ n)
    last k n lt = grind arith

below_256 : (x g : ℕ) → x < 256 → IsMixOf x 255 g → g < 256
below_256 x g lt mix =
    let le : g ≤ 255 = le_from_bits g 255 (λ k. ⊎_elim
    (λ low. le_one (bit_at g k) (bit_at 255 k) (bit_at-lt g k) (bit_at_ones 8 k low))
    (λ high. ⊎_elim
    (λ was. le_zero (bit_at g k) (bit_at 255 k) (was ∙ bit_at_above x 8 k lt high))
    (λ now. le_same (bit_at g k) (bit_at 255 k) (sym now))
    (mix k))
    (split k 8)) in
    omega (arith, le)

-- complements, of which bits may have become 1, are the same or have a bit that is 1 in both
pub pair_or_ones : (a b g h : ℕ) → a + b ≡ 255 → IsMixOf a 255 g → IsMixOf b 255 h → ((g ≡ a) × (h ≡ b)) ⊎ ((k : ℕ) × (k < 8) × (bit_at g k ≡ 1) × (bit_at h k ≡ 1))
pair_or_ones a b g h sum mix_a mix_b = ⊎_elim
    (λ found. inr found)
    (λ none. inl (pair_same a b g h sum mix_a mix_b (whole none)))
    (both_or_none g h 8)
  where
    a_lt : a < 256
    a_lt = omega (arith, sum)

    b_lt : b < 256
    b_lt = omega (arith, sum)

    other : (x y p q : ℕ) → x < 2 → y < 2 → p < 2 → q < 2 → y ≡ 1 - x → x ≤ p → y ≤ q → (p ≡ 1 → q ≡ 1 → ⊥) → q ≡ 1 - p
    other x y p q x_lt y_lt p_lt q_lt is le_p le_q never = grind arith

    b_is : (k : ℕ) → k < 8 → bit_at b k ≡ 1 - bit_at a k
    b_is k low = let e : b ≡ 255 - a = omega (arith, sum) in ap (λ (z : ℕ). bit_at z k) e ∙ bit_at_not w8 a k a_lt low

    whole : ((k : ℕ) → k < 8 → bit_at g k ≡ 1 → bit_at h k ≡ 1 → ⊥) → g + h ≡ 255
    whole none =
        let g_lt = below_256 a g a_lt mix_a in
        let h_lt = below_256 b h b_lt mix_b in
        let same : h ≡ 255 - g = same_from_bits_below 8 h (255 - g) h_lt (omega arith) (λ k low.
        other (bit_at a k) (bit_at b k) (bit_at g k) (bit_at h k) (bit_at-lt a k) (bit_at-lt b k) (bit_at-lt g k) (bit_at-lt h k) (b_is k low) (mix_above a g a_lt mix_a k) (mix_above b h b_lt mix_b k) (none k low)
        ∙ sym (bit_at_not w8 g k g_lt low)) in
        omega (arith, same, g_lt)

-- a bit that is 1 in both stays so
pub ones_stay : (x y g h k : ℕ) → k < 8 → bit_at x k ≡ 1 → bit_at y k ≡ 1 → IsMixOf x 255 g → IsMixOf y 255 h → (bit_at g k ≡ 1) × (bit_at h k ≡ 1)
ones_stay x y g h k low x_is y_is mix_x mix_y = (one_of x g k low x_is mix_x, one_of y h k low y_is mix_y)
