-- Octets that are mixed by a seed, one after the other.
use Rattle.std.proofs.Common.{◌≡◌, ◌⊎◌, inl, inr, ⊎_elim, ℕ, zero, suc, ◌+◌, ◌-◌, ◌*◌, ◌/◌, ◌%◌, ◌<◌, ◌≤◌, ◌==◌, min, max, bit_and, bit_or, w8, Fits, cond, List, length, get_or, refl, sym, ◌∙◌, ap, subst, arith}
use Rattle.std.specs.Int.{bit_at}
use Rattle.std.proofs.lemmas.Bool.{cases_eq}
use Rattle.std.proofs.lemmas.Nat.Bits.{bit_at_and, bit_at_or, bit_at-lt, bit_at_not}
use Rattle.std.proofs.Math.ListN.{set, length-set}
use Rattle.std.proofs.lemmas.List.{get_or-set_same, get_or-set_other, get_or_past}
use Rattle.mu_model_image.specs.Made.{made_octet}
use Rattle.mu_model_flash.specs.Bits.{AreOctets}
use Rattle.mu_model_flash.specs.Patterns.{made_bit, IsMade}

pub octets_fit : (xs : List ℕ) → ((i : ℕ) → Fits w8 (get_or xs i 0)) → AreOctets xs
octets_fit xs fit i = omega (arith, fit i)

pub vec_octets : (xs : List ℕ) → ((i d : ℕ) → i < length xs → get_or xs i d < 256) → AreOctets xs
vec_octets xs fit i = ⊎_elim (λ lt. omega (arith, fit i 0 lt)) (λ past. omega (arith, get_or_past xs i 0 past)) (split i (length xs))
  where
    split : (k n : ℕ) → (k < n) ⊎ (n ≤ k)
    split k n = grind arith

-- the first n octets of the range are mixed
pub record MadeSoFar (seed : ℕ) (old : List ℕ) (at : ℕ) (bytes got : List ℕ) (n : ℕ) : Type 0 where
  pub size : length got ≡ length old
  pub before : (i : ℕ) → i < at → get_or got i 0 ≡ get_or old i 0
  pub inside : (j k : ℕ) → j < n → k < 8 → bit_at (get_or got (at + j) 0) k ≡ made_bit seed (8 * j + k) (bit_at (get_or old (at + j) 0) k) (bit_at (get_or bytes j 0) k)
  pub after : (i : ℕ) → at + n ≤ i → get_or got i 0 ≡ get_or old i 0

pub none_made : (seed : ℕ) (old : List ℕ) (at : ℕ) (bytes : List ℕ) → MadeSoFar seed old at bytes old 0
none_made seed old at bytes = record { size = refl; before = λ i lt. refl; inside = λ j k lt low. absurd (omega (arith, lt)); after = λ i le. refl }

pub all_made : (seed : ℕ) (old : List ℕ) (at : ℕ) (bytes got : List ℕ) (n : ℕ) → n ≡ length bytes → MadeSoFar seed old at bytes got n → IsMade seed old at bytes got
all_made seed old at bytes got n n_is m = record {
  size = m.size;
  before = m.before;
  inside = λ j k lt low. m.inside j k (omega (arith, lt, n_is)) low;
  after = λ i le. m.after i (omega (arith, le, n_is));
}

-- one octet more
module _ (seed : ℕ) (old : List ℕ) (at : ℕ) (bytes now : List ℕ) (n x y v : ℕ) (so_far : MadeSoFar seed old at bytes now n) (lt : at + n < length now) (x_is : x ≡ get_or now (at + n) 0) (y_is : y ≡ get_or bytes n 0)
    (v_is : (k : ℕ) → k < 8 → bit_at v k ≡ made_bit seed (8 * n + k) (bit_at x k) (bit_at y k)) where
  was : x ≡ get_or old (at + n) 0
  was = x_is ∙ so_far.after (at + n) (omega arith)

  other : (i : ℕ) → (i ≡ at + n → ⊥) → get_or (set now (at + n) v) i 0 ≡ get_or now i 0
  other i ne = get_or-set_other now (at + n) i v 0 ne

  here : (k : ℕ) → k < 8 → bit_at (get_or (set now (at + n) v) (at + n) 0) k ≡ made_bit seed (8 * n + k) (bit_at (get_or old (at + n) 0) k) (bit_at (get_or bytes n 0) k)
  here k low =
      ap (λ (o : ℕ). bit_at o k) (get_or-set_same now (at + n) v 0 lt)
      ∙ v_is k low
      ∙ ap (λ (o : ℕ). made_bit seed (8 * n + k) (bit_at o k) (bit_at y k)) was
      ∙ ap (λ (o : ℕ). made_bit seed (8 * n + k) (bit_at (get_or old (at + n) 0) k) (bit_at o k)) y_is

  inside : (j k : ℕ) → j < n + 1 → k < 8 → (j ≡ n) ⊎ (j ≡ n → ⊥) → bit_at (get_or (set now (at + n) v) (at + j) 0) k ≡ made_bit seed (8 * j + k) (bit_at (get_or old (at + j) 0) k) (bit_at (get_or bytes j 0) k)
  inside j k j_lt low (inl is) =
      subst (λ (i : ℕ). bit_at (get_or (set now (at + n) v) (at + i) 0) k ≡ made_bit seed (8 * i + k) (bit_at (get_or old (at + i) 0) k) (bit_at (get_or bytes i 0) k)) (sym is) (here k low)
  inside j k j_lt low (inr ne) =
      ap (λ (o : ℕ). bit_at o k) (other (at + j) (λ e. ne (omega (arith, e)))) ∙ so_far.inside j k (below j j_lt ne) low
    where
      below : (j : ℕ) → j < n + 1 → (j ≡ n → ⊥) → j < n
      below j lt ne = omega arith

  pub made_step : MadeSoFar seed old at bytes (set now (at + n) v) (n + 1)
  made_step = record {
    size = length-set now (at + n) v ∙ so_far.size;
    before = λ i i_lt. other i (λ e. omega (arith, e, i_lt)) ∙ so_far.before i i_lt;
    inside = λ j k j_lt low. inside j k j_lt low (cases_eq j n);
    after = λ i le. other i (λ e. omega (arith, e, le)) ∙ so_far.after i (omega (arith, le));
  }

-- every other bit of the two masks
bit_of_170 : (k : ℕ) → k < 8 → bit_at 170 k ≡ k % 2
bit_of_170 zero lt = refl
bit_of_170 (suc zero) lt = refl
bit_of_170 (suc (suc zero)) lt = refl
bit_of_170 (suc (suc (suc zero))) lt = refl
bit_of_170 (suc (suc (suc (suc zero)))) lt = refl
bit_of_170 (suc (suc (suc (suc (suc zero))))) lt = refl
bit_of_170 (suc (suc (suc (suc (suc (suc zero)))))) lt = refl
bit_of_170 (suc (suc (suc (suc (suc (suc (suc zero))))))) lt = refl
bit_of_170 (suc (suc (suc (suc (suc (suc (suc (suc k)))))))) lt = absurd (omega arith)

bit_of_85 : (k : ℕ) → k < 8 → bit_at 85 k ≡ (k + 1) % 2
bit_of_85 zero lt = refl
bit_of_85 (suc zero) lt = refl
bit_of_85 (suc (suc zero)) lt = refl
bit_of_85 (suc (suc (suc zero))) lt = refl
bit_of_85 (suc (suc (suc (suc zero)))) lt = refl
bit_of_85 (suc (suc (suc (suc (suc zero))))) lt = refl
bit_of_85 (suc (suc (suc (suc (suc (suc zero)))))) lt = refl
bit_of_85 (suc (suc (suc (suc (suc (suc (suc zero))))))) lt = refl
bit_of_85 (suc (suc (suc (suc (suc (suc (suc (suc k)))))))) lt = absurd (omega arith)

-- the parity of an octet of a seed
parity : (seed j k : ℕ) → k < 8 → made_octet seed (8 * j + k) % 2 ≡ (seed + k + j / 32) % 2
parity seed j k lt =
    let quotient : (8 * j + k) / 256 ≡ j / 32 = omega arith in
    let small : (x : ℕ) → x % 256 % 2 ≡ x % 2 = λ x. omega arith in
    small (seed + 7 * (8 * j + k) + (8 * j + k) / 256) ∙ omega (arith, quotient)

chosen : (p a b m n : ℕ) → p < 2 → a < 2 → b < 2 → m ≡ p → n ≡ 1 - m → max (min a n) (min b m) ≡ cond (p == 1) b a
chosen zero a b m n lt a_lt b_lt m_is n_is = omega arith
chosen (suc zero) a b m n lt a_lt b_lt m_is n_is = omega arith
chosen (suc (suc p)) a b m n lt a_lt b_lt m_is n_is = absurd (omega arith)

module _ (seed j old new mask : ℕ) (mask_lt : mask < 256) where
  mixed_by : ((k : ℕ) → k < 8 → bit_at mask k ≡ made_octet seed (8 * j + k) % 2) → (k : ℕ) → k < 8 → bit_at (bit_or (bit_and old (255 - mask)) (bit_and new mask)) k ≡ made_bit seed (8 * j + k) (bit_at old k) (bit_at new k)
  mixed_by mask_is k low =
      let e : bit_at (bit_or (bit_and old (255 - mask)) (bit_and new mask)) k ≡ max (min (bit_at old k) (bit_at (255 - mask) k)) (min (bit_at new k) (bit_at mask k)) =
      bit_at_or (bit_and old (255 - mask)) (bit_and new mask) k ∙ (λ i. max (bit_at_and old (255 - mask) k i) (bit_at_and new mask k i)) in
      e ∙ chosen (made_octet seed (8 * j + k) % 2) (bit_at old k) (bit_at new k) (bit_at mask k) (bit_at (255 - mask) k) (omega arith) (bit_at-lt old k) (bit_at-lt new k) (mask_is k low) (bit_at_not w8 mask k mask_lt low)

  pub mixed_even : mask ≡ 170 → (seed % 2 + j / 32 % 2) % 2 ≡ 0 → (k : ℕ) → k < 8 → bit_at (bit_or (bit_and old (255 - mask)) (bit_and new mask)) k ≡ made_bit seed (8 * j + k) (bit_at old k) (bit_at new k)
  mixed_even is even = mixed_by (λ k low. ap (λ (m : ℕ). bit_at m k) is ∙ bit_of_170 k low ∙ same k ∙ sym (parity seed j k low))
    where
      same : (k : ℕ) → k % 2 ≡ (seed + k + j / 32) % 2
      same k = omega (arith, even)

  pub mixed_odd : mask ≡ 85 → ((seed % 2 + j / 32 % 2) % 2 ≡ 0 → ⊥) → (k : ℕ) → k < 8 → bit_at (bit_or (bit_and old (255 - mask)) (bit_and new mask)) k ≡ made_bit seed (8 * j + k) (bit_at old k) (bit_at new k)
  mixed_odd is odd = mixed_by (λ k low. ap (λ (m : ℕ). bit_at m k) is ∙ bit_of_85 k low ∙ same k ∙ sym (parity seed j k low))
    where
      one : (n : ℕ) → (n % 2 ≡ 0 → ⊥) → n % 2 ≡ 1
      one n odd_is = grind arith

      same : (k : ℕ) → (k + 1) % 2 ≡ (seed + k + j / 32) % 2
      same k = let is_one = one (seed % 2 + j / 32 % 2) odd in omega (arith, is_one)
