-- Worked rows of flashes.
use Rattle.std.proofs.Common.{◌≡◌, ◌⊎◌, ⊎_elim, ℕ, ◌+◌, ◌*◌, ◌<◌, zero, suc, Bool, true, false, nat_eq, [], ◌∷◌, replicate, slice_index, refl, sym, ◌∙◌, inl, inr, arith}
use Rattle.std.specs.Prelude.{◌&&◌}
use Rattle.std.proofs.lemmas.Bool.{eqb-true}
use Rattle.std.proofs.lemmas.List.{get_or_past}
use Rattle.std.proofs.lemmas.Nat.Bits.{bit_at_above}
use Rattle.std.specs.Int.{bit_at}
use Rattle.mu_model_flash.specs.Bits.{written, part_of, blank, IsMixOf}
use Rattle.mu_model_flash.specs.Patterns.{made_bit, IsMade}
use Rattle.mu_model_record_rows.specs.Flashes.{EachFlash, half_cleared}

-- ---- all numbers below one

abbrev all_below : ℕ → (ℕ → Bool) → Bool
all_below zero test = true
all_below (suc n) test = test zero && all_below n (λ k. test (suc k))

first_holds : (x y : Bool) → (x && y) ≡ true → x ≡ true
first_holds true y e = refl
first_holds false y e = cc

second_holds : (x y : Bool) → (x && y) ≡ true → y ≡ true
second_holds true y e = e
second_holds false y e = cc

holds_below : (n : ℕ) (test : ℕ → Bool) → all_below n test ≡ true → (k : ℕ) → k < n → test k ≡ true
holds_below zero test e k l = absurd (omega (arith, l))
holds_below (suc n) test e zero l = first_holds (test zero) (all_below n (λ k. test (suc k))) e
holds_below (suc n) test e (suc k) l = holds_below n (λ k. test (suc k)) (second_holds (test zero) (all_below n (λ k. test (suc k))) e) k (omega (arith, l))

-- ---- bits

abbrev left_bit : ℕ → ℕ → ℕ
left_bit j k = bit_at (slice_index half_cleared (0 + j)) k

abbrev picked_bit : ℕ → ℕ → ℕ
picked_bit j k = made_bit 0 (8 * j + k) (bit_at (slice_index (replicate 33 0xff) (0 + j)) k) (bit_at (slice_index (replicate 33 0) j) k)

abbrev same_bit : ℕ → ℕ → Bool
same_bit j k = nat_eq (left_bit j k) (picked_bit j k)

all_bits : all_below 33 (λ j. all_below 8 (same_bit j)) ≡ true
all_bits = refl

inside : (j k : ℕ) → j < 33 → k < 8 → left_bit j k ≡ picked_bit j k
inside j k few low = eqb-true (left_bit j k) (picked_bit j k) (holds_below 8 (same_bit j) (holds_below 33 (λ j. all_below 8 (same_bit j)) all_bits j few) k low)

made_is : IsMade 0 (replicate 33 0xff) 0 (replicate 33 0) half_cleared
made_is = record {
  size = refl;
  before = λ i l. absurd (omega (arith, l));
  inside = inside;
  after = λ i past. get_or_past half_cleared i 0 past ∙ sym (get_or_past (replicate 33 0xff) i 0 past);
}

mixed_bits : (k : ℕ) → (bit_at 0x3c k ≡ bit_at 0xf0 k) ⊎ (bit_at 0x3c k ≡ bit_at 0x0f k)
mixed_bits zero = inl refl
mixed_bits (suc zero) = inl refl
mixed_bits (suc (suc zero)) = inr refl
mixed_bits (suc (suc (suc zero))) = inr refl
mixed_bits (suc (suc (suc (suc zero)))) = inl refl
mixed_bits (suc (suc (suc (suc (suc zero))))) = inl refl
mixed_bits (suc (suc (suc (suc (suc (suc zero)))))) = inr refl
mixed_bits (suc (suc (suc (suc (suc (suc (suc zero))))))) = inr refl
mixed_bits (suc (suc (suc (suc (suc (suc (suc (suc k)))))))) =
    inl (bit_at_above 0x3c 8 (suc (suc (suc (suc (suc (suc (suc (suc k)))))))) (omega arith) (omega arith) ∙ sym (bit_at_above 0xf0 8 (suc (suc (suc (suc (suc (suc (suc (suc k)))))))) (omega arith) (omega arith)))

mixed_at : (i : ℕ) → IsMixOf (slice_index (0xf0 ∷ []) i) (slice_index (0x0f ∷ []) i) (slice_index (0x3c ∷ []) i)
mixed_at zero = mixed_bits
mixed_at (suc i) = λ k. inl refl

pub each_flash : EachFlash
unfolding written part_of blank
each_flash = record {
  mixed = record { size = refl; bits = mixed_at };
  not_mixed = λ h. ⊎_elim (λ e. cc) (λ e. cc) (h.bits 0 0);
  not_longer = λ h. let e = h.size in cc;
  made_bits = refl;
  made = made_is;
  left_old = refl;
  left_new = refl;
  left_by_seed = made_is;
  written_at = refl;
  part_at = refl;
  erased = refl;
  ticked = refl;
  last_tick = refl;
  no_tick = refl;
  fell = refl;
  none_armed = refl;
  before_armed = omega arith;
  at_armed = λ l. omega (arith, l);
  rose = omega arith;
  not_rose = λ l. omega (arith, l);
  risen_last = omega arith;
  not_last = λ l. omega (arith, l);
  failed = record { later = omega arith; failed = omega arith };
  failed_without = λ h. let l = h.failed in omega (arith, l);
  ok = record { later = omega arith; failed = tt };
  never_falls = λ h. let l = h.later in omega (arith, l);
  before_any = refl;
  after_one = refl;
  after_both = refl;
  last = refl;
  last_of_none = refl;
}
