-- One page more that is erased or programmed.
use Rattle.std.proofs.Common.{◌≡◌, ◌⊎◌, inl, inr, ⊎_elim, ℕ, ◌+◌, ◌-◌, ◌*◌, ◌<◌, ◌≤◌, List, ◌++◌, length, take, drop, sym, ◌∙◌, ap, subst, arith, length-drop}
use Rattle.std.proofs.lemmas.List.{length-take-le, replicate-append-replicate}
use Rattle.std.proofs.Math.Seq.{take-add}
use Rattle.mu_model_flash.specs.Bits.{blank, written, part_of, SameOutside}
use Rattle.mu_store.proofs.PartLemmas.{length-blank, blank_in, part_empty, part_joined}
use Rattle.mu_store.specs.Known.{Known}

blank_join : (n m : ℕ) → blank n ++ blank m ≡ blank (n + m)
unfolding blank
blank_join n m = replicate-append-replicate n m 255

-- one page more is erased
module _ (known : Known) where
  pub erased_more : (s b : List ℕ) (first page : ℕ) → 4096 * (first + page) + 4096 ≤ length s → b ≡ written s (4096 * (first + page)) (blank 4096) → part_of s (4096 * first) (4096 * page) ≡ blank (4096 * page)
      → part_of b (4096 * first) (4096 * (page + 1)) ≡ blank (4096 * (page + 1))
  erased_more s b first page within is so_far =
      let ff : length (blank 4096) ≡ 4096 = length-blank 4096 in
      let p : 4096 * first + 4096 * page ≡ 4096 * (first + page) = omega arith in
      let more : 4096 * page + 4096 ≡ 4096 * (page + 1) = omega arith in
      let out : SameOutside (4096 * (first + page)) 4096 s b = subst (λ (x : List ℕ). SameOutside (4096 * (first + page)) 4096 s x) (sym is) (known.ranges.writes.outside_written s (4096 * (first + page)) 4096 within (blank 4096) ff) in
      let low : part_of b (4096 * first) (4096 * page) ≡ blank (4096 * page) = known.ranges.writes.part_outside s b (4096 * (first + page)) 4096 out (4096 * first) (4096 * page) (inl (omega arith)) (omega (arith, within)) ∙ so_far in
      let high : part_of b (4096 * first + 4096 * page) 4096 ≡ blank 4096 = ap (λ (n : ℕ). part_of b n 4096) p ∙ ap (λ (x : List ℕ). part_of x (4096 * (first + page)) 4096) is ∙ known.ranges.writes.part_written s (4096 * (first + page)) 4096 within (blank 4096) ff in
      ap (λ (n : ℕ). part_of b (4096 * first) n) (sym more) ∙ sym (part_joined b (4096 * first) (4096 * page) 4096)
      ∙ (λ i. low i ++ high i) ∙ blank_join (4096 * page) 4096 ∙ ap blank more

-- one piece more is programmed
module _ (known : Known) (s b octets : List ℕ) (at k m : ℕ) (lt : k < length octets) (m_is : m ≤ length octets - k) (within : at + length octets ≤ length s) (is : b ≡ written s (at + k) (take m (drop k octets))) where
  bytes : List ℕ
  bytes = take m (drop k octets)

  size : length (take m (drop k octets)) ≡ m
  size = length-take-le m (drop k octets) (omega (arith, length-drop k octets, m_is))

  pub piece_out : SameOutside (at + k) m s b
  piece_out = subst (λ (x : List ℕ). SameOutside (at + k) m s x) (sym is) (known.ranges.writes.outside_written s (at + k) m (omega (arith, within, m_is, lt)) (take m (drop k octets)) size)

  pub put_more : part_of s at k ≡ take k octets → part_of b at (k + m) ≡ take (k + m) octets
  put_more so_far =
      let low : part_of b at k ≡ take k octets = known.ranges.writes.part_outside s b (at + k) m piece_out at k (inl (omega arith)) (omega (arith, within, lt)) ∙ so_far in
      let high : part_of b (at + k) m ≡ take m (drop k octets) = ap (λ (x : List ℕ). part_of x (at + k) m) is ∙ known.ranges.writes.part_written s (at + k) m (omega (arith, within, m_is, lt)) (take m (drop k octets)) size in
      sym (part_joined b at k m) ∙ (λ i. low i ++ high i) ∙ sym (take-add k m octets)

  pub rest_more : (n : ℕ) → m ≤ n → (n < length octets - k → m ≡ n) → part_of s (at + k) (length octets - k) ≡ blank (length octets - k) → part_of b (at + k + n) (length octets - (k + n)) ≡ blank (length octets - (k + n))
  rest_more n le full so_far = ⊎_elim
      (λ some.
      known.ranges.writes.part_outside s b (at + k) m piece_out (at + k + n) (length octets - (k + n)) (inr (omega (arith, le))) (omega (arith, within, some))
      ∙ blank_in s (at + k) (length octets - k) n (length octets - (k + n)) (omega (arith, within, lt)) (omega (arith, some)) so_far)
      (λ none. let z : length octets - (k + n) ≡ 0 = omega (arith, none) in subst (λ (l : ℕ). part_of b (at + k + n) l ≡ blank l) (sym z) (part_empty b (at + k + n)))
      (split (k + n) (length octets))
    where
      split : (x y : ℕ) → (x < y) ⊎ (y ≤ x)
      split x y = grind arith
