-- The first record of a flash.
use Rattle.std.proofs.Common.{◌≡◌, ◌⊎◌, inl, inr, ⊎_elim, ℕ, ◌+◌, ◌*◌, ◌<◌, ◌≤◌, List, ◌++◌, length, get_or, refl, sym, ◌∙◌, ap, subst, arith}
use Rattle.std.proofs.lemmas.List.{get_or_append_left}
use Rattle.mu_model_flash.specs.Bits.{AreOctets, blank, written, SameOutside}
use Rattle.mu_model_record.specs.declared.Record.{Record}
use Rattle.mu_model_record.specs.Code.{coded, HasPairOfOnes}
use Rattle.mu_model_record.specs.Page.{page_of, slot_in, slot_place, format_of, Word, page_word, slot_word, IsWord, IsSafePage, CanWriteSlot}
use Rattle.mu_model_record.specs.Record.{zeros, IsSpelled, IsWordOf}
use Rattle.mu_model_record.specs.Represents.{ControlPages, IsOlder, IsFollowedBy}
use Rattle.mu_model_record.proofs.CodeLemmas.{length-coded, ones_no_code}
use Rattle.mu_model_record.proofs.PageLemmas.{written_word}
use Rattle.mu_model_record.proofs.SlotLemmas.{blank_ones}
use Rattle.mu_model_record.proofs.PlaceLemmas.{slot-of-page}
use Rattle.mu_model_record.proofs.PartLemmas.{blank_of_blank}
use Rattle.mu_model_record.proofs.ControlLemmas.{same_page, written_there, written_safe, set_safe, set_words, first_there}
use Rattle.mu_model_flash.specs.Laws.{RangeLaws}

-- slots of an erased page
module _ (ranges : RangeLaws) where
  pub blank_slots : (page : List ℕ) → page ≡ blank 4096 → (k : ℕ) → k < 4 → slot_in page k ≡ blank 1024
  blank_slots page is k lt = ap (λ (p : List ℕ). slot_in p k) is ∙ (blank_of_blank ranges) 4096 (1024 * k) 1024 (omega (arith, lt))

-- an erased page
module _ (ranges : RangeLaws) where
  pub blank_words : (page : List ℕ) → page ≡ blank 4096 → (v : Word) → IsWord page v → ⊥
  blank_words page is (page_word content) w = ones_no_code (slot_in page 0) (subst (λ (s : List ℕ). HasPairOfOnes s) (sym ((blank_slots ranges) page is 0 (omega arith))) (blank_ones ranges)) w.0
  blank_words page is (slot_word k content) w = ones_no_code (slot_in page 0) (subst (λ (s : List ℕ). HasPairOfOnes s) (sym ((blank_slots ranges) page is 0 (omega arith))) (blank_ones ranges)) w.0

module _ (ranges : RangeLaws) where
  pub blank_safe : (page : List ℕ) → page ≡ blank 4096 → IsSafePage page
  blank_safe page is =
      let ones = subst (λ (s : List ℕ). HasPairOfOnes s) (sym ((blank_slots ranges) page is 0 (omega arith))) (blank_ones ranges) in
      record {
        first = inr ones;
        if_long = λ code long. absurd (ones_no_code (slot_in page 0) ones code);
        if_short = λ code short k lt. absurd (ones_no_code (slot_in page 0) ones code);
      }

-- one record alone
one_page : (P : ℕ → Type 0) → P 0 → P 1 → (q : ℕ) → q < 2 → P q
one_page P zero one q lt = ⊎_elim (λ is. subst P (sym is) zero) (λ is. subst P (sym is) one) (split q lt)
  where
    split : (q : ℕ) → q < 2 → (q ≡ 0) ⊎ (q ≡ 1)
    split q lt = grind arith

module _ (ranges : RangeLaws) where
  control_new : (c : List ℕ) (word : Word) (r : Record) → page_of c 1 ≡ blank 4096 → IsWordOf word r → IsWord (page_of c 0) word → ((v : Word) → IsWord (page_of c 0) v → v ≡ word) → IsSafePage (page_of c 0) → ControlPages 0 word r c
  control_new c word r is_blank spells there one safe = record {
    one_of_two = omega arith;
    there = there;
    spells = spells;
    others = one_page (λ q. (v : Word) → IsWord (page_of c q) v → ((q ≡ 0) × (v ≡ word)) ⊎ IsOlder r.count v) (λ v w. inl (refl, one v w)) (λ v w. absurd ((blank_words ranges) (page_of c 1) is_blank v w));
    safe = one_page (λ q. IsSafePage (page_of c q)) safe ((blank_safe ranges) (page_of c 1) is_blank);
  }

module _ (ranges : RangeLaws) (c b : List ℕ) (within : 8192 ≤ length b) (blank_one : page_of b 1 ≡ blank 4096) (r : Record) where
  -- a long one
  pub first_long : (octets : List ℕ) → length octets ≡ 2048 → AreOctets octets → IsSpelled 1 r octets → c ≡ written b (4096 * 0) (coded octets) → ControlPages 0 (page_word octets) r c
  first_long octets many small spells is =
      let code : length (coded octets) ≡ 4096 = omega (arith, length-coded octets, many) in
      let out : SameOutside (4096 * 0) 4096 b c = subst (λ (x : List ℕ). SameOutside (4096 * 0) 4096 b x) (sym is) (ranges.writes.outside_written b (4096 * 0) 4096 (omega (arith, within)) (coded octets) code) in
      let page : page_of c 0 ≡ coded octets = ap (λ (x : List ℕ). page_of x 0) is ∙ ranges.writes.part_written b (4096 * 0) 4096 (omega (arith, within)) (coded octets) code in
      let long = spells.format_at_4 in
      (control_new ranges) c (page_word octets) r ((same_page ranges) b c (4096 * 0) 4096 1 out (inr (omega arith)) (omega (arith, within)) ∙ blank_one) spells
      (subst (λ (p : List ℕ). IsWord p (page_word octets)) (sym page) ((written_there ranges) octets many small long))
      (λ v w. (written_word ranges) octets many small long v (subst (λ (p : List ℕ). IsWord p v) page w))
      (subst (λ (p : List ℕ). IsSafePage p) (sym page) ((written_safe ranges) octets many small long))

  -- a short one
  pub first_short : page_of b 0 ≡ blank 4096 → (octets : List ℕ) → length octets ≡ 512 → AreOctets octets → IsSpelled 2 r (octets ++ zeros 1536) → c ≡ written b (slot_place 0 0) (coded octets) → ControlPages 0 (slot_word 0 octets) r c × IsFollowedBy 0 3 c
  first_short blank_zero octets many small spells is =
      let code : length (coded octets) ≡ 1024 = omega (arith, length-coded octets, many) in
      let out : SameOutside (slot_place 0 0) 1024 b c = subst (λ (x : List ℕ). SameOutside (slot_place 0 0) 1024 b x) (sym is) (ranges.writes.outside_written b (slot_place 0 0) 1024 (omega (arith, within)) (coded octets) code) in
      let can : CanWriteSlot (page_of b 0) 0 = record { few = omega arith; if_first = λ none j some lt. (blank_slots ranges) (page_of b 0) blank_zero j lt; if_later = λ later. absurd (omega (arith, later)) } in
      let low : 4096 * 0 + 4096 ≤ length b = omega (arith, within) in
      let short : format_of octets ≡ 1 → ⊥ = λ one.
      let two : get_or octets 4 0 ≡ 2 = sym (get_or_append_left octets (zeros 1536) 0 4 (omega (arith, many))) ∙ spells.format_at_4 in
      omega (arith, one, two) in (
        (control_new ranges) c (slot_word 0 octets) r ((same_page ranges) b c (slot_place 0 0) 1024 1 out (inr (omega arith)) (omega (arith, within)) ∙ blank_one) spells
            ((first_there ranges) b 0 0 low octets many small can c is refl short)
            (λ v w. ⊎_elim (λ was. absurd ((blank_words ranges) (page_of b 0) blank_zero v was)) (λ new. new) ((set_words ranges) b 0 0 low octets many small can c is v w))
            ((set_safe ranges) b 0 0 low octets many small can c is ((blank_safe ranges) (page_of b 0) blank_zero)),
        λ k le lt.
            (slot-of-page ranges) c 0 k (omega (arith, within, out.size)) lt
            ∙ ranges.writes.part_outside b c (slot_place 0 0) 1024 out (slot_place 0 k) 1024 (inr (omega (arith, le))) (omega (arith, within, lt))
            ∙ sym ((slot-of-page ranges) b 0 k low lt) ∙ (blank_slots ranges) (page_of b 0) blank_zero k lt,
      )
