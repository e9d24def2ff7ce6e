-- What a slot that is written leaves of its page.
use Rattle.std.proofs.Common.{◌≡◌, ◌⊎◌, inl, inr, ⊎_elim, ℕ, ◌*◌, ◌<◌, List, drop, sym, ◌∙◌, ap, subst, arith}
use Rattle.std.proofs.lemmas.Bool.{cases_eq}
use Rattle.mu_model_flash.specs.Bits.{AreOctets, blank, part_of}
use Rattle.mu_model_record.specs.Code.{content_of, IsCodeWord, HasPairOfOnes, IsSafe}
use Rattle.mu_model_record.specs.Page.{slot_in, format_of, IsLong, Word, page_word, slot_word, IsWord, IsSafePage, CanWriteSlot, SlotChanges}
use Rattle.mu_model_record.proofs.CodeLemmas.{coded_is, content-coded, ones_no_code, drop_code, take_code, drop_ones, take_ones}
use Rattle.mu_model_record.proofs.PageLemmas.{ff_pair}
use Rattle.mu_model_flash.specs.Laws.{RangeLaws}

module _ (ranges : RangeLaws) where
  pub blank_ones : HasPairOfOnes (blank 1024)
  blank_ones = ff_pair (blank 1024) (omega (arith, ranges.parts.length_blank 1024)) (ranges.parts.get_blank 1024 0 (omega arith)) (ranges.parts.get_blank 1024 1 (omega arith))

slot_code : (page : List ℕ) (k : ℕ) → IsCodeWord page → IsCodeWord (slot_in page k)
unfolding part_of
slot_code page k is =
    let e : 1024 * k ≡ 2 * (512 * k) = omega arith in
    take_code (drop (1024 * k) page) 512 (subst (λ (n : ℕ). IsCodeWord (drop n page)) (sym e) (drop_code page (512 * k) is))

slot_ones : (page : List ℕ) (k : ℕ) → HasPairOfOnes (slot_in page k) → HasPairOfOnes page
unfolding part_of
slot_ones page k has =
    let e : 1024 * k ≡ 2 * (512 * k) = omega arith in
    drop_ones page (512 * k) (subst (λ (n : ℕ). HasPairOfOnes (drop n page)) e (take_ones 1024 (drop (1024 * k) page) has))

module _ (ranges : RangeLaws) (old new : List ℕ) (k : ℕ) (octets : List ℕ) (small : AreOctets octets) (can : CanWriteSlot old k) (changes : SlotChanges old new k octets) where
  -- a slot after slot 0, where slot 0 is written
  later_ones : k ≡ 0 → (j : ℕ) → 0 < j → j < 4 → HasPairOfOnes (slot_in new j)
  later_ones first j some lt =
      subst (λ (s : List ℕ). HasPairOfOnes s) (sym (changes.others j lt (λ is. omega (arith, is, first, some)) ∙ can.if_first first j some lt)) (blank_ones ranges)

  this_safe : IsSafe (slot_in new k)
  this_safe = ⊎_elim (λ ones. inr ones) (λ is. inl (subst (λ (s : List ℕ). IsCodeWord s) (sym is) (coded_is octets small))) changes.this_one

  this_word : (content : List ℕ) → IsCodeWord (slot_in new k) → content ≡ content_of (slot_in new k) → content ≡ octets
  this_word content is held = ⊎_elim
      (λ ones. absurd (ones_no_code (slot_in new k) ones is))
      (λ same. held ∙ ap content_of same ∙ content-coded octets)
      changes.this_one

  -- slot 0 is the same where another is written
  module _ (later : 0 < k) where
    same_first : slot_in new 0 ≡ slot_in old 0
    same_first = changes.others 0 (omega arith) (λ is. omega (arith, is, later))

    was_code : IsCodeWord (slot_in new 0) → IsCodeWord (slot_in old 0)
    was_code is = subst (λ (s : List ℕ). IsCodeWord s) same_first is

    was_long : IsLong new → IsLong old
    was_long long = ap (λ (s : List ℕ). format_of (content_of s)) (sym same_first) ∙ long

    is_long : IsLong old → IsLong new
    is_long long = ap (λ (s : List ℕ). format_of (content_of s)) same_first ∙ long

    never_long : IsCodeWord (slot_in new 0) → IsLong new → ⊥
    never_long is long = can.if_later later (was_code is) (was_long long)

  first_or_later : (k ≡ 0) ⊎ (0 < k)
  first_or_later = grind arith

  same_or_other : (j : ℕ) → (j ≡ k) ⊎ (j ≡ k → ⊥)
  same_or_other j = cases_eq j k

  zero_or_more : (j : ℕ) → (j ≡ 0) ⊎ (0 < j)
  zero_or_more j = grind arith

  as_new : (j : ℕ) (content : List ℕ) → j ≡ k → IsCodeWord (slot_in new j) → content ≡ content_of (slot_in new j) → slot_word j content ≡ slot_word k octets
  as_new j content is code held =
      let c : content ≡ octets = this_word content (subst (λ (i : ℕ). IsCodeWord (slot_in new i)) is code) (held ∙ ap (λ (i : ℕ). content_of (slot_in new i)) is) in
      λ i. slot_word (is i) (c i)

  pub slot_words : (word : Word) → IsWord new word → IsWord old word ⊎ (word ≡ slot_word k octets)
  slot_words (page_word content) w = ⊎_elim
      (λ first. absurd (ones_no_code (slot_in new 1) (later_ones first 1 (omega arith) (omega arith)) (slot_code new 1 w.2)))
      (λ later. absurd (never_long later w.0 w.1))
      first_or_later
  slot_words (slot_word j content) w = ⊎_elim
      (λ is. inr (as_new j content is w.3 w.4))
      (λ other. ⊎_elim
      (λ first. ⊎_elim
      (λ none. absurd (other (none ∙ sym first)))
      (λ some. absurd (ones_no_code (slot_in new j) (later_ones first j some w.2) w.3))
      (zero_or_more j))
      (λ later.
      let same = changes.others j w.2 other in
      inl (was_code later w.0, λ long. w.1 (is_long later long), w.2, subst (λ (s : List ℕ). IsCodeWord s) same w.3, w.4 ∙ ap content_of same))
      first_or_later)
      (same_or_other j)

  module _ (safe : IsSafePage old) where
    each_safe : IsCodeWord (slot_in new 0) → ¬ IsLong new → (j : ℕ) → j < 4 → (j ≡ k) ⊎ (j ≡ k → ⊥) → (k ≡ 0) ⊎ (0 < k) → IsSafe (slot_in new j)
    each_safe is short j lt (inl this) either_way = subst (λ (i : ℕ). IsSafe (slot_in new i)) (sym this) this_safe
    each_safe is short j lt (inr other) (inl first) = inr (⊎_elim (λ none. absurd (other (none ∙ sym first))) (λ some. later_ones first j some lt) (zero_or_more j))
    each_safe is short j lt (inr other) (inr later) =
        subst (λ (s : List ℕ). IsSafe s) (sym (changes.others j lt other)) (safe.if_short (was_code later is) (λ long. short (is_long later long)) j lt)

    pub slot_safe : IsSafePage new
    slot_safe = record {
      first = ⊎_elim
          (λ first. subst (λ (i : ℕ). IsSafe (slot_in new i)) first this_safe)
          (λ later. subst (λ (s : List ℕ). IsSafe s) (sym (same_first later)) safe.first)
          first_or_later;
      if_long = λ is long. ⊎_elim
          (λ first. inr (slot_ones new 1 (later_ones first 1 (omega arith) (omega arith))))
          (λ later. absurd (never_long later is long))
          first_or_later;
      if_short = λ is short j lt. each_safe is short j lt (same_or_other j) first_or_later;
    }
