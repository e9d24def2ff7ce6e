-- A write of a record on the control pages.
use Rattle.std.proofs.Common.{◌≡◌, ◌⊎◌, inl, inr, ⊎_elim, ℕ, ◌+◌, ◌*◌, ◌<◌, ◌≤◌, List, length, refl, sym, ◌∙◌, ap, subst, arith}
use Rattle.mu_model_flash.specs.Bits.{AreOctets, SameOutside}
use Rattle.mu_model_record.specs.declared.Record.{Record}
use Rattle.mu_model_record.specs.Code.{coded, content_of, IsCodeWord, HasPairOfOnes}
use Rattle.mu_model_record.specs.Page.{page_of, slot_of, slot_place, slot_in, format_of, IsLong, Word, page_word, slot_word, IsWord, IsSafePage, CanWriteSlot, SlotChanges}
use Rattle.mu_model_record.specs.Turns.{before, after, SlotTurns}
use Rattle.mu_model_record.specs.Record.{IsRecord, IsWordOf}
use Rattle.mu_model_record.specs.Represents.{IsOlder, ControlPages}
use Rattle.mu_model_record.proofs.CodeLemmas.{length-coded, coded_is, content-coded, ones_no_code}
use Rattle.mu_model_record.proofs.PageLemmas.{coded_is_long, first_is_code}
use Rattle.mu_model_record.proofs.SlotLemmas.{slot_words, slot_safe}
use Rattle.mu_model_record.proofs.PlaceLemmas.{slot-of-page, slot_turned}
use Rattle.mu_model_flash.specs.Laws.{RangeLaws}

-- a page outside a range that was changed
module _ (ranges : RangeLaws) where
  pub same_page : (old c : List ℕ) (at n q : ℕ) → SameOutside at n old c → (4096 * q + 4096 ≤ at) ⊎ (at + n ≤ 4096 * q) → 4096 * q + 4096 ≤ length old → page_of c q ≡ page_of old q
  same_page old c at n q out apart within = ranges.writes.part_outside old c at n out (4096 * q) 4096 apart within

-- both control pages are as they were
pub control_same : (page : ℕ) (word : Word) (r : Record) (old c : List ℕ) → ((q : ℕ) → q < 2 → page_of c q ≡ page_of old q) → ControlPages page word r old → ControlPages page word r c
control_same page word r old c same k = record {
  one_of_two = k.one_of_two;
  there = subst (λ (p : List ℕ). IsWord p word) (sym (same page k.one_of_two)) k.there;
  spells = k.spells;
  others = λ q two v is. k.others q two v (subst (λ (p : List ℕ). IsWord p v) (same q two) is);
  safe = λ q two. subst (λ (p : List ℕ). IsSafePage p) (sym (same q two)) (k.safe q two);
}

-- the count of a record that is written next
pub older_still : (n m : ℕ) (word : Word) → n ≤ m → IsOlder n word → IsOlder m word
older_still n m word le older = (older.0, older.1, older.2, omega (arith, older.3, le))

is_or_other : (q p : ℕ) → p < 2 → q < 2 → (q ≡ p) ⊎ (q + p ≡ 1)
is_or_other q p p_two q_two = grind arith

-- the other control page
module _ (page other : ℕ) (two : other + page ≡ 1) (word : Word) (r : Record) (old c : List ℕ) (k : ControlPages page word r old) (same : page_of c page ≡ page_of old page) where
  each : (P : ℕ → Type 0) → P page → P other → (q : ℕ) → q < 2 → P q
  each P here there q q_two = ⊎_elim
      (λ is. subst P (sym is) here)
      (λ sum. let is : q ≡ other = omega (arith, sum, two) in subst P (sym is) there)
      (is_or_other q page k.one_of_two q_two)

  -- has no word that it hadn't
  pub other_fades : ((v : Word) → IsWord (page_of c other) v → IsWord (page_of old other) v) → IsSafePage (page_of c other) → ControlPages page word r c
  other_fades words safe = record {
    one_of_two = k.one_of_two;
    there = subst (λ (p : List ℕ). IsWord p word) (sym same) k.there;
    spells = k.spells;
    others = each (λ q. (v : Word) → IsWord (page_of c q) v → ((q ≡ page) × (v ≡ word)) ⊎ IsOlder r.count v)
        (λ v is. k.others page k.one_of_two v (subst (λ (p : List ℕ). IsWord p v) same is))
        (λ v is. k.others other (omega (arith, two)) v (words v is));
    safe = each (λ q. IsSafePage (page_of c q)) (subst (λ (p : List ℕ). IsSafePage p) (sym same) (k.safe page k.one_of_two)) safe;
  }

  -- has the next record alone
  pub other_written : (new : Word) (s : Record) → IsRecord r → IsWordOf new s → s.count ≡ r.count + 1 → IsWord (page_of c other) new → ((v : Word) → IsWord (page_of c other) v → v ≡ new) → IsSafePage (page_of c other)
      → ControlPages other new s c
  other_written new s sound spells next there one safe = record {
    one_of_two = omega (arith, two);
    there = there;
    spells = spells;
    others = each (λ q. (v : Word) → IsWord (page_of c q) v → ((q ≡ other) × (v ≡ new)) ⊎ IsOlder s.count v)
        (λ v is. ⊎_elim
        (λ present. inr (r, subst (λ (w : Word). IsWordOf w r) (sym present.1) k.spells, sound, omega (arith, next)))
        (λ older. inr (older_still r.count s.count v (omega (arith, next)) older))
        (k.others page k.one_of_two v (subst (λ (p : List ℕ). IsWord p v) same is)))
        (λ v is. inl (refl, one v is));
    safe = each (λ q. IsSafePage (page_of c q)) (subst (λ (p : List ℕ). IsSafePage p) (sym same) (k.safe page k.one_of_two)) safe;
  }

-- a page that is written whole
module _ (ranges : RangeLaws) (octets : List ℕ) (many : length octets ≡ 2048) (small : AreOctets octets) (long : format_of octets ≡ 1) where
  pub written_there : IsWord (coded octets) (page_word octets)
  written_there = ((first_is_code ranges) octets many small, (coded_is_long ranges) octets many small long, coded_is octets small, sym (content-coded octets))

  pub written_safe : IsSafePage (coded octets)
  written_safe = record {
    first = inl ((first_is_code ranges) octets many small);
    if_long = λ is l. inl (coded_is octets small);
    if_short = λ is short j lt. absurd (short ((coded_is_long ranges) octets many small long));
  }

-- a slot that is written
module _ (ranges : RangeLaws) (old : List ℕ) (q k : ℕ) (within : 4096 * q + 4096 ≤ length old) (octets : List ℕ) (many : length octets ≡ 512) (small : AreOctets octets) (can : CanWriteSlot (page_of old q) k) where
  module _ (c : List ℕ) (turns : SlotTurns old q k octets before c) where
    changes : SlotChanges (page_of old q) (page_of c q) k octets
    changes = (slot_turned ranges) old c octets q k within can.few many (inl turns)

    slot_within : 4096 * q + 4096 ≤ length c
    slot_within = omega (arith, within, turns.0.size)

    torn : HasPairOfOnes (slot_in (page_of c q) k)
    torn = subst (λ (s : List ℕ). HasPairOfOnes s) (sym ((slot-of-page ranges) c q k slot_within can.few)) turns.1

    pub torn_safe : IsSafePage (page_of old q) → IsSafePage (page_of c q)
    torn_safe safe = (slot_safe ranges) (page_of old q) (page_of c q) k octets small can changes safe

    pub torn_words : (v : Word) → IsWord (page_of c q) v → IsWord (page_of old q) v
    torn_words v is = ⊎_elim (λ was. was) (λ new. absurd (never new)) ((slot_words ranges) (page_of old q) (page_of c q) k octets small can changes v is)
      where
        never : v ≡ slot_word k octets → ⊥
        never new = let w : IsWord (page_of c q) (slot_word k octets) = subst (λ (x : Word). IsWord (page_of c q) x) new is in ones_no_code (slot_in (page_of c q) k) torn w.3

    -- a word of another slot
    pub torn_there : 0 < k → (j : ℕ) (content : List ℕ) → (j ≡ k → ⊥) → IsWord (page_of old q) (slot_word j content) → IsWord (page_of c q) (slot_word j content)
    torn_there later j content other is =
        let first : slot_in (page_of c q) 0 ≡ slot_in (page_of old q) 0 = changes.others 0 (omega arith) (λ e. omega (arith, e, later)) in
        let this : slot_in (page_of c q) j ≡ slot_in (page_of old q) j = changes.others j is.2 other in (
          subst (λ (s : List ℕ). IsCodeWord s) (sym first) is.0,
          λ l. is.1 (ap (λ (s : List ℕ). format_of (content_of s)) (sym first) ∙ l),
          is.2,
          subst (λ (s : List ℕ). IsCodeWord s) (sym this) is.3,
          is.4 ∙ ap content_of (sym this),
        )

  module _ (c : List ℕ) (turns : SlotTurns old q k octets after c) where
    changed : SlotChanges (page_of old q) (page_of c q) k octets
    changed = (slot_turned ranges) old c octets q k within can.few many (inr turns)

    code : length (coded octets) ≡ 1024
    code = omega (arith, length-coded octets, many)

    place : slot_place q k + 1024 ≤ length old
    place = omega (arith, within, can.few)

    after_size : length c ≡ length old
    after_size = ap (length {A = ℕ}) turns ∙ (ranges.writes.outside_written old (slot_place q k) 1024 place (coded octets) code).size

    pub slot_is : slot_in (page_of c q) k ≡ coded octets
    slot_is = (slot-of-page ranges) c q k (omega (arith, within, after_size)) can.few ∙ ap (λ (o : List ℕ). slot_of o q k) turns ∙ ranges.writes.part_written old (slot_place q k) 1024 place (coded octets) code

    pub set_safe : IsSafePage (page_of old q) → IsSafePage (page_of c q)
    set_safe safe = (slot_safe ranges) (page_of old q) (page_of c q) k octets small can changed safe

    pub set_words : (v : Word) → IsWord (page_of c q) v → IsWord (page_of old q) v ⊎ (v ≡ slot_word k octets)
    set_words v is = (slot_words ranges) (page_of old q) (page_of c q) k octets small can changed v is

    set_content : octets ≡ content_of (slot_in (page_of c q) k)
    set_content = sym (content-coded octets) ∙ ap content_of (sym slot_is)

    set_code : IsCodeWord (slot_in (page_of c q) k)
    set_code = subst (λ (s : List ℕ). IsCodeWord s) (sym slot_is) (coded_is octets small)

    -- the first slot, of a record that isn't long
    pub first_there : k ≡ 0 → (format_of octets ≡ 1 → ⊥) → IsWord (page_of c q) (slot_word k octets)
    first_there none short = (
      subst (λ (j : ℕ). IsCodeWord (slot_in (page_of c q) j)) none set_code,
      λ l. short (ap format_of (set_content ∙ ap (λ (j : ℕ). content_of (slot_in (page_of c q) j)) none) ∙ l),
      can.few,
      set_code,
      set_content,
    )

    -- a slot after one that has a word
    pub next_there : 0 < k → IsCodeWord (slot_in (page_of old q) 0) → ¬ IsLong (page_of old q) → IsWord (page_of c q) (slot_word k octets)
    next_there later is short =
        let first : slot_in (page_of c q) 0 ≡ slot_in (page_of old q) 0 = changed.others 0 (omega arith) (λ e. omega (arith, e, later)) in (
          subst (λ (s : List ℕ). IsCodeWord s) (sym first) is,
          λ l. short (ap (λ (s : List ℕ). format_of (content_of s)) (sym first) ∙ l),
          can.few,
          set_code,
          set_content,
        )
