-- The next record of a store, written on its control pages.
use Rattle.std.proofs.Common.{◌≡◌, ◌⊎◌, inl, inr, ⊎_elim, ℕ, ◌+◌, ◌*◌, ◌<◌, ◌≤◌, List, [], ◌∷◌, ◌++◌, length, get_or, refl, sym, ◌∙◌, ap, subst, arith}
use Rattle.std.proofs.lemmas.List.{get_or_append_left}
use Rattle.std.proofs.lemmas.Bool.{cases_eq}
use Rattle.mu_model_flash.specs.Bits.{AreOctets, blank, written, SameOutside}
use Rattle.mu_model_flash.specs.Run.{either, Refines}
use Rattle.mu_model_record.specs.Code.{coded, HasPairOfOnes}
use Rattle.mu_model_record.specs.Page.{page_of, slot_place, slot_in, format_of, Word, page_word, slot_word, IsWord, IsSafePage, PageFades, CanWriteSlot}
use Rattle.mu_model_record.specs.Turns.{before, after, PageErases, PageTurns, SlotTurns}
use Rattle.mu_model_record.specs.Record.{IsSpelled, IsWordOf, zeros}
use Rattle.mu_model_record.specs.Store.{StoreState, content_of_bank, pages_of}
use Rattle.mu_model_record.specs.Represents.{IsOlder, ControlPages, RepresentsAt, RepresentsStore}
use Rattle.mu_model_record.specs.Next.{IsNext}
use Rattle.mu_model_record.proofs.CodeLemmas.{length-coded, ones_no_code}
use Rattle.mu_model_record.proofs.PageLemmas.{no_new_word, faded_is_safe, erased_fades, written_word}
use Rattle.mu_model_record.proofs.SlotLemmas.{blank_ones}
use Rattle.mu_model_record.proofs.PlaceLemmas.{page_turned}
use Rattle.mu_model_record.proofs.ControlLemmas.{same_page, other_fades, other_written, written_there, written_safe, torn_safe, torn_words, torn_there, set_safe, set_words, first_there, next_there, older_still}
use Rattle.mu_model_record.proofs.FrameLemmas.{banks_same}
use Rattle.mu_model_flash.specs.Laws.{RangeLaws}

-- a control page, or a slot of one, lies on the control pages
pub page_outside : (q : ℕ) (old c : List ℕ) → q < 2 → SameOutside (4096 * q) 4096 old c → SameOutside 0 8192 old c
page_outside q old c two out = record { size = out.size; before = λ i lt. absurd (omega (arith, lt)); after = λ i le. out.after i (omega (arith, le, two)) }

pub slot_outside : (q k : ℕ) (old c : List ℕ) → q < 2 → k < 4 → SameOutside (slot_place q k) 1024 old c → SameOutside 0 8192 old c
slot_outside q k old c two few out = record { size = out.size; before = λ i lt. absurd (omega (arith, lt)); after = λ i le. out.after i (omega (arith, le, two, few)) }

-- a store has both control pages
pub control_within : (d : StoreState) (old : List ℕ) (q : ℕ) → length old ≡ 4096 * pages_of d.present → q < 2 → 4096 * q + 4096 ≤ length old
control_within d old q size two = omega (arith, size, two)

module _ (ranges : RangeLaws) where
  pub next_from : (old c : List ℕ) (d e : StoreState) → SameOutside 0 8192 old c → IsNext old d e → IsNext c d e
  next_from old c d e out next = record {
    counted = next.counted;
    number = next.number;
    pages = next.pages;
    in_range = next.in_range;
    as_many = next.as_many;
    banks = λ image more b lt. next.banks image (ranges.writes.outside_on 0 8192 old c image out more) b lt;
  }

module _ (ranges : RangeLaws) (page : ℕ) (word : Word) (d e : StoreState) (old : List ℕ) (at : RepresentsAt page word d old) (next : IsNext old d e) (c : List ℕ) (out : SameOutside 0 8192 old c) where
  pub represents_still : ControlPages page word d.present c → RepresentsAt page word d c
  represents_still control = record {
    size = out.size ∙ at.size;
    in_range = at.in_range;
    control = control;
    as_many = at.as_many;
    banks = (banks_same ranges) d.present (content_of_bank d) old c at.in_range at.size out at.banks;
  }

  pub represents_next : (q : ℕ) (new : Word) → ControlPages q new e.present c → RepresentsAt q new e c
  represents_next q new control = record {
    size = out.size ∙ at.size ∙ ap (λ (n : ℕ). 4096 * (2 + n * (1 + d.present.pages))) (sym next.number) ∙ ap (λ (p : ℕ). 4096 * (2 + e.present.number * (1 + p))) (sym next.pages);
    in_range = next.in_range;
    control = control;
    as_many = next.as_many;
    banks = λ b lt. next.banks c out b lt;
  }

-- the next record, written over the other control page
module _ (ranges : RangeLaws) (page other : ℕ) (two : other + page ≡ 1) (word : Word) (d e : StoreState) (old : List ℕ) (at : RepresentsAt page word d old) where
  other_two : other < 2
  other_two = omega (arith, two)

  other_within : 4096 * other + 4096 ≤ length old
  other_within = control_within d old other at.size other_two

  pub other_safe : IsSafePage (page_of old other)
  other_safe = at.control.safe other other_two

  kept_page : (c : List ℕ) → SameOutside (4096 * other) 4096 old c → page_of c page ≡ page_of old page
  kept_page c out = (same_page ranges) old c (4096 * other) 4096 page out (apart page other two) (control_within d old page at.size at.control.one_of_two)
    where
      apart : (p q : ℕ) → q + p ≡ 1 → (4096 * p + 4096 ≤ 4096 * q) ⊎ (4096 * q + 4096 ≤ 4096 * p)
      apart p q sum = grind arith

  -- where the other page fades or is erased
  module _ (next : IsNext old d e) where
    faded : (c : List ℕ) → SameOutside (4096 * other) 4096 old c → ((v : Word) → IsWord (page_of c other) v → IsWord (page_of old other) v) → IsSafePage (page_of c other) → RepresentsAt page word d c
    faded c out words safe =
        (represents_still ranges) page word d e old at next c (page_outside other old c other_two out)
        (other_fades page other two word d.present old c at.control (kept_page c out) words safe)

    erased_is : page_of (written old (4096 * other) (blank 4096)) other ≡ blank 4096
    erased_is = ranges.writes.part_written old (4096 * other) 4096 other_within (blank 4096) (ranges.parts.length_blank 4096)

    pub erasing : (c : List ℕ) → PageErases old other before c → RepresentsAt page word d c
    erasing c turn = faded c turn.0 (no_new_word (page_of old other) (page_of c other) (inl turn.1)) (faded_is_safe (page_of old other) (page_of c other) other_safe (inl turn.1))

    erased_out : (c : List ℕ) → PageErases old other after c → SameOutside (4096 * other) 4096 old c
    erased_out c turn = subst (λ (x : List ℕ). SameOutside (4096 * other) 4096 old x) (sym turn) (ranges.writes.outside_written old (4096 * other) 4096 other_within (blank 4096) (ranges.parts.length_blank 4096))

    pub erased_blank : (c : List ℕ) → PageErases old other after c → page_of c other ≡ blank 4096
    erased_blank c turn = ap (λ (x : List ℕ). page_of x other) turn ∙ erased_is

    pub erased : (c : List ℕ) → PageErases old other after c → RepresentsAt page word d c
    erased c turn =
        let fades : PageFades (page_of old other) (page_of c other) = subst (λ (p : List ℕ). PageFades (page_of old other) p) (sym (erased_blank c turn)) ((erased_fades ranges) (page_of old other)) in
        faded c (erased_out c turn) (no_new_word (page_of old other) (page_of c other) (inl fades)) (faded_is_safe (page_of old other) (page_of c other) other_safe (inl fades))

    pub erase_reads : Refines (either (PageErases old other)) (either RepresentsStore) before (after ∷ []) d (d ∷ [])
    erase_reads = (
      λ c b. (page, word, erasing c b),
      λ c b. ⊎_elim (λ x. inl (page, word, erasing c x)) (λ x. inr (page, word, erased c x)) b,
      λ c b. (page, word, erased c b),
    )

    pub erased_next : (c : List ℕ) → PageErases old other after c → IsNext c d e
    erased_next c turn = (next_from ranges) old c d e (page_outside other old c other_two (erased_out c turn)) next

    -- a long record
    module _ (octets : List ℕ) (many : length octets ≡ 2048) (small : AreOctets octets) (spells : IsSpelled 1 e.present octets) where
      long : format_of octets ≡ 1
      long = spells.format_at_4

      pub long_before : (c : List ℕ) → PageTurns old other octets before c → RepresentsAt page word d c
      long_before c turn =
          faded c turn.0 (no_new_word (page_of old other) (page_of c other) turn.1) (faded_is_safe (page_of old other) (page_of c other) other_safe turn.1)

      pub long_after : (c : List ℕ) → PageTurns old other octets after c → RepresentsAt other (page_word octets) e c
      long_after c turn =
          let code : length (coded octets) ≡ 4096 = omega (arith, length-coded octets, many) in
          let out : SameOutside (4096 * other) 4096 old c = subst (λ (x : List ℕ). SameOutside (4096 * other) 4096 old x) (sym turn) (ranges.writes.outside_written old (4096 * other) 4096 other_within (coded octets) code) in
          let is : page_of c other ≡ coded octets = (page_turned ranges) old c octets other other_within many turn in
          (represents_next ranges) page word d e old at next c (page_outside other old c other_two out) other (page_word octets)
          (other_written page other two word d.present old c at.control (kept_page c out) (page_word octets) e.present at.in_range spells next.counted
          (subst (λ (p : List ℕ). IsWord p (page_word octets)) (sym is) ((written_there ranges) octets many small long))
          (λ v w. (written_word ranges) octets many small long v (subst (λ (p : List ℕ). IsWord p v) is w))
          (subst (λ (p : List ℕ). IsSafePage p) (sym is) ((written_safe ranges) octets many small long)))

      pub long_reads : Refines (either (PageTurns old other octets)) (either RepresentsStore) before (before ∷ after ∷ []) d (d ∷ e ∷ [])
      long_reads = (
        λ c b. was c b,
        λ c b. ⊎_elim (λ x. inl (was c x)) (λ x. inl (was c x)) b,
        (λ c b. was c b, λ c b. ⊎_elim (λ x. inl (was c x)) (λ x. inr (is c x)) b, λ c b. is c b),
      )
        where
          was : (c : List ℕ) → PageTurns old other octets before c → RepresentsStore d c
          was c b = (page, word, long_before c b)

          is : (c : List ℕ) → PageTurns old other octets after c → RepresentsStore e c
          is c b = (other, page_word octets, long_after c b)

  -- a short record in slot 0 of the other page, which is erased
  module _ (next : IsNext old d e) (blank_page : page_of old other ≡ blank 4096) (blank_slots : (k : ℕ) → k < 4 → slot_in (page_of old other) k ≡ blank 1024)
      (octets : List ℕ) (many : length octets ≡ 512) (small : AreOctets octets) (spells : IsSpelled 2 e.present (octets ++ zeros 1536)) where
    short : format_of octets ≡ 1 → ⊥
    short is =
        let two_is : get_or octets 4 0 ≡ 2 = sym (get_or_append_left octets (zeros 1536) 0 4 (omega (arith, many))) ∙ spells.format_at_4 in
        omega (arith, two_is, is)

    can : CanWriteSlot (page_of old other) 0
    can = record { few = omega arith; if_first = λ none j some lt. blank_slots j lt; if_later = λ later. absurd (omega (arith, later)) }

    no_words : (v : Word) → IsWord (page_of old other) v → ⊥
    no_words (page_word content) w = ones_no_code (slot_in (page_of old other) 0) (subst (λ (s : List ℕ). HasPairOfOnes s) (sym (blank_slots 0 (omega arith))) (blank_ones ranges)) w.0
    no_words (slot_word k content) w = ones_no_code (slot_in (page_of old other) 0) (subst (λ (s : List ℕ). HasPairOfOnes s) (sym (blank_slots 0 (omega arith))) (blank_ones ranges)) w.0

    out_of : (c : List ℕ) → SameOutside (slot_place other 0) 1024 old c → SameOutside (4096 * other) 4096 old c
    out_of c out = record { size = out.size; before = λ i lt. out.before i (omega (arith, lt)); after = λ i le. out.after i (omega (arith, le)) }

    pub first_before : (c : List ℕ) → SlotTurns old other 0 octets before c → RepresentsAt page word d c
    first_before c turn =
        faded next c (out_of c turn.0) ((torn_words ranges) old other 0 other_within octets many small can c turn) ((torn_safe ranges) old other 0 other_within octets many small can c turn other_safe)

    set_out : (c : List ℕ) → SlotTurns old other 0 octets after c → SameOutside (slot_place other 0) 1024 old c
    set_out c turn =
        let code : length (coded octets) ≡ 1024 = omega (arith, length-coded octets, many) in
        subst (λ (x : List ℕ). SameOutside (slot_place other 0) 1024 old x) (sym turn) (ranges.writes.outside_written old (slot_place other 0) 1024 (omega (arith, other_within)) (coded octets) code)

    pub first_after : (c : List ℕ) → SlotTurns old other 0 octets after c → RepresentsAt other (slot_word 0 octets) e c
    first_after c turn =
        (represents_next ranges) page word d e old at next c (page_outside other old c other_two (out_of c (set_out c turn))) other (slot_word 0 octets)
        (other_written page other two word d.present old c at.control (kept_page c (out_of c (set_out c turn))) (slot_word 0 octets) e.present at.in_range spells next.counted
        ((first_there ranges) old other 0 other_within octets many small can c turn refl short)
        (λ v w. ⊎_elim (λ was. absurd (no_words v was)) (λ new. new) ((set_words ranges) old other 0 other_within octets many small can c turn v w))
        ((set_safe ranges) old other 0 other_within octets many small can c turn other_safe))

    pub first_reads : Refines (either (SlotTurns old other 0 octets)) (either RepresentsStore) before (after ∷ []) d (e ∷ [])
    first_reads = (
      λ c b. (page, word, first_before c b),
      λ c b. ⊎_elim (λ x. inl (page, word, first_before c x)) (λ x. inr (other, slot_word 0 octets, first_after c x)) b,
      λ c b. (other, slot_word 0 octets, first_after c b),
    )

-- a short record in the slot after the present one
module _ (ranges : RangeLaws) (page slot : ℕ) (content : List ℕ) (d e : StoreState) (old : List ℕ) (at : RepresentsAt page (slot_word slot content) d old) (next : IsNext old d e) (few : slot + 1 < 4)
    (octets : List ℕ) (many : length octets ≡ 512) (small : AreOctets octets) (spells : IsSpelled 2 e.present (octets ++ zeros 1536)) where
  here_two : page < 2
  here_two = at.control.one_of_two

  here_within : 4096 * page + 4096 ≤ length old
  here_within = control_within d old page at.size here_two

  was_there : IsWord (page_of old page) (slot_word slot content)
  was_there = at.control.there

  can_next : CanWriteSlot (page_of old page) (slot + 1)
  can_next = record { few = few; if_first = λ none. absurd (omega (arith, none)); if_later = λ later is long. was_there.1 long }

  rest_same : (c : List ℕ) → SameOutside (slot_place page (slot + 1)) 1024 old c → (q : ℕ) → q < 2 → (q ≡ page → ⊥) → page_of c q ≡ page_of old q
  rest_same c out q two differ = (same_page ranges) old c (slot_place page (slot + 1)) 1024 q out (apart q page (slot + 1) differ few) (control_within d old q at.size two)
    where
      apart : (p r k : ℕ) → (p ≡ r → ⊥) → k < 4 → (4096 * p + 4096 ≤ 4096 * r + 1024 * k) ⊎ (4096 * r + 1024 * k + 1024 ≤ 4096 * p)
      apart p r k ne lt = grind arith

  by_page : (P : ℕ → Type 0) → P page → ((q : ℕ) → q < 2 → (q ≡ page → ⊥) → P q) → (q : ℕ) → q < 2 → P q
  by_page P here there q two = ⊎_elim (λ is. subst P (sym is) here) (λ differ. there q two differ) (cases_eq q page)

  next_out : (c : List ℕ) → SlotTurns old page (slot + 1) octets after c → SameOutside (slot_place page (slot + 1)) 1024 old c
  next_out c turn =
      let code : length (coded octets) ≡ 1024 = omega (arith, length-coded octets, many) in
      subst (λ (x : List ℕ). SameOutside (slot_place page (slot + 1)) 1024 old x) (sym turn) (ranges.writes.outside_written old (slot_place page (slot + 1)) 1024 (omega (arith, here_within, few)) (coded octets) code)

  pub next_before : (c : List ℕ) → SlotTurns old page (slot + 1) octets before c → RepresentsAt page (slot_word slot content) d c
  next_before c turn = (represents_still ranges) page (slot_word slot content) d e old at next c (slot_outside page (slot + 1) old c here_two few turn.0) (record {
    one_of_two = here_two;
    there = (torn_there ranges) old page (slot + 1) here_within octets many small can_next c turn (omega arith) slot content (λ is. omega (arith, is)) was_there;
    spells = at.control.spells;
    others = by_page (λ q. (v : Word) → IsWord (page_of c q) v → ((q ≡ page) × (v ≡ slot_word slot content)) ⊎ IsOlder d.present.count v)
        (λ v w. at.control.others page here_two v ((torn_words ranges) old page (slot + 1) here_within octets many small can_next c turn v w))
        (λ q two differ v w. at.control.others q two v (subst (λ (p : List ℕ). IsWord p v) (rest_same c turn.0 q two differ) w));
    safe = by_page (λ q. IsSafePage (page_of c q))
        ((torn_safe ranges) old page (slot + 1) here_within octets many small can_next c turn (at.control.safe page here_two))
        (λ q two differ. subst (λ (p : List ℕ). IsSafePage p) (sym (rest_same c turn.0 q two differ)) (at.control.safe q two));
  })

  older_than_next : (q : ℕ) (v : Word) → ((q ≡ page) × (v ≡ slot_word slot content)) ⊎ IsOlder d.present.count v → IsOlder e.present.count v
  older_than_next q v (inl present) = (d.present, subst (λ (w : Word). IsWordOf w d.present) (sym present.1) at.control.spells, at.in_range, omega (arith, next.counted))
  older_than_next q v (inr older) = older_still d.present.count e.present.count v (omega (arith, next.counted)) older

  pub next_after : (c : List ℕ) → SlotTurns old page (slot + 1) octets after c → RepresentsAt page (slot_word (slot + 1) octets) e c
  next_after c turn = (represents_next ranges) page (slot_word slot content) d e old at next c (slot_outside page (slot + 1) old c here_two few (next_out c turn)) page (slot_word (slot + 1) octets) (record {
    one_of_two = here_two;
    there = (next_there ranges) old page (slot + 1) here_within octets many small can_next c turn (omega arith) was_there.0 was_there.1;
    spells = spells;
    others = by_page (λ q. (v : Word) → IsWord (page_of c q) v → ((q ≡ page) × (v ≡ slot_word (slot + 1) octets)) ⊎ IsOlder e.present.count v)
        (λ v w. ⊎_elim
        (λ was. inr (older_than_next page v (at.control.others page here_two v was)))
        (λ new. inl (refl, new))
        ((set_words ranges) old page (slot + 1) here_within octets many small can_next c turn v w))
        (λ q two differ v w. inr (older_than_next q v (at.control.others q two v (subst (λ (p : List ℕ). IsWord p v) (rest_same c (next_out c turn) q two differ) w))));
    safe = by_page (λ q. IsSafePage (page_of c q))
        ((set_safe ranges) old page (slot + 1) here_within octets many small can_next c turn (at.control.safe page here_two))
        (λ q two differ. subst (λ (p : List ℕ). IsSafePage p) (sym (rest_same c (next_out c turn) q two differ)) (at.control.safe q two));
  })

  pub next_reads : Refines (either (SlotTurns old page (slot + 1) octets)) (either RepresentsStore) before (after ∷ []) d (e ∷ [])
  next_reads = (
    λ c b. (page, slot_word slot content, next_before c b),
    λ c b. ⊎_elim (λ x. inl (page, slot_word slot content, next_before c x)) (λ x. inr (page, slot_word (slot + 1) octets, next_after c x)) b,
    λ c b. (page, slot_word (slot + 1) octets, next_after c b),
  )
