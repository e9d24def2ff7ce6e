-- The operations of a call, read as turns of a page, a slot or a mark.
use Rattle.std.proofs.Common.{◌≡◌, ◌⊎◌, inl, inr, ⊎_elim, ℕ, ◌+◌, ◌*◌, ◌<◌, ◌≤◌, List, [], ◌∷◌, length, get_or, sym, ◌∙◌, ap, subst, arith}
use Rattle.std.proofs.lemmas.List.{ext_get_or}
use Rattle.mu_model_flash.specs.Bits.{AreOctets, blank, written, SameOutside, Between}
use Rattle.mu_model_flash.specs.Run.{exact, either, Refines}
use Rattle.mu_model_record.specs.Code.{coded, HasPairOfOnes}
use Rattle.mu_model_record.specs.Page.{page_of, slot_of, slot_place, format_of, page_word, slot_word, IsWord, IsSafePage, PageFades, CanWriteSlot}
use Rattle.mu_model_record.specs.Turns.{Turn, before, after, PageErases, PageTurns, SlotTurns, MarkTurns, StaysOutside, NoNewWord, NoOtherWord}
use Rattle.mu_model_record.proofs.CodeLemmas.{length-coded, coded_is}
use Rattle.mu_model_record.proofs.PageLemmas.{torn_code, torn_erase, torn_program, erased_fades, fades_same, ff_pair, no_new_word, written_word}
use Rattle.mu_model_record.proofs.SlotLemmas.{slot_words as one_slot_words}
use Rattle.mu_model_record.proofs.PlaceLemmas.{page_turned, slot_turned}
use Rattle.mu_model_flash.specs.Laws.{RangeLaws}

-- pages
module _ (ranges : RangeLaws) (old : List ℕ) (page : ℕ) (within : 4096 * page + 4096 ≤ length old) where
  ff : length (blank 4096) ≡ 4096
  ff = ranges.parts.length_blank 4096

  own : length (page_of old page) ≡ 4096
  own = ranges.parts.length_part old (4096 * page) 4096 within

  still : (c : List ℕ) → c ≡ old → SameOutside (4096 * page) 4096 old c × PageFades (page_of old page) (page_of c page)
  still c is =
      subst (λ (x : List ℕ). SameOutside (4096 * page) 4096 old x × PageFades (page_of old page) (page_of x page)) (sym is) (ranges.writes.outside_same (4096 * page) 4096 old, fades_same (page_of old page))

  pub erased_page : page_of (written old (4096 * page) (blank 4096)) page ≡ blank 4096
  erased_page = ranges.writes.part_written old (4096 * page) 4096 within (blank 4096) ff

  erased_outside : (c : List ℕ) → c ≡ written old (4096 * page) (blank 4096) → SameOutside (4096 * page) 4096 old c
  erased_outside c is = subst (λ (x : List ℕ). SameOutside (4096 * page) 4096 old x) (sym is) (ranges.writes.outside_written old (4096 * page) 4096 within (blank 4096) ff)

  pub erase_outside : Refines exact (either (StaysOutside (4096 * page) 4096 old)) old (written old (4096 * page) (blank 4096) ∷ []) tt (tt ∷ [])
  erase_outside = (λ c is. (still c is).0, λ c torn. inl (ranges.torn.torn_outside old (4096 * page) 4096 within (blank 4096) ff c torn), λ c is. erased_outside c is)

  pub write_outside : (word : List ℕ) → length word ≡ 4096
      → Refines exact (either (StaysOutside (4096 * page) 4096 old)) old (written old (4096 * page) (blank 4096) ∷ written old (4096 * page) word ∷ []) tt (tt ∷ tt ∷ [])
  write_outside word size = (
    λ c is. (still c is).0,
    λ c torn. inl (ranges.torn.torn_outside old (4096 * page) 4096 within (blank 4096) ff c torn),
    (
      λ c is. erased_outside c is,
      λ c torn. inl (ranges.torn.outside_between old (4096 * page) 4096 within (blank 4096) word ff size c torn),
      λ c is. subst (λ (x : List ℕ). SameOutside (4096 * page) 4096 old x) (sym is) (ranges.writes.outside_written old (4096 * page) 4096 within word size),
    ),
  )

  -- a slot of an erased page
  pub erased_slot : (k : ℕ) → k < 4 → slot_of (written old (4096 * page) (blank 4096)) page k ≡ blank 1024
  erased_slot k lt =
      let E : List ℕ = written old (4096 * page) (blank 4096) in
      let size : length E ≡ length old = (ranges.writes.outside_written old (4096 * page) 4096 within (blank 4096) ff).size in
      let here : length (slot_of E page k) ≡ 1024 = ranges.parts.length_part E (slot_place page k) 1024 (omega (arith, size, within, lt)) in
      ext_get_or 0 (slot_of E page k) (blank 1024) (here ∙ sym (ranges.parts.length_blank 1024)) (λ i i_lt.
      let low : i < 1024 = omega (arith, i_lt, here) in
      let at : slot_place page k + i ≡ 4096 * page + (1024 * k + i) = omega arith in
      ranges.parts.get_part E (slot_place page k) 1024 i low
      ∙ ap (λ (n : ℕ). get_or E n 0) at
      ∙ ranges.writes.written_inside old (4096 * page) (blank 4096) (omega (arith, ff, within)) (1024 * k + i) (omega (arith, ff, low, lt))
      ∙ ranges.parts.get_blank 4096 (1024 * k + i) (omega (arith, low, lt))
      ∙ sym (ranges.parts.get_blank 1024 i low))

  module _ (safe : IsSafePage (page_of old page)) where
    fades : (c : List ℕ) → Between old (written old (4096 * page) (blank 4096)) c → SameOutside (4096 * page) 4096 old c × PageFades (page_of old page) (page_of c page)
    fades c torn = (ranges.torn.torn_outside old (4096 * page) 4096 within (blank 4096) ff c torn, (torn_erase ranges) (page_of old page) (page_of c page) own safe (ranges.torn.torn_part old (4096 * page) 4096 within (blank 4096) ff c torn))

    pub erases : Refines exact (either (PageErases old page)) old (written old (4096 * page) (blank 4096) ∷ []) before (after ∷ [])
    erases = (λ c is. still c is, λ c torn. inl (fades c torn), λ c is. is)

    module _ (octets : List ℕ) (many : length octets ≡ 2048) (small : AreOctets octets) (long : format_of octets ≡ 1) where
      code : length (coded octets) ≡ 4096
      code = omega (arith, length-coded octets, many)

      erased : (c : List ℕ) → c ≡ written old (4096 * page) (blank 4096) → PageTurns old page octets before c
      erased c is =
          subst (λ (x : List ℕ). PageTurns old page octets before x) (sym is)
          (ranges.writes.outside_written old (4096 * page) 4096 within (blank 4096) ff, inl (subst (λ (p : List ℕ). PageFades (page_of old page) p) (sym erased_page) ((erased_fades ranges) (page_of old page))))

      programmed : (c : List ℕ) → Between (written old (4096 * page) (blank 4096)) (written old (4096 * page) (coded octets)) c → PageTurns old page octets before c ⊎ PageTurns old page octets after c
      programmed c torn =
          let out = ranges.torn.outside_between old (4096 * page) 4096 within (blank 4096) (coded octets) ff code c torn in
          let part = ranges.torn.part_between old (4096 * page) 4096 within (blank 4096) (coded octets) ff code c torn in
          ⊎_elim
          (λ is. inr (ranges.writes.same_whole old (4096 * page) 4096 within (coded octets) c code out is))
          (λ dead. inl (out, inr dead))
          ((torn_program ranges) octets many small long (page_of c page) part)

      pub turns : Refines exact (either (PageTurns old page octets)) old (written old (4096 * page) (blank 4096) ∷ written old (4096 * page) (coded octets) ∷ []) before (before ∷ after ∷ [])
      turns = (
        λ c is. let s = still c is in (s.0, inl s.1),
        λ c torn. let f = fades c torn in inl (f.0, inl f.1),
        (λ c is. erased c is, λ c torn. programmed c torn, λ c is. is),
      )

-- slots
module _ (ranges : RangeLaws) (old : List ℕ) (page slot : ℕ) (within : slot_place page slot + 1024 ≤ length old) (is_blank : slot_of old page slot ≡ blank 1024) (octets : List ℕ) (many : length octets ≡ 512) (small : AreOctets octets) where
  slot_code : length (coded octets) ≡ 1024
  slot_code = omega (arith, length-coded octets, many)

  blank_ones : HasPairOfOnes (blank 1024)
  blank_ones =
      let size : length (blank 1024) ≡ 1024 = ranges.parts.length_blank 1024 in
      ff_pair (blank 1024) (omega (arith, size)) (ranges.parts.get_blank 1024 0 (omega arith)) (ranges.parts.get_blank 1024 1 (omega arith))

  slot_still : (c : List ℕ) → c ≡ old → SlotTurns old page slot octets before c
  slot_still c is =
      subst (λ (x : List ℕ). SlotTurns old page slot octets before x) (sym is)
      (ranges.writes.outside_same (slot_place page slot) 1024 old, subst (λ (s : List ℕ). HasPairOfOnes s) (sym is_blank) blank_ones)

  slot_torn : (c : List ℕ) → Between old (written old (slot_place page slot) (coded octets)) c → SlotTurns old page slot octets before c ⊎ SlotTurns old page slot octets after c
  slot_torn c torn =
      let out = ranges.torn.torn_outside old (slot_place page slot) 1024 within (coded octets) slot_code c torn in
      let part : Between (slot_of old page slot) (coded octets) (slot_of c page slot) = ranges.torn.torn_part old (slot_place page slot) 1024 within (coded octets) slot_code c torn in
      let from_blank : Between (blank (length (coded octets))) (coded octets) (slot_of c page slot) =
      subst (λ (l : List ℕ). Between l (coded octets) (slot_of c page slot)) (is_blank ∙ ap blank (sym slot_code)) part in
      ⊎_elim
      (λ same. inr (ranges.writes.same_whole old (slot_place page slot) 1024 within (coded octets) c slot_code out same))
      (λ ones. inl (out, ones))
      ((torn_code ranges) (coded octets) (slot_of c page slot) (coded_is octets small) from_blank)

  pub slot_turns : Refines exact (either (SlotTurns old page slot octets)) old (written old (slot_place page slot) (coded octets) ∷ []) before (after ∷ [])
  slot_turns = (λ c is. slot_still c is, λ c torn. slot_torn c torn, λ c is. is)

-- the words of a page
module _ (ranges : RangeLaws) (old : List ℕ) (page : ℕ) (within : 4096 * page + 4096 ≤ length old) where
  erase_word : (t : Turn) (c : List ℕ) → PageErases old page t c → NoNewWord old page tt c
  erase_word before c turned word is = no_new_word (page_of old page) (page_of c page) (inl turned.1) word is
  erase_word after c turned word is =
      no_new_word (page_of old page) (page_of c page) (inl (subst (λ (p : List ℕ). PageFades (page_of old page) p) (sym (ap (λ (o : List ℕ). page_of o page) turned ∙ (erased_page ranges) old page within)) ((erased_fades ranges) (page_of old page)))) word is

  pub erase_words : Refines (either (PageErases old page)) (either (NoNewWord old page)) before (after ∷ []) tt (tt ∷ [])
  erase_words = (erase_word before, λ c torn. inl (⊎_elim (erase_word before c) (erase_word after c) torn), erase_word after)

  module _ (octets : List ℕ) (many : length octets ≡ 2048) (small : AreOctets octets) (long : format_of octets ≡ 1) where
    page_new : (t : Turn) (c : List ℕ) → PageTurns old page octets t c → NoOtherWord old page (page_word octets) tt c
    page_new before c turned word is = inl (no_new_word (page_of old page) (page_of c page) turned.1 word is)
    page_new after c turned word is =
        inr ((written_word ranges) octets many small long word (subst (λ (p : List ℕ). IsWord p word) ((page_turned ranges) old c octets page within many turned) is))

    pub page_words : Refines (either (PageTurns old page octets)) (either (NoOtherWord old page (page_word octets))) before (before ∷ after ∷ []) tt (tt ∷ tt ∷ [])
    page_words = (
      page_new before,
      λ c torn. inl (⊎_elim (page_new before c) (page_new before c) torn),
      (page_new before, λ c torn. inl (⊎_elim (page_new before c) (page_new after c) torn), page_new after),
    )

  module _ (k : ℕ) (octets : List ℕ) (lt : k < 4) (many : length octets ≡ 512) (small : AreOctets octets) (can : CanWriteSlot (page_of old page) k) where
    slot_new : (t : Turn) (c : List ℕ) → SlotTurns old page k octets t c → NoOtherWord old page (slot_word k octets) tt c
    slot_new before c turned word is = (one_slot_words ranges) (page_of old page) (page_of c page) k octets small can ((slot_turned ranges) old c octets page k within lt many (inl turned)) word is
    slot_new after c turned word is = (one_slot_words ranges) (page_of old page) (page_of c page) k octets small can ((slot_turned ranges) old c octets page k within lt many (inr turned)) word is

    pub slot_words : Refines (either (SlotTurns old page k octets)) (either (NoOtherWord old page (slot_word k octets))) before (after ∷ []) tt (tt ∷ [])
    slot_words = (slot_new before, λ c torn. inl (⊎_elim (slot_new before c) (slot_new after c) torn), slot_new after)

-- marks
module _ (ranges : RangeLaws) (old : List ℕ) (at : ℕ) (within : at + 1 ≤ length old) (is_unset : get_or old at 0 ≡ 255) where
  pub mark_turns : Refines exact (either (MarkTurns old at)) old (written old at (254 ∷ []) ∷ []) before (after ∷ [])
  mark_turns = (λ c is. is, λ c torn. ranges.torn.mark_torn old at within is_unset c torn, λ c is. is)
