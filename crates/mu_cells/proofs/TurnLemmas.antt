-- The operations of a call, read as turns of a page, a slot or a mark.
use Rattle.std.proofs.Common.{◌≡◌, Bool, IsTrue, Result, Ok, Err, IsErr, ℕ, ◌+◌, ◌*◌, ◌<◌, ◌≤◌, List, [], ◌∷◌, length, get_or, slice_range, refl, sym, ◌∙◌, ap, subst, arith}
use Rattle.mu_model_flash.specs.Bits.{AreOctets, blank, written, part_of, Between}
use Rattle.mu_model_flash.specs.Flash.{Seen, IsSound}
use Rattle.mu_model_flash.specs.Run.{exact, either, Refines, Keeps, Ran, Broke, Runs}
use Rattle.mu_model_flash.specs.Laws.{PartLaws, WriteLaws, RunsJoin, RunsAreRead}
use Rattle.mu_model_record.specs.Code.{coded, content_of, IsCodeWord}
use Rattle.mu_model_record.specs.Page.{page_of, slot_of, slot_place, format_of, page_word, slot_word, IsSafePage, CanWriteSlot}
use Rattle.mu_model_record.specs.Turns.{before, after, PageErases, PageTurns, SlotTurns, MarkTurns, StaysOutside, NoNewWord, NoOtherWord}
use Rattle.mu_model_record.specs.Laws.{CodedHasItsLength}
use Rattle.mu_model_record.specs.TurnLaws.{EraseLaws, WholePageLaws, SlotLaws, MarkLaw}
use Rattle.mu_model_record.specs.Ways.{Way, as_octets, outside, page_erase, page_write, slot_write, mark_write, no_new_word, no_other_word, StateOf, reading_of}

told_back : (a b : Seen) → Keeps a b → IsTrue b.told → IsTrue a.told
told_back a b keeps told = subst (λ (x : Bool). IsTrue x) keeps.told told

-- what a `?` hands on
pub broke_runs : {T X : Type 0} (way : Way) (s : StateOf way) (xs : List (StateOf way)) (a b : Seen) (result : Result T X) → IsErr result → Broke (reading_of way) s xs a b → Runs (reading_of way) s xs a b result
broke_runs way s xs a b (Ok v) err broke = absurd (cc err)
broke_runs way s xs a b (Err e) err broke = broke

module _ (a : Seen) (sound : IsSound a) where
  pub within_told : (page : ℕ) → page < a.pages → IsTrue a.told → 4096 * page + 4096 ≤ length a.octets
  within_told page lies told = omega (arith, (sound.is_image told).size, lies)

  pub slot_within : (page slot : ℕ) → page < a.pages → slot < 4 → IsTrue a.told → slot_place page slot + 1024 ≤ length a.octets
  slot_within page slot lies few told = omega (arith, (sound.is_image told).size, lies, few)

  pub octet_within : (at : ℕ) → at < 4096 * a.pages → IsTrue a.told → at + 1 ≤ length a.octets
  octet_within at lies told = omega (arith, (sound.is_image told).size, lies)

  -- what the erased page reads
  module _ (erase : EraseLaws) (page : ℕ) (lies : page < a.pages) (b : Seen) (ran : Ran exact a.octets (written a.octets (4096 * page) (blank 4096) ∷ []) a b) (told : IsTrue b.told) where
    was : IsTrue a.told
    was = told_back a b ran.keeps told

    pub erased_reads : PartLaws → (bytes : List ℕ) → length bytes ≡ 4096 → slice_range b.octets (4096 * page) (4096 * page + length bytes) ≡ blank (length bytes)
    erased_reads parts bytes size =
        ap (λ (n : ℕ). slice_range b.octets (4096 * page) (4096 * page + n)) size
        ∙ parts.range_part b.octets (4096 * page) 4096
        ∙ ap (λ (o : List ℕ). page_of o page) (ran.ends was)
        ∙ erase.page a.octets page (within_told page lies was)
        ∙ ap blank (sym size)

    pub erased_slot_reads : (k : ℕ) → k < 4 → slot_of b.octets page k ≡ blank 1024
    erased_slot_reads k lt = ap (λ (o : List ℕ). slot_of o page k) (ran.ends was) ∙ erase.slots a.octets page (within_told page lies was) k lt

  module _ {T X : Type 0} (c : Seen) (result : Result T X) (reads : RunsAreRead StateOf reading_of a c) where
    runs_as : (way other : Way) (s : StateOf way) (xs : List (StateOf way)) (t : StateOf other) (ys : List (StateOf other)) → length xs ≡ length ys → (IsTrue a.told → Refines (reading_of way) (reading_of other) s xs t ys)
        → Runs (reading_of way) s xs a c result → Runs (reading_of other) t ys a c result
    runs_as way other s xs t ys same refines = by_result result
      where
        by_result : (r : Result T X) → Runs (reading_of way) s xs a c r → Runs (reading_of other) t ys a c r
        by_result (Ok v) ran = reads.ran way other s xs t ys same refines ran
        by_result (Err e) broke = reads.broke way other s xs t ys same refines broke

    module _ (erase : EraseLaws) (page : ℕ) (lies : page < a.pages) where
      pub erase_runs : (IsTrue a.told → IsSafePage (page_of a.octets page)) → Runs exact a.octets (written a.octets (4096 * page) (blank 4096) ∷ []) a c result → Runs (either (PageErases a.octets page)) before (after ∷ []) a c result
      erase_runs safe r = runs_as as_octets (page_erase a.octets page) _ _ _ _ refl (λ told. erase.turns a.octets page (within_told page lies told) (safe told)) r

      pub erase_stays : Runs exact a.octets (written a.octets (4096 * page) (blank 4096) ∷ []) a c result → Runs (either (StaysOutside (4096 * page) 4096 a.octets)) tt (tt ∷ []) a c result
      erase_stays r = runs_as as_octets (outside (4096 * page) 4096 a.octets) _ _ _ _ refl (λ told. erase.stays a.octets page (within_told page lies told)) r

      pub erase_word_runs : Runs (either (PageErases a.octets page)) before (after ∷ []) a c result → Runs (either (NoNewWord a.octets page)) tt (tt ∷ []) a c result
      erase_word_runs r = runs_as (page_erase a.octets page) (no_new_word a.octets page) _ _ _ _ refl (λ told. erase.words a.octets page (within_told page lies told)) r

    module _ (whole : WholePageLaws) (page : ℕ) (octets : List ℕ) (lies : page < a.pages) (many : length octets ≡ 2048) where
      pub page_runs : AreOctets octets → format_of octets ≡ 1 → (IsTrue a.told → IsSafePage (page_of a.octets page))
          → Runs exact a.octets (written a.octets (4096 * page) (blank 4096) ∷ written a.octets (4096 * page) (coded octets) ∷ []) a c result
          → Runs (either (PageTurns a.octets page octets)) before (before ∷ after ∷ []) a c result
      page_runs small long safe r = runs_as as_octets (page_write a.octets page octets) _ _ _ _ refl (λ told. whole.turns a.octets page (within_told page lies told) (safe told) octets many small long) r

      pub write_stays : CodedHasItsLength → Runs exact a.octets (written a.octets (4096 * page) (blank 4096) ∷ written a.octets (4096 * page) (coded octets) ∷ []) a c result
          → Runs (either (StaysOutside (4096 * page) 4096 a.octets)) tt (tt ∷ tt ∷ []) a c result
      write_stays length-coded r =
          runs_as as_octets (outside (4096 * page) 4096 a.octets) _ _ _ _ refl (λ told. whole.stays a.octets page (within_told page lies told) (coded octets) (omega (arith, length-coded octets, many))) r

      pub page_word_runs : AreOctets octets → format_of octets ≡ 1 → Runs (either (PageTurns a.octets page octets)) before (before ∷ after ∷ []) a c result
          → Runs (either (NoOtherWord a.octets page (page_word octets))) tt (tt ∷ tt ∷ []) a c result
      page_word_runs small long r = runs_as (page_write a.octets page octets) (no_other_word a.octets page (page_word octets)) _ _ _ _ refl (λ told. whole.words a.octets page (within_told page lies told) octets many small long) r

    module _ (slots : SlotLaws) (page slot : ℕ) (octets : List ℕ) (lies : page < a.pages) (few : slot < 4) (many : length octets ≡ 512) (small : AreOctets octets) where
      pub slot_runs : (IsTrue a.told → slot_of a.octets page slot ≡ blank 1024) → Runs exact a.octets (written a.octets (slot_place page slot) (coded octets) ∷ []) a c result
          → Runs (either (SlotTurns a.octets page slot octets)) before (after ∷ []) a c result
      slot_runs is_blank r = runs_as as_octets (slot_write a.octets page slot octets) _ _ _ _ refl (λ told. slots.turns a.octets page slot (slot_within page slot lies few told) (is_blank told) octets many small) r

      pub slot_word_runs : (IsTrue a.told → CanWriteSlot (page_of a.octets page) slot) → Runs (either (SlotTurns a.octets page slot octets)) before (after ∷ []) a c result
          → Runs (either (NoOtherWord a.octets page (slot_word slot octets))) tt (tt ∷ []) a c result
      slot_word_runs can r = runs_as (slot_write a.octets page slot octets) (no_other_word a.octets page (slot_word slot octets)) _ _ _ _ refl (λ told. slots.words a.octets page (within_told page lies told) slot octets few many small (can told)) r

    pub mark_runs : MarkLaw → (at : ℕ) → at < 4096 * a.pages → (IsTrue a.told → get_or a.octets at 0 ≡ 255) → Runs exact a.octets (written a.octets at (254 ∷ []) ∷ []) a c result
        → Runs (either (MarkTurns a.octets at)) before (after ∷ []) a c result
    mark_runs mark at lies is_unset r = runs_as as_octets (mark_write a.octets at) _ _ _ _ refl (λ told. mark a.octets at (octet_within at lies told) (is_unset told)) r

-- an erase, and then a program of the same page
module _ (writes : WriteLaws) (parts : PartLaws) (length-coded : CodedHasItsLength) (a b c : Seen) (sound : IsSound a) (join : RunsJoin StateOf reading_of a b c) (bc : RunsAreRead StateOf reading_of b c)
    (page : ℕ) (octets : List ℕ) (lies : page < a.pages) (many : length octets ≡ 2048) (ran : Ran exact a.octets (written a.octets (4096 * page) (blank 4096) ∷ []) a b) where
  abbrev E : List ℕ
  E = written a.octets (4096 * page) (blank 4096)

  abbrev W : List ℕ
  W = written a.octets (4096 * page) (coded octets)

  abbrev V : List ℕ
  V = written b.octets (4096 * page) (coded octets)

  left : IsTrue b.told → b.octets ≡ E
  left told = ran.ends (told_back a b ran.keeps told)

  over : IsTrue b.told → V ≡ W
  over told =
      ap (λ (o : List ℕ). written o (4096 * page) (coded octets)) (left told)
      ∙ writes.written_twice a.octets (4096 * page) (blank 4096) (coded octets) (omega (arith, parts.length_blank 4096, length-coded octets, many)) (omega (arith, length-coded octets, many, within_told a sound page lies (told_back a b ran.keeps told)))

  -- the second operation, on what the first one left
  second : IsTrue b.told → Refines exact exact b.octets (V ∷ []) E (W ∷ [])
  second told = (
    λ x is. is ∙ left told,
    λ x torn. subst (λ (o : List ℕ). Between o W x) (left told) (subst (λ (v : List ℕ). Between b.octets v x) (over told) torn),
    λ x is. is ∙ over told,
  )

  pub page_operations : {T X : Type 0} (result : Result T X) → Runs exact b.octets (written b.octets (4096 * page) (coded octets) ∷ []) b c result
      → Runs exact a.octets (written a.octets (4096 * page) (blank 4096) ∷ written a.octets (4096 * page) (coded octets) ∷ []) a c result
  page_operations (Ok v) more = join.ran as_octets a.octets (E ∷ []) (W ∷ []) ran (bc.ran as_octets as_octets b.octets (V ∷ []) E (W ∷ []) refl second more)
  page_operations (Err e) more = join.broke as_octets a.octets (E ∷ []) (W ∷ []) ran (bc.broke as_octets as_octets b.octets (V ∷ []) E (W ∷ []) refl second more)

-- what a read of a word gives, and what its decoding says of it
module _ (parts : PartLaws) (octets : List ℕ) (at n : ℕ) (word : List ℕ) (word_is : word ≡ slice_range octets at (at + n)) where
  is_part : word ≡ part_of octets at n
  is_part = word_is ∙ parts.range_part octets at n

  pub no_code : ¬ IsCodeWord word → ¬ IsCodeWord (part_of octets at n)
  no_code not is = not (subst (λ (w : List ℕ). IsCodeWord w) (sym is_part) is)

  pub some_code : (content : List ℕ) → IsCodeWord word → content ≡ content_of word → IsCodeWord (part_of octets at n) × (content ≡ content_of (part_of octets at n))
  some_code content is held = (subst (λ (w : List ℕ). IsCodeWord w) is_part is, held ∙ ap content_of is_part)
