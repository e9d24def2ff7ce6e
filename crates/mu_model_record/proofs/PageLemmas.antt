-- What a torn erase or program leaves of a control page.
use Rattle.std.proofs.Common.{◌≡◌, ◌⊎◌, inl, inr, ⊎_elim, ℕ, ◌+◌, ◌*◌, ◌<◌, ◌≤◌, List, [], ◌∷◌, length, take, get_or, refl, sym, ◌∙◌, ap, subst, arith, length-take}
use Rattle.std.proofs.lemmas.List.{get_or-take, get_or_past}
use Rattle.std.proofs.lemmas.Bool.{cases_eq}
use Rattle.mu_model_flash.specs.Bits.{AreOctets, blank, part_of, IsMixOf, Between}
use Rattle.mu_model_record.proofs.CodeBits.{mix_swap}
use Rattle.mu_model_record.specs.Code.{coded, content_of, IsCodeWord, HasPairOfOnes, IsSafe, Fades}
use Rattle.mu_model_record.specs.Page.{slot_in, format_of, IsLong, Word, page_word, slot_word, IsWord, IsSafePage, IsDead, PageFades}
use Rattle.mu_model_record.proofs.CodeLemmas.{length-coded, coded_is, content-coded, Raised, raised_from, raised_code, raised_safe, ones_no_code, ones_first, take-coded}
use Rattle.mu_model_flash.specs.Laws.{RangeLaws}

long_or_not : (page : List ℕ) → IsLong page ⊎ ¬ IsLong page
long_or_not page = cases_eq (format_of (content_of (slot_in page 0))) 1

mix_at : (a b g a' b' g' : ℕ) → a ≡ a' → b ≡ b' → g' ≡ g → IsMixOf a b g → IsMixOf a' b' g'
mix_at a b g a' b' g' a_is b_is g_is mix =
    subst (λ (x : ℕ). IsMixOf x b' g') a_is (subst (λ (y : ℕ). IsMixOf a y g') b_is (subst (λ (z : ℕ). IsMixOf a b z) (sym g_is) mix))

-- a torn erase turns bits to 1, in each part
module _ (ranges : RangeLaws) where
  raised_between : (old new : List ℕ) → Between old (blank (length old)) new → Raised old new
  raised_between old new torn =
      raised_from old new torn.size (λ i lt. mix_at _ _ _ _ _ _ refl (ranges.parts.get_blank (length old) i lt) refl (torn.bits i))

module _ (ranges : RangeLaws) where
  raised_part : (old new : List ℕ) (at n : ℕ) → at + n ≤ length old → Between old (blank (length old)) new → Raised (part_of old at n) (part_of new at n)
  raised_part old new at n within torn =
      let here : length (part_of old at n) ≡ n = ranges.parts.length_part old at n within in
      let there : length (part_of new at n) ≡ n = ranges.parts.length_part new at n (omega (arith, within, torn.size)) in
      raised_from (part_of old at n) (part_of new at n) (there ∙ sym here) (λ i lt.
      let low : i < n = omega (arith, lt, here) in
      mix_at _ _ _ _ _ _ (sym (ranges.parts.get_part old at n i low)) (ranges.parts.get_blank (length old) (at + i) (omega (arith, low, within))) (ranges.parts.get_part new at n i low) (torn.bits (at + i)))

-- a program of a code word that is cut short
module _ (ranges : RangeLaws) where
  pub torn_code : (word got : List ℕ) → IsCodeWord word → Between (blank (length word)) word got → (got ≡ word) ⊎ HasPairOfOnes got
  torn_code word got is torn = raised_code word got is ((raised_between ranges) word got swapped)
    where
      swapped : Between word (blank (length word)) got
      swapped = record { size = torn.size ∙ ranges.parts.length_blank (length word); bits = λ i. mix_swap _ _ _ (torn.bits i) }

module _ (ranges : RangeLaws) where
  pub torn_erase : (old new : List ℕ) → length old ≡ 4096 → IsSafePage old → Between old (blank 4096) new → PageFades old new
  torn_erase old new size safe torn =
      let t : Between old (blank (length old)) new = subst (λ (n : ℕ). Between old (blank n) new) (sym size) torn in
      record {
        first = raised_safe (slot_in old 0) (slot_in new 0) safe.first ((raised_part ranges) old new (1024 * 0) 1024 (omega (arith, size)) t);
        if_long = λ is long. raised_safe old new (safe.if_long is long) ((raised_between ranges) old new t);
        if_short = λ is short k lt. raised_safe (slot_in old k) (slot_in new k) (safe.if_short is short k lt) ((raised_part ranges) old new (1024 * k) 1024 (omega (arith, size, lt)) t);
      }

-- a page that reads FF
pub ff_pair : (page : List ℕ) → 2 ≤ length page → get_or page 0 0 ≡ 255 → get_or page 1 0 ≡ 255 → HasPairOfOnes page
ff_pair [] size first second = absurd (omega (arith, size))
ff_pair (x ∷ []) size first second = absurd (omega (arith, size))
ff_pair (x ∷ y ∷ rest) size first second = subst (λ (a : ℕ). HasPairOfOnes (a ∷ y ∷ rest)) (sym first) (subst (λ (b : ℕ). HasPairOfOnes (255 ∷ b ∷ rest)) (sym second) (ones_first rest))

module _ (ranges : RangeLaws) where
  pub blank_pair : (c : List ℕ) (at n : ℕ) → 2 ≤ n → at + n ≤ length c → get_or c at 0 ≡ 255 → get_or c (at + 1) 0 ≡ 255 → HasPairOfOnes (part_of c at n)
  blank_pair c at n many within first second =
      let zero_on : at + 0 ≡ at = omega arith in
      ff_pair (part_of c at n) (omega (arith, ranges.parts.length_part c at n within, many))
      (ranges.parts.get_part c at n 0 (omega (arith, many)) ∙ ap (λ (i : ℕ). get_or c i 0) zero_on ∙ first)
      (ranges.parts.get_part c at n 1 (omega (arith, many)) ∙ second)

module _ (ranges : RangeLaws) where
  pub blank_slot : (k : ℕ) → k < 4 → HasPairOfOnes (slot_in (blank 4096) k)
  blank_slot k lt =
      let ff : length (blank 4096) ≡ 4096 = ranges.parts.length_blank 4096 in
      (blank_pair ranges) (blank 4096) (1024 * k) 1024 (omega arith) (omega (arith, ff, lt)) (ranges.parts.get_blank 4096 (1024 * k) (omega (arith, lt))) (ranges.parts.get_blank 4096 (1024 * k + 1) (omega (arith, lt)))

module _ (ranges : RangeLaws) where
  blank_page : HasPairOfOnes (blank 4096)
  blank_page =
      let ff : length (blank 4096) ≡ 4096 = ranges.parts.length_blank 4096 in
      ff_pair (blank 4096) (omega (arith, ff)) (ranges.parts.get_blank 4096 0 (omega arith)) (ranges.parts.get_blank 4096 1 (omega arith))

-- an erase that was done
module _ (ranges : RangeLaws) where
  pub erased_fades : (old : List ℕ) → PageFades old (blank 4096)
  erased_fades old = record {
    first = inr ((blank_slot ranges) 0 (omega arith));
    if_long = λ is long. inr (blank_page ranges);
    if_short = λ is short k lt. inr ((blank_slot ranges) k lt);
  }

pub fades_same : (page : List ℕ) → PageFades page page
fades_same page = record { first = inl refl; if_long = λ is long. inl refl; if_short = λ is short k lt. inl refl }

-- a page whose slot 0 is a code word has the slot 0 that it had, where it fades
kept_first : (old new : List ℕ) → PageFades old new → IsCodeWord (slot_in new 0) → slot_in new 0 ≡ slot_in old 0
kept_first old new fades is = ⊎_elim (λ same. same) (λ ones. absurd (ones_no_code (slot_in new 0) ones is)) fades.first

code_then : (old new : List ℕ) → slot_in new 0 ≡ slot_in old 0 → IsCodeWord (slot_in new 0) → IsCodeWord (slot_in old 0)
code_then old new same is = subst (λ (s : List ℕ). IsCodeWord s) same is

long_then : (old new : List ℕ) → slot_in new 0 ≡ slot_in old 0 → IsLong new → IsLong old
long_then old new same long = ap (λ (s : List ℕ). format_of (content_of s)) (sym same) ∙ long

dead_no_word : (page : List ℕ) → IsDead page → (word : Word) → IsWord page word → ⊥
dead_no_word page (inl ones) (page_word content) is = ones_no_code (slot_in page 0) ones is.0
dead_no_word page (inl ones) (slot_word k content) is = ones_no_code (slot_in page 0) ones is.0
dead_no_word page (inr dead) (page_word content) is = ones_no_code page dead.2 is.2
dead_no_word page (inr dead) (slot_word k content) is = is.1 dead.1

pub no_new_word : (old new : List ℕ) → PageFades old new ⊎ IsDead new → (word : Word) → IsWord new word → IsWord old word
no_new_word old new (inr dead) word is = absurd (dead_no_word new dead word is)
no_new_word old new (inl fades) (page_word content) is =
    let same = kept_first old new fades is.0 in
    let code = code_then old new same is.0 in
    let long = long_then old new same is.1 in
    let page : new ≡ old = ⊎_elim (λ s. s) (λ ones. absurd (ones_no_code new ones is.2)) (fades.if_long code long) in
    (code, long, subst (λ (p : List ℕ). IsCodeWord p) page is.2, is.3 ∙ ap content_of page)
no_new_word old new (inl fades) (slot_word k content) is =
    let same = kept_first old new fades is.0 in
    let code = code_then old new same is.0 in
    let short : ¬ IsLong old = λ long. is.1 (long_then new old (sym same) long) in
    let one : slot_in new k ≡ slot_in old k = ⊎_elim (λ s. s) (λ ones. absurd (ones_no_code (slot_in new k) ones is.3)) (fades.if_short code short k is.2) in
    (code, short, is.2, subst (λ (p : List ℕ). IsCodeWord p) one is.3, is.4 ∙ ap content_of one)

safe_from : (old new : List ℕ) → IsSafe old → Fades old new → IsSafe new
safe_from old new safe (inl same) = subst (λ (w : List ℕ). IsSafe w) (sym same) safe
safe_from old new safe (inr ones) = inr ones

pub faded_is_safe : (old new : List ℕ) → IsSafePage old → PageFades old new ⊎ IsDead new → IsSafePage new
faded_is_safe old new safe (inr (inl ones)) = record {
  first = inr ones;
  if_long = λ is long. absurd (ones_no_code (slot_in new 0) ones is);
  if_short = λ is short k lt. absurd (ones_no_code (slot_in new 0) ones is);
}
faded_is_safe old new safe (inr (inr dead)) = record {
  first = inl dead.0;
  if_long = λ is long. inr dead.2;
  if_short = λ is short k lt. absurd (short dead.1);
}
faded_is_safe old new safe (inl fades) = record {
  first = safe_from (slot_in old 0) (slot_in new 0) safe.first fades.first;
  if_long = λ is long.
      let same = kept_first old new fades is in
      let code = code_then old new same is in
      let was = long_then old new same long in
      safe_from old new (safe.if_long code was) (fades.if_long code was);
  if_short = λ is short k lt.
      let same = kept_first old new fades is in
      let code = code_then old new same is in
      let was : ¬ IsLong old = λ long. short (long_then new old (sym same) long) in
      safe_from (slot_in old k) (slot_in new k) (safe.if_short code was k lt) (fades.if_short code was k lt);
}

-- a coded page, slot by slot
module _ (ranges : RangeLaws) (octets : List ℕ) (many : length octets ≡ 2048) (small : AreOctets octets) where
  first_slot : slot_in (coded octets) 0 ≡ coded (take 512 octets)
  unfolding part_of
  first_slot = take-coded octets 512

  pub coded_is_long : format_of octets ≡ 1 → IsLong (coded octets)
  coded_is_long is = ap (λ (s : List ℕ). format_of (content_of s)) first_slot ∙ ap format_of (content-coded (take 512 octets)) ∙ get_or-take 512 octets 4 0 (omega arith) ∙ is

  pub written_word : format_of octets ≡ 1 → (word : Word) → IsWord (coded octets) word → word ≡ page_word octets
  written_word is (page_word content) w = ap (λ (l : List ℕ). page_word l) (w.3 ∙ content-coded octets)
  written_word is (slot_word k content) w = absurd (w.1 (coded_is_long is))

  pub first_is_code : IsCodeWord (slot_in (coded octets) 0)
  first_is_code = subst (λ (s : List ℕ). IsCodeWord s) (sym first_slot) (coded_is (take 512 octets) (λ i. below i (⊎_split i)))
    where
      ⊎_split : (i : ℕ) → (i < 512) ⊎ (512 ≤ i)
      ⊎_split i = grind arith

      below : (i : ℕ) → (i < 512) ⊎ (512 ≤ i) → get_or (take 512 octets) i 0 < 256
      below i (inl lt) = subst (λ (x : ℕ). x < 256) (sym (get_or-take 512 octets i 0 lt)) (small i)
      below i (inr le) = subst (λ (x : ℕ). x < 256) (sym (get_or_past (take 512 octets) i 0 (omega (arith, length-take 512 octets, le)))) (omega arith)

  -- a program of a coded page that is cut short
  pub torn_program : format_of octets ≡ 1 → (c : List ℕ) → Between (blank 4096) (coded octets) c → (c ≡ coded octets) ⊎ IsDead c
  torn_program is c torn =
      let size : length (coded octets) ≡ 4096 = omega (arith, length-coded octets, many) in
      let t : Between (coded octets) (blank (length (coded octets))) c = subst (λ (n : ℕ). Between (coded octets) (blank n) c) (sym size) (swapped torn size) in
      ⊎_elim
      (λ same. inl same)
      (λ ones. inr (⊎_elim
      (λ first. inr (subst (λ (s : List ℕ). IsCodeWord s) (sym first) first_is_code, ap (λ (s : List ℕ). format_of (content_of s)) first ∙ coded_is_long is, ones))
      (λ pair. inl pair)
      (raised_code (slot_in (coded octets) 0) (slot_in c 0) first_is_code ((raised_part ranges) (coded octets) c (1024 * 0) 1024 (omega (arith, size)) t))))
      (raised_code (coded octets) c (coded_is octets small) ((raised_between ranges) (coded octets) c t))
    where
      swapped : Between (blank 4096) (coded octets) c → length (coded octets) ≡ 4096 → Between (coded octets) (blank 4096) c
      swapped torn size = record { size = torn.size ∙ ranges.parts.length_blank 4096 ∙ sym size; bits = λ i. mix_swap _ _ _ (torn.bits i) }
