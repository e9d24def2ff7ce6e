-- Words of the control pages, one after the other.
use Rattle.std.proofs.Common.{cond, ◌≡◌, ◌⊎◌, inl, inr, ⊎_elim, ℕ, ◌+◌, ◌*◌, ◌<◌, ◌≤◌, Bool, true, false, IsTrue, Option, Some, None, List, ◌++◌, length, min, refl, sym, ◌∙◌, ap, subst, arith}
use Rattle.std.specs.Prelude.{MatchOption, nat_lt, slice_index}
use Rattle.std.proofs.lemmas.Bool.Decides.{nat_tests}
use Rattle.mu_model_flash.specs.Flash.{Seen, Unchanged}
use Rattle.mu_model_record.specs.declared.Record.{Record}
use Rattle.mu_model_record.specs.Code.{IsCodeWord, content_of}
use Rattle.mu_model_record.specs.Page.{page_of, slot_of, slot_in, IsLong, Word, page_word, slot_word}
use Rattle.mu_model_record.specs.Record.{zeros, IsRecord, IsSpelled, IsWordOf}
use Rattle.mu_model_record.specs.Laws.{SlotsOfAPage}
use Rattle.mu_model_record.specs.Kinds.{HasWord, slot_of_word, NotBefore, IsBehind}
use Rattle.mu_record.specs.declared.find.Found.{Found}
use Rattle.mu_record.specs.declared.find.Found.TheVariants.{Blank, Foreign, Present}
use Rattle.mu_record.specs.Found.{found_with, IsFound, IsBefore, IsBest, FoundBefore, IsSoundFound}

-- calls that read
pub unchanged_same : (a : Seen) → Unchanged a a
unchanged_same a = record { pages = refl; told = refl; octets = λ t. refl; clock = λ t. refl; left = λ t m c. (λ l. l, λ l. l); armed = refl; off = refl; only_armed = refl; faults = omega arith }

pub still_told : (a b : Seen) → Unchanged a b → IsTrue a.told → IsTrue b.told
still_told a b same told = subst (λ (x : Bool). IsTrue x) (sym same.told) told

-- places
before_more : (page slot more q : ℕ) (v : Word) → slot ≤ more → IsBefore page slot q v → IsBefore page more q v
before_more page slot more q v le (inl lt) = inl lt
before_more page slot more q v le (inr here) = inr (here.0, omega (arith, here.1, le))

before_or_here : (page slot more q : ℕ) (v : Word) → IsBefore page more q v → IsBefore page slot q v ⊎ ((q ≡ page) × (slot ≤ slot_of_word v) × (slot_of_word v < more))
before_or_here page slot more q v (inl lt) = inl (inl lt)
before_or_here page slot more q v (inr here) = ⊎_elim (λ lt. inl (inr (here.0, lt))) (λ le. inr (here.0, le, here.1)) (split (slot_of_word v) slot)
  where
    split : (a b : ℕ) → (a < b) ⊎ (b ≤ a)
    split a b = grind arith

-- a word before isn't after
not_before : (page slot p : ℕ) (word v : Word) → slot ≤ slot_of_word v → IsBefore page slot p word → NotBefore page v p word
not_before page slot p word v le (inl lt) = inl lt
not_before page slot p word v le (inr here) = inr (sym here.0, omega (arith, here.1, le))

module _ (image : List ℕ) (page slot more : ℕ) (le : slot ≤ more) where
  best_more : (p : ℕ) (word : Word) (r : Record) → IsBest image page slot p word r → ((v : Word) → HasWord image page v → slot ≤ slot_of_word v → slot_of_word v < more → IsBehind page v p word r.count) → IsBest image page more p word r
  best_more p word r best news = record {
    there = best.there;
    is_before = before_more page slot more p word le best.is_before;
    spells = best.spells;
    in_range = best.in_range;
    greatest = λ q v has is. ⊎_elim
        (λ was. best.greatest q v has was)
        (λ new. subst (λ (n : ℕ). IsBehind n v p word r.count) (sym new.0) (news v (subst (λ (n : ℕ). HasWord image n v) new.0 has) new.1 new.2))
        (before_or_here page slot more q v is);
  }

  -- no word between
  pub found_none : (found : Found) → ((v : Word) → HasWord image page v → slot ≤ slot_of_word v → slot_of_word v < more → ⊥) → FoundBefore image page slot found → FoundBefore image page more found
  found_none Blank none before = λ q v has is. ⊎_elim
      (λ was. before q v has was)
      (λ new. none v (subst (λ (n : ℕ). HasWord image n v) new.0 has) new.1 new.2)
      (before_or_here page slot more q v is)
  found_none Foreign none before = before
  found_none (Present p r) none before = (before.0, best_more p before.0 r before.1 (λ v has ge lt. absurd (none v has ge lt)))

  -- one word between
  module _ (v : Word) (has : HasWord image page v) (ge : slot ≤ slot_of_word v) (lt : slot_of_word v < more) (one : (w : Word) → HasWord image page w → slot ≤ slot_of_word w → slot_of_word w < more → w ≡ v) where
    itself : (r : Record) → IsWordOf v r → IsRecord r → IsBehind page v page v r.count
    itself r spells sound = (r, spells, sound, inr (refl, inr (refl, omega arith)))

    newest : (r : Record) → IsWordOf v r → IsRecord r → ((q : ℕ) (w : Word) → HasWord image q w → IsBefore page slot q w → IsBehind q w page v r.count) → IsBest image page more page v r
    newest r spells sound others = record {
      there = has;
      is_before = inr (refl, lt);
      spells = spells;
      in_range = sound;
      greatest = λ q w w_has is. ⊎_elim
          (λ was. others q w w_has was)
          (λ new.
          let same : w ≡ v = one w (subst (λ (n : ℕ). HasWord image n w) new.0 w_has) new.1 new.2 in
          subst (λ (n : ℕ). IsBehind n w page v r.count) (sym new.0) (subst (λ (x : Word). IsBehind page x page v r.count) (sym same) (itself r spells sound)))
          (before_or_here page slot more q w is);
    }

    by_count : (p : ℕ) (s r : Record) → IsWordOf v r × IsRecord r → FoundBefore image page slot (Present p s) → (t : Bool) → nat_lt s.count r.count ≡ t → FoundBefore image page more (cond t (Present page r) (Present p s))
    by_count p s r is before true greater =
        let less : s.count < r.count = grind (arith, nat_tests) in (
          v,
          newest r is.0 is.1 (λ q w w_has w_before.
              let b = before.1.greatest q w w_has w_before in
              (b.0, b.1, b.2, inl (⊎_elim (λ below. omega (arith, below, less)) (λ same. omega (arith, same.0, less)) b.3))),
        )
    by_count p s r is before false greater =
        let least : r.count ≤ s.count = grind (arith, nat_tests) in (
          before.0,
          best_more p before.0 s before.1 (λ w w_has w_ge w_lt.
              let same : w ≡ v = one w w_has w_ge w_lt in
              subst (λ (x : Word). IsBehind page x p before.0 s.count) (sym same)
              (r, is.0, is.1, ⊎_elim (λ below. inl below) (λ equal. inr (equal, not_before page slot p before.0 v ge before.1.is_before)) (split r.count s.count least))),
        )
      where
        split : (a b : ℕ) → a ≤ b → (a < b) ⊎ (a ≡ b)
        split a b le = grind arith

    pub found_more : (found : Found) (o : Option Record) → MatchOption o ((r : Record) → IsRecord r → ¬ IsWordOf v r) (λ r. IsWordOf v r × IsRecord r) → FoundBefore image page slot found → FoundBefore image page more (found_with found page o)
    found_more Blank None is before = (page, v, has, λ rec. is rec.0 rec.2 rec.1)
    found_more Foreign None is before = (page, v, has, λ rec. is rec.0 rec.2 rec.1)
    found_more (Present p s) None is before = (page, v, has, λ rec. is rec.0 rec.2 rec.1)
    found_more Blank (Some r) is before = (v, newest r is.0 is.1 (λ q w w_has w_before. absurd (before q w w_has w_before)))
    found_more Foreign (Some r) is before = before
    found_more (Present p s) (Some r) is before = by_count p s r is before (nat_lt s.count r.count) refl

-- the words of a control page
pub slot_below : (image : List ℕ) (page : ℕ) (v : Word) → HasWord image page v → slot_of_word v < 4
slot_below image page (page_word content) has = omega arith
slot_below image page (slot_word slot content) has = has.there.2

pub next_page : (image : List ℕ) (page : ℕ) (found : Found) → FoundBefore image page 4 found → FoundBefore image (page + 1) 0 found
next_page image page Blank before = λ q v has is. before q v has (back q v has is)
  where
    back : (q : ℕ) (v : Word) → HasWord image q v → IsBefore (page + 1) 0 q v → IsBefore page 4 q v
    back q v has (inl lt) = ⊎_elim (λ below. inl below) (λ same. inr (same, slot_below image q v has)) (split q page lt)
      where
        split : (a b : ℕ) → a < b + 1 → (a < b) ⊎ (a ≡ b)
        split a b lt = grind arith
    back q v has (inr here) = absurd (omega (arith, here.1))
next_page image page Foreign before = before
next_page image page (Present p r) before = (
  before.0,
  record {
    there = before.1.there;
    is_before = ⊎_elim (λ lt. inl (omega (arith, lt))) (λ here. inl (omega (arith, here.0))) before.1.is_before;
    spells = before.1.spells;
    in_range = before.1.in_range;
    greatest = λ q v has is. before.1.greatest q v has (back q v has is);
  },
)
  where
    back : (q : ℕ) (v : Word) → HasWord image q v → IsBefore (page + 1) 0 q v → IsBefore page 4 q v
    back q v has (inl lt) = ⊎_elim (λ below. inl below) (λ same. inr (same, slot_below image q v has)) (split q page lt)
      where
        split : (a b : ℕ) → a < b + 1 → (a < b) ⊎ (a ≡ b)
        split a b lt = grind arith
    back q v has (inr here) = absurd (omega (arith, here.1))

pub all_found : (image : List ℕ) (pages n : ℕ) (found : Found) → length image ≡ 4096 * pages → n ≡ min pages 2 → FoundBefore image n 0 found → IsFound image found
all_found image pages n Blank size is before = λ q v has. before q v has (inl (omega (arith, has.control, has.within, size, is)))
all_found image pages n Foreign size is before = before
all_found image pages n (Present p r) size is before = (
  before.0,
  record {
    there = before.1.there;
    spells = before.1.spells;
    in_range = before.1.in_range;
    greatest = λ q v has. before.1.greatest q v has (inl (omega (arith, has.control, has.within, size, is)));
  },
)

pub nothing_before : (image : List ℕ) → FoundBefore image 0 0 Blank
nothing_before image q v has (inl lt) = omega (arith, lt)
nothing_before image q v has (inr here) = omega (arith, here.1)

-- no word where slot 0 is no code word
pub no_first : (image : List ℕ) (page : ℕ) → ¬ IsCodeWord (slot_in (page_of image page) 0) → (v : Word) → HasWord image page v → ⊥
no_first image page not (page_word content) has = not has.there.0
no_first image page not (slot_word slot content) has = not has.there.0

-- a long page
pub no_long : (image : List ℕ) (page : ℕ) → IsLong (page_of image page) → ¬ IsCodeWord (page_of image page) → (v : Word) → HasWord image page v → ⊥
no_long image page long not (page_word content) has = not has.there.2
no_long image page long not (slot_word slot content) has = has.there.1 long

pub one_long : (image : List ℕ) (page : ℕ) (octets : List ℕ) → IsLong (page_of image page) → octets ≡ content_of (page_of image page) → (v : Word) → HasWord image page v → v ≡ page_word octets
one_long image page octets long is (page_word content) has = ap (λ (l : List ℕ). page_word l) (has.there.3 ∙ sym is)
one_long image page octets long is (slot_word slot content) has = absurd (has.there.1 long)

-- the slots of a page that isn't long
pub no_slot : (image : List ℕ) (page k : ℕ) → ¬ IsLong (page_of image page) → ¬ IsCodeWord (slot_in (page_of image page) k) → (v : Word) → HasWord image page v → k ≤ slot_of_word v → slot_of_word v < k + 1 → ⊥
no_slot image page k short not (page_word content) has ge lt = short has.there.1
no_slot image page k short not (slot_word slot content) has ge lt =
    let same : slot ≡ k = omega (arith, ge, lt) in
    not (subst (λ (j : ℕ). IsCodeWord (slot_in (page_of image page) j)) same has.there.3)

pub one_slot : (image : List ℕ) (page k : ℕ) (octets : List ℕ) → ¬ IsLong (page_of image page) → octets ≡ content_of (slot_in (page_of image page) k) → (v : Word) → HasWord image page v → k ≤ slot_of_word v → slot_of_word v < k + 1 → v ≡ slot_word k octets
one_slot image page k octets short is (page_word content) has ge lt = absurd (short has.there.1)
one_slot image page k octets short is (slot_word slot content) has ge lt =
    let same : slot ≡ k = omega (arith, ge, lt) in
    let content_is : content ≡ octets = has.there.4 ∙ ap (λ (j : ℕ). content_of (slot_in (page_of image page) j)) same ∙ sym is in
    λ i. slot_word (same i) (content_is i)

pub match_none : {T : Type 0} (A : Type 0) (B : T → Type 0) (o : Option T) → MatchOption o A B → o ≡ None → A
match_none A B None m is = m
match_none A B (Some t) m is = absurd (cc is)

pub match_some : {T : Type 0} (A : Type 0) (B : T → Type 0) (o : Option T) (t : T) → MatchOption o A B → o ≡ Some t → B t
match_some {T = T} A B o t m is = subst (λ (x : Option T). MatchOption x A B) is m

-- one slot of a page that isn't long
module _ (slots : SlotsOfAPage) (image : List ℕ) (page k : ℕ) (two : page < 2) (within : 4096 * page + 4096 ≤ length image) (few : k < 4) (first : IsCodeWord (slot_in (page_of image page) 0)) (short : ¬ IsLong (page_of image page)) (found : Found) (before : FoundBefore image page k found) where
  same : slot_in (page_of image page) k ≡ slot_of image page k
  same = slots image page k within few

  pub slot_none : ¬ IsCodeWord (slot_of image page k) → FoundBefore image page (k + 1) found
  slot_none not =
      found_none image page k (k + 1) (omega arith) found
      (no_slot image page k short (λ is. not (subst (λ (s : List ℕ). IsCodeWord s) same is))) before

  module _ (octets wide : List ℕ) (o : Option Record) (code : IsCodeWord (slot_of image page k) × (octets ≡ content_of (slot_of image page k))) (wide_is : wide ≡ octets ++ zeros 1536)
      (rec : MatchOption o ((r : Record) → IsRecord r → ¬ IsSpelled 2 r wide) (λ r. IsSpelled 2 r wide × IsRecord r)) where
    content : octets ≡ content_of (slot_in (page_of image page) k)
    content = code.1 ∙ ap content_of (sym same)

    has : HasWord image page (slot_word k octets)
    has = record { control = two; within = within; there = (first, short, few, subst (λ (s : List ℕ). IsCodeWord s) (sym same) code.0, content) }

    is_record : MatchOption o ((r : Record) → IsRecord r → ¬ IsWordOf (slot_word k octets) r) (λ r. IsWordOf (slot_word k octets) r × IsRecord r)
    is_record = subst (λ (l : List ℕ). MatchOption o ((r : Record) → IsRecord r → ¬ IsSpelled 2 r l) (λ r. IsSpelled 2 r l × IsRecord r)) wide_is rec

    pub slot_some : FoundBefore image page (k + 1) (found_with found page o)
    slot_some = found_more image page k (k + 1) (omega arith) (slot_word k octets) has (omega arith) (omega arith) (one_slot image page k octets short content) found o is_record before

-- a record that was read is in its ranges
pub sound_read : (found : Found) (page format : ℕ) (octets : List ℕ) (o : Option Record) → page < 2 → MatchOption o ((r : Record) → IsRecord r → ¬ IsSpelled format r octets) (λ r. IsSpelled format r octets × IsRecord r) → IsSoundFound found → IsSoundFound (found_with found page o)
sound_read Blank page format octets None two is sound = tt
sound_read Foreign page format octets None two is sound = tt
sound_read (Present p s) page format octets None two is sound = tt
sound_read Blank page format octets (Some r) two is sound = (two, is.1)
sound_read Foreign page format octets (Some r) two is sound = tt
sound_read (Present p s) page format octets (Some r) two is sound = by_test (nat_lt s.count r.count)
  where
    by_test : (t : Bool) → IsSoundFound (cond t (Present page r) (Present p s))
    by_test true = (two, is.1)
    by_test false = sound

-- a page whose first slot is no code word, and a long page
module _ (slots : SlotsOfAPage) (image : List ℕ) (page : ℕ) (two : page < 2) (within : 4096 * page + 4096 ≤ length image) (found : Found) (before : FoundBefore image page 0 found) where
  first_same : slot_in (page_of image page) 0 ≡ slot_of image page 0
  first_same = slots image page 0 within (omega arith)

  pub page_none : ¬ IsCodeWord (slot_of image page 0) → FoundBefore image page 4 found
  page_none not = found_none image page 0 4 (omega arith) found (λ v has ge lt. no_first image page (λ is. not (subst (λ (s : List ℕ). IsCodeWord s) first_same is)) v has) before

  module _ (first : List ℕ) (code : IsCodeWord (slot_of image page 0) × (first ≡ content_of (slot_of image page 0))) where
    pub first_code : IsCodeWord (slot_in (page_of image page) 0)
    first_code = subst (λ (s : List ℕ). IsCodeWord s) (sym first_same) code.0

    format_is : slice_index (content_of (slot_in (page_of image page) 0)) 4 ≡ slice_index first 4
    format_is = ap (λ (s : List ℕ). slice_index (content_of s) 4) first_same ∙ ap (λ (l : List ℕ). slice_index l 4) (sym code.1)

    pub is_short : (slice_index first 4 ≡ 1 → ⊥) → ¬ IsLong (page_of image page)
    is_short not long = not (sym format_is ∙ long)

    module _ (long_is : slice_index first 4 ≡ 1) where
      long : IsLong (page_of image page)
      long = format_is ∙ long_is

      pub long_none : ¬ IsCodeWord (page_of image page) → FoundBefore image page 4 found
      long_none not = found_none image page 0 4 (omega arith) found (λ v has ge lt. no_long image page long not v has) before

      pub long_some : (octets : List ℕ) (o : Option Record) → IsCodeWord (page_of image page) × (octets ≡ content_of (page_of image page))
          → MatchOption o ((r : Record) → IsRecord r → ¬ IsSpelled 1 r octets) (λ r. IsSpelled 1 r octets × IsRecord r) → FoundBefore image page 4 (found_with found page o)
      long_some octets o is rec =
          found_more image page 0 4 (omega arith) (page_word octets) (record { control = two; within = within; there = (first_code, long, is.0, is.1) }) (omega arith) (omega arith)
          (λ v has ge lt. one_long image page octets long is.1 v has) found o rec before
