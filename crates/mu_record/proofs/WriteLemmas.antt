-- The next record on the control pages, as runs of a store's states.
use Rattle.std.proofs.Common.{Result, Ok, Err, IsErr, cond, ◌&&◌, ◌≡◌, inr, ℕ, ◌+◌, ◌-◌, ◌*◌, ◌<◌, ◌≤◌, Bool, true, false, IsTrue, List, [], ◌∷◌, ◌++◌, length, take, drop, get_or, refl, sym, ◌∙◌, ap, subst, arith}
use Rattle.std.specs.Prelude.{bytes_eq, nat_lt, MatchResult}
use Rattle.std.proofs.lemmas.Bool.Decides.{nat_tests}
use Rattle.std.proofs.lemmas.List.{ext_get_or, take-append-drop, take_all, drop-drop, length-drop}
use Rattle.std.proofs.lemmas.Slice.Eq.{bytes_eq-Decides}
use Rattle.mu_model_flash.specs.Bits.{blank, written, part_of, SameOutside}
use Rattle.mu_model_flash.specs.Flash.{Seen, IsSound}
use Rattle.mu_model_flash.specs.Run.{either, exact, Ran, Broke}
use Rattle.mu_model_record.specs.declared.Record.{Record}
use Rattle.mu_model_record.specs.Code.{coded}
use Rattle.mu_model_record.specs.Page.{page_of, slot_in, slot_of, slot_place, Word, slot_word, page_word, IsSafePage}
use Rattle.mu_model_record.specs.Turns.{before, after, PageErases, PageTurns, SlotTurns}
use Rattle.mu_model_record.specs.Record.{zeros, IsSpelled, IsShort}
use Rattle.mu_model_record.specs.Store.{StoreState}
use Rattle.mu_model_record.specs.Represents.{RepresentsAt, RepresentsStore, IsFollowedBy}
use Rattle.mu_model_record.specs.Next.{IsNext, is_short, record_steps}
use Rattle.mu_model_flash.specs.Laws.{WriteLaws, RunsAreRead}
use Rattle.mu_model_record.specs.Laws.{CodedHasItsLength, SlotsOfAPage}
use Rattle.mu_model_record.specs.NextLaws.{IsLongContent, IsShortContent, OtherPageLaws, NextOnOtherPage, NextSlotLaws, NextInNextSlot}
use Rattle.mu_model_record.specs.Ways.{as_store, page_erase, page_write, slot_write, StateOf, reading_of}
use Rattle.mu_record.proofs.PartLemmas.{length-part, get-part, length-blank, get-blank}
use Rattle.mu_record.proofs.RunLemmas.{told_on}
use Rattle.mu_model_flash.specs.declared.Failed.{Failed}
use Rattle.mu_record.specs.declared.write.Place.{Place}
use Rattle.mu_record.specs.Place.{HoldsAt, WritesNext}
use Rattle.mu_record.proofs.EntryLemmas.{all_zero, zero_all}
use Rattle.std.specs.Bool.{Decides}

-- slots of an erased page
pub blank_part : (n at m : ℕ) → at + m ≤ n → part_of (blank n) at m ≡ blank m
blank_part n at m within =
    let size = length-part (blank n) at m (omega (arith, within, length-blank n)) in
    ext_get_or 0 (part_of (blank n) at m) (blank m) (size ∙ sym (length-blank m)) (λ i lt.
    get-part (blank n) at m i (omega (arith, lt, size)) ∙ get-blank n (at + i) (omega (arith, within, lt, size)) ∙ sym (get-blank m i (omega (arith, lt, size))))

pub blank_slots : (page : List ℕ) → page ≡ blank 4096 → (k : ℕ) → k < 4 → slot_in page k ≡ blank 1024
blank_slots page is k lt = ap (λ (p : List ℕ). slot_in p k) is ∙ blank_part 4096 (1024 * k) 1024 (omega (arith, lt))

-- a test that agrees with another
pub same_test : (b t : Bool) (P : Type 0) → (IsTrue b → P) → (P → IsTrue b) → Decides t P → b ≡ t
same_test true true P to from decides = refl
same_test false false P to from decides = refl
same_test true false P to from decides = absurd (cc (decides.1 (to refl)))
same_test false true P to from decides = absurd (cc (from (decides.0 refl)))

pub short_test : (tag : List ℕ) → length tag ≡ 1792 → (b : Bool) → (IsTrue b → (k : ℕ) → k < length (take 1536 (drop 256 tag)) → get_or (take 1536 (drop 256 tag)) k 0 ≡ 0)
    → (((k : ℕ) → k < length (take 1536 (drop 256 tag)) → get_or (take 1536 (drop 256 tag)) k 0 ≡ 0) → IsTrue b) → (IsTrue b → drop 256 tag ≡ zeros 1536) × (b ≡ bytes_eq (drop 256 tag) (zeros 1536))
short_test tag size b to from =
    let all : take 1536 (drop 256 tag) ≡ drop 256 tag = take_all 1536 (drop 256 tag) (omega (arith, length-drop 256 tag, size)) in
    let there : length (take 1536 (drop 256 tag)) ≡ 1536 = ap length all ∙ length-drop 256 tag ∙ omega (arith, size) in
    let on : IsTrue b → drop 256 tag ≡ zeros 1536 = λ t. sym all ∙ all_zero (take 1536 (drop 256 tag)) 1536 there (to t) in
    let back : drop 256 tag ≡ zeros 1536 → IsTrue b = λ is. from (zero_all (take 1536 (drop 256 tag)) 1536 (all ∙ is)) in
    (on, same_test b (bytes_eq (drop 256 tag) (zeros 1536)) (drop 256 tag ≡ zeros 1536) on back (bytes_eq-Decides (drop 256 tag) (zeros 1536)))

-- a record with a tag that is short
pub slot_spelled : (r : Record) (octets slot : List ℕ) → IsSpelled 2 r octets → IsShort r → slot ≡ take 512 octets → IsSpelled 2 r (slot ++ zeros 1536)
unfolding part_of
slot_spelled r octets slot spelled short is =
    let tag : drop 256 octets ≡ r.tag = sym (take_all 1792 (drop 256 octets) (omega (arith, length-drop 256 octets, spelled.whole))) ∙ spelled.tag_at_256 in
    let rest : drop 512 octets ≡ zeros 1536 = sym (drop-drop 256 256 octets) ∙ ap (λ (l : List ℕ). drop 256 l) tag ∙ short in
    let same : octets ≡ slot ++ zeros 1536 = sym (take-append-drop 512 octets) ∙ (λ i. sym is i ++ rest i) in
    subst (λ (l : List ℕ). IsSpelled 2 r l) same spelled

-- what a `?` hands on
pub broke_next : (result : Result Place Failed) (A : Place → Type 0) (B : Type 0) → IsErr result → B → MatchResult result A (λ _. B)
broke_next (Ok place) A B err b = absurd (cc err)
broke_next (Err failed) A B err b = b

-- the steps by their name
pub write_steps : (a c : Seen) (page fresh : ℕ) (r : Record) (f g : StoreState → StoreState → List StoreState) (result : Result Place Failed) → ((d e : StoreState) → e.present ≡ r → f d e ≡ g d e)
    → WritesNext a c page fresh r f result → WritesNext a c page fresh r g result
write_steps a c page fresh r f g result same writes d e holds next is =
    let P : List StoreState → Type 0 = λ steps. MatchResult result (λ place. Ran (either RepresentsStore) d steps a c × HoldsAt c place.page place.fresh e) (λ _. Broke (either RepresentsStore) d steps a c) in
    subst P (same d e is) (writes d e holds next is)

pub long_steps : (r : Record) (fresh : ℕ) → is_short r ≡ false → (d e : StoreState) → e.present ≡ r → d ∷ e ∷ [] ≡ record_steps fresh d e
long_steps r fresh long d e is = ap (λ (b : Bool). cond (b && nat_lt 0 fresh) (e ∷ []) (d ∷ e ∷ [])) (sym (ap is_short is ∙ long))

pub first_steps : (r : Record) (fresh : ℕ) → is_short r ≡ true → fresh ≤ 0 → (d e : StoreState) → e.present ≡ r → d ∷ e ∷ [] ≡ record_steps fresh d e
first_steps r fresh short none d e is = let z : fresh ≡ 0 = omega (arith, none) in
    (λ i. cond (sym (ap is_short is ∙ short) i && nat_lt 0 (sym z i)) (e ∷ []) (d ∷ e ∷ []))

pub next_steps : (r : Record) (fresh : ℕ) → is_short r ≡ true → 0 < fresh → (d e : StoreState) → e.present ≡ r → e ∷ [] ≡ record_steps fresh d e
next_steps r fresh short some d e is =
    let t : nat_lt 0 fresh ≡ true = grind (arith, nat_tests) in
    (λ i. cond (sym (ap is_short is ∙ short) i && sym t i) (e ∷ []) (d ∷ e ∷ []))

-- a page or a slot lies on the control pages
page_outside : (q : ℕ) (old c : List ℕ) → q < 2 → SameOutside (4096 * q) 4096 old c → SameOutside 0 8192 old c
page_outside q old c two out = record { size = out.size; before = λ i lt. absurd (omega (arith, lt)); after = λ i le. out.after i (omega (arith, le, two)) }

slot_outside : (q k : ℕ) (old c : List ℕ) → q < 2 → k < 4 → SameOutside (slot_place q k) 1024 old c → SameOutside 0 8192 old c
slot_outside q k old c two few out = record { size = out.size; before = λ i lt. absurd (omega (arith, lt)); after = λ i le. out.after i (omega (arith, le, two, few)) }

-- what an operation leaves of all else
module _ (a c : Seen) (sound : IsSound a) (both : 2 ≤ a.pages) (page : ℕ) (two : page < 2) where
  pub page_within : IsTrue a.told → 4096 * page + 4096 ≤ length a.octets
  page_within told = omega (arith, (sound.is_image told).size, both, two)

  pub fresh_slot : SlotsOfAPage → (fresh k : ℕ) → (IsTrue a.told → IsFollowedBy page fresh a.octets) → 4 ≤ k + fresh → k < 4 → IsTrue a.told → slot_of a.octets page k ≡ blank 1024
  fresh_slot slots fresh k is_blank le lt told = sym (slots a.octets page k (page_within told) lt) ∙ is_blank told k le lt

  module _ (writes : WriteLaws) (length-coded : CodedHasItsLength) (k : ℕ) (few : k < 4) (bytes : List ℕ) (whole : length bytes ≡ 512) (ran : Ran exact a.octets (written a.octets (slot_place page k) (coded bytes) ∷ []) a c) (told : IsTrue a.told) where
    pub slot_stays : SameOutside (slot_place page k) 1024 a.octets c.octets
    slot_stays =
        let code : length (coded bytes) ≡ 1024 = omega (arith, length-coded bytes, whole) in
        subst (λ (o : List ℕ). SameOutside (slot_place page k) 1024 a.octets o) (sym (ran.ends told)) (writes.outside_written a.octets (slot_place page k) 1024 (omega (arith, page_within told, few)) (coded bytes) code)

    pub slot_past : SameOutside 0 8192 a.octets c.octets
    slot_past = slot_outside page k a.octets c.octets two few slot_stays

    pub others_blank : SlotsOfAPage → (fresh : ℕ) → IsFollowedBy page fresh a.octets → k < 4 - (fresh - 1) → IsFollowedBy page (fresh - 1) c.octets
    others_blank slots fresh is_blank low j le lt =
        let out = slot_stays in
        let there : 4096 * page + 4096 ≤ length c.octets = omega (arith, page_within told, out.size) in
        slots c.octets page j there lt
        ∙ writes.part_outside a.octets c.octets (slot_place page k) 1024 out (slot_place page j) 1024 (inr (omega (arith, le, low, lt))) (omega (arith, page_within told, lt))
        ∙ sym (slots a.octets page j (page_within told) lt)
        ∙ is_blank j (omega (arith, le)) lt

  module _ (writes : WriteLaws) (ran : Ran exact a.octets (written a.octets (4096 * page) (blank 4096) ∷ []) a c) (told : IsTrue a.told) where
    erased_stays : SameOutside (4096 * page) 4096 a.octets c.octets
    erased_stays = subst (λ (o : List ℕ). SameOutside (4096 * page) 4096 a.octets o) (sym (ran.ends told)) (writes.outside_written a.octets (4096 * page) 4096 (page_within told) (blank 4096) (length-blank 4096))

    pub erased_past : SameOutside 0 8192 a.octets c.octets
    erased_past = page_outside page a.octets c.octets two erased_stays

    pub erased_followed : IsFollowedBy page 4 c.octets
    erased_followed k le lt =
        blank_slots (page_of c.octets page) (ap (λ (o : List ℕ). page_of o page) (ran.ends told) ∙ writes.part_written a.octets (4096 * page) 4096 (page_within told) (blank 4096) (length-blank 4096)) k lt

-- the record in the next slot, and on the other page
module _ (a c : Seen) (reads : RunsAreRead StateOf reading_of a c) (page fresh : ℕ) (d e : StoreState) (holds : HoldsAt a page fresh d) (next : IsNext a.octets d e) where
  module _ (law : NextInNextSlot) (some : 0 < fresh) (few : fresh < 4) (octets : List ℕ) (is : IsShortContent e.present octets) where
    slot_next : 3 - fresh + 1 ≡ 4 - fresh
    slot_next = omega (arith, some, few)

    content : List ℕ
    content = (holds.is_before some).0

    at_slot : RepresentsAt page (slot_word (3 - fresh) content) d a.octets
    unfolding content
    at_slot = subst (λ (w : Word). RepresentsAt page w d a.octets) (holds.is_before some).1 holds.represents

    laws : NextSlotLaws page (3 - fresh) content d e a.octets
    laws = law page (3 - fresh) content d e a.octets at_slot next (omega (arith, some, few))

    pub next_ran : Ran (either (SlotTurns a.octets page (4 - fresh) octets)) before (after ∷ []) a c → Ran (either RepresentsStore) d (e ∷ []) a c × HoldsAt c page (fresh - 1) e
    next_ran ran =
        let here = subst (λ (k : ℕ). Ran (either (SlotTurns a.octets page k octets)) before (after ∷ []) a c) (sym slot_next) ran in
        let same : 3 - fresh + 1 ≡ 3 - (fresh - 1) = omega (arith, some, few) in (
          reads.ran (slot_write a.octets page (3 - fresh + 1) octets) as_store before (after ∷ []) d (e ∷ []) refl (λ told. laws.short octets is) here,
          record {
            told = told_on a c ran.keeps holds.told;
            on = ran.on;
            word = slot_word (3 - fresh + 1) octets;
            represents = laws.short_after octets is c.octets (here.ends holds.told);
            is_before = λ more. (octets, ap (λ (k : ℕ). slot_word k octets) same);
          },
        )

    pub next_broke : Broke (either (SlotTurns a.octets page (4 - fresh) octets)) before (after ∷ []) a c → Broke (either RepresentsStore) d (e ∷ []) a c
    next_broke broke =
        let here = subst (λ (k : ℕ). Broke (either (SlotTurns a.octets page k octets)) before (after ∷ []) a c) (sym slot_next) broke in
        reads.broke (slot_write a.octets page (3 - fresh + 1) octets) as_store before (after ∷ []) d (e ∷ []) refl (λ told. laws.short octets is) here

  -- on the other page
  module _ (law : NextOnOtherPage) (other : ℕ) (two : other + page ≡ 1) where
    other_laws : OtherPageLaws page other holds.word d e a.octets
    other_laws = law page other two holds.word d e a.octets holds.represents next

    pub safe : IsSafePage (page_of a.octets other)
    safe = other_laws.safe

    module _ (octets : List ℕ) (is : IsLongContent e.present octets) where
      pub long_ran : Ran (either (PageTurns a.octets other octets)) before (before ∷ after ∷ []) a c → Ran (either RepresentsStore) d (d ∷ e ∷ []) a c × HoldsAt c other 0 e
      long_ran ran = (
        reads.ran (page_write a.octets other octets) as_store before (before ∷ after ∷ []) d (d ∷ e ∷ []) refl (λ told. other_laws.long octets is) ran,
        record {
          told = told_on a c ran.keeps holds.told;
          on = ran.on;
          word = page_word octets;
          represents = other_laws.long_after octets is c.octets (ran.ends holds.told);
          is_before = λ some. absurd (omega (arith, some));
        },
      )

      pub long_broke : Broke (either (PageTurns a.octets other octets)) before (before ∷ after ∷ []) a c → Broke (either RepresentsStore) d (d ∷ e ∷ []) a c
      long_broke broke = reads.broke (page_write a.octets other octets) as_store before (before ∷ after ∷ []) d (d ∷ e ∷ []) refl (λ told. other_laws.long octets is) broke

    -- which is erased first
    pub erase_broke : Broke (either (PageErases a.octets other)) before (after ∷ []) a c → Broke (either RepresentsStore) d (d ∷ []) a c
    erase_broke broke = reads.broke (page_erase a.octets other) as_store before (after ∷ []) d (d ∷ []) refl (λ told. other_laws.erase) broke

    pub erase_ran : Ran (either (PageErases a.octets other)) before (after ∷ []) a c → Ran (either RepresentsStore) d (d ∷ []) a c
    erase_ran ran = reads.ran (page_erase a.octets other) as_store before (after ∷ []) d (d ∷ []) refl (λ told. other_laws.erase) ran

    pub erased_first : Ran (either (PageErases a.octets other)) before (after ∷ []) a c → RepresentsAt page holds.word d c.octets × IsNext c.octets d e × (page_of c.octets other ≡ blank 4096)
    erased_first ran = other_laws.erased c.octets (ran.ends holds.told)

-- the first slot of the other page, which is erased
module _ (law : NextOnOtherPage) (b c : Seen) (reads : RunsAreRead StateOf reading_of b c) (page other : ℕ) (two : other + page ≡ 1) (word : Word) (d e : StoreState) (told : IsTrue b.told)
    (erased : RepresentsAt page word d b.octets × IsNext b.octets d e × (page_of b.octets other ≡ blank 4096)) (octets : List ℕ) (is : IsShortContent e.present octets) where
  first_laws : OtherPageLaws page other word d e b.octets
  first_laws = law page other two word d e b.octets erased.0 erased.1

  pub first_ran : Ran (either (SlotTurns b.octets other 0 octets)) before (after ∷ []) b c → Ran (either RepresentsStore) d (e ∷ []) b c × HoldsAt c other 3 e
  first_ran ran = (
    reads.ran (slot_write b.octets other 0 octets) as_store before (after ∷ []) d (e ∷ []) refl (λ t. first_laws.short erased.2 octets is) ran,
    record {
      told = told_on b c ran.keeps told;
      on = ran.on;
      word = slot_word 0 octets;
      represents = first_laws.short_after erased.2 octets is c.octets (ran.ends told);
      is_before = λ some. (octets, refl);
    },
  )

  pub first_broke : Broke (either (SlotTurns b.octets other 0 octets)) before (after ∷ []) b c → Broke (either RepresentsStore) d (e ∷ []) b c
  first_broke broke = reads.broke (slot_write b.octets other 0 octets) as_store before (after ∷ []) d (e ∷ []) refl (λ t. first_laws.short erased.2 octets is) broke
