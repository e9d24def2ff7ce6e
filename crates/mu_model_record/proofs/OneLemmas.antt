-- The present record, the state and what a boot finds are each one.
use Rattle.std.proofs.Common.{◌≡◌, ◌⊎◌, inl, inr, ⊎_elim, ℕ, ◌*◌, ◌<◌, Option, Some, None, List, refl, sym, ◌∙◌, ap, subst, arith}
use Rattle.std.specs.Prelude.{slice_index_or}
use Rattle.std.proofs.lemmas.List.{ext_get_or}
use Rattle.sha2.specs.Sha256.{sha256}
use Rattle.mu_model_image.specs.declared.Meta.{Meta}
use Rattle.mu_model_image.specs.Pieces.{block_count}
use Rattle.mu_model_record.specs.declared.Record.{Record}
use Rattle.mu_model_record.specs.declared.BankState.{BankState}
use Rattle.mu_model_record.specs.declared.BankState.TheVariants.{Empty, Filling, Sealed}
use Rattle.mu_model_record.specs.Page.{page_of, slot_in, Word, page_word, slot_word, IsWord}
use Rattle.mu_model_record.specs.Code.{content_of}
use Rattle.mu_model_record.specs.Record.{IsWordOf, entry_of}
use Rattle.mu_model_record.specs.Store.{Content, nothing, held, whole, StoreState, content_of_bank, pages_of, BlockLies, BankHolds}
use Rattle.mu_model_record.specs.Represents.{RepresentsAt}
use Rattle.mu_model_record.specs.Kinds.{slot_of_word, NotBefore, IsBehind, IsPresent, HasPresent, AreMarks, AreFitBelow, sealed_octets, IsBlank, IsForeign, other_word, other_size, other_mark, IsDamaged, IsStore}
use Rattle.mu_model_record.specs.StoreLaws.{Finding, blank, foreign, damaged, store, Finds}
use Rattle.mu_model_record.proofs.RecordLemmas.{word_once}
use Rattle.mu_model_record.proofs.KindLemmas.{is_present}

-- the words of a page that begin in one slot are one
same_word : (page : List ℕ) (w v : Word) → IsWord page w → IsWord page v → slot_of_word w ≡ slot_of_word v → w ≡ v
same_word page (page_word c) (page_word d) is is' same = ap page_word (is.3 ∙ sym is'.3)
same_word page (page_word c) (slot_word k d) is is' same = absurd (is'.1 is.1)
same_word page (slot_word k c) (page_word d) is is' same = absurd (is.1 is'.1)
same_word page (slot_word k c) (slot_word j d) is is' same =
    let content : c ≡ d = is.4 ∙ ap (λ (n : ℕ). content_of (slot_in page n)) same ∙ sym is'.4 in
    λ i. slot_word (same i) (content i)

-- two places of which neither is before the other
same_place : (p q : ℕ) (w v : Word) → NotBefore q v p w → NotBefore p w q v → (p ≡ q) × (slot_of_word w ≡ slot_of_word v)
same_place p q w v (inl less) (inl more) = absurd (omega (arith, less, more))
same_place p q w v (inl less) (inr same) = absurd (omega (arith, less, same.0))
same_place p q w v (inr same) (inl more) = absurd (omega (arith, more, same.0))
same_place p q w v (inr same) (inr again) = (again.0, omega (arith, same.1, again.1))

module _ (image : List ℕ) (p q : ℕ) (w v : Word) (r s : Record) (first : IsPresent image p w r) (second : IsPresent image q v s) where
  its : (IsBehind q v p w r.count) → (s.count < r.count) ⊎ ((s.count ≡ r.count) × NotBefore q v p w)
  its b =
      let same : b.0.count ≡ s.count = ap (λ (x : Record). x.count) (word_once v b.0 s b.2 second.in_range b.1 second.spells) in
      ⊎_elim (λ less. inl (omega (arith, less, same))) (λ equal. inr (omega (arith, equal.0, same), equal.1)) b.3

  mine : (IsBehind p w q v s.count) → (r.count < s.count) ⊎ ((r.count ≡ s.count) × NotBefore p w q v)
  mine b =
      let same : b.0.count ≡ r.count = ap (λ (x : Record). x.count) (word_once w b.0 r b.2 first.in_range b.1 first.spells) in
      ⊎_elim (λ less. inl (omega (arith, less, same))) (λ equal. inr (omega (arith, equal.0, same), equal.1)) b.3

  place : (s.count < r.count) ⊎ ((s.count ≡ r.count) × NotBefore q v p w) → (r.count < s.count) ⊎ ((r.count ≡ s.count) × NotBefore p w q v) → (p ≡ q) × (slot_of_word w ≡ slot_of_word v)
  place (inl less) (inl more) = absurd (omega (arith, less, more))
  place (inl less) (inr same) = absurd (omega (arith, less, same.0))
  place (inr same) (inl more) = absurd (omega (arith, more, same.0))
  place (inr same) (inr again) = same_place p q w v same.1 again.1

  pub present_one : (p ≡ q) × (w ≡ v) × (r ≡ s)
  present_one =
      let at = place (its (first.greatest q v second.there)) (mine (second.greatest p w first.there)) in
      let word : w ≡ v = same_word (page_of image p) w v first.there.there (subst (λ (n : ℕ). IsWord (page_of image n) v) (sym at.0) second.there.there) at.1 in
      (at.0, word, word_once v r s first.in_range second.in_range (subst (λ (x : Word). IsWordOf x r) word first.spells) second.spells)

pub has_one : (image : List ℕ) (r s : Record) → HasPresent image r → HasPresent image s → r ≡ s
has_one image r s first second = (present_one image first.page second.page first.word second.word r s first.is second.is).2

-- what a bank holds
block_one : (r : Record) (b size log i : ℕ) (o p : Option (List ℕ)) (image : List ℕ) → BlockLies r b size log i o image → BlockLies r b size log i p image → o ≡ p
block_one r b size log i None None image l m = refl
block_one r b size log i None (Some y) image l m = absurd (omega (arith, l, m.0))
block_one r b size log i (Some x) None image l m = absurd (omega (arith, l.0, m))
block_one r b size log i (Some x) (Some y) image l m = ap Some (sym l.1 ∙ m.1)

bank_one : (r : Record) (b : ℕ) (e : BankState) (k j : Content) (image : List ℕ) → BankHolds r b e k image → BankHolds r b e j image → k ≡ j
bank_one r b Empty nothing nothing image h g = refl
bank_one r b Empty nothing (held ys) image h g = absurd g
bank_one r b Empty nothing (whole y) image h g = absurd g
bank_one r b Empty (held xs) j image h g = absurd h
bank_one r b Empty (whole x) j image h g = absurd h
bank_one r b (Filling size log) nothing j image h g = absurd h
bank_one r b (Filling size log) (whole x) j image h g = absurd h
bank_one r b (Filling size log) (held xs) nothing image h g = absurd g
bank_one r b (Filling size log) (held xs) (whole y) image h g = absurd g
bank_one r b (Filling size log) (held xs) (held ys) image h g =
    ap held (ext_get_or None xs ys (h.0 ∙ sym g.0) (λ i lt.
    let low : i < block_count size log = omega (arith, lt, h.0) in
    block_one r b size log i (slice_index_or xs i None) (slice_index_or ys i None) image (h.1 i low) (g.1 i low)))
bank_one r b (Sealed meta) nothing j image h g = absurd h
bank_one r b (Sealed meta) (held xs) j image h g = absurd h
bank_one r b (Sealed meta) (whole x) nothing image h g = absurd g
bank_one r b (Sealed meta) (whole x) (held ys) image h g = absurd g
bank_one r b (Sealed meta) (whole x) (whole y) image h g = ap whole (sym h.0 ∙ g.0)

module _ (image : List ℕ) (d e : StoreState) (p q : ℕ) (w v : Word) (first : RepresentsAt p w d image) (second : RepresentsAt q v e image) where
  record_one : d.present ≡ e.present
  record_one = (present_one image p q w v d.present e.present (is_present p w d image first) (is_present q v e image second)).2

  second_banks : (b : ℕ) → b < d.present.number → BankHolds d.present b (entry_of d.present b) (content_of_bank e b) image
  second_banks = subst (λ (r : Record). (b : ℕ) → b < r.number → BankHolds r b (entry_of r b) (content_of_bank e b) image) (sym record_one) second.banks

  contents_one : d.contents ≡ e.contents
  contents_one =
      let number : d.present.number ≡ e.present.number = ap (λ (r : Record). r.number) record_one in
      ext_get_or nothing d.contents e.contents (first.as_many ∙ number ∙ sym second.as_many) (λ b lt.
      let there : b < d.present.number = omega (arith, lt, first.as_many) in
      bank_one d.present b (entry_of d.present b) (content_of_bank d b) (content_of_bank e b) image (first.banks b there) (second_banks b there))

  pub state_one : d ≡ e
  state_one = λ i. record { present = record_one i; contents = contents_one i }

-- what a boot finds
module _ (image : List ℕ) where
  some_word : (r : Record) → HasPresent image r → IsBlank image → ⊥
  some_word r has none = none has.page has.word has.is.there

  -- a flash with its pages, its marks and a present record isn't foreign
  not_foreign : (r : Record) → HasPresent image r → AreMarks r image → IsForeign image → ⊥
  not_foreign r has marks (other_word q v there not) = let b = has.is.greatest q v there in not (b.0, b.1, b.2)
  not_foreign r has marks (other_size p w s is differ) =
      differ (has.size ∙ ap (λ (x : Record). 4096 * pages_of x) (present_one image has.page p has.word w r s has.is is).2)
  not_foreign r has marks (other_mark s is not) = not (subst (λ (x : Record). AreMarks x image) (has_one image r s has is) marks)

  blank_or_foreign : IsBlank image → IsForeign image → ⊥
  blank_or_foreign none (other_word q v there not) = none q v there
  blank_or_foreign none (other_size p w s is differ) = none p w is.there
  blank_or_foreign none (other_mark s is not) = some_word s is none

  -- the lowest bank that isn't fit is one
  lowest : (r : Record) (a b : ℕ) (m n : Meta) → AreFitBelow a r image → AreFitBelow b r image → entry_of r a ≡ Sealed m → entry_of r b ≡ Sealed n
      → ((sha256 (sealed_octets r a m image) ≡ m.digest) → ⊥) → ((sha256 (sealed_octets r b n image) ≡ n.digest) → ⊥) → a ≡ b
  lowest r a b m n below under first second not_first not_second = ⊎_elim
      (λ less. absurd (not_first (under a m less first)))
      (λ rest. ⊎_elim (λ more. absurd (not_second (below b n more second))) (λ same. same) rest)
      (order a b)
    where
      order : (x y : ℕ) → (x < y) ⊎ ((y < x) ⊎ (x ≡ y))
      order x y = grind arith

  module _ (a b : ℕ) (want found want' found' : List ℕ) (first : IsDamaged image a want found) (second : IsDamaged image b want' found') where
    one_record : first.present ≡ second.present
    one_record = has_one image first.present second.present first.is_present second.is_present

    r : Record
    r = first.present

    second_entry : entry_of first.present b ≡ Sealed second.meta
    second_entry = ap (λ (x : Record). entry_of x b) one_record ∙ second.sealed_with

    second_found : found' ≡ sha256 (sealed_octets first.present b second.meta image)
    second_found = second.found_is ∙ ap (λ (x : Record). sha256 (sealed_octets x b second.meta image)) (sym one_record)

    bank_is : a ≡ b
    bank_is = lowest first.present a b first.meta second.meta first.lowest (subst (λ (x : Record). AreFitBelow b x image) (sym one_record) second.lowest) first.sealed_with second_entry
        (λ fit. first.differ (first.found_is ∙ fit ∙ sym first.want_is))
        (λ fit. second.differ (second_found ∙ fit ∙ sym second.want_is))

    meta_is : first.meta ≡ second.meta
    meta_is =
        let both : Sealed first.meta ≡ Sealed second.meta = sym first.sealed_with ∙ ap (λ (n : ℕ). entry_of first.present n) bank_is ∙ second_entry in
        cc both

    damage_one : damaged a want found ≡ damaged b want' found'
    damage_one =
        let wants : want ≡ want' = first.want_is ∙ ap (λ (m : Meta). m.digest) meta_is ∙ sym second.want_is in
        let founds : found ≡ found' = first.found_is ∙ (λ i. sha256 (sealed_octets first.present (bank_is i) (meta_is i) image)) ∙ sym second_found in
        λ i. damaged (bank_is i) (wants i) (founds i)

  -- a bank that is damaged is in no store
  whole_or_damaged : (s : Record) (bank : ℕ) (want found : List ℕ) → IsStore image s → IsDamaged image bank want found → ⊥
  whole_or_damaged s bank want found is d =
      let same : s ≡ d.present = has_one image s d.present is.is_present d.is_present in
      let fit : AreFitBelow d.present.number d.present image = subst (λ (x : Record). AreFitBelow x.number x image) same is.fit in
      d.differ (d.found_is ∙ fit bank d.meta d.there d.sealed_with ∙ sym d.want_is)

  pub found_one : (this that : Finding) → Finds image this → Finds image that → this ≡ that
  found_one blank blank f g = refl
  found_one blank foreign f g = absurd (blank_or_foreign f g)
  found_one blank (damaged b w x) f g = absurd (some_word g.present g.is_present f)
  found_one blank (store s) f g = absurd (some_word s g.is_present f)
  found_one foreign blank f g = absurd (blank_or_foreign g f)
  found_one foreign foreign f g = refl
  found_one foreign (damaged b w x) f g = absurd (not_foreign g.present g.is_present g.marks f)
  found_one foreign (store s) f g = absurd (not_foreign s g.is_present g.marks f)
  found_one (damaged b w x) blank f g = absurd (some_word f.present f.is_present g)
  found_one (damaged b w x) foreign f g = absurd (not_foreign f.present f.is_present f.marks g)
  found_one (damaged b w x) (damaged b' w' x') f g = damage_one b b' w x w' x' f g
  found_one (damaged b w x) (store s) f g = absurd (whole_or_damaged s b w x g f)
  found_one (store r) blank f g = absurd (some_word r f.is_present g)
  found_one (store r) foreign f g = absurd (not_foreign r f.is_present f.marks g)
  found_one (store r) (damaged b w x) f g = absurd (whole_or_damaged r b w x f g)
  found_one (store r) (store s) f g = ap store (has_one image r s f.is_present g.is_present)
