-- What a flash holds, read as a whole.
use Rattle.std.proofs.Common.{◌≡◌, ◌⊎◌, inl, inr, ⊎_elim, ℕ, ◌*◌, ◌<◌, Bool, true, false, IsTrue, Option, Some, None, List, length, refl, sym, ◌∙◌, ap, subst, arith}
use Rattle.std.specs.Prelude.{MatchOption, slice_index, slice_index_or}
use Rattle.mu_model_image.specs.Pieces.{block_count}
use Rattle.mu_model_flash.specs.Flash.{Seen, Unchanged}
use Rattle.mu_model_record.specs.declared.Record.{Record}
use Rattle.mu_model_record.specs.declared.BankState.{BankState}
use Rattle.mu_model_record.specs.declared.BankState.TheVariants.{Filling}
use Rattle.mu_model_record.specs.Page.{Word}
use Rattle.mu_model_record.specs.Record.{IsRecord, IsFilling, entry_of}
use Rattle.mu_model_record.specs.Store.{Content, nothing, held, whole, StoreState, content_of_bank, pages_of, mark_place, BlockLies, BankHolds}
use Rattle.mu_model_record.specs.Represents.{RepresentsAt}
use Rattle.mu_model_record.specs.Kinds.{IsPresent, AreMarks, AreFitBelow, IsForeign, other_word, IsDamaged}
use Rattle.mu_record.specs.Found.{HasOther}
use Rattle.mu_record.specs.Place.{HoldsAt}
use Rattle.mu_store.specs.declared.digest.Damage.{Damage}
use Rattle.mu_store.specs.declared.judge.Marks.{Marks}
use Rattle.mu_store.specs.Marks.{MarkIs, AreHeld, HasOtherMark}
use Rattle.mu_store.specs.Damage.{IsDamage}
use Rattle.mu_store.specs.Judged.{AreMarksOf, IsWhole}
use Rattle.mu_store.specs.Booted.{is_held}
use Rattle.mu_store.specs.Known.{Known}

pub match_none : {T : Type 0} (A : Type 0) (B : T → Type 0) (o : Option T) → MatchOption o A B → o ≡ None → A
match_none A B None m is = m
match_none A B (Some t) m is = absurd (cc is)

-- marks
pub no_marks : (r : Record) (image : List ℕ) → ((b : ℕ) → ¬ IsFilling (entry_of r b)) → AreMarks r image
no_marks r image rests b size log lt is = absurd (rests b (subst (λ (e : BankState). IsFilling e) (sym is) tt))

pub other_marks : (r : Record) (image : List ℕ) (b size log : ℕ) → b < r.number → entry_of r b ≡ Filling size log → HasOtherMark b (block_count size log) image → ¬ AreMarks r image
other_marks r image b size log lt is other marks = ⊎_elim other.2 other.3 (marks b size log lt is other.0 other.1)

one_mark : (flag : Bool) (octet : ℕ) → MarkIs flag octet → (octet ≡ 0xFF) ⊎ (octet ≡ 0xFE)
one_mark true octet is = inr is
one_mark false octet is = inl is

pub held_marks : (r : Record) (image : List ℕ) (b size log : ℕ) (flags : List Bool) → IsRecord r → entry_of r b ≡ Filling size log → AreHeld b (block_count size log) flags image → AreMarks r image
held_marks r image b size log flags sound is marks a size' log' lt is' i i_lt =
    let fa : IsFilling (entry_of r a) = subst (λ (e : BankState). IsFilling e) (sym is') tt in
    let fb : IsFilling (entry_of r b) = subst (λ (e : BankState). IsFilling e) (sym is) tt in
    let same : a ≡ b = sound.one_filling a b fa fb in
    let both : Filling size' log' ≡ Filling size log = sym is' ∙ ap (λ (n : ℕ). entry_of r n) same ∙ is in
    let size_is : size' ≡ size = cc both in
    let log_is : log' ≡ log = cc both in
    let low : i < block_count size log = subst (λ (n : ℕ). i < block_count n log) size_is (subst (λ (n : ℕ). i < block_count size' n) log_is i_lt) in
    subst (λ (n : ℕ). (slice_index image (mark_place n i) ≡ 0xFF) ⊎ (slice_index image (mark_place n i) ≡ 0xFE)) (sym same) (one_mark (slice_index_or flags i false) (slice_index image (mark_place b i)) (marks i low))

pub is_damaged : (image : List ℕ) (page : ℕ) (r : Record) (damage : Damage) → ((word : Word) × IsPresent image page word r) → length image ≡ 4096 * pages_of r → AreMarks r image → IsDamage r damage image → IsDamaged image damage.bank damage.want damage.found
is_damaged image page r damage present size marks d = record {
  present = r;
  is_present = record { page = page; word = present.0; is = present.1; size = size };
  marks = marks;
  there = d.there;
  meta = d.meta;
  sealed_with = d.sealed_with;
  want_is = d.want_is;
  found_is = d.found_is;
  differ = d.differ;
  lowest = d.lowest;
}

pub is_whole : (image : List ℕ) (page : ℕ) (r : Record) (marks : Option Marks) → ((word : Word) × IsPresent image page word r) → length image ≡ 4096 * pages_of r → AreMarks r image → AreMarksOf marks image → AreFitBelow r.number r image → IsWhole image page r marks
is_whole image page r marks present size are of fit = record {
  word = present.0;
  is = present.1;
  store = record { is_present = record { page = page; word = present.0; is = present.1; size = size }; marks = are; fit = fit };
  marks_are = of;
}

pub is_other : (image : List ℕ) → HasOther image → IsForeign image
is_other image has = other_word has.0 has.1 has.2 has.3

-- what is held of a state
module _ (known : Known) (page p : ℕ) (word : Word) (d : StoreState) (a : Seen) (r : Record) (marks : Option Marks) (at : RepresentsAt p word d a.octets) (is : IsWhole a.octets page r marks) (b : Seen) (same : Unchanged a b) (told : IsTrue a.told) (on : a.off ≡ false) where
  once : (page ≡ p) × (is.word ≡ word) × (r ≡ d.present)
  once = known.present a.octets page p is.word word r d.present is.is (known.represented p word d a.octets at)

  pub fields_are : d.present ≡ r
  fields_are = sym once.2

  pub held_at : HoldsAt b page 0 d
  held_at = record {
    told = subst (λ (x : Bool). IsTrue x) (sym same.told) told;
    on = same.off ∙ on;
    word = word;
    represents = subst (λ (o : List ℕ). RepresentsAt page word d o) (sym (same.octets told)) (subst (λ (n : ℕ). RepresentsAt n word d a.octets) (sym once.0) at);
    is_before = λ some. absurd (omega (arith, some));
  }

module _ (p : ℕ) (word : Word) (d : StoreState) (image : List ℕ) (at : RepresentsAt p word d image) (b size log : ℕ) (flags : List Bool) (there : b < d.present.number) (entry : entry_of d.present b ≡ Filling size log) (marks : AreHeld b (block_count size log) flags image) where
  filling : BankHolds d.present b (Filling size log) (content_of_bank d b) image
  filling = subst (λ (e : BankState). BankHolds d.present b e (content_of_bank d b) image) entry (at.banks b there)

  blocks_of : (content : Content) → content_of_bank d b ≡ content → BankHolds d.present b (Filling size log) content image
      → (blocks : List (Option (List ℕ))) × (content_of_bank d b ≡ held blocks) × ((i : ℕ) → i < block_count size log → slice_index_or flags i false ≡ is_held (slice_index_or blocks i None))
  blocks_of nothing is holds = absurd holds
  blocks_of (whole octets) is holds = absurd holds
  blocks_of (held blocks) is holds = (blocks, is, λ i lt. one (slice_index_or flags i false) (slice_index_or blocks i None) (slice_index image (mark_place b i)) (marks i lt) (mark (slice_index_or blocks i None) i (holds.1 i lt)))
    where
      mark : (block : Option (List ℕ)) (i : ℕ) → BlockLies d.present b size log i block image → MarkIs (is_held block) (slice_index image (mark_place b i))
      mark None i lies = lies
      mark (Some octets) i lies = lies.0

      one : (flag : Bool) (block : Option (List ℕ)) (octet : ℕ) → MarkIs flag octet → MarkIs (is_held block) octet → flag ≡ is_held block
      one true None octet m n = absurd (omega (arith, m, n))
      one false None octet m n = refl
      one true (Some x) octet m n = refl
      one false (Some x) octet m n = absurd (omega (arith, m, n))

  pub held_blocks : (blocks : List (Option (List ℕ))) × (content_of_bank d b ≡ held blocks) × ((i : ℕ) → i < block_count size log → slice_index_or flags i false ≡ is_held (slice_index_or blocks i None))
  held_blocks = blocks_of (content_of_bank d b) refl filling
