-- The states that the calls on a store give are the next ones.
use Rattle.std.proofs.Common.{◌*◌, replicate, ◌≡◌, ◌⊎◌, inl, inr, ⊎_elim, ℕ, suc, zero, ◌+◌, ◌^◌, ◌<◌, ◌≤◌, Bool, true, false, List, [], ◌∷◌, length, refl, sym, ◌∙◌, subst, arith, get_or-set_other, get_or-set_same}
use Rattle.std.specs.Prelude.{slice_index_or}
use Rattle.std.proofs.lemmas.List.{length-replicate}
use Rattle.std.proofs.lemmas.Bool.{cases_eq}
use Rattle.std.proofs.Math.ListN.{set, length-set}
use Rattle.mu_model_flash.specs.Bits.{AreOctets, SameOutside}
use Rattle.mu_model_record.specs.declared.Record.{Record}
use Rattle.mu_model_record.specs.declared.BankState.{BankState}
use Rattle.mu_model_record.specs.declared.BankState.TheVariants.{Empty, Filling, Sealed}
use Rattle.mu_model_record.specs.Page.{Word}
use Rattle.mu_model_record.specs.Record.{IsRecord, IsEntryInRange, IsFilling, entry_of}
use Rattle.mu_model_record.specs.Store.{Content, nothing, held, whole, StoreState, content_of_bank, pages_of, BankHolds}
use Rattle.mu_model_record.specs.Represents.{ControlPages, RepresentsAt}
use Rattle.mu_model_record.specs.Next.{IsNext}
use Rattle.mu_model_record.specs.Changes.{first_record, first_state, next_record, tagged, with_bank, cleared, released}
use Rattle.mu_model_record.proofs.FrameLemmas.{banks_same}
use Rattle.mu_model_flash.specs.Laws.{RangeLaws}

module _ (r : Record) (tag : List ℕ) (sound : IsRecord r) (next : r.count + 1 < 2 ^ 32) (size : length tag ≡ 1792) (small : AreOctets tag) where
  pub tagged_record : IsRecord (next_record r r.banks tag)
  tagged_record = record {
    number_least = sound.number_least;
    number_most = sound.number_most;
    pages_least = sound.pages_least;
    pages_most = sound.pages_most;
    count_least = omega arith;
    count_most = next;
    four = sound.four;
    entries = λ b lt. same_range (entry_of r b) (sound.entries b lt);
    not_there = sound.not_there;
    one_filling = sound.one_filling;
    tag_size = size;
    tag_octets = small;
  }
    where
      same_range : (entry : BankState) → IsEntryInRange r entry → IsEntryInRange (next_record r r.banks tag) entry
      same_range Empty range = tt
      same_range (Filling s log) range = range
      same_range (Sealed meta) range = range

  -- with another entry of one bank
  module _ (b : ℕ) (entry : BankState) (there : b < r.number) (range : IsEntryInRange r entry) (alone : IsFilling entry → (a : ℕ) → IsFilling (entry_of r a) → a ≡ b) where
    entries : List BankState
    entries = set r.banks b entry

    there_length : b < length r.banks
    there_length = omega (arith, there, sound.number_most, sound.four)

    here : slice_index_or (set r.banks b entry) b Empty ≡ entry
    here = get_or-set_same r.banks b entry Empty there_length

    elsewhere : (a : ℕ) → (a ≡ b → ⊥) → slice_index_or (set r.banks b entry) a Empty ≡ entry_of r a
    elsewhere a other = get_or-set_other r.banks b a entry Empty other

    in_range : (e : BankState) → IsEntryInRange r e → IsEntryInRange (next_record r (set r.banks b entry) tag) e
    in_range Empty fits = tt
    in_range (Filling s log) fits = fits
    in_range (Sealed meta) fits = fits

    at : (P : ℕ → BankState → Type 0) → P b entry → ((a : ℕ) → (a ≡ b → ⊥) → P a (entry_of r a)) → (a : ℕ) → P a (slice_index_or (set r.banks b entry) a Empty)
    at P p q a = ⊎_elim
        (λ is. subst (λ (n : ℕ). P n (slice_index_or (set r.banks b entry) n Empty)) (sym is) (subst (λ (e : BankState). P b e) (sym here) p))
        (λ other. subst (λ (e : BankState). P a e) (sym (elsewhere a other)) (q a other))
        (cases_eq a b)

    pub bank_record : IsRecord (next_record r (set r.banks b entry) tag)
    bank_record = record {
      number_least = sound.number_least;
      number_most = sound.number_most;
      pages_least = sound.pages_least;
      pages_most = sound.pages_most;
      count_least = omega arith;
      count_most = next;
      four = length-set r.banks b entry ∙ sound.four;
      entries = at (λ a e. a < r.number → IsEntryInRange (next_record r (set r.banks b entry) tag) e) (λ lt. in_range entry range) (λ a other lt. in_range (entry_of r a) (sound.entries a lt));
      not_there = at (λ a e. r.number ≤ a → a < 4 → e ≡ Empty) (λ le lt. absurd (omega (arith, le, there))) (λ a other le lt. sound.not_there a le lt);
      one_filling = at (λ a e. (c : ℕ) → IsFilling e → IsFilling (slice_index_or (set r.banks b entry) c Empty) → a ≡ c)
          (λ c f. at (λ d e. IsFilling e → b ≡ d) (λ g. refl) (λ d other g. sym (alone f d g)) c)
          (λ a other c f. at (λ d e. IsFilling e → a ≡ d) (λ g. alone g a f) (λ d differ g. sound.one_filling a d f g) c);
      tag_size = size;
      tag_octets = small;
    }

-- named ones are replaced
pub cleared_at : {X : Type 0} (none : X) (named : List Bool) (xs : List X) (b : ℕ) → (slice_index_or (cleared none named xs) b none ≡ slice_index_or xs b none) ⊎ (slice_index_or (cleared none named xs) b none ≡ none)
cleared_at none [] xs b = inl refl
cleared_at none (n ∷ named) [] b = inl refl
cleared_at none (true ∷ named) (x ∷ xs) zero = inr refl
cleared_at none (false ∷ named) (x ∷ xs) zero = inl refl
cleared_at none (true ∷ named) (x ∷ xs) (suc b) = cleared_at none named xs b
cleared_at none (false ∷ named) (x ∷ xs) (suc b) = cleared_at none named xs b

-- the same ones of both lists
pub cleared_both : {X Y : Type 0} (none : X) (gone : Y) (named : List Bool) (xs : List X) (ys : List Y) (b : ℕ) → b < length xs → b < length ys
    → ((slice_index_or (cleared none named xs) b none ≡ slice_index_or xs b none) × (slice_index_or (cleared gone named ys) b gone ≡ slice_index_or ys b gone))
    ⊎ ((slice_index_or (cleared none named xs) b none ≡ none) × (slice_index_or (cleared gone named ys) b gone ≡ gone))
cleared_both none gone [] xs ys b lt lt' = inl (refl, refl)
cleared_both none gone (n ∷ named) [] ys b lt lt' = absurd (omega (arith, lt))
cleared_both none gone (n ∷ named) (x ∷ xs) [] b lt lt' = absurd (omega (arith, lt'))
cleared_both none gone (true ∷ named) (x ∷ xs) (y ∷ ys) zero lt lt' = inr (refl, refl)
cleared_both none gone (false ∷ named) (x ∷ xs) (y ∷ ys) zero lt lt' = inl (refl, refl)
cleared_both none gone (true ∷ named) (x ∷ xs) (y ∷ ys) (suc b) lt lt' = cleared_both none gone named xs ys b (omega (arith, lt)) (omega (arith, lt'))
cleared_both none gone (false ∷ named) (x ∷ xs) (y ∷ ys) (suc b) lt lt' = cleared_both none gone named xs ys b (omega (arith, lt)) (omega (arith, lt'))

pub length-cleared : {X : Type 0} (none : X) (named : List Bool) (xs : List X) → length (cleared none named xs) ≡ length xs
length-cleared none [] xs = refl
length-cleared none (n ∷ named) [] = refl
length-cleared none (true ∷ named) (x ∷ xs) = let more = length-cleared none named xs in omega (arith, more)
length-cleared none (false ∷ named) (x ∷ xs) = let more = length-cleared none named xs in omega (arith, more)

module _ (r : Record) (tag : List ℕ) (sound : IsRecord r) (next : r.count + 1 < 2 ^ 32) (size : length tag ≡ 1792) (small : AreOctets tag) (named : List Bool) where
  kept : (P : BankState → Type 0) (b : ℕ) → P Empty → P (entry_of r b) → P (slice_index_or (cleared Empty named r.banks) b Empty)
  kept P b e p = ⊎_elim (λ same. subst P (sym same) p) (λ gone. subst P (sym gone) e) (cleared_at Empty named r.banks b)

  pub released_record : IsRecord (next_record r (cleared Empty named r.banks) tag)
  released_record = record {
    number_least = sound.number_least;
    number_most = sound.number_most;
    pages_least = sound.pages_least;
    pages_most = sound.pages_most;
    count_least = omega arith;
    count_most = next;
    four = length-cleared Empty named r.banks ∙ sound.four;
    entries = λ b lt. kept (λ e. IsEntryInRange (next_record r (cleared Empty named r.banks) tag) e) b tt (in_range (entry_of r b) (sound.entries b lt));
    not_there = λ b le lt. kept (λ e. e ≡ Empty) b refl (sound.not_there b le lt);
    one_filling = λ a b fa fb. sound.one_filling a b
        (kept (λ e. IsFilling e → IsFilling (entry_of r a)) a (λ never. absurd never) (λ f. f) fa)
        (kept (λ e. IsFilling e → IsFilling (entry_of r b)) b (λ never. absurd never) (λ f. f) fb);
    tag_size = size;
    tag_octets = small;
  }
    where
      in_range : (e : BankState) → IsEntryInRange r e → IsEntryInRange (next_record r (cleared Empty named r.banks) tag) e
      in_range Empty fits = tt
      in_range (Filling s log) fits = fits
      in_range (Sealed meta) fits = fits

-- what a bank holds doesn't depend on the count, the entries of others or the tag
pub next_bank : (r : Record) (entries : List BankState) (tag : List ℕ) (b : ℕ) (e : BankState) (k : Content) (image : List ℕ) → BankHolds r b e k image → BankHolds (next_record r entries tag) b e k image
next_bank r others tag b Empty nothing image h = tt
next_bank r others tag b Empty (held blocks) image h = absurd h
next_bank r others tag b Empty (whole octets) image h = absurd h
next_bank r others tag b (Filling s log) nothing image h = absurd h
next_bank r others tag b (Filling s log) (held blocks) image h = h
next_bank r others tag b (Filling s log) (whole octets) image h = absurd h
next_bank r others tag b (Sealed meta) nothing image h = absurd h
next_bank r others tag b (Sealed meta) (held blocks) image h = absurd h
next_bank r others tag b (Sealed meta) (whole octets) image h = h

module _ (ranges : RangeLaws) (page : ℕ) (word : Word) (d : StoreState) (old : List ℕ) (at : RepresentsAt page word d old) where
  banks_then : (image : List ℕ) → SameOutside 0 8192 old image → (b : ℕ) → b < d.present.number → BankHolds d.present b (entry_of d.present b) (content_of_bank d b) image
  banks_then image out = (banks_same ranges) d.present (content_of_bank d) old image at.in_range at.size out at.banks

  pub tagged_next : (tag : List ℕ) → IsRecord (next_record d.present d.present.banks tag) → IsNext old d (tagged d tag)
  tagged_next tag sound = record {
    counted = refl;
    number = refl;
    pages = refl;
    in_range = sound;
    as_many = at.as_many;
    banks = λ image out b lt. next_bank d.present d.present.banks tag b (entry_of d.present b) (content_of_bank d b) image (banks_then image out b lt);
  }

  -- one bank says and holds something else
  module _ (b : ℕ) (entry : BankState) (content : Content) (tag : List ℕ) (there : b < d.present.number) where
    four : b < length d.present.banks
    four = omega (arith, there, at.in_range.number_most, at.in_range.four)

    there_too : b < length d.contents
    there_too = omega (arith, there, at.as_many)

    pub bank_next : IsRecord (next_record d.present (set d.present.banks b entry) tag) → ((image : List ℕ) → SameOutside 0 8192 old image → BankHolds d.present b entry content image) → IsNext old d (with_bank d b entry content tag)
    bank_next sound holds = record {
      counted = refl;
      number = refl;
      pages = refl;
      in_range = sound;
      as_many = length-set d.contents b content ∙ at.as_many;
      banks = λ image out a lt. ⊎_elim
          (λ is. subst (λ (n : ℕ). BankHolds (next_record d.present (set d.present.banks b entry) tag) n (slice_index_or (set d.present.banks b entry) n Empty) (slice_index_or (set d.contents b content) n nothing) image) (sym is) (here image out))
          (λ other. elsewhere image out a lt other)
          (cases_eq a b);
    }
      where
        from : (image : List ℕ) (a : ℕ) (e : BankState) (k : Content) → slice_index_or (set d.present.banks b entry) a Empty ≡ e → slice_index_or (set d.contents b content) a nothing ≡ k → BankHolds d.present a e k image → (BankHolds (next_record d.present (set d.present.banks b entry) tag) a (slice_index_or (set d.present.banks b entry) a Empty) (slice_index_or (set d.contents b content) a nothing) image)
        from image a e k e_is k_is h =
            subst (λ (x : BankState). BankHolds (next_record d.present (set d.present.banks b entry) tag) a x (slice_index_or (set d.contents b content) a nothing) image) (sym e_is)
            (subst (λ (x : Content). BankHolds (next_record d.present (set d.present.banks b entry) tag) a e x image) (sym k_is) (next_bank d.present (set d.present.banks b entry) tag a e k image h))

        here : (image : List ℕ) → SameOutside 0 8192 old image → (BankHolds (next_record d.present (set d.present.banks b entry) tag) b (slice_index_or (set d.present.banks b entry) b Empty) (slice_index_or (set d.contents b content) b nothing) image)
        here image out = from image b entry content (get_or-set_same d.present.banks b entry Empty four) (get_or-set_same d.contents b content nothing there_too) (holds image out)

        elsewhere : (image : List ℕ) → SameOutside 0 8192 old image → (a : ℕ) → a < d.present.number → (a ≡ b → ⊥) → (BankHolds (next_record d.present (set d.present.banks b entry) tag) a (slice_index_or (set d.present.banks b entry) a Empty) (slice_index_or (set d.contents b content) a nothing) image)
        elsewhere image out a lt other =
            from image a (entry_of d.present a) (content_of_bank d a) (get_or-set_other d.present.banks b a entry Empty other) (get_or-set_other d.contents b a content nothing other) (banks_then image out a lt)

  -- the named banks are Empty
  pub released_next : (named : List Bool) (tag : List ℕ) → IsRecord (next_record d.present (cleared Empty named d.present.banks) tag) → IsNext old d (released d named tag)
  released_next named tag sound = record {
    counted = refl;
    number = refl;
    pages = refl;
    in_range = sound;
    as_many = length-cleared nothing named d.contents ∙ at.as_many;
    banks = λ image out b lt. each image b lt (banks_then image out b lt)
        (cleared_both Empty nothing named d.present.banks d.contents b (omega (arith, lt, at.in_range.number_most, at.in_range.four)) (omega (arith, lt, at.as_many)));
  }
    where
      each : (image : List ℕ) (b : ℕ) → b < d.present.number → BankHolds d.present b (entry_of d.present b) (content_of_bank d b) image
          → ((slice_index_or (cleared Empty named d.present.banks) b Empty ≡ entry_of d.present b) × (slice_index_or (cleared nothing named d.contents) b nothing ≡ content_of_bank d b))
          ⊎ ((slice_index_or (cleared Empty named d.present.banks) b Empty ≡ Empty) × (slice_index_or (cleared nothing named d.contents) b nothing ≡ nothing))
          → BankHolds (next_record d.present (cleared Empty named d.present.banks) tag) b (slice_index_or (cleared Empty named d.present.banks) b Empty) (slice_index_or (cleared nothing named d.contents) b nothing) image
      each image b lt h (inl same) =
          subst (λ (e : BankState). BankHolds (next_record d.present (cleared Empty named d.present.banks) tag) b e (slice_index_or (cleared nothing named d.contents) b nothing) image) (sym same.0)
          (subst (λ (k : Content). BankHolds (next_record d.present (cleared Empty named d.present.banks) tag) b (entry_of d.present b) k image) (sym same.1)
          (next_bank d.present (cleared Empty named d.present.banks) tag b (entry_of d.present b) (content_of_bank d b) image h))
      each image b lt h (inr gone) =
          subst (λ (e : BankState). BankHolds (next_record d.present (cleared Empty named d.present.banks) tag) b e (slice_index_or (cleared nothing named d.contents) b nothing) image) (sym gone.0)
          (subst (λ (k : Content). BankHolds (next_record d.present (cleared Empty named d.present.banks) tag) b Empty k image) (sym gone.1) tt)

-- record 1
no_entry : (b : ℕ) → slice_index_or (Empty ∷ Empty ∷ Empty ∷ Empty ∷ []) b Empty ≡ Empty
no_entry zero = refl
no_entry (suc zero) = refl
no_entry (suc (suc zero)) = refl
no_entry (suc (suc (suc zero))) = refl
no_entry (suc (suc (suc (suc b)))) = refl

no_content : (n b : ℕ) → slice_index_or (replicate n nothing) b nothing ≡ nothing
no_content zero b = refl
no_content (suc n) zero = refl
no_content (suc n) (suc b) = no_content n b

pub first_is_record : (banks pages : ℕ) (tag : List ℕ) → 2 ≤ banks → banks ≤ 4 → 1 ≤ pages → pages ≤ 256 → length tag ≡ 1792 → AreOctets tag → IsRecord (first_record banks pages tag)
first_is_record banks pages tag least most some few size small = record {
  number_least = least;
  number_most = most;
  pages_least = some;
  pages_most = few;
  count_least = omega arith;
  count_most = omega arith;
  four = refl;
  entries = λ b lt. subst (λ (e : BankState). IsEntryInRange (first_record banks pages tag) e) (sym (no_entry b)) tt;
  not_there = λ b le lt. no_entry b;
  one_filling = λ a b fa fb. absurd (subst (λ (e : BankState). IsFilling e) (no_entry a) fa);
  tag_size = size;
  tag_octets = small;
}

pub first_rests : (banks pages : ℕ) (tag : List ℕ) (b : ℕ) → ¬ IsFilling (entry_of (first_record banks pages tag) b)
first_rests banks pages tag b filling = subst (λ (e : BankState). IsFilling e) (no_entry b) filling

pub first_represents : (banks pages : ℕ) (tag : List ℕ) (word : Word) (image : List ℕ) → IsRecord (first_record banks pages tag) → length image ≡ 4096 * pages_of (first_record banks pages tag) → ControlPages 0 word (first_record banks pages tag) image
    → RepresentsAt 0 word (first_state banks pages tag) image
first_represents banks pages tag word image sound size control = record {
  size = size;
  in_range = sound;
  control = control;
  as_many = length-replicate banks nothing;
  banks = λ b lt. subst (λ (e : BankState). BankHolds (first_record banks pages tag) b e (slice_index_or (replicate banks nothing) b nothing) image) (sym (no_entry b))
      (subst (λ (k : Content). BankHolds (first_record banks pages tag) b Empty k image) (sym (no_content banks b)) tt);
}
