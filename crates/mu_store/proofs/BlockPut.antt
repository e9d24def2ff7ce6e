-- A block that is put.
use Rattle.std.proofs.Common.{◌≡◌, ◌⊎◌, inl, inr, ⊎_elim, ℕ, ◌+◌, ◌*◌, ◌^◌, ◌<◌, ◌≤◌, Bool, true, false, Option, Some, None, List, [], ◌∷◌, length, replicate, refl, sym, ◌∙◌, ap, subst, arith, get_or-set_other, get_or-set_same}
use Rattle.std.specs.Prelude.{slice_index, slice_index_or}
use Rattle.std.proofs.lemmas.Bool.{cases_eq}
use Rattle.std.proofs.Math.ListN.{set}
use Rattle.mu_model_image.specs.Pieces.{block_count, block_length, piece_count}
use Rattle.mu_model_flash.specs.Bits.{written, part_of, SameOutside}
use Rattle.mu_model_flash.specs.Flash.{Seen}
use Rattle.mu_model_flash.specs.Run.{either, Ran, Broke, last_of}
use Rattle.mu_model_flash.specs.Laws.{RunsJoin, RunsAreRead}
use Rattle.mu_model_record.specs.declared.Record.{Record}
use Rattle.mu_model_record.specs.declared.BankState.{BankState}
use Rattle.mu_model_record.specs.declared.BankState.TheVariants.{Empty, Filling, Sealed}
use Rattle.mu_model_record.specs.Turns.{before, after, MarkTurns}
use Rattle.mu_model_record.specs.Record.{IsRecord, IsEntryInRange, entry_of}
use Rattle.mu_model_record.specs.Store.{Content, nothing, held, whole, StoreState, content_of_bank, mark_place, bank_place, block_place, BankHolds}
use Rattle.mu_model_record.specs.Free.{IsFreeOf, IsFree}
use Rattle.mu_model_record.specs.Represents.{RepresentsAt, RepresentsStore}
use Rattle.mu_model_record.specs.Next.{block_steps}
use Rattle.mu_model_record.specs.Changes.{blocks_in, with_block}
use Rattle.std.proofs.lemmas.List.{replicate-append-replicate}
use Rattle.mu_model_record.specs.Ways.{as_store, mark_write, StateOf, reading_of}
use Rattle.mu_model_record.specs.ChangeLaws.{IsFillingBank}
use Rattle.mu_store.proofs.RunLemmas.{told_on, last_append, last_same}
use Rattle.mu_record.specs.Place.{HoldsAt}
use Rattle.mu_store.specs.Booted.{is_held}
use Rattle.mu_store.proofs.FillLemmas.{few_blocks}
use Rattle.mu_store.specs.Known.{Known}

-- a range within a free one
pub free_within : (d : StoreState) (p n at m : ℕ) → p ≤ at → at + m ≤ p + n → IsFree d p n → IsFree d at m
free_within d p n at m from to free b lt = less (entry_of d.present b) (content_of_bank d b) (free b lt)
  where
    part : (q k : ℕ) → (q + k ≤ p) ⊎ (p + n ≤ q) → (q + k ≤ at) ⊎ (at + m ≤ q)
    part q k (inl low) = inl (omega (arith, low, from))
    part q k (inr high) = inr (omega (arith, high, to))

    less : (e : BankState) (k : Content) → IsFreeOf d.present b e k p n → IsFreeOf d.present b e k at m
    less Empty k f = tt
    less (Filling s log) nothing f = tt
    less (Filling s log) (whole octets) f = tt
    less (Filling s log) (held blocks) f = (λ i i_lt. part (mark_place b i) 1 (f.0 i i_lt), λ i octets i_lt is. part (block_place d.present b log i) (block_length s log i) (f.1 i octets i_lt is))
    less (Sealed meta) k f = part (bank_place d.present b) meta.size f

-- the beginning of a free range
pub free_less : (d : StoreState) (at n m : ℕ) → m ≤ n → IsFree d at n → IsFree d at m
free_less d at n m le free = free_within d at n at m (omega arith) (omega (arith, le)) free

-- the same state, by two calls
pub two_ran : (d : StoreState) (n m : ℕ) (a b c : Seen) → RunsJoin StateOf reading_of a b c → Ran (either RepresentsStore) d (replicate n d) a b → Ran (either RepresentsStore) d (replicate m d) b c → Ran (either RepresentsStore) d (replicate (n + m) d) a c
two_ran d n m a b c join first second =
    subst (λ (l : List StoreState). Ran (either RepresentsStore) d l a c) (replicate-append-replicate n m d)
    (join.ran as_store d (replicate n d) (replicate m d) first (subst (λ (s : StoreState). Ran (either RepresentsStore) s (replicate m d) b c) (sym (last_same d n)) second))

pub two_broke : (d : StoreState) (n m : ℕ) (a b c : Seen) → RunsJoin StateOf reading_of a b c → Ran (either RepresentsStore) d (replicate n d) a b → Broke (either RepresentsStore) d (replicate m d) b c → Broke (either RepresentsStore) d (replicate (n + m) d) a c
two_broke d n m a b c join first second =
    subst (λ (l : List StoreState). Broke (either RepresentsStore) d l a c) (replicate-append-replicate n m d)
    (join.broke as_store d (replicate n d) (replicate m d) first (subst (λ (s : StoreState). Broke (either RepresentsStore) s (replicate m d) b c) (sym (last_same d n)) second))

pub last_block : (n : ℕ) (d e : StoreState) → last_of d (block_steps n d e) ≡ e
last_block n d e = last_append d (replicate (n + n) d) (e ∷ [])

-- a block has at most 16,384 octets
pub block_small : (size log i : ℕ) → 12 ≤ log → log ≤ 14 → block_length size log i ≤ 16384
block_small size log i least few =
    let next : (i + 1) * 2 ^ log ≡ i * 2 ^ log + 2 ^ log = omega arith in
    omega (arith, next, power)
  where
    split : (l : ℕ) → 12 ≤ l → l ≤ 14 → (l ≡ 12) ⊎ ((l ≡ 13) ⊎ (l ≡ 14))
    split l ge le = grind arith

    power : 2 ^ log ≤ 16384
    power = ⊎_elim (λ is. subst (λ (l : ℕ). 2 ^ l ≤ 16384) (sym is) (omega arith)) (λ more. ⊎_elim (λ is. subst (λ (l : ℕ). 2 ^ l ≤ 16384) (sym is) (omega arith)) (λ is. subst (λ (l : ℕ). 2 ^ l ≤ 16384) (sym is) (omega arith)) more) (split log least few)

-- the range of the entry of a bank that is Filling
pub filling_range : (r : Record) (bank size log : ℕ) → IsRecord r → bank < r.number → entry_of r bank ≡ Filling size log → (0 < size) × (size ≤ 4096 * r.pages) × (12 ≤ log) × (log ≤ 14)
filling_range r bank size log sound there is = subst (λ (e : BankState). IsEntryInRange r e) is (sound.entries bank there)

module _ (known : Known) where
  pub few_of : (r : Record) (bank size log : ℕ) → IsRecord r → bank < r.number → entry_of r bank ≡ Filling size log → block_count size log ≤ 256
  few_of r bank size log sound there is =
      let range = filling_range r bank size log sound there is in
      (few_blocks known) size log (omega (arith, range.1, sound.pages_most)) range.2 range.3

-- a bank that is being filled has a place for each block
module _ (d : StoreState) (fields : Record) (is : d.present ≡ fields) (bank size log : ℕ) (there : bank < fields.number) (entry : entry_of fields bank ≡ Filling size log) (blocks : List (Option (List ℕ))) (content : content_of_bank d bank ≡ held blocks) (a : Seen) (page fresh : ℕ) (holds : HoldsAt a page fresh d) where
  pub blocks_long : length blocks ≡ block_count size log
  blocks_long =
      let there_d : bank < d.present.number = subst (λ (r : Record). bank < r.number) (sym is) there in
      let entry_d : entry_of d.present bank ≡ Filling size log = ap (λ (r : Record). entry_of r bank) is ∙ entry in
      (subst (λ (k : Content). BankHolds d.present bank (Filling size log) k a.octets) content (subst (λ (e : BankState). BankHolds d.present bank e (content_of_bank d bank) a.octets) entry_d (holds.represents.banks bank there_d))).0

module _ (known : Known) (d : StoreState) (fields : Record) (is : d.present ≡ fields) (bank size log : ℕ) (there : bank < fields.number) (entry : entry_of fields bank ≡ Filling size log) (blocks : List (Option (List ℕ))) (content : content_of_bank d bank ≡ held blocks) (i : ℕ) (lt : i < block_count size log) where
  pub there_d : bank < d.present.number
  there_d = subst (λ (r : Record). bank < r.number) (sym is) there

  pub entry_d : entry_of d.present bank ≡ Filling size log
  entry_d = ap (λ (r : Record). entry_of r bank) is ∙ entry

  pub place_d : block_place d.present bank log i ≡ block_place fields bank log i
  place_d = ap (λ (r : Record). block_place r bank log i) is

  module _ (a : Seen) (page fresh : ℕ) (holds : HoldsAt a page fresh d) where
    is_filling : IsFillingBank page holds.word d a.octets bank size log blocks
    is_filling = record { represents = holds.represents; there = there_d; entry = entry_d; content = content }

    pub put_free : (flags : List Bool) → slice_index_or flags i false ≡ false → slice_index_or flags i false ≡ is_held (slice_index_or blocks i None) → (at len : ℕ) → at ≡ block_place fields bank log i → len ≡ block_length size log i → IsFree d at (4096 * piece_count len 4096)
    put_free flags free flag at len at_is len_is =
        subst (λ (n : ℕ). IsFree d n (4096 * piece_count len 4096)) (place_d ∙ sym at_is)
        (subst (λ (n : ℕ). IsFree d (block_place d.present bank log i) (4096 * piece_count n 4096)) (sym len_is)
        (known.blocks.free page holds.word d a.octets bank size log blocks is_filling i lt (λ octets some. cc (some, free, flag, ap is_held some))))

    module _ (octets : List ℕ) (at : ℕ) (at_is : at ≡ block_place fields bank log i) (len_is : length octets ≡ block_length size log i) (lies : part_of a.octets at (length octets) ≡ octets) (b : Seen) (reads : RunsAreRead StateOf reading_of a b) where
      lies_d : part_of a.octets (block_place d.present bank log i) (block_length size log i) ≡ octets
      lies_d = ap (λ (n : ℕ). part_of a.octets n (block_length size log i)) (place_d ∙ sym at_is) ∙ ap (λ (n : ℕ). part_of a.octets at n) (sym len_is) ∙ lies

      pub mark_ran : Ran (either (MarkTurns a.octets (mark_place bank i))) before (after ∷ []) a b → Ran (either RepresentsStore) d (with_block d bank i octets ∷ []) a b × HoldsAt b page fresh (with_block d bank i octets)
      mark_ran ran = (
        reads.ran (mark_write a.octets (mark_place bank i)) as_store before (after ∷ []) d (with_block d bank i octets ∷ []) refl (λ told. known.blocks.reads page holds.word d a.octets bank size log blocks is_filling i lt octets lies_d) ran,
        record {
          told = told_on a b ran.keeps holds.told;
          on = ran.on;
          word = holds.word;
          represents = subst (λ (x : List ℕ). RepresentsAt page holds.word (with_block d bank i octets) x) (sym (ran.ends holds.told)) (known.blocks.represents page holds.word d a.octets bank size log blocks is_filling i lt octets lies_d);
          is_before = holds.is_before;
        },
      )

      pub mark_broke : Broke (either (MarkTurns a.octets (mark_place bank i))) before (after ∷ []) a b → Broke (either RepresentsStore) d (with_block d bank i octets ∷ []) a b
      mark_broke broke = reads.broke (mark_write a.octets (mark_place bank i)) as_store before (after ∷ []) d (with_block d bank i octets ∷ []) refl (λ told. known.blocks.reads page holds.word d a.octets bank size log blocks is_filling i lt octets lies_d) broke

    pub put_content : (octets : List ℕ) → content_of_bank (with_block d bank i octets) bank ≡ held (set blocks i (Some octets))
    put_content octets =
        get_or-set_same d.contents bank (held (set (blocks_in (content_of_bank d bank)) i (Some octets))) nothing (omega (arith, there_d, holds.represents.as_many))
        ∙ ap (λ (k : Content). held (set (blocks_in k) i (Some octets))) content

    pub put_flags : (flags : List Bool) (octets : List ℕ) → length flags ≡ 256 → block_count size log ≤ 256 → length blocks ≡ block_count size log → ((j : ℕ) → j < block_count size log → slice_index_or flags j false ≡ is_held (slice_index_or blocks j None))
        → (j : ℕ) → j < block_count size log → slice_index_or (set flags i true) j false ≡ is_held (slice_index_or (set blocks i (Some octets)) j None)
    put_flags flags octets many few long flag j j_lt = ⊎_elim
        (λ same.
        subst (λ (k : ℕ). slice_index_or (set flags i true) k false ≡ is_held (slice_index_or (set blocks i (Some octets)) k None)) (sym same)
        (get_or-set_same flags i true false (omega (arith, lt, few, many)) ∙ sym (ap is_held (get_or-set_same blocks i (Some octets) None (omega (arith, lt, long))))))
        (λ other. get_or-set_other flags i j true false other ∙ flag j j_lt ∙ sym (ap is_held (get_or-set_other blocks i j (Some octets) None other)))
        (cases_eq j i)

-- the flags of marks that are unset
module _ (known : Known) where
  pub unset_then : (old mid new : List ℕ) (flags : List Bool) (bank i at n count : ℕ) → length flags ≡ 256 → i < 256 → mark_place bank i + 1 ≤ length mid → new ≡ written mid (mark_place bank i) (254 ∷ []) → SameOutside at n old mid → ((j : ℕ) → j < count → mark_place bank j < at)
      → ((j : ℕ) → j < count → slice_index_or flags j false ≡ false → slice_index old (mark_place bank j) ≡ 255)
      → (j : ℕ) → j < count → slice_index_or (set flags i true) j false ≡ false → slice_index new (mark_place bank j) ≡ 255
  unset_then old mid new flags bank i at n count many low within is out apart unset j lt flag = ⊎_elim
      (λ same.
      let set_is : slice_index_or (set flags i true) j false ≡ true = ap (λ (k : ℕ). slice_index_or (set flags i true) k false) same ∙ get_or-set_same flags i true false (omega (arith, low, many)) in
      absurd (cc (set_is, flag)))
      (λ other.
      let w : SameOutside (mark_place bank i) 1 mid new = subst (λ (x : List ℕ). SameOutside (mark_place bank i) 1 mid x) (sym is) (known.ranges.writes.outside_written mid (mark_place bank i) 1 within (254 ∷ []) refl) in
      ⊎_elim (λ below. w.before (mark_place bank j) (omega (arith, below))) (λ above. w.after (mark_place bank j) (omega (arith, above))) (split j i other)
      ∙ out.before (mark_place bank j) (apart j lt) ∙ unset j lt (sym (get_or-set_other flags i j true false other) ∙ flag))
      (cases_eq j i)
    where
      split : (a b : ℕ) → (a ≡ b → ⊥) → (a < b) ⊎ (b < a)
      split a b ne = grind arith
