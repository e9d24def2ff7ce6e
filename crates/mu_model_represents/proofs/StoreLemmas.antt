-- The state of a store that octets represent, and what its banks hold.
use Rattle.std.proofs.Common.{◌≡◌, ◌⊎◌, ⊎_elim, ℕ, ◌+◌, ◌-◌, ◌*◌, ◌^◌, ◌<◌, ◌≤◌, min, true, Option, Some, None, List, [], ◌∷◌, ◌++◌, length, map, get_or, refl, sym, ◌∙◌, ap, subst, arith}
use Rattle.std.specs.Prelude.{slice_index_or}
use Rattle.std.specs.List.{concat}
use Rattle.std.proofs.lemmas.List.{get_or_past, get_or-map, length-map}
use Rattle.std.proofs.lemmas.List.FromFn.{length-map-range_with_len, get_or-map-range_with_len}
use Rattle.mu_model_image.specs.declared.Meta.{Meta}
use Rattle.mu_model_image.specs.Meta.{Image}
use Rattle.mu_model_image.specs.Pieces.{block_of, block_count, block_length, blocks_of}
use Rattle.mu_model_image.specs.Laws.{BlockHasItsLength, BlocksAreTheImage}
use Rattle.mu_model_flash.specs.Laws.{RangeLaws}
use Rattle.mu_model_record.specs.declared.Record.{Record}
use Rattle.mu_model_record.specs.declared.BankState.{BankState}
use Rattle.mu_model_record.specs.declared.BankState.TheVariants.{Empty, Filling, Sealed}
use Rattle.mu_model_record.specs.Record.{IsRecord, IsEntryInRange, entry_of, capacity_of}
use Rattle.mu_model_record.specs.Store.{Content, nothing, held, whole, StoreState, content_of_bank, pages_of, block_place, BlockLies, BankHolds}
use Rattle.mu_model_record.specs.Represents.{RepresentsStore}
use Rattle.mu_model_record.specs.ChangeLaws.{PlaceLaws}
use Rattle.mu_model_node.specs.declared.Parameters.{Parameters}
use Rattle.mu_model_node.specs.Slots.{at, is_full, joined}
use Rattle.mu_model_node.specs.Sound.{HaveLengths, AreBlocks, HasBlocks}
use Rattle.mu_model_represents.specs.BlobPart.{BlobJob, HasParameters, SpellsParameters, TakesBy, BankGoesWith, IsJobOf, blocks_by, held_by}
use Rattle.mu_model_represents.specs.Images.{HasImage, IsGoodImage, BankImageIsGood}
use Rattle.mu_model_represents.specs.StoreStates.{ContentOf, IsStoreState}

-- ---- the state of a store

block_ends : (size start next : ℕ) → start ≤ size → start + (min size next - start) ≤ size
block_ends size start next h = grind arith

module _ (ranges : RangeLaws) (places : PlaceLaws) where
  held_length : (r : Record) (b size log i : ℕ) (slot : Option (List ℕ)) (octets image : List ℕ) → b < r.number → size ≤ capacity_of r → i < block_count size log → length image ≡ 4096 * pages_of r
      → BlockLies r b size log i slot image → slot ≡ Some octets → length octets ≡ block_length size log i
  held_length r b size log i None octets image there room lt many lies is = absurd cc
  held_length r b size log i (Some x) octets image there room lt many lies is =
      let same : x ≡ octets = cc is in
      let bank = places.bank_within r b size there room in
      let begins = places.block_begins size log i lt in
      let ends = block_ends size (i * 2 ^ log) ((i + 1) * 2 ^ log) (omega arith) in
      let within : block_place r b log i + block_length size log i ≤ length image = omega (arith, bank, ends, many) in
      ap (length {A = ℕ}) (sym same ∙ sym lies.1) ∙ ranges.parts.length_part image (block_place r b log i) (block_length size log i) within

  bank_content : (r : Record) (b : ℕ) (entry : BankState) (content : Content) (image : List ℕ) → b < r.number → IsEntryInRange r entry → length image ≡ 4096 * pages_of r
      → BankHolds r b entry content image → ContentOf entry content
  bank_content r b Empty nothing image there range many h = tt
  bank_content r b Empty (held blocks) image there range many h = h
  bank_content r b Empty (whole octets) image there range many h = h
  bank_content r b (Filling size log) nothing image there range many h = h
  bank_content r b (Filling size log) (held blocks) image there range many h = (
    h.0,
    λ i octets is. ⊎_elim
        (λ lt. held_length r b size log i (slice_index_or blocks i None) octets image there range.1 (omega (arith, lt, h.0)) many (h.1 i (omega (arith, lt, h.0))) is)
        (λ ge. absurd (past i octets is ge))
        (either (length blocks) i),
  )
    where
      either : (n i : ℕ) → (i < n) ⊎ (n ≤ i)
      either n i = grind arith

      past : (i : ℕ) (octets : List ℕ) → slice_index_or blocks i None ≡ Some octets → length blocks ≤ i → ⊥
      past i octets is ge = let none : slice_index_or blocks i None ≡ None = get_or_past blocks i None ge in cc (is, none)
  bank_content r b (Filling size log) (whole octets) image there range many h = h
  bank_content r b (Sealed meta) nothing image there range many h = h
  bank_content r b (Sealed meta) (held blocks) image there range many h = h
  bank_content r b (Sealed meta) (whole octets) image there range many h = h.1

  pub a_state : (s : StoreState) (image : List ℕ) → RepresentsStore s image → IsStoreState s
  a_state s image h = let is = h.2 in record {
    in_range = is.in_range;
    as_many = is.as_many;
    contents = λ b lt. bank_content s.present b (entry_of s.present b) (content_of_bank s b) image lt (is.in_range.entries b lt) is.size (is.banks b lt);
  }

-- ---- banks that aren't Empty are there

pub bank_there : (r : Record) (b : ℕ) → IsRecord r → (entry_of r b ≡ Empty → ⊥) → b < r.number
bank_there r b range some = ⊎_elim (λ lt. lt) (λ ge. absurd (some (empty ge))) (either r.number b)
  where
    either : (n i : ℕ) → (i < n) ⊎ (n ≤ i)
    either n i = grind arith

    empty : r.number ≤ b → entry_of r b ≡ Empty
    empty ge = ⊎_elim (λ lt. range.not_there b ge lt) (λ past. get_or_past r.banks b Empty (omega (arith, range.four, past))) (either 4 b)

sealed_some : (b : BankState) (meta : Meta) → b ≡ Sealed meta → b ≡ Empty → ⊥
sealed_some b meta h g = cc (h, g)

-- an image of a bank is in the ranges and fits
pub good_image : (s : StoreState) (bank : ℕ) (x : Image) → IsStoreState s → HasImage s bank x → IsGoodImage (capacity_of s.present) x
good_image s bank x state has =
    let there = bank_there s.present bank state.in_range (sealed_some (entry_of s.present bank) x.meta has.entry) in
    let range : IsEntryInRange s.present (Sealed x.meta) = subst (λ (e : BankState). IsEntryInRange s.present e) has.entry (state.in_range.entries bank there) in
    let fits : ContentOf (Sealed x.meta) (content_of_bank s bank) = subst (λ (e : BankState). ContentOf e (content_of_bank s bank)) has.entry (state.contents bank there) in
    let fit : ContentOf (Sealed x.meta) (whole x.octets) = subst (λ (c : Content). ContentOf (Sealed x.meta) c) has.content fits in
    record { meta = range.0; active = record { some = range.0.some; room = range.1; fit = fit } }

pub bank_image : BankImageIsGood
bank_image s bank x state has = (bank_there s.present bank state.in_range (sealed_some (entry_of s.present bank) x.meta has.entry), good_image s bank x state has)

-- ---- an image cut in blocks

joined_all : (xss : List (List ℕ)) → joined (map Some xss) ≡ concat xss
joined_all [] = refl
joined_all (xs ∷ xss) = ap (λ (l : List ℕ). xs ++ l) (joined_all xss)

full_all : (xss : List (List ℕ)) → is_full (map Some xss) ≡ true
full_all [] = refl
full_all (xs ∷ xss) = full_all xss

pub cut_is_full : (octets : List ℕ) (log : ℕ) → is_full (map Some (blocks_of octets log)) ≡ true
cut_is_full octets log = full_all (blocks_of octets log)

pub cut_is_joined : BlocksAreTheImage → (octets : List ℕ) (log : ℕ) → joined (map Some (blocks_of octets log)) ≡ octets
cut_is_joined tiles octets log = joined_all (blocks_of octets log) ∙ tiles octets log

module _ (lengths : BlockHasItsLength) (octets : List ℕ) (log : ℕ) where
  cut_count : length (map Some (blocks_of octets log)) ≡ block_count (length octets) log
  cut_count = length-map (blocks_of octets log) Some ∙ length-map-range_with_len (block_of octets log) 0 (block_count (length octets) log)

  cut_lengths : HaveLengths (block_length (length octets) log) (map Some (blocks_of octets log))
  cut_lengths i x is = ⊎_elim
      (λ lt.
      let one : at (map Some (blocks_of octets log)) i ≡ Some (get_or (blocks_of octets log) i []) = get_or-map Some (blocks_of octets log) i [] None (omega (arith, lt, few)) in
      let block : get_or (blocks_of octets log) i [] ≡ block_of octets log i = get_or-map-range_with_len (block_of octets log) 0 (block_count (length octets) log) i i [] lt (omega arith) in
      let same : Some x ≡ Some (get_or (blocks_of octets log) i []) = sym is ∙ one in
      let it : x ≡ get_or (blocks_of octets log) i [] = cc same in
      ap (length {A = ℕ}) (it ∙ block) ∙ lengths octets log i)
      (λ ge. absurd (past ge))
      (either (block_count (length octets) log) i)
    where
      either : (n i : ℕ) → (i < n) ⊎ (n ≤ i)
      either n i = grind arith

      few : length (blocks_of octets log) ≡ block_count (length octets) log
      few = length-map-range_with_len (block_of octets log) 0 (block_count (length octets) log)

      past : block_count (length octets) log ≤ i → ⊥
      past ge = let none : at (map Some (blocks_of octets log)) i ≡ None = get_or_past (map Some (blocks_of octets log)) i None (omega (arith, cut_count, ge)) in cc (is, none)

-- ---- the blocks of a job

module _ (lengths : BlockHasItsLength) where
  blocks_good : (r : Record) (p : Parameters) (octets : List ℕ) (size : ℕ) (entry : BankState) (content : Content) → SpellsParameters size p octets → TakesBy p entry → IsEntryInRange r entry → ContentOf entry content
      → AreBlocks size p (blocks_by p.log content)
  blocks_good r p octets size Empty content spelled takes range has = absurd takes
  blocks_good r p octets size (Filling n log) nothing spelled takes range has = absurd has
  blocks_good r p octets size (Filling n log) (whole x) spelled takes range has = absurd has
  blocks_good r p octets size (Filling n log) (held slots) spelled takes range has = record {
    mode_above = spelled.mode_least;
    mode_below = spelled.mode_most;
    mtu_above = spelled.mtu_least;
    size = spelled.same_size;
    log_above = omega (arith, range.2, takes.1);
    log_below = omega (arith, range.3, takes.1);
    count = has.0 ∙ (λ i. block_count (takes.0 i) (takes.1 i));
    lengths = subst (λ (m : ℕ). HaveLengths (block_length p.size m) slots) takes.1 (subst (λ (m : ℕ). HaveLengths (block_length m log) slots) takes.0 has.1);
  }
  blocks_good r p octets size (Sealed meta) nothing spelled takes range has = absurd has
  blocks_good r p octets size (Sealed meta) (held slots) spelled takes range has = absurd has
  blocks_good r p octets size (Sealed meta) (whole x) spelled takes range has =
      let many : length x ≡ p.size = has.size ∙ takes.0 in
      record {
        mode_above = spelled.mode_least;
        mode_below = spelled.mode_most;
        mtu_above = spelled.mtu_least;
        size = spelled.same_size;
        log_above = takes.1;
        log_below = takes.2;
        count = cut_count lengths x p.log ∙ ap (λ (m : ℕ). block_count m p.log) many;
        lengths = subst (λ (m : ℕ). HaveLengths (block_length m p.log) (map Some (blocks_of x p.log))) many (cut_lengths lengths x p.log);
      }

  -- of a job that the rules let be
  pub job_blocks : (s : StoreState) (j : BlobJob) (octets : List ℕ) (parameters : Option Parameters) → IsStoreState s → j.parameters ≡ parameters → HasParameters j.size parameters octets → IsJobOf s.present j
      → HasBlocks j.size parameters (held_by parameters (content_of_bank s j.bank))
  job_blocks s j octets None state is spelled rules = refl
  job_blocks s j octets (Some p) state is spelled rules =
      let takes : TakesBy p (entry_of s.present j.bank) = takes_of j.parameters is rules.goes_with in
      blocks_good s.present p octets j.size (entry_of s.present j.bank) (content_of_bank s j.bank) spelled takes (state.in_range.entries j.bank rules.bank) (state.contents j.bank rules.bank)
    where
      takes_of : (q : Option Parameters) → q ≡ Some p → BankGoesWith s.present j.bank q → TakesBy p (entry_of s.present j.bank)
      takes_of None e h = absurd cc
      takes_of (Some q) e h = let same : q ≡ p = cc e in subst (λ (x : Parameters). TakesBy x (entry_of s.present j.bank)) same h
