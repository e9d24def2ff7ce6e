-- States that are kept.
use Rattle.std.proofs.Common.{◌≡◌, ◌⊎◌, inl, inr, ◌∙◌, ◌<◌, ◌≤◌, ℕ, Bool, true, false, Option, List, length, set, get_or, Some, None, refl, sym, ap, subst, arith}
use Rattle.std.specs.Prelude.{◌≢◌}
use Rattle.std.proofs.Math.ListN.{length-set}
use Rattle.std.proofs.lemmas.List.{length-replicate, get_or-replicate, get_or-set_other, get_or_past}
use Rattle.std.proofs.lemmas.Grind.{get_or-set_at}
use Rattle.std.proofs.lemmas.Bool.{cases_lt}
use Rattle.mu_model_image.specs.declared.Meta.{Meta}
use Rattle.mu_model_image.specs.Pieces.{block_count, block_length}
use Rattle.mu_model_record.specs.declared.BankState.{BankState}
use Rattle.mu_model_record.specs.declared.BankState.TheVariants.{Empty, Filling, Sealed}
use Rattle.mu_model_record.specs.Record.{entry_of, IsFilling}
use Rattle.mu_model_record.specs.Store.{Content, nothing, held, whole, StoreState, content_of_bank}
use Rattle.mu_model_record.specs.Changes.{tagged, with_bank, begun, emptied, sealed_up, released, with_block, cleared, blocks_in}
use Rattle.mu_model_record.specs.ChangeLaws.{IsTag, IsNotLast, NextRecordLaws}
use Rattle.mu_model_node.specs.Slots.{Slots, empty, at}
use Rattle.mu_model_node.specs.Sound.{HaveLengths}
use Rattle.mu_model_represents.specs.StoreStates.{ContentOf, IsStoreState}
use Rattle.mu_model_jobs.specs.States.{TakesEntry, CanBegin, CanSeal, CanPut}
use Rattle.mu_model_jobs.proofs.Places.{same_or_other, entry_here, content_here, entry_other, content_other, cleared_same, cleared_none, length-cleared}

-- what a bank holds goes with its entry
both : (e f : BankState) (c k : Content) → e ≡ f → c ≡ k → ContentOf f k → ContentOf e c
both e f c k p q h = subst (λ (x : BankState). ContentOf x c) (sym p) (subst (λ (y : Content). ContentOf f y) (sym q) h)

-- of an empty place
never_at : (v : Option (List ℕ)) (octets : List ℕ) → v ≡ None → v ≡ Some octets → ⊥
never_at v octets none some = cc

never_held : (n i : ℕ) (octets : List ℕ) → at (empty n) i ≡ Some octets → ⊥
never_held n i octets e = elim (cases_lt i n) [
  | inl lt ↦ never_at (at (empty n) i) octets (get_or-replicate n i None None lt) e
  | inr past ↦ never_at (at (empty n) i) octets (get_or_past (empty n) i None (omega (arith, length-replicate {A = Option (List ℕ)} n None))) e
]

module _ (law : NextRecordLaws) where
  pub tagged_state : (s : StoreState) (tag : List ℕ) → IsStoreState s → IsNotLast s.present → IsTag tag → IsStoreState (tagged s tag)
  tagged_state s tag is last a_tag = record { in_range = law.tagged s.present tag is.in_range last a_tag; as_many = is.as_many; contents = is.contents }

  pub bank_state : (s : StoreState) (bank : ℕ) (entry : BankState) (content : Content) (tag : List ℕ) → IsStoreState s → IsNotLast s.present → IsTag tag
      → TakesEntry s bank entry content → IsStoreState (with_bank s bank entry content tag)
  bank_state s bank entry content tag is last a_tag takes = record {
    in_range = law.banked s.present tag is.in_range last a_tag bank entry takes.there takes.in_range takes.alone;
    as_many = length-set s.contents bank content ∙ is.as_many;
    contents = λ b lt. elim (same_or_other b bank) [
      | inl e ↦ both _ entry _ content (entry_here s bank b entry content tag is takes.there e) (content_here s bank b entry content tag is takes.there e) takes.holds
      | inr ne ↦ both _ (entry_of s.present b) _ (content_of_bank s b) (entry_other s bank b entry content tag ne) (content_other s bank b entry content tag ne) (is.contents b lt)
    ];
  }

  pub begun_state : (s : StoreState) (bank size log : ℕ) (tag : List ℕ) → IsStoreState s → IsNotLast s.present → IsTag tag → CanBegin s bank size log
      → IsStoreState (begun s bank size log tag)
  begun_state s bank size log tag is last a_tag can =
      bank_state s bank (Filling size log) (held (empty (block_count size log))) tag is last a_tag
      (record {
        there = can.there;
        in_range = (can.size_least, can.size_most, can.log_least, can.log_most);
        alone = λ f a filling. can.alone a filling;
        holds = (length-replicate (block_count size log) None, λ i octets e. absurd (never_held (block_count size log) i octets e));
      })

  pub emptied_state : (s : StoreState) (bank : ℕ) (tag : List ℕ) → IsStoreState s → IsNotLast s.present → IsTag tag → bank < s.present.number
      → IsStoreState (emptied s bank tag)
  emptied_state s bank tag is last a_tag there =
      bank_state s bank Empty nothing tag is last a_tag (record { there = there; in_range = tt; alone = λ f. absurd f; holds = tt })

  pub sealed_state : (s : StoreState) (bank : ℕ) (meta : Meta) (octets tag : List ℕ) → IsStoreState s → IsNotLast s.present → IsTag tag → CanSeal s bank meta octets
      → IsStoreState (sealed_up s bank meta octets tag)
  sealed_state s bank meta octets tag is last a_tag can =
      bank_state s bank (Sealed meta) (whole octets) tag is last a_tag (record { there = can.there; in_range = (can.ranges, can.room); alone = λ f. absurd f; holds = can.fit })

  pub released_state : (s : StoreState) (named : List Bool) (tag : List ℕ) → IsStoreState s → IsNotLast s.present → IsTag tag → IsStoreState (released s named tag)
  released_state s named tag is last a_tag = record {
    in_range = law.released s.present tag is.in_range last a_tag named;
    as_many = length-cleared nothing named s.contents ∙ is.as_many;
    contents = λ b lt. by_named b lt (get_or named b false) refl;
  }
    where
      by_named : (b : ℕ) → b < s.present.number → (n : Bool) → get_or named b false ≡ n
          → ContentOf (get_or (cleared Empty named s.present.banks) b Empty) (get_or (cleared nothing named s.contents) b nothing)
      by_named b lt true e = both _ Empty _ nothing (cleared_none Empty named s.present.banks b e) (cleared_none nothing named s.contents b e) tt
      by_named b lt false e = both _ (entry_of s.present b) _ (content_of_bank s b) (cleared_same Empty named s.present.banks b e) (cleared_same nothing named s.contents b e) (is.contents b lt)

-- ---- a block

more_lengths : (size log i : ℕ) (blocks : Slots) (octets : List ℕ) → i < length blocks → length octets ≡ block_length size log i → HaveLengths (block_length size log) blocks
    → HaveLengths (block_length size log) (set blocks i (Some octets))
more_lengths size log i blocks octets lt long lengths k piece e = elim (same_or_other k i) [
  | inl same ↦
      let here : Some octets ≡ Some piece = sym (get_or-set_at blocks i k (Some octets) None same lt) ∙ e in
      let is : octets ≡ piece = cc in
      ap (length {A = ℕ}) (sym is) ∙ long ∙ ap (block_length size log) (sym same)
  | inr ne ↦ lengths k piece (sym (get_or-set_other blocks i k (Some octets) None ne) ∙ e)
]

pub filling_content : (size log : ℕ) (blocks : Slots) (e : BankState) (c : Content) → e ≡ Filling size log → c ≡ held blocks → ContentOf e c
    → (length blocks ≡ block_count size log) × HaveLengths (block_length size log) blocks
filling_content size log blocks e c p q h = both (Filling size log) e (held blocks) c (sym p) (sym q) h

pub block_state : (s : StoreState) (bank i : ℕ) (octets : List ℕ) → IsStoreState s → CanPut s bank i octets → IsStoreState (with_block s bank i octets)
block_state s bank i octets is can =
    let old : Slots = blocks_in (content_of_bank s bank) in
    let same : old ≡ can.blocks = ap blocks_in can.content in
    let was = filling_content can.size can.log can.blocks (entry_of s.present bank) (content_of_bank s bank) can.entry can.content (is.contents bank can.there) in
    let now : (length (set can.blocks i (Some octets)) ≡ block_count can.size can.log) × HaveLengths (block_length can.size can.log) (set can.blocks i (Some octets)) =
    (length-set can.blocks i (Some octets) ∙ was.0, more_lengths can.size can.log i can.blocks octets (omega (arith, was.0, can.within)) can.long was.1) in
    record {
      in_range = is.in_range;
      as_many = length-set s.contents bank (held (set old i (Some octets))) ∙ is.as_many;
      contents = λ b lt. elim (same_or_other b bank) [
        | inl e ↦ both _ (Filling can.size can.log) _ (held (set can.blocks i (Some octets))) (ap (entry_of s.present) e ∙ can.entry)
            (get_or-set_at s.contents bank b (held (set old i (Some octets))) nothing e (omega (arith, is.as_many, can.there)) ∙ ap (λ (x : Slots). held (set x i (Some octets))) same) now
        | inr ne ↦ both _ (entry_of s.present b) _ (content_of_bank s b) refl (get_or-set_other s.contents bank b (held (set old i (Some octets))) nothing ne) (is.contents b lt)
      ];
    }
