-- A bank that is sealed.
use Rattle.std.proofs.Common.{◌≡◌, ⊎_elim, get_or-set_same, get_or-set_other, ℕ, ◌+◌, ◌^◌, ◌<◌, ◌≤◌, true, Option, None, List, [], ◌∷◌, zero, suc, length, refl, sym, ◌∙◌, ap, subst, arith}
use Rattle.std.specs.Prelude.{slice_index_or}
use Rattle.std.specs.List.{All}
use Rattle.std.proofs.lemmas.Bool.{cases_eq}
use Rattle.std.proofs.Math.ListN.{set}
use Rattle.mu_model_flash.specs.Bits.{AreOctets, part_of}
use Rattle.mu_model_flash.specs.Flash.{Seen}
use Rattle.mu_model_image.specs.declared.Meta.{Meta}
use Rattle.mu_model_image.specs.Meta.{IsMeta, IsFit}
use Rattle.mu_model_image.specs.Pieces.{block_count}
use Rattle.mu_model_record.specs.declared.Record.{Record}
use Rattle.mu_model_record.specs.declared.BankState.{BankState}
use Rattle.mu_model_record.specs.declared.BankState.TheVariants.{Empty, Filling, Sealed}
use Rattle.mu_model_record.specs.Record.{IsRecord, IsFilling, IsEntryInRange, entry_of, capacity_of}
use Rattle.mu_model_record.specs.Store.{Content, held, whole, StoreState, content_of_bank, bank_place, BankHolds}
use Rattle.mu_model_record.specs.Next.{IsNext}
use Rattle.mu_model_record.specs.Changes.{next_record, sealed_up, joined}
use Rattle.mu_record.specs.Place.{HoldsAt}
use Rattle.mu_store.specs.Booted.{is_held}
use Rattle.mu_store.specs.Known.{Known}

-- octets, at any default
pub all_octets : (xs : List ℕ) → AreOctets xs → All (λ octet. octet < 256) xs
all_octets xs small k d lt = subst (λ (n : ℕ). n < 256) (get_or-any xs k 0 d lt) (small k)
  where
    get_or-any : (xs : List ℕ) (k a b : ℕ) → k < length xs → slice_index_or xs k a ≡ slice_index_or xs k b
    get_or-any [] k a b lt = absurd (omega (arith, lt))
    get_or-any (x ∷ xs) zero a b lt = refl
    get_or-any (x ∷ xs) (suc k) a b lt = get_or-any xs k a b (omega (arith, lt))

module _ (known : Known) (a : Seen) (page fresh : ℕ) (d : StoreState) (holds : HoldsAt a page fresh d) (fields : Record) (is : d.present ≡ fields) (bank size log : ℕ) (there : bank < fields.number) (entry : entry_of fields bank ≡ Filling size log) (blocks : List (Option (List ℕ))) (content : content_of_bank d bank ≡ held blocks) (all : (i : ℕ) → i < block_count size log → is_held (slice_index_or blocks i None) ≡ true) where
  there_d : bank < d.present.number
  there_d = subst (λ (r : Record). bank < r.number) (sym is) there

  entry_d : entry_of d.present bank ≡ Filling size log
  entry_d = subst (λ (r : Record). entry_of r bank ≡ Filling size log) (sym is) entry

  joined_in : (image : List ℕ) → ((b : ℕ) → b < d.present.number → BankHolds d.present b (entry_of d.present b) (content_of_bank d b) image) → part_of image (bank_place d.present bank) size ≡ joined blocks
  joined_in image banks =
      let h = subst (λ (k : Content). BankHolds d.present bank (Filling size log) k image) content (subst (λ (e : BankState). BankHolds d.present bank e (content_of_bank d bank) image) entry_d (banks bank there_d)) in
      known.blocks.joined_lie d.present bank size log image blocks h.0 h.1 (λ i lt none. absurd (cc (sym (ap is_held none) ∙ all i lt)))

  -- what lies in the bank
  pub joined_now : part_of a.octets (bank_place fields bank) size ≡ joined blocks
  joined_now = subst (λ (r : Record). part_of a.octets (bank_place r bank) size ≡ joined blocks) is (joined_in a.octets holds.represents.banks)

  module _ (not_last : fields.count ≡ 4294967295 → ⊥) (tag : List ℕ) (tag_size : length tag ≡ 1792) (small : AreOctets tag) (meta : Meta) (range : IsMeta meta) (fit : IsFit (joined blocks) meta) (same : meta.size ≡ size) (most : size ≤ capacity_of fields) where
    sound : IsRecord d.present
    sound = holds.represents.in_range

    not_worn : d.present.count + 1 < 2 ^ 32
    not_worn = omega (arith, ap (λ (r : Record). r.count) is, not_last, sound.count_most)

    most_d : meta.size ≤ capacity_of d.present
    most_d = subst (λ (r : Record). meta.size ≤ capacity_of r) (sym is) (subst (λ (n : ℕ). n ≤ capacity_of fields) (sym same) most)

    pub sealed_then : IsNext a.octets d (sealed_up d bank meta (joined blocks) tag)
    sealed_then = known.states.banked page holds.word d a.octets holds.represents bank (Sealed meta) (whole (joined blocks)) tag there_d
        (known.records.banked d.present tag sound not_worn (tag_size, small) bank (Sealed meta) there_d (range, most_d) (λ never. absurd never))
        (λ image out. (
          subst (λ (n : ℕ). part_of image (bank_place d.present bank) n ≡ joined blocks) (sym same) (joined_in image (known.places.banks_same d.present (content_of_bank d) a.octets image sound holds.represents.size out holds.represents.banks)),
          fit,
        ))

module _ (known : Known) (r : Record) (sound : IsRecord r) (bank size log : ℕ) (there : bank < r.number) (entry : entry_of r bank ≡ Filling size log) (meta : Meta) where
  four : bank < length r.banks
  four = omega (arith, there, sound.number_most, sound.four)

  -- no other bank is being filled
  pub sealed_rests : (b : ℕ) → ¬ IsFilling (slice_index_or (set r.banks bank (Sealed meta)) b Empty)
  sealed_rests b filling = ⊎_elim
      (λ same. subst (λ (e : BankState). IsFilling e) (get_or-set_same r.banks bank (Sealed meta) Empty four) (subst (λ (n : ℕ). IsFilling (slice_index_or (set r.banks bank (Sealed meta)) n Empty)) same filling))
      (λ other. other (sound.one_filling b bank (subst (λ (e : BankState). IsFilling e) (get_or-set_other r.banks bank b (Sealed meta) Empty other) filling) (subst (λ (e : BankState). IsFilling e) (sym entry) tt)))
      (cases_eq b bank)

  pub most : size ≤ capacity_of r
  most = (subst (λ (e : BankState). IsEntryInRange r e) entry (sound.entries bank there)).1

  pub some : 0 < size
  some = (subst (λ (e : BankState). IsEntryInRange r e) entry (sound.entries bank there)).0

  pub sealed_record : (tag : List ℕ) → r.count + 1 < 2 ^ 32 → length tag ≡ 1792 → AreOctets tag → IsMeta meta → meta.size ≡ size → IsRecord (next_record r (set r.banks bank (Sealed meta)) tag)
  sealed_record tag not_worn tag_size small range same = known.records.banked r tag sound not_worn (tag_size, small) bank (Sealed meta) there (range, subst (λ (n : ℕ). n ≤ capacity_of r) (sym same) most) (λ never. absurd never)
