-- A bank that is hashed and then sealed or given up.
use Rattle.std.proofs.Common.{◌≡◌, cond, ℕ, ◌*◌, ◌<◌, ◌≤◌, Bool, true, false, IsTrue, Option, None, List, length, refl, sym, ◌∙◌, ap, subst, arith}
use Rattle.std.specs.Prelude.{slice_index_or}
use Rattle.std.proofs.Math.ListN.{set}
use Rattle.sha2.specs.Sha256.{sha256}
use Rattle.mu_model_flash.specs.Bits.{AreOctets, part_of}
use Rattle.mu_model_flash.specs.Flash.{Seen, IsSound, Unchanged}
use Rattle.mu_model_image.specs.declared.Meta.{Meta}
use Rattle.mu_model_image.specs.Meta.{IsMeta, IsFit, is_fit}
use Rattle.mu_model_image.specs.Laws.{FitIsTested}
use Rattle.mu_model_image.specs.Pieces.{block_count}
use Rattle.mu_model_record.specs.declared.Record.{Record}
use Rattle.mu_model_record.specs.declared.BankState.TheVariants.{Filling as Fills, Sealed}
use Rattle.mu_model_record.specs.Record.{entry_of, capacity_of}
use Rattle.mu_model_record.specs.Store.{Content, held, StoreState, content_of_bank, bank_place, pages_of}
use Rattle.mu_model_record.specs.Next.{IsNext, record_steps}
use Rattle.mu_model_record.specs.Changes.{next_record, joined, blocks_in, sealed_up, emptied, sealed_or_not}
use Rattle.mu_record.specs.declared.write.Place.{Place}
use Rattle.mu_record.specs.Place.{HoldsAt}
use Rattle.mu_store.specs.declared.filling.Filling.{Filling}
use Rattle.mu_store.specs.Booted.{is_held, FillingHolds}
use Rattle.mu_store.specs.FillingView.{IsSameFilling}
use Rattle.mu_store.specs.Sealed.{HasDigest}
use Rattle.mu_store.proofs.HashLemmas.{read_holds}
use Rattle.mu_store.proofs.SealLemmas.{joined_now, sealed_then}
use Rattle.mu_store.proofs.PartLemmas.{length-part}
use Rattle.mu_store.specs.Known.{Known}

-- the state stays
pub hashed_holds : {F : Type 0} {g : _} (seen : F → Seen) (old new : Filling F g) → IsSound (seen old.base.flash) → Unchanged (seen old.base.flash) (seen new.base.flash) → IsSameFilling old new
    → (d : StoreState) → FillingHolds seen old d → FillingHolds seen new d
hashed_holds seen old new sound unchanged same d holds = record {
  base = record {
    at = subst (λ (p : Place). HoldsAt (seen new.base.flash) p.page p.fresh d) (sym same.place) (read_holds (seen old.base.flash) (seen new.base.flash) sound unchanged old.base.place.page old.base.place.fresh d holds.base.at);
    fields = holds.base.fields ∙ sym same.fields;
  };
  blocks = holds.blocks;
  content = ap (λ (b : ℕ). content_of_bank d b) same.bank ∙ holds.content;
  flags = λ i lt.
      let low : i < block_count old.size old.log = subst (λ (n : ℕ). i < block_count n old.log) same.size (subst (λ (n : ℕ). i < block_count new.size n) same.log lt) in
      ap (λ (l : List Bool). slice_index_or l i false) same.flags ∙ holds.flags i low;
}

-- the same steps
pub steps_are : (n m : ℕ) → n ≡ m → (d e f : StoreState) → f ≡ e → record_steps n d e ≡ record_steps m d f
steps_are n m same d e f is = ap (λ (k : ℕ). record_steps k d e) same ∙ ap (λ (x : StoreState). record_steps m d x) (sym is)

not_true : (b : Bool) → (b ≡ true → ⊥) → b ≡ false
not_true true never = absurd (never refl)
not_true false never = refl

module _ (known : Known) (a : Seen) (page fresh : ℕ) (d : StoreState) (holds : HoldsAt a page fresh d) (fields : Record) (is : d.present ≡ fields) (bank size log : ℕ) (there : bank < fields.number) (entry : entry_of fields bank ≡ Fills size log) (blocks : List (Option (List ℕ))) (content : content_of_bank d bank ≡ held blocks) (all : (i : ℕ) → i < block_count size log → is_held (slice_index_or blocks i None) ≡ true) (most : size ≤ capacity_of fields) (meta : Meta) where
  lies : part_of a.octets (bank_place fields bank) size ≡ joined blocks
  lies = (joined_now known) a page fresh d holds fields is bank size log there entry blocks content all

  long : length (joined blocks) ≡ size
  long =
      let within = known.places.bank_within fields bank size there most in
      let pages : length a.octets ≡ 4096 * pages_of fields = subst (λ (r : Record). length a.octets ≡ 4096 * pages_of r) is holds.represents.size in
      ap (λ (l : List ℕ). length l) (sym lies) ∙ length-part a.octets (bank_place fields bank) size (omega (arith, within, pages))

  blocks_are : joined (blocks_in (content_of_bank d bank)) ≡ joined blocks
  blocks_are = ap (λ (k : Content). joined (blocks_in k)) content

  -- the octets fit exactly where they have the size and the digest
  pub fits : HasDigest fields bank size meta a.octets → IsFit (joined blocks) meta
  fits has = record { size = long ∙ has.0; digest = ap sha256 (sym lies) ∙ has.1 }

  has_digest : IsFit (joined blocks) meta → HasDigest fields bank size meta a.octets
  has_digest fit = (sym long ∙ fit.size, ap sha256 lies ∙ fit.digest)

  -- the record that says so can be written
  pub next_then : (b : Seen) → Unchanged a b → (fields.count ≡ 4294967295 → ⊥) → (tag : List ℕ) → length tag ≡ 1792 → AreOctets tag → IsMeta meta → HasDigest fields bank size meta a.octets → IsNext b.octets d (sealed_up d bank meta (joined blocks) tag)
  next_then b same not_last tag tag_size small range has =
      subst (λ (o : List ℕ). IsNext o d (sealed_up d bank meta (joined blocks) tag)) (sym (same.octets holds.told))
      ((sealed_then known) a page fresh d holds fields is bank size log there entry blocks content all not_last tag tag_size small meta range (fits has) (sym has.0) most)

  pub present_then : (now : Record) → now ≡ fields → (n : ℕ) → n ≡ bank → (tag : List ℕ) → (sealed_up d bank meta (joined blocks) tag).present ≡ next_record now (set now.banks n (Sealed meta)) tag
  present_then now now_is n n_is tag = ap (λ (r : Record). next_record r (set r.banks bank (Sealed meta)) tag) (is ∙ sym now_is) ∙ ap (λ (m : ℕ). next_record now (set now.banks m (Sealed meta)) tag) (sym n_is)

  module _ (tested : FitIsTested) where
    pub test_true : HasDigest fields bank size meta a.octets → is_fit (joined (blocks_in (content_of_bank d bank))) meta ≡ true
    test_true has = ap (λ (l : List ℕ). is_fit l meta) blocks_are ∙ (tested (joined blocks) meta).1 (fits has)

    pub test_false : (HasDigest fields bank size meta a.octets → ⊥) → is_fit (joined (blocks_in (content_of_bank d bank))) meta ≡ false
    test_false never = not_true (is_fit (joined (blocks_in (content_of_bank d bank))) meta)
        (λ yes. never (has_digest ((tested (joined blocks) meta).0 (sym (ap (λ (l : List ℕ). is_fit l meta) blocks_are) ∙ yes))))

    -- the state after it
    pub sealed_where : (fit unfit : List ℕ) → HasDigest fields bank size meta a.octets → sealed_or_not d bank meta fit unfit ≡ sealed_up d bank meta (joined blocks) fit
    sealed_where fit unfit has =
        ap (λ (b : Bool). cond b (sealed_up d bank meta (joined (blocks_in (content_of_bank d bank))) fit) (emptied d bank unfit)) (test_true has)
        ∙ ap (λ (l : List ℕ). sealed_up d bank meta l fit) blocks_are

    pub emptied_where : (fit unfit : List ℕ) → (HasDigest fields bank size meta a.octets → ⊥) → sealed_or_not d bank meta fit unfit ≡ emptied d bank unfit
    emptied_where fit unfit never =
        ap (λ (b : Bool). cond b (sealed_up d bank meta (joined (blocks_in (content_of_bank d bank))) fit) (emptied d bank unfit)) (test_false never)

-- the octets of a bank, whatever the flash represents
module _ (known : Known) (a : Seen) (sound : IsSound a) (told : IsTrue a.told) (fields : Record) (pages : a.pages ≡ pages_of fields) (bank size : ℕ) (there : bank < fields.number) (most : size ≤ capacity_of fields) (meta : Meta) (tested : FitIsTested) where
  octets_long : length (part_of a.octets (bank_place fields bank) size) ≡ size
  octets_long =
      let within = known.places.bank_within fields bank size there most in
      length-part a.octets (bank_place fields bank) size (omega (arith, within, pages, (sound.is_image told).size))

  pub octets_fit : HasDigest fields bank size meta a.octets → is_fit (part_of a.octets (bank_place fields bank) size) meta ≡ true
  octets_fit has = (tested (part_of a.octets (bank_place fields bank) size) meta).1 (record { size = octets_long ∙ has.0; digest = has.1 })

  pub octets_unfit : (HasDigest fields bank size meta a.octets → ⊥) → is_fit (part_of a.octets (bank_place fields bank) size) meta ≡ false
  octets_unfit never = not_true (is_fit (part_of a.octets (bank_place fields bank) size) meta)
      (λ yes. let fit = (tested (part_of a.octets (bank_place fields bank) size) meta).0 yes in never (sym octets_long ∙ fit.size, fit.digest))
