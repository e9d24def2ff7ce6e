-- What isn't foreign is represented, and a BLOB part that is read has its places.
use Rattle.std.proofs.Common.{◌≡◌, ℕ, ◌^◌, ◌<◌, List, [], ◌∷◌, refl, sym, subst}
use Rattle.std.specs.List.{AllByRecursion, AllZip}
use Rattle.mu_model_image.specs.Meta.{Image}
use Rattle.mu_model_image.specs.Laws.{BlockHasItsLength}
use Rattle.mu_model_record.specs.declared.BankState.{BankState}
use Rattle.mu_model_record.specs.declared.BankState.TheVariants.{Empty, Filling, Sealed}
use Rattle.mu_model_record.specs.Record.{entry_of, capacity_of}
use Rattle.mu_model_record.specs.Store.{Content, nothing, held, whole, StoreState, content_of_bank}
use Rattle.mu_model_represents.specs.BlobPart.{blob_part, IsBlobPart, transfer_in, blob_octets}
use Rattle.mu_model_represents.specs.Images.{IsSealed, HasImage, SealedBankHasAnImage}
use Rattle.mu_model_represents.specs.StoreStates.{ContentOf, IsStoreState}
use Rattle.mu_model_represents.specs.RepresentsNode.{job_by}
use Rattle.mu_model_represents.specs.Laws.{BlobPartIsSound, NodeRecordIsANode}
use Rattle.mu_model_represents.specs.Written.{BlobPartIsReadBack}
use Rattle.mu_model_represents.proofs.Octets.{octets_part, number_fits}
use Rattle.mu_model_represents.proofs.StoreLemmas.{bank_there, job_blocks}
use Rattle.mu_model_represents.proofs.BlobWritten.{part_written, length_part, part_octets}
use Rattle.mu_model_represents.proofs.NodeWritten.{blob_of_tag, note_of_tag, tag_of, fit_parameters}
use Rattle.mu_model_represents.proofs.NodeSound.{mtu_good}

-- ---- images in Sealed banks

-- the image of a Sealed bank
record Holds (s : StoreState) (bank : ℕ) : Type 0 where
  image : Image
  has : HasImage s bank image

found : (s : StoreState) (bank : ℕ) (e : BankState) (k : Content) → entry_of s.present bank ≡ e → content_of_bank s bank ≡ k → ContentOf e k → IsSealed e → Holds s bank
found s bank Empty k at in_it holds sealed = absurd sealed
found s bank (Filling size log) k at in_it holds sealed = absurd sealed
found s bank (Sealed meta) nothing at in_it holds sealed = absurd holds
found s bank (Sealed meta) (held slots) at in_it holds sealed = absurd holds
found s bank (Sealed meta) (whole octets) at in_it holds sealed = record { image = record { octets = octets; meta = meta }; has = record { entry = at; content = in_it } }

not_empty : (b : BankState) → IsSealed b → b ≡ Empty → ⊥
not_empty Empty h e = h
not_empty (Filling size log) h e = h
not_empty (Sealed meta) h e = cc e

module _ (s : StoreState) (state : IsStoreState s) where
  found_in : (bank : ℕ) → IsSealed (entry_of s.present bank) → Holds s bank
  found_in bank sealed =
      found s bank (entry_of s.present bank) (content_of_bank s bank) refl refl (state.contents bank (bank_there s.present bank state.in_range (not_empty (entry_of s.present bank) sealed))) sealed

  images_in : (banks : List ℕ) → AllByRecursion (λ (b : ℕ). IsSealed (entry_of s.present b)) banks → (xs : List Image) × AllZip (HasImage s) banks xs
  images_in [] sealed = ([], tt)
  images_in (b ∷ banks) sealed = let one = found_in b sealed.0 in let rest = images_in banks sealed.1 in (one.image ∷ rest.0, (one.has, rest.1))

pub sealed_image : SealedBankHasAnImage
sealed_image s bank state sealed = let one = found_in s state bank sealed in (one.image, one.has)

pub node_record : NodeRecordIsANode
node_record s part note state is =
    let images = images_in s state note.active is.active_sealed in (
      record { count = s.present.count; capacity = capacity_of s.present; images = images.0; job = job_by s part note.job },
      record {
        is_record = is;
        count = refl;
        capacity = refl;
        images = images.1;
        job = refl;
      },
    )

-- ---- the BLOB part

pub blob_read_back : BlobPartIsReadBack
blob_read_back part note fits many small = (
  tag_of (blob_octets part) note (length_part part) many (part_octets part fits) small,
  subst (λ (xs : List ℕ). IsBlobPart part xs) (sym (blob_of_tag (blob_octets part) note (length_part part))) (part_written part fits),
  note_of_tag (blob_octets part) note (length_part part) many,
)

module _ (lengths : BlockHasItsLength) where
  pub blob_sound : BlobPartIsSound
  blob_sound s j state is =
      let octets = blob_part s.present.tag in
      let small = octets_part s.present.tag 0 64 state.in_range.tag_octets in
      let blocks = (job_blocks lengths) s j octets j.parameters state refl is.octets.parameters is.rules in (
        record {
          id = subst (λ (x : ℕ). x < 2 ^ 64) is.octets.id_at_4 (number_fits 8 octets 4 small);
          size = subst (λ (x : ℕ). x < 2 ^ 32) is.octets.size_at_12 (number_fits 4 octets 12 small);
          base = subst (λ (x : ℕ). x < 2 ^ 16) is.octets.base_at_16 (number_fits 2 octets 16 small);
          bank = subst (λ (x : ℕ). x < 256) is.octets.bank_at_18 (small 18);
          parameters = fit_parameters j.size j.parameters (transfer_in s j).held blocks (mtu_good j.size j.parameters octets small is.octets.parameters);
        },
        blocks,
      )
