-- What a store represents of a distributor is sound.
use Rattle.std.proofs.Common.{◌≡◌, ◌||◌, ℕ, suc, ◌^◌, ◌<◌, Bool, true, false, Option, Some, None, List, [], ◌∷◌, length, refl, sym, ◌∙◌, ap, subst, arith, length-drop, eqb}
use Rattle.std.specs.List.{AllByRecursion, AllZip}
use Rattle.std.proofs.lemmas.Bool.{eqb-true}
use Rattle.std.proofs.lemmas.List.Elements.{All-drop}
use Rattle.mu_model_image.specs.declared.Meta.{Meta}
use Rattle.mu_model_image.specs.Meta.{meta_of}
use Rattle.mu_model_flash.specs.Bits.{AreOctets, part_of}
use Rattle.mu_model_flash.specs.Laws.{RangeLaws}
use Rattle.mu_model_record.specs.declared.Record.{Record}
use Rattle.mu_model_record.specs.declared.BankState.{BankState}
use Rattle.mu_model_record.specs.declared.BankState.TheVariants.{Empty, Filling, Sealed}
use Rattle.mu_model_record.specs.Record.{entry_of, capacity_of}
use Rattle.mu_model_record.specs.Store.{StoreState}
use Rattle.mu_model_node.specs.declared.Parameters.{Parameters}
use Rattle.mu_model_distributor.specs.DistState.{StoredImage, UploadJob, job_of, DistDurable}
use Rattle.mu_model_distributor.specs.Receivers.{is_stored_in}
use Rattle.mu_model_distributor.specs.Sound.{AreStored, BanksDiffer, HasUploadJob, AreMetaNumbers, HasUpload, IsDistDurable}
use Rattle.mu_model_represents.specs.BlobPart.{BlobJob, note_part, IsBlobRecord, ParametersFit}
use Rattle.mu_model_represents.specs.Images.{IsSealed, is_among, AllDiffer, BankImageIsGood}
use Rattle.mu_model_represents_distributor.specs.DistributorNote.{UploadPhase, UploadIdle, UploadActive, UploadError, UploadSuccess, DistributorNote}
use Rattle.mu_model_represents.specs.Laws.{BlobPartIsSound}
use Rattle.mu_model_represents.specs.Numbers.{HasMtu}
use Rattle.mu_model_represents.specs.Octets.{OctetLaws}
use Rattle.mu_model_represents_distributor.specs.Numbers.{HasUploadMtu, HasDistributorNumbers}
use Rattle.mu_model_represents.specs.StoreStates.{IsStoreState}
use Rattle.mu_model_represents_distributor.specs.RepresentsDistributor.{UploadBank, UploadGoesWith, IsDistributorRecord, HasStored, upload_job_in, upload_by, IsDistributorOf, IsDistributor}

-- ---- the images

not_empty : (b : BankState) → IsSealed b → b ≡ Empty → ⊥
not_empty Empty h e = h
not_empty (Filling size log) h e = h
not_empty (Sealed meta) h e = cc e

module _ (image : BankImageIsGood) (s : StoreState) (state : IsStoreState s) (four : s.present.number ≡ 4) where
  stored_good : (banks : List ℕ) (xs : List StoredImage) → AllByRecursion (λ (b : ℕ). IsSealed (entry_of s.present b)) banks → AllZip (HasStored s) banks xs → AreStored (capacity_of s.present) xs
  stored_good [] [] sealed all = tt
  stored_good [] (x ∷ xs) sealed all = absurd all
  stored_good (b ∷ banks) [] sealed all = absurd all
  stored_good (b ∷ banks) (x ∷ xs) sealed all =
      let good = image s b x.image state all.0.image in
      (record { bank = omega (arith, good.0, four, all.0.there); meta = good.1.meta; image = good.1.active }, stored_good banks xs sealed.1 all.1)

pub among_same : (s : StoreState) (banks : List ℕ) (xs : List StoredImage) → AllZip (HasStored s) banks xs → (bank : ℕ) → is_stored_in xs bank ≡ is_among banks bank
among_same s [] [] all bank = refl
among_same s [] (x ∷ xs) all bank = absurd all
among_same s (b ∷ banks) [] all bank = absurd all
among_same s (b ∷ banks) (x ∷ xs) all bank = let rest = among_same s banks xs all.1 bank in λ i. eqb (all.0.there i) bank || rest i

stored_differ : (s : StoreState) (banks : List ℕ) (xs : List StoredImage) → AllZip (HasStored s) banks xs → AllDiffer banks → BanksDiffer xs
stored_differ s [] [] all differ = tt
stored_differ s [] (x ∷ xs) all differ = absurd all
stored_differ s (b ∷ banks) [] all differ = absurd all
stored_differ s (b ∷ banks) (x ∷ xs) all differ =
    (among_same s banks xs all.1 x.bank ∙ ap (is_among banks) all.0.there ∙ differ.0, stored_differ s banks xs all.1 differ.1)

many_stored : (s : StoreState) (banks : List ℕ) (xs : List StoredImage) → AllZip (HasStored s) banks xs → length xs ≡ length banks
many_stored s [] [] all = refl
many_stored s [] (x ∷ xs) all = absurd all
many_stored s (b ∷ banks) [] all = absurd all
many_stored s (b ∷ banks) (x ∷ xs) all = ap suc (many_stored s banks xs all.1)

-- a bank among Sealed ones is Sealed
pub among_sealed : (r : Record) (banks : List ℕ) (bank : ℕ) → AllByRecursion (λ (b : ℕ). IsSealed (entry_of r b)) banks → is_among banks bank ≡ true → IsSealed (entry_of r bank)
among_sealed r [] bank all is = absurd cc
among_sealed r (b ∷ banks) bank all is = by (eqb b bank) refl is (among_sealed r banks bank all.1)
  where
    by : (t : Bool) → eqb b bank ≡ t → (t || is_among banks bank) ≡ true → (is_among banks bank ≡ true → IsSealed (entry_of r bank)) → IsSealed (entry_of r bank)
    by true e h rest = subst (λ (n : ℕ). IsSealed (entry_of r n)) (eqb-true b bank e) all.0
    by false e h rest = rest h

upload_not_sealed : (p : Option Parameters) (b : BankState) → UploadBank p b → IsSealed b → ⊥
upload_not_sealed None b h sealed = not_empty b sealed h
upload_not_sealed (Some p) Empty h sealed = h
upload_not_sealed (Some p) (Filling size log) h sealed = sealed
upload_not_sealed (Some p) (Sealed meta) h sealed = h

-- ---- the upload

module _ (sound : BlobPartIsSound) (s : StoreState) (state : IsStoreState s) (n : DistributorNote) (images : List StoredImage) (all : AllZip (HasStored s) n.banks images) (metas : AreMetaNumbers n.upload_meta) where
  upload_free : (part : Option BlobJob) (b : BlobJob) → IsDistributorRecord s.present part n → UploadBank b.parameters (entry_of s.present b.bank) → is_stored_in images b.bank ≡ false
  upload_free part b is goes = among_same s n.banks images all b.bank ∙ by (is_among n.banks b.bank) refl
    where
      by : (t : Bool) → is_among n.banks b.bank ≡ t → is_among n.banks b.bank ≡ false
      by true e = absurd (upload_not_sealed b.parameters (entry_of s.present b.bank) goes (among_sealed s.present n.banks b.bank is.banks_sealed e))
      by false e = e

  job_good : (part : Option BlobJob) → IsDistributorRecord s.present part n → HasUploadJob (capacity_of s.present) images n.upload_meta (upload_job_in s part)
  job_good None is = tt
  job_good (Some b) is =
      let fits = sound s b state is.blob in
      record {
        id = fits.0.id;
        base = fits.0.base;
        bank = omega (arith, is.blob.rules.bank, is.four_banks);
        free = upload_free (Some b) b is is.upload_job.bank;
        meta = record {
          some = omega (arith, is.upload_job.size, is.blob.rules.size_least);
          size = metas.size;
          version = metas.version;
          digest_length = metas.digest_length;
          digest_octets = metas.digest_octets;
        };
        size = is.upload_job.size;
        room = is.blob.rules.size_most;
        blocks = fits.1;
      }

mtu_of_fit : (size : ℕ) (p : Option Parameters) → ParametersFit size p → HasMtu p
mtu_of_fit size None fits = tt
mtu_of_fit size (Some p) fits = fits.mtu_most

upload_mtu : BlobPartIsSound → (s : StoreState) (part : Option BlobJob) → IsStoreState s → IsBlobRecord s.present part → HasUploadMtu (upload_job_in s part)
upload_mtu sound s None state h = tt
upload_mtu sound s (Some b) state h = mtu_of_fit b.size b.parameters (sound s b state h).0.parameters

-- what an upload phase says of the job
by_phase : (P : Option UploadJob → Type 0) → P None → (phase : UploadPhase) (job : Option UploadJob) → P job → P (job_of (upload_by phase job))
by_phase P none UploadIdle job h = none
by_phase P none UploadActive None h = none
by_phase P none UploadActive (Some j) h = h
by_phase P none UploadError job h = h
by_phase P none UploadSuccess job h = none

module _ (s : StoreState) (n : DistributorNote) where
  upload_rests : (u : UploadPhase) (part : Option BlobJob) → UploadGoesWith u n.phase part → HasUpload n.phase (upload_by u (upload_job_in s part))
  upload_rests UploadIdle part h = tt
  upload_rests UploadActive None h = absurd cc
  upload_rests UploadActive (Some b) h = h.1
  upload_rests UploadError part h = tt
  upload_rests UploadSuccess part h = tt

-- ---- its metadata

module _ (ranges : RangeLaws) (laws : OctetLaws) where
  meta_good : (octets : List ℕ) (meta : Meta) → length octets ≡ 1728 → AreOctets octets → meta_of (part_of octets 28 40) ≡ meta → AreMetaNumbers meta
  meta_good octets meta many small is = subst (λ (m : Meta). AreMetaNumbers m) is (record {
    size = laws.number 4 part 0 fine;
    version = laws.number 4 part 4 fine;
    digest_length = omega (arith, length-drop 8 part, whole);
    digest_octets = All-drop (λ (octet : ℕ). octet < 256) 8 part (laws.each part fine);
  })
    where
      part : List ℕ
      part = part_of octets 28 40

      fine : AreOctets part
      fine = laws.of_part octets 28 40 small

      whole : length part ≡ 40
      whole = ranges.parts.length_part octets 28 40 (omega (arith, many))

-- ---- the distributor

-- what the note and the BLOB part say that it is
abbrev dist_of : StoreState → Option BlobJob → DistributorNote → List StoredImage → DistDurable
dist_of s part n images = record {
  count = s.present.count;
  capacity = capacity_of s.present;
  images = images;
  phase = n.phase;
  counter = n.counter;
  settings = n.settings;
  receivers = n.receivers;
  upload_ttl = n.upload_ttl;
  upload_meta = n.upload_meta;
  upload = upload_by n.upload (upload_job_in s part);
}

dist_is : (s : StoreState) (part : Option BlobJob) (n : DistributorNote) (d : DistDurable) → IsDistributorOf s part n d → dist_of s part n d.images ≡ d
dist_is s part n d is = λ i. record {
  count = sym is.count i;
  capacity = sym is.capacity i;
  images = d.images;
  phase = sym is.phase i;
  counter = sym is.counter i;
  settings = sym is.settings i;
  receivers = sym is.receivers i;
  upload_ttl = sym is.upload_ttl i;
  upload_meta = sym is.upload_meta i;
  upload = sym is.upload i;
}

module _ (ranges : RangeLaws) (laws : OctetLaws) (image : BankImageIsGood) (sound : BlobPartIsSound) where
  dist_good : (s : StoreState) (part : Option BlobJob) (n : DistributorNote) (images : List StoredImage) → IsStoreState s → IsDistributorRecord s.present part n → AllZip (HasStored s) n.banks images
      → AreOctets (note_part s.present.tag) → IsDistDurable (dist_of s part n images) × HasDistributorNumbers (dist_of s part n images)
  dist_good s part n images state is all small =
      let metas = (meta_good ranges laws) (note_part s.present.tag) n.upload_meta (ranges.parts.length_part s.present.tag 64 1728 (omega (arith, state.in_range.tag_size))) small is.note_octets.upload_metadata_at_28 in
      let many = many_stored s n.banks images all in (
        record {
          capacity = (s.present.pages, state.in_range.pages_least, state.in_range.pages_most, refl);
          images = (stored_good image s state is.four_banks) n.banks images is.banks_sealed all;
          banks = stored_differ s n.banks images all is.banks_differ;
          counter = is.counter;
          unbegun = is.unbegun;
          begun = is.begun;
          image = λ runs. subst (λ (m : ℕ). n.settings.image < m) (sym many) (is.image runs);
          some_receiver = is.some_receiver;
          receivers = is.receivers;
          addresses = is.addresses;
          few_receivers = is.note_octets.few_receivers;
          upload_ttl = subst (λ (x : ℕ). x < 256) is.note_octets.upload_ttl_at_27 (small 27);
          upload_meta = metas;
          upload_job = by_phase (HasUploadJob (capacity_of s.present) images n.upload_meta) tt n.upload (upload_job_in s part) ((job_good sound s state n images all metas) part is);
          upload = (upload_rests s n) n.upload part is.upload;
        },
        record {
          count = record { least = state.in_range.count_least; most = state.in_range.count_most };
          mtu = by_phase HasUploadMtu tt n.upload (upload_job_in s part) (upload_mtu sound s part state is.blob);
        },
      )

  pub distributor_sound : (s : StoreState) (d : DistDurable) → IsStoreState s → IsDistributor s d → IsDistDurable d × HasDistributorNumbers d
  distributor_sound s d state is = subst (λ (x : DistDurable). IsDistDurable x × HasDistributorNumbers x) (dist_is s is.0 is.1 d is.2)
      (dist_good s is.0 is.1 d.images state is.2.is_record is.2.images (laws.of_part s.present.tag 64 1728 state.in_range.tag_octets))
