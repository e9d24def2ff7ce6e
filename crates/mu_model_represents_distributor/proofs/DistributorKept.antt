-- The tag of a distributor that is written is read back.
use Rattle.std.proofs.Common.{◌≡◌, ◌⊎◌, inl, inr, ◌||◌, ℕ, zero, suc, ◌+◌, ◌^◌, ◌<◌, ◌≤◌, Bool, true, false, Option, Some, None, List, [], ◌∷◌, length, map, refl, sym, ◌∙◌, ap, subst, arith, eqb}
use Rattle.std.specs.List.{AllByRecursion, AllZip}
use Rattle.std.proofs.lemmas.Bool.{eqb-true}
use Rattle.std.proofs.lemmas.List.{length-map}
use Rattle.mu_model_record.specs.Record.{entry_of}
use Rattle.mu_model_record.specs.Store.{StoreState}
use Rattle.mu_model_distributor.specs.declared.Settings.{Settings}
use Rattle.mu_model_distributor.specs.DistState.{Receiver, StoredImage, UploadJob, Upload, NoUpload, Uploading, Broken, Uploaded, job_of, DistDurable}
use Rattle.mu_model_distributor.specs.declared.DistPhase.{DistPhase}
use Rattle.mu_model_distributor.specs.Receivers.{is_stored_in}
use Rattle.mu_model_distributor.specs.Sound.{AreReceivers, AreSettings, AreStored, BanksDiffer, HasUploadJob, HasUpload, IsDistDurable}
use Rattle.mu_model_represents.specs.BlobPart.{blob_part, note_part, IsBlobPart, HasBlobRules, PartFits}
use Rattle.mu_model_represents.specs.Images.{IsSealed, is_among, AllDiffer, HasImage}
use Rattle.mu_model_represents_distributor.specs.DistributorNote.{UploadActive, SpellsDistributor, distributor_octets}
use Rattle.mu_model_represents.specs.Laws.{ParametersOfBlocksFit}
use Rattle.mu_model_represents.specs.Octets.{TagLaws}
use Rattle.mu_model_represents.specs.Written.{BlobPartIsReadBack}
use Rattle.mu_model_represents_distributor.specs.Numbers.{HasUploadMtu, HasDistributorNumbers}
use Rattle.mu_model_represents_distributor.specs.RepresentsDistributor.{HasUploadOf, UploadGoesWith, HasStored, upload_job_in, upload_by, part_of_upload, phase_of_upload, bank_of, note_of_distributor, distributor_tag, IsDistributorOf}
use Rattle.mu_model_record.specs.ChangeLaws.{IsTag}
use Rattle.mu_model_represents_distributor.specs.Written.{KeepsUpload, KeepsUploads, KeepsDistributor}
use Rattle.mu_model_represents_distributor.proofs.DistributorWritten.{FitSettings, FitsRow, FitsDistributor, distributor_written, length_distributor, octets_distributor}

-- ---- four banks have at most four images

one_if : Bool → ℕ
one_if true = 1
one_if false = 0

-- how many images are in a bank
many_in : List StoredImage → ℕ → ℕ
many_in [] b = 0
many_in (x ∷ xs) b = one_if (eqb x.bank b) + many_in xs b

none_in : (xs : List StoredImage) (b : ℕ) → is_stored_in xs b ≡ false → many_in xs b ≡ 0
unfolding many_in one_if
none_in [] b h = refl
none_in (x ∷ xs) b h = by (eqb x.bank b) (is_stored_in xs b) (many_in xs b) h (none_in xs b)
  where
    by : (t u : Bool) (m : ℕ) → (t || u) ≡ false → (u ≡ false → m ≡ 0) → one_if t + m ≡ 0
    by true u m e rest = absurd cc
    by false u m e rest = let none = rest e in omega arith

one_in : (xs : List StoredImage) (b : ℕ) → BanksDiffer xs → many_in xs b ≤ 1
unfolding many_in one_if
one_in [] b differ = omega arith
one_in (x ∷ xs) b differ = by (eqb x.bank b) refl (one_in xs b differ.1)
  where
    by : (t : Bool) → eqb x.bank b ≡ t → many_in xs b ≤ 1 → one_if t + many_in xs b ≤ 1
    by true e rest = let none = none_in xs b (subst (λ (n : ℕ). is_stored_in xs n ≡ false) (eqb-true x.bank b e) differ.0) in omega (arith, none)
    by false e rest = omega arith

one_of_four : (n : ℕ) → n < 4 → 1 ≡ one_if (eqb n 0) + (one_if (eqb n 1) + (one_if (eqb n 2) + one_if (eqb n 3)))
unfolding one_if
one_of_four zero lt = refl
one_of_four (suc zero) lt = refl
one_of_four (suc (suc zero)) lt = refl
one_of_four (suc (suc (suc zero))) lt = refl
one_of_four (suc (suc (suc (suc n)))) lt = absurd (omega arith)

in_four : (capacity : ℕ) (xs : List StoredImage) → AreStored capacity xs → length xs ≡ many_in xs 0 + (many_in xs 1 + (many_in xs 2 + many_in xs 3))
unfolding many_in
in_four capacity [] are = refl
in_four capacity (x ∷ xs) are =
    let one = one_of_four x.bank are.0.bank in
    let rest = in_four capacity xs are.1 in
    omega (arith, one, rest)

pub few_stored : (capacity : ℕ) (xs : List StoredImage) → AreStored capacity xs → BanksDiffer xs → length xs ≤ 4
few_stored capacity xs are differ = omega (arith, in_four capacity xs are, one_in xs 0 differ, one_in xs 1 differ, one_in xs 2 differ, one_in xs 3 differ)

-- ---- the images' banks

among_is : (xs : List StoredImage) (b : ℕ) → is_among (map bank_of xs) b ≡ is_stored_in xs b
among_is [] b = refl
among_is (x ∷ xs) b = ap (λ (t : Bool). eqb x.bank b || t) (among_is xs b)

all_differ : (xs : List StoredImage) → BanksDiffer xs → AllDiffer (map bank_of xs)
all_differ [] differ = tt
all_differ (x ∷ xs) differ = (among_is xs x.bank ∙ differ.0, all_differ xs differ.1)

banks_low : (capacity : ℕ) (xs : List StoredImage) → AreStored capacity xs → AllByRecursion (λ (b : ℕ). b < 256) (map bank_of xs)
banks_low capacity [] are = tt
banks_low capacity (x ∷ xs) are = (omega (arith, are.0.bank), banks_low capacity xs are.1)

module _ (s : StoreState) where
  all_sealed : (xs : List StoredImage) → AllByRecursion (λ (x : StoredImage). HasImage s x.bank x.image) xs → AllByRecursion (λ (b : ℕ). IsSealed (entry_of s.present b)) (map bank_of xs)
  all_sealed [] all = tt
  all_sealed (x ∷ xs) all = (subst IsSealed (sym all.0.entry) tt, all_sealed xs all.1)

  all_stored : (xs : List StoredImage) → AllByRecursion (λ (x : StoredImage). HasImage s x.bank x.image) xs → AllZip (HasStored s) (map bank_of xs) xs
  all_stored [] all = tt
  all_stored (x ∷ xs) all = (record { there = refl; image = all.0 }, all_stored xs all.1)

-- ---- what fits

settings_fit : (d : DistDurable) → IsDistDurable d → FitSettings d.settings
settings_fit d sound = by d.counter refl
  where
    by : (n : ℕ) → d.counter ≡ n → FitSettings d.settings
    by zero is = subst (λ (s : Settings). FitSettings s) (sym (sound.unbegun is).1) (record {
      ttl = omega arith;
      base = omega arith;
      mode = omega arith;
      policy = omega arith;
      image = omega arith;
      group = omega arith;
      appkey = omega arith;
    })
    by (suc n) is = fit (sound.begun (omega arith))
      where
        group_low : (g : ℕ) → (g ≡ 0) ⊎ ((0xC000 ≤ g) × (g ≤ 0xFFFF)) → g < 2 ^ 16
        group_low g (inl h) = omega arith
        group_low g (inr h) = omega (arith, h.1)

        fit : AreSettings d.settings → FitSettings d.settings
        fit a = record {
          ttl = a.ttl;
          base = a.base;
          mode = omega (arith, a.mode_below);
          policy = omega (arith, a.policy);
          image = a.image;
          group = group_low d.settings.group a.group;
          appkey = omega (arith, a.appkey);
        }

rows_fit : (rs : List Receiver) → AreReceivers rs → AllByRecursion FitsRow rs
rows_fit [] are = tt
rows_fit (r ∷ rs) are = (
  record {
    address = omega (arith, are.0.address_below);
    index = are.0.index;
    phase = omega (arith, are.0.phase);
    update_status = omega (arith, are.0.update_status);
    transfer_status = omega (arith, are.0.transfer_status);
  },
  rows_fit rs are.1,
)

note_fits : (d : DistDurable) → IsDistDurable d → FitsDistributor (note_of_distributor d)
note_fits d sound = record {
  few_images = omega (arith, length-map d.images bank_of, few_stored d.capacity d.images sound.images sound.banks);
  banks = banks_low d.capacity d.images sound.images;
  counter = omega (arith, sound.counter);
  settings = settings_fit d sound;
  few_receivers = sound.few_receivers;
  receivers = rows_fit d.receivers sound.receivers;
  upload_ttl = sound.upload_ttl;
  upload_meta = sound.upload_meta;
}

module _ (fit : ParametersOfBlocksFit) (d : DistDurable) (sound : IsDistDurable d) where
  part_fits : (job : Option UploadJob) → HasUploadJob d.capacity d.images d.upload_meta job → HasUploadMtu job → PartFits (part_of_upload job)
  part_fits None is mtu = tt
  part_fits (Some j) is mtu = record {
    id = is.id;
    size = omega (arith, is.size, is.meta.size);
    base = is.base;
    bank = omega (arith, is.bank);
    parameters = fit j.transfer.size j.transfer.parameters j.transfer.held is.blocks mtu;
  }

module _ (d : DistDurable) (sound : IsDistDurable d) where
  part_rules : (s : StoreState) → KeepsDistributor s d → (job : Option UploadJob) → HasUploadJob d.capacity d.images d.upload_meta job → KeepsUploads s job → HasBlobRules s.present (part_of_upload job)
  part_rules s keeps None is kept = kept
  part_rules s keeps (Some j) is kept = record {
    size_least = omega (arith, is.size, is.meta.some);
    size_most = omega (arith, is.room, keeps.capacity);
    bank = omega (arith, is.bank, keeps.four_banks);
    goes_with = kept.goes_with;
  }

  upload_of : (s : StoreState) (job : Option UploadJob) → HasUploadJob d.capacity d.images d.upload_meta job → KeepsUploads s job → HasUploadOf s.present d.upload_meta (part_of_upload job)
  upload_of s None is kept = tt
  upload_of s (Some j) is kept = record { bank = kept.bank; size = is.size }

job_same : (s : StoreState) (j : UploadJob) → KeepsUpload s j → Some j ≡ upload_job_in s (part_of_upload (Some j))
job_same s j kept = λ i. Some (record {
  transfer = record { id = j.transfer.id; size = j.transfer.size; base = j.transfer.base; parameters = j.transfer.parameters; held = kept.held i };
  bank = j.bank;
})

upload_same : (s : StoreState) (u : Upload) → KeepsUploads s (job_of u) → u ≡ upload_by (phase_of_upload u) (upload_job_in s (part_of_upload (job_of u)))
upload_same s NoUpload kept = refl
upload_same s (Uploading j) kept = ap (λ (job : Option UploadJob). upload_by UploadActive job) (job_same s j kept)
upload_same s (Broken None) kept = refl
upload_same s (Broken (Some j)) kept = ap Broken (job_same s j kept)
upload_same s Uploaded kept = refl

upload_goes : (u : Upload) (phase : DistPhase) → HasUpload phase u → UploadGoesWith (phase_of_upload u) phase (part_of_upload (job_of u))
upload_goes NoUpload phase h = refl
upload_goes (Uploading j) phase h = (refl, h)
upload_goes (Broken job) phase h = tt
upload_goes Uploaded phase h = refl

-- ---- the tag

module _ (t : TagLaws) (read : BlobPartIsReadBack) (fit : ParametersOfBlocksFit) where
  -- both parts are read back
  both_back : (d : DistDurable) → IsDistDurable d → HasDistributorNumbers d
      → IsTag (distributor_tag d) × IsBlobPart (part_of_upload (job_of d.upload)) (blob_part (distributor_tag d)) × (note_part (distributor_tag d) ≡ distributor_octets (note_of_distributor d))
  both_back d sound numbers =
      let note = note_fits d sound in
      read (part_of_upload (job_of d.upload)) (distributor_octets (note_of_distributor d)) ((part_fits fit d sound) (job_of d.upload) sound.upload_job numbers.mtu)
      (length_distributor t (note_of_distributor d) note) (octets_distributor t (note_of_distributor d) note)

  pub distributor_is_tag : (d : DistDurable) → IsDistDurable d → HasDistributorNumbers d → IsTag (distributor_tag d)
  distributor_is_tag d sound numbers = (both_back d sound numbers).0

  pub distributor_read_back : (s : StoreState) (d : DistDurable) → IsDistDurable d → HasDistributorNumbers d → KeepsDistributor s d → s.present.tag ≡ distributor_tag d → IsDistributorOf s (part_of_upload (job_of d.upload)) (note_of_distributor d) d
  distributor_read_back s d sound numbers keeps tag =
      let part = part_of_upload (job_of d.upload) in
      let n = note_of_distributor d in
      let back = both_back d sound numbers in
      let second = sym (ap note_part tag ∙ back.2) in
      record {
        is_record = record {
          four_banks = keeps.four_banks;
          blob = record {
            octets = subst (λ (xs : List ℕ). IsBlobPart part (blob_part xs)) (sym tag) back.1;
            rules = (part_rules d sound) s keeps (job_of d.upload) sound.upload_job keeps.upload;
          };
          note_octets = subst (λ (xs : List ℕ). SpellsDistributor n xs) second (distributor_written t n (note_fits d sound));
          banks_differ = all_differ d.images sound.banks;
          banks_sealed = (all_sealed s) d.images keeps.images;
          all_sealed = λ b h. among_is d.images b ∙ keeps.no_other b h;
          counter = sound.counter;
          unbegun = sound.unbegun;
          begun = sound.begun;
          image = λ runs. subst (λ (m : ℕ). d.settings.image < m) (sym (length-map d.images bank_of)) (sound.image runs);
          some_receiver = sound.some_receiver;
          receivers = sound.receivers;
          addresses = sound.addresses;
          upload = upload_goes d.upload d.phase sound.upload;
          upload_job = (upload_of d sound) s (job_of d.upload) sound.upload_job keeps.upload;
        };
        count = keeps.count;
        capacity = keeps.capacity;
        images = (all_stored s) d.images keeps.images;
        phase = refl;
        counter = refl;
        settings = refl;
        receivers = refl;
        upload_ttl = refl;
        upload_meta = refl;
        upload = upload_same s d.upload keeps.upload;
      }
