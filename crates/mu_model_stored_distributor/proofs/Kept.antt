-- What a distributor keeps, after each call.
use Rattle.std.proofs.Common.{◌≡◌, ◌∙◌, ◌<◌, ℕ, ◌+◌, ◌⊎◌, inl, inr, ◌||◌, not, Bool, true, false, List, [], ◌∷◌, ◌++◌, Option, Some, None, refl, sym, ap, subst, arith, eq-eqb}
use Rattle.std.specs.Prelude.{◌≢◌, ◌==◌, slice_index_or}
use Rattle.std.proofs.lemmas.Bool.Decides.{nat_tests}
use Rattle.std.specs.List.{AllByRecursion, AllZip, filter}
use Rattle.mu_model_image.specs.declared.Meta.{Meta}
use Rattle.mu_model_image.specs.Meta.{Image}
use Rattle.mu_model_image.specs.Pieces.{block_count}
use Rattle.mu_model_record.specs.declared.BankState.{BankState}
use Rattle.mu_model_record.specs.declared.BankState.TheVariants.{Empty, Filling, Sealed}
use Rattle.mu_model_record.specs.Record.{IsRecord, IsFilling, entry_of}
use Rattle.mu_model_record.specs.Store.{Content, nothing, held, whole, StoreState, content_of_bank}
use Rattle.mu_model_record.specs.Changes.{tagged, with_bank, begun, emptied, sealed_up, released, with_block}
use Rattle.mu_model_node.specs.declared.Parameters.{Parameters}
use Rattle.mu_model_node.specs.Slots.{Slots, empty, put}
use Rattle.mu_model_node.specs.BlobServer.{Transfer, Begins, Puts, changed}
use Rattle.mu_model_distributor.specs.declared.DistPhase.{DistPhase}
use Rattle.mu_model_distributor.specs.DistState.{StoredImage, UploadJob, DistDurable, job_of}
use Rattle.mu_model_distributor.specs.Receivers.{is_stored_in}
use Rattle.mu_model_represents.specs.BlobPart.{BlobJob, NoneFilling, TakesBy, BankGoesWith, HasBlobRules, blocks_by, held_by, transfer_in}
use Rattle.mu_model_represents.specs.Blocks.{TakesBlocks, BlockIsPut, ImagesStayByBlocks}
use Rattle.mu_model_represents.specs.Images.{IsSealed, is_among, HasImage}
use Rattle.mu_model_represents.specs.StoreStates.{IsStoreState}
use Rattle.mu_model_represents_distributor.specs.DistributorNote.{UploadPhase, UploadIdle, UploadActive, UploadError, UploadSuccess, DistributorNote}
use Rattle.mu_model_represents_distributor.specs.RepresentsDistributor.{UploadBank, HasUploadOf, UploadGoesWith, HasStored, upload_job_in, upload_by, IsDistributorOf}
use Rattle.mu_model_represents_distributor.specs.Written.{KeepsUpload, KeepsUploads, KeepsDistributor}
use Rattle.mu_model_jobs.specs.Places.{BanksChange}
use Rattle.mu_model_stored_distributor.specs.Kept.{IsAfter, TakesUpload, IsOffered, upload_part, IsUnrecorded, unnamed_images, JobIsUnnamed}

-- ---- from the relation

have_images : (s : StoreState) (banks : List ℕ) (xs : List StoredImage) → AllZip (HasStored s) banks xs → AllByRecursion (λ (x : StoredImage). HasImage s x.bank x.image) xs
have_images s [] [] all = tt
have_images s [] (x ∷ xs) all = absurd all
have_images s (b ∷ banks) [] all = absurd all
have_images s (b ∷ banks) (x ∷ xs) all = (subst (λ (k : ℕ). HasImage s k x.image) (sym all.0.there) all.0.image, have_images s banks xs all.1)

among_same : (s : StoreState) (banks : List ℕ) (xs : List StoredImage) → AllZip (HasStored s) banks xs → (bank : ℕ) → is_stored_in xs bank ≡ is_among banks bank
among_same s [] [] all bank = refl
among_same s [] (x ∷ xs) all bank = absurd all
among_same s (b ∷ banks) [] all bank = absurd all
among_same s (b ∷ banks) (x ∷ xs) all bank = let rest = among_same s banks xs all.1 bank in λ i. (all.0.there i == bank) || rest i

module _ (s : StoreState) (phase : DistPhase) (meta : Meta) where
  kept_job : (part : Option BlobJob) → HasBlobRules s.present part → HasUploadOf s.present meta part → KeepsUploads s (upload_job_in s part)
  kept_job None rules has = rules
  kept_job (Some b) rules has = record { bank = has.bank; goes_with = rules.goes_with; held = refl }

  kept_upload : (u : UploadPhase) (part : Option BlobJob) → UploadGoesWith u phase part → HasBlobRules s.present part → HasUploadOf s.present meta part
      → KeepsUploads s (job_of (upload_by u (upload_job_in s part)))
  kept_upload UploadIdle part goes rules has = subst (λ (p : Option BlobJob). HasBlobRules s.present p) goes rules
  kept_upload UploadActive None goes rules has = absurd cc
  kept_upload UploadActive (Some b) goes rules has = kept_job (Some b) rules has
  kept_upload UploadError part goes rules has = kept_job part rules has
  kept_upload UploadSuccess part goes rules has = subst (λ (p : Option BlobJob). HasBlobRules s.present p) goes rules

pub distributor_kept : (s : StoreState) (part : Option BlobJob) (n : DistributorNote) (d : DistDurable) → IsStoreState s → IsDistributorOf s part n d → KeepsDistributor s d
distributor_kept s part n d state is = record {
  in_range = state.in_range;
  four_banks = is.is_record.four_banks;
  count = is.count;
  capacity = is.capacity;
  images = have_images s n.banks d.images is.images;
  no_other = λ b h. among_same s n.banks d.images is.images b ∙ is.is_record.all_sealed b h;
  upload = subst (λ u. KeepsUploads s (job_of u)) (sym is.upload) (kept_upload s n.phase n.upload_meta n.upload part is.is_record.upload is.is_record.blob.rules is.is_record.upload_job);
}

-- ---- a commit

tagged_images : (s : StoreState) (tag : List ℕ) (xs : List StoredImage) → AllByRecursion (λ (x : StoredImage). HasImage s x.bank x.image) xs
    → AllByRecursion (λ (x : StoredImage). HasImage (tagged s tag) x.bank x.image) xs
tagged_images s tag [] all = tt
tagged_images s tag (x ∷ xs) all = (record { entry = all.0.entry; content = all.0.content }, tagged_images s tag xs all.1)

goes_same : (s : StoreState) (tag : List ℕ) (bank : ℕ) (q : Option Parameters) → BankGoesWith s.present bank q → BankGoesWith (tagged s tag).present bank q
goes_same s tag bank None h = h
goes_same s tag bank (Some p) h = h

tagged_job : (s : StoreState) (tag : List ℕ) (job : Option UploadJob) → KeepsUploads s job → KeepsUploads (tagged s tag) job
tagged_job s tag None kept = kept
tagged_job s tag (Some j) kept = record { bank = kept.bank; goes_with = goes_same s tag j.bank j.transfer.parameters kept.goes_with; held = kept.held }

-- a job that was just offered goes with a record in which no bank is Filling, and its own is Empty
offered : (s : StoreState) (next : UploadJob) → NoneFilling s.present → entry_of s.present next.bank ≡ Empty → IsOffered next → KeepsUpload s next
offered s next none free o = record {
  bank = subst (λ (q : Option Parameters). UploadBank q (entry_of s.present next.bank)) (sym o.parameters) free;
  goes_with = subst (λ (q : Option Parameters). BankGoesWith s.present next.bank q) (sym o.parameters) none;
  held = o.held ∙ sym (ap (λ (q : Option Parameters). held_by q (content_of_bank s next.bank)) o.parameters);
}

module _ (s : StoreState) (tag : List ℕ) (d e : DistDurable) (keeps : KeepsDistributor s d) (is : IsRecord (tagged s tag).present) where
  after_tag : (job : Option UploadJob) → IsAfter d d.images job e → KeepsUploads (tagged s tag) job → KeepsDistributor (tagged s tag) e
  after_tag job after kept = record {
    in_range = is;
    four_banks = keeps.four_banks;
    count = after.count ∙ ap (λ (n : ℕ). n + 1) keeps.count;
    capacity = after.capacity ∙ keeps.capacity;
    images = subst (λ (xs : List StoredImage). AllByRecursion (λ (x : StoredImage). HasImage (tagged s tag) x.bank x.image) xs) (sym after.stored) (tagged_images s tag d.images keeps.images);
    no_other = λ b h. ap (λ (xs : List StoredImage). is_stored_in xs b) after.stored ∙ keeps.no_other b h;
    upload = subst (λ (q : Option UploadJob). KeepsUploads (tagged s tag) q) (sym after.upload) kept;
  }

  pub upload_stays : IsAfter d d.images (job_of d.upload) e → KeepsDistributor (tagged s tag) e
  upload_stays after = after_tag (job_of d.upload) after (tagged_job s tag (job_of d.upload) keeps.upload)

  pub none_left : NoneFilling s.present → IsAfter d d.images None e → KeepsDistributor (tagged s tag) e
  none_left none after = after_tag None after none

  pub first_comes : (next : UploadJob) → NoneFilling s.present → entry_of s.present next.bank ≡ Empty → IsOffered next → IsAfter d d.images (Some next) e → KeepsDistributor (tagged s tag) e
  first_comes next none free o after = after_tag (Some next) after (offered (tagged s tag) next none free o)

-- ---- a bank changes that has no image

same_or_other : (i k : ℕ) → (i ≡ k) ⊎ (i ≢ k)
same_or_other i k = grind arith

filling_not_sealed : (b : BankState) → IsFilling b → IsSealed b → ⊥
filling_not_sealed Empty h sealed = h
filling_not_sealed (Filling size log) h sealed = sealed
filling_not_sealed (Sealed meta) h sealed = h

empty_not_sealed : (b : BankState) → b ≡ Empty → IsSealed b → ⊥
empty_not_sealed b h sealed = subst IsSealed h sealed

upload_not_sealed : (p : Option Parameters) (b : BankState) → UploadBank p b → IsSealed b → ⊥
upload_not_sealed None b h sealed = empty_not_sealed b h sealed
upload_not_sealed (Some p) b h sealed = filling_not_sealed b h sealed

stored_more : (xs ys : List StoredImage) (b : ℕ) → is_stored_in xs b ≡ true → is_stored_in (xs ++ ys) b ≡ true
stored_more [] ys b h = absurd cc
stored_more (x ∷ xs) ys b h = by (x.bank == b) h (stored_more xs ys b)
  where
    by : (t : Bool) → (t || is_stored_in xs b) ≡ true → (is_stored_in xs b ≡ true → is_stored_in (xs ++ ys) b ≡ true) → (t || is_stored_in (xs ++ ys) b) ≡ true
    by true h rest = refl
    by false h rest = rest h

stored_last : (xs : List StoredImage) (x : StoredImage) (b : ℕ) → b ≡ x.bank → is_stored_in (xs ++ x ∷ []) b ≡ true
stored_last [] x b same = ap (λ (t : Bool). t || false) (eq-eqb x.bank b (sym same))
stored_last (y ∷ xs) x b same = by (y.bank == b) (stored_last xs x b same)
  where
    by : (t : Bool) → is_stored_in (xs ++ x ∷ []) b ≡ true → (t || is_stored_in (xs ++ x ∷ []) b) ≡ true
    by true rest = refl
    by false rest = rest

module _ (law : BanksChange) (s : StoreState) (bank : ℕ) (d e : DistDurable) (state : IsStoreState s) (keeps : KeepsDistributor s d) (there : bank < 4) (free : IsSealed (entry_of s.present bank) → ⊥) where
  in_store : bank < s.present.number
  in_store = omega (arith, there, keeps.four_banks)

  apart : (b : ℕ) → IsSealed (entry_of s.present b) → b ≢ bank
  apart b sealed same = free (subst (λ (n : ℕ). IsSealed (entry_of s.present n)) same sealed)

  image_stays : (entry : BankState) (content : Content) (tag : List ℕ) (b : ℕ) (x : Image) → HasImage s b x → HasImage (with_bank s bank entry content tag) b x
  image_stays entry content tag b x has =
      let other = apart b (subst IsSealed (sym has.entry) tt) in
      record { entry = law.entry_other s bank b entry content tag other ∙ has.entry; content = law.content_other s bank b entry content tag other ∙ has.content }

  images_stay : (entry : BankState) (content : Content) (tag : List ℕ) (xs : List StoredImage) → AllByRecursion (λ (x : StoredImage). HasImage s x.bank x.image) xs
      → AllByRecursion (λ (x : StoredImage). HasImage (with_bank s bank entry content tag) x.bank x.image) xs
  images_stay entry content tag [] all = tt
  images_stay entry content tag (x ∷ xs) all = (image_stays entry content tag x.bank x.image all.0, images_stay entry content tag xs all.1)

  pub entry_is : (entry : BankState) (content : Content) (tag : List ℕ) → entry_of (with_bank s bank entry content tag).present bank ≡ entry
  entry_is entry content tag = law.entry_here s bank bank entry content tag state in_store refl

  pub content_is : (entry : BankState) (content : Content) (tag : List ℕ) → content_of_bank (with_bank s bank entry content tag) bank ≡ content
  content_is entry content tag = law.content_here s bank bank entry content tag state in_store refl

  -- it has none then either
  pub after_bank : (entry : BankState) (content : Content) (tag : List ℕ) (job : Option UploadJob) → IsRecord (with_bank s bank entry content tag).present → (IsSealed entry → ⊥)
      → IsAfter d d.images job e → KeepsUploads (with_bank s bank entry content tag) job → KeepsDistributor (with_bank s bank entry content tag) e
  after_bank entry content tag job is unsealed after kept = record {
    in_range = is;
    four_banks = keeps.four_banks;
    count = after.count ∙ ap (λ (n : ℕ). n + 1) keeps.count;
    capacity = after.capacity ∙ keeps.capacity;
    images = subst (λ (xs : List StoredImage). AllByRecursion (λ (x : StoredImage). HasImage (with_bank s bank entry content tag) x.bank x.image) xs) (sym after.stored)
        (images_stay entry content tag d.images keeps.images);
    no_other = λ b h. ap (λ (xs : List StoredImage). is_stored_in xs b) after.stored ∙ others b h;
    upload = subst (λ (q : Option UploadJob). KeepsUploads (with_bank s bank entry content tag) q) (sym after.upload) kept;
  }
    where
      others : (b : ℕ) → IsSealed (entry_of (with_bank s bank entry content tag).present b) → is_stored_in d.images b ≡ true
      others b h = elim (same_or_other b bank) [
        | inl same ↦ absurd (unsealed (subst IsSealed (law.entry_here s bank b entry content tag state in_store same) h))
        | inr other ↦ keeps.no_other b (subst IsSealed (law.entry_other s bank b entry content tag other) h)
      ]

  -- it has one then, which is the last
  pub after_seal : (meta : Meta) (octets tag : List ℕ) → IsRecord (sealed_up s bank meta octets tag).present
      → IsAfter d (d.images ++ record { bank = bank; image = record { octets = octets; meta = meta } } ∷ []) None e → NoneFilling (sealed_up s bank meta octets tag).present
      → KeepsDistributor (sealed_up s bank meta octets tag) e
  after_seal meta octets tag is after none = record {
    in_range = is;
    four_banks = keeps.four_banks;
    count = after.count ∙ ap (λ (n : ℕ). n + 1) keeps.count;
    capacity = after.capacity ∙ keeps.capacity;
    images = subst (λ (xs : List StoredImage). AllByRecursion (λ (x : StoredImage). HasImage (sealed_up s bank meta octets tag) x.bank x.image) xs) (sym after.stored)
        (with_last d.images (images_stay (Sealed meta) (whole octets) tag d.images keeps.images));
    no_other = λ b h. ap (λ (xs : List StoredImage). is_stored_in xs b) after.stored ∙ others b h;
    upload = subst (λ (q : Option UploadJob). KeepsUploads (sealed_up s bank meta octets tag) q) (sym after.upload) none;
  }
    where
      new : StoredImage
      new = record { bank = bank; image = record { octets = octets; meta = meta } }

      has_new : HasImage (sealed_up s bank meta octets tag) bank (record { octets = octets; meta = meta })
      has_new = record { entry = entry_is (Sealed meta) (whole octets) tag; content = content_is (Sealed meta) (whole octets) tag }

      with_last : (xs : List StoredImage) → AllByRecursion (λ (x : StoredImage). HasImage (sealed_up s bank meta octets tag) x.bank x.image) xs
          → AllByRecursion (λ (x : StoredImage). HasImage (sealed_up s bank meta octets tag) x.bank x.image) (xs ++ record { bank = bank; image = record { octets = octets; meta = meta } } ∷ [])
      with_last [] all = (has_new, tt)
      with_last (x ∷ xs) all = (all.0, with_last xs all.1)

      others : (b : ℕ) → IsSealed (entry_of (sealed_up s bank meta octets tag).present b)
          → is_stored_in (d.images ++ record { bank = bank; image = record { octets = octets; meta = meta } } ∷ []) b ≡ true
      others b h = elim (same_or_other b bank) [
        | inl same ↦ stored_last d.images (record { bank = bank; image = record { octets = octets; meta = meta } }) b same
        | inr other ↦ stored_more d.images (record { bank = bank; image = record { octets = octets; meta = meta } } ∷ []) b
            (keeps.no_other b (subst IsSealed (law.entry_other s bank b (Sealed meta) (whole octets) tag other) h))
      ]

  -- where it was the one that was being filled, or none was, none is
  pub none_filling : (entry : BankState) (content : Content) (tag : List ℕ) → (IsFilling entry → ⊥) → IsFilling (entry_of s.present bank) ⊎ NoneFilling s.present
      → NoneFilling (with_bank s bank entry content tag).present
  none_filling entry content tag not_now was b filling = elim (same_or_other b bank) [
    | inl same ↦ not_now (subst IsFilling (law.entry_here s bank b entry content tag state in_store same) filling)
    | inr other ↦ by b other was (subst IsFilling (law.entry_other s bank b entry content tag other) filling)
  ]
    where
      by : (b : ℕ) → b ≢ bank → IsFilling (entry_of s.present bank) ⊎ NoneFilling s.present → IsFilling (entry_of s.present b) → ⊥
      by b other (inl one) h = other (state.in_range.one_filling b bank h one)
      by b other (inr none) h = none b h

-- ---- the job's bank

module _ (law : BanksChange) (s : StoreState) (d e : DistDurable) (j : UploadJob) (state : IsStoreState s) (has : TakesUpload s d j) where
  job_is : KeepsUpload s j
  job_is = subst (λ (q : Option UploadJob). KeepsUploads s q) has.job has.keeps.upload

  free : IsSealed (entry_of s.present j.bank) → ⊥
  free = upload_not_sealed j.transfer.parameters (entry_of s.present j.bank) job_is.bank

  pub begins : (p : Parameters) (tag : List ℕ) → IsRecord (begun s j.bank p.size p.log tag).present
      → IsAfter d d.images (Some (record { transfer = changed (Begins p) j.transfer; bank = j.bank })) e → KeepsDistributor (begun s j.bank p.size p.log tag) e
  begins p tag is after =
      let entry : BankState = Filling p.size p.log in
      let content : Content = held (empty (block_count p.size p.log)) in
      let entry_now = (entry_is law s j.bank d e state has.keeps has.there free) entry content tag in
      let content_now = (content_is law s j.bank d e state has.keeps has.there free) entry content tag in
      (after_bank law s j.bank d e state has.keeps has.there free) entry content tag (Some (record { transfer = changed (Begins p) j.transfer; bank = j.bank })) is (λ h. h) after
      (record {
        bank = subst IsFilling (sym entry_now) tt;
        goes_with = subst (λ (x : BankState). TakesBy p x) (sym entry_now) (refl, refl);
        held = sym (ap (blocks_by p.log) content_now);
      })

  none_then : (tag : List ℕ) → IsFilling (entry_of s.present j.bank) → NoneFilling (emptied s j.bank tag).present
  none_then tag was = (none_filling law s j.bank d e state has.keeps has.there free) Empty nothing tag (λ h. h) (inl was)

  pub goes : (tag : List ℕ) → IsRecord (emptied s j.bank tag).present → IsFilling (entry_of s.present j.bank) → IsAfter d d.images None e → KeepsDistributor (emptied s j.bank tag) e
  goes tag is was after = (after_bank law s j.bank d e state has.keeps has.there free) Empty nothing tag None is (λ h. h) after (none_then tag was)

  pub comes : (tag : List ℕ) (next : UploadJob) → IsRecord (emptied s j.bank tag).present → IsFilling (entry_of s.present j.bank) → entry_of (emptied s j.bank tag).present next.bank ≡ Empty → IsOffered next
      → IsAfter d d.images (Some next) e → KeepsDistributor (emptied s j.bank tag) e
  comes tag next is was empty_then o after =
      (after_bank law s j.bank d e state has.keeps has.there free) Empty nothing tag (Some next) is (λ h. h) after (offered (emptied s j.bank tag) next (none_then tag was) empty_then o)

  pub is_stored : (meta : Meta) (octets tag : List ℕ) → IsRecord (sealed_up s j.bank meta octets tag).present → IsFilling (entry_of s.present j.bank)
      → IsAfter d (d.images ++ record { bank = j.bank; image = record { octets = octets; meta = meta } } ∷ []) None e → KeepsDistributor (sealed_up s j.bank meta octets tag) e
  is_stored meta octets tag is was after =
      (after_seal law s j.bank d e state has.keeps has.there free) meta octets tag is after
      ((none_filling law s j.bank d e state has.keeps has.there free) (Sealed meta) (whole octets) tag (λ h. h) (inl was))

-- ---- other banks

pub is_stocked : BanksChange → (s : StoreState) (bank : ℕ) (meta : Meta) (octets tag : List ℕ) (d e : DistDurable) → IsStoreState s → KeepsDistributor s d
    → IsRecord (sealed_up s bank meta octets tag).present → bank < 4 → entry_of s.present bank ≡ Empty → NoneFilling s.present
    → IsAfter d (d.images ++ record { bank = bank; image = record { octets = octets; meta = meta } } ∷ []) None e → KeepsDistributor (sealed_up s bank meta octets tag) e
is_stocked law s bank meta octets tag d e state keeps is there free none after =
    let unsealed : IsSealed (entry_of s.present bank) → ⊥ = empty_not_sealed (entry_of s.present bank) free in
    (after_seal law s bank d e state keeps there unsealed) meta octets tag is after
    ((none_filling law s bank d e state keeps there unsealed) (Sealed meta) (whole octets) tag (λ h. h) (inr none))

-- ---- banks that are released

module _ (law : BanksChange) (s : StoreState) (named : List Bool) (tag : List ℕ) where
  unnamed_have : (xs : List StoredImage) → AllByRecursion (λ (x : StoredImage). HasImage s x.bank x.image) xs
      → AllByRecursion (λ (x : StoredImage). HasImage (released s named tag) x.bank x.image) (unnamed_images named xs)
  unnamed_have [] all = tt
  unnamed_have (x ∷ xs) all = by (slice_index_or named x.bank false) refl (unnamed_have xs all.1)
    where
      by : (t : Bool) → slice_index_or named x.bank false ≡ t → AllByRecursion (λ (x : StoredImage). HasImage (released s named tag) x.bank x.image) (unnamed_images named xs)
          → AllByRecursion (λ (x : StoredImage). HasImage (released s named tag) x.bank x.image) (unnamed_images named (x ∷ xs))
      by true is rest = rw is rest
      by false is rest = rw is (record { entry = law.entry_unnamed s named tag x.bank is ∙ all.0.entry; content = law.content_unnamed s named tag x.bank is ∙ all.0.content }, rest)

  stored_unnamed : (xs : List StoredImage) (b : ℕ) → slice_index_or named b false ≡ false → is_stored_in xs b ≡ true → is_stored_in (unnamed_images named xs) b ≡ true
  stored_unnamed [] b un h = absurd cc
  stored_unnamed (x ∷ xs) b un h = elim (same_or_other x.bank b) [
    | inl same ↦ here same
    | inr other ↦ later (slice_index_or named x.bank false) refl (stored_unnamed xs b un (subst (λ (t : Bool). (t || is_stored_in xs b) ≡ true) (not_here other) h))
  ]
    where
      not_here : x.bank ≢ b → (x.bank == b) ≡ false
      not_here other = grind (arith, nat_tests)

      here : x.bank ≡ b → is_stored_in (unnamed_images named (x ∷ xs)) b ≡ true
      here same =
          let un_here : slice_index_or named x.bank false ≡ false = ap (λ (k : ℕ). slice_index_or named k false) same ∙ un in
          rw un_here (ap (λ (t : Bool). t || is_stored_in (unnamed_images named xs) b) (eq-eqb x.bank b same))

      later : (t : Bool) → slice_index_or named x.bank false ≡ t → is_stored_in (unnamed_images named xs) b ≡ true → is_stored_in (unnamed_images named (x ∷ xs)) b ≡ true
      later true is h = rw is h
      later false is h = rw is (by (x.bank == b) h)
        where
          by : (t : Bool) → is_stored_in (unnamed_images named xs) b ≡ true → (t || is_stored_in (unnamed_images named xs) b) ≡ true
          by true h = refl
          by false h = h

  by_name : (b : ℕ) (P : BankState → Type 0) → P Empty → (slice_index_or named b false ≡ false → P (entry_of s.present b)) → P (entry_of (released s named tag).present b)
  by_name b P none same = by (slice_index_or named b false) refl
    where
      by : (t : Bool) → slice_index_or named b false ≡ t → P (entry_of (released s named tag).present b)
      by true is = subst P (sym (law.entry_named s named tag b is)) none
      by false is = subst P (sym (law.entry_unnamed s named tag b is)) (same is)

  none_released : NoneFilling s.present → NoneFilling (released s named tag).present
  none_released none b = by_name b (λ x. IsFilling x → ⊥) (λ h. h) (λ un. none b)

  goes_released : (bank : ℕ) (q : Option Parameters) → slice_index_or named bank false ≡ false → BankGoesWith s.present bank q → BankGoesWith (released s named tag).present bank q
  goes_released bank None un h = none_released h
  goes_released bank (Some p) un h = subst (λ (x : BankState). TakesBy p x) (sym (law.entry_unnamed s named tag bank un)) h

  job_released : (job : Option UploadJob) → JobIsUnnamed named job → KeepsUploads s job → KeepsUploads (released s named tag) job
  job_released None un kept = none_released kept
  job_released (Some j) un kept = record {
    bank = subst (λ (x : BankState). UploadBank j.transfer.parameters x) (sym (law.entry_unnamed s named tag j.bank un)) kept.bank;
    goes_with = goes_released j.bank j.transfer.parameters un kept.goes_with;
    held = kept.held ∙ sym (ap (held_by j.transfer.parameters) (law.content_unnamed s named tag j.bank un));
  }

  pub are_released : (d e : DistDurable) → KeepsDistributor s d → IsRecord (released s named tag).present → JobIsUnnamed named (job_of d.upload)
      → IsAfter d (unnamed_images named d.images) (job_of d.upload) e → KeepsDistributor (released s named tag) e
  are_released d e keeps is un after = record {
    in_range = is;
    four_banks = keeps.four_banks;
    count = after.count ∙ ap (λ (n : ℕ). n + 1) keeps.count;
    capacity = after.capacity ∙ keeps.capacity;
    images = subst (λ (xs : List StoredImage). AllByRecursion (λ (x : StoredImage). HasImage (released s named tag) x.bank x.image) xs) (sym after.stored) (unnamed_have d.images keeps.images);
    no_other = λ b. by_name b (λ x. IsSealed x → is_stored_in e.images b ≡ true) (λ h. absurd h)
        (λ un h. ap (λ (xs : List StoredImage). is_stored_in xs b) after.stored ∙ stored_unnamed d.images b un (keeps.no_other b h));
    upload = subst (λ (q : Option UploadJob). KeepsUploads (released s named tag) q) (sym after.upload) (job_released (job_of d.upload) un keeps.upload);
  }

-- ---- a block

goes_put : (s : StoreState) (bank i : ℕ) (octets : List ℕ) (q : Option Parameters) → BankGoesWith s.present bank q → BankGoesWith (with_block s bank i octets).present bank q
goes_put s bank i octets None h = h
goes_put s bank i octets (Some p) h = h

module _ (stay : ImagesStayByBlocks) (law : BlockIsPut) (s : StoreState) (i : ℕ) (octets : List ℕ) (d e : DistDurable) (j : UploadJob) (state : IsStoreState s) (has : TakesUpload s d j) (takes : TakesBlocks s (upload_part j)) where
  images_put : (xs : List StoredImage) → AllByRecursion (λ (x : StoredImage). HasImage s x.bank x.image) xs
      → AllByRecursion (λ (x : StoredImage). HasImage (with_block s j.bank i octets) x.bank x.image) xs
  images_put [] all = tt
  images_put (x ∷ xs) all = (stay s (upload_part j) i octets state takes x.bank x.image all.0, images_put xs all.1)

  pub takes_block : IsUnrecorded d (Some (record { transfer = changed (Puts i octets) j.transfer; bank = j.bank })) e → KeepsDistributor (with_block s j.bank i octets) e
  takes_block after =
      let was : KeepsUpload s j = subst (λ (q : Option UploadJob). KeepsUploads s q) has.job has.keeps.upload in
      record {
        in_range = has.keeps.in_range;
        four_banks = has.keeps.four_banks;
        count = after.count ∙ has.keeps.count;
        capacity = after.capacity ∙ has.keeps.capacity;
        images = subst (λ (xs : List StoredImage). AllByRecursion (λ (x : StoredImage). HasImage (with_block s j.bank i octets) x.bank x.image) xs) (sym after.stored) (images_put d.images has.keeps.images);
        no_other = λ b h. ap (λ (xs : List StoredImage). is_stored_in xs b) after.stored ∙ has.keeps.no_other b h;
        upload = subst (λ (q : Option UploadJob). KeepsUploads (with_block s j.bank i octets) q) (sym after.upload) (record {
          bank = was.bank;
          goes_with = goes_put s j.bank i octets j.transfer.parameters was.goes_with;
          held = ap (λ (h : Slots). put h i octets) was.held ∙ sym (ap (λ (t : Transfer). t.held) (law s (upload_part j) i octets state takes));
        });
      }
