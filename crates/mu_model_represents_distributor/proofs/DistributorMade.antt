-- Each sound state of a distributor is represented by a store.
use Rattle.std.proofs.Common.{◌≡◌, ◌||◌, ℕ, ◌<◌, ◌≤◌, Bool, true, false, Option, Some, None, List, [], ◌∷◌, refl, sym, ◌∙◌, ap, subst, arith, eqb, eq-eqb}
use Rattle.std.specs.List.{AllByRecursion}
use Rattle.std.proofs.lemmas.Bool.{eqb-true}
use Rattle.mu_model_image.specs.Meta.{Image}
use Rattle.mu_model_record.specs.declared.Record.{Record}
use Rattle.mu_model_record.specs.declared.BankState.{BankState}
use Rattle.mu_model_record.specs.declared.BankState.TheVariants.{Empty, Filling}
use Rattle.mu_model_record.specs.Record.{IsEntryInRange, IsFilling, entry_of, capacity_of}
use Rattle.mu_model_record.specs.Store.{Content, nothing, held, StoreState, content_of_bank}
use Rattle.mu_model_node.specs.declared.Parameters.{Parameters}
use Rattle.mu_model_node.specs.Slots.{Slots}
use Rattle.mu_model_node.specs.Sound.{HasBlocks}
use Rattle.mu_model_distributor.specs.DistState.{StoredImage, UploadJob, DistDurable, job_of}
use Rattle.mu_model_distributor.specs.Receivers.{is_stored_in}
use Rattle.mu_model_distributor.specs.Sound.{AreStored, BanksDiffer, IsUploadJob, HasUploadJob, IsDistDurable}
use Rattle.mu_model_represents.specs.BlobPart.{TakesBy, BankGoesWith, NoneFilling, held_by}
use Rattle.mu_model_represents.specs.Images.{IsSealed, HasImage, IsGoodImage}
use Rattle.mu_model_represents.specs.Laws.{ParametersOfBlocksFit}
use Rattle.mu_model_represents.specs.Made.{Plan, made, IsPlan, IsAsPlanned, StoresAreMade}
use Rattle.mu_model_represents.specs.Octets.{TagLaws}
use Rattle.mu_model_represents.specs.Written.{BlobPartIsReadBack}
use Rattle.mu_model_represents_distributor.specs.Numbers.{HasDistributorNumbers}
use Rattle.mu_model_represents.specs.StoreStates.{ContentOf, IsStoreState}
use Rattle.mu_model_represents_distributor.specs.RepresentsDistributor.{UploadBank, IsDistributor, distributor_tag, part_of_upload, note_of_distributor}
use Rattle.mu_model_represents_distributor.specs.Written.{KeepsUploads, KeepsDistributor}
use Rattle.mu_model_represents_distributor.proofs.DistributorKept.{distributor_is_tag, distributor_read_back}

-- ---- images in their banks

abbrev either_of : Bool → Option Image → Option Image → Option Image
either_of true a b = a
either_of false a b = b

placed_in : List StoredImage → ℕ → Option Image
placed_in [] b = None
placed_in (x ∷ xs) b = either_of (eqb x.bank b) (Some x.image) (placed_in xs b)

record IsGoodAt (capacity b : ℕ) (x : Image) : Type 0 where
  low : b < 4
  good : IsGoodImage capacity x

placed_good : (capacity : ℕ) (xs : List StoredImage) → AreStored capacity xs → (b : ℕ) (y : Image) → placed_in xs b ≡ Some y → IsGoodAt capacity b y
unfolding placed_in
placed_good capacity [] are b y at = absurd cc
placed_good capacity (x ∷ xs) are b y at = by (eqb x.bank b) refl at (placed_good capacity xs are.1 b y)
  where
    by : (t : Bool) → eqb x.bank b ≡ t → either_of t (Some x.image) (placed_in xs b) ≡ Some y → (placed_in xs b ≡ Some y → IsGoodAt capacity b y) → IsGoodAt capacity b y
    by true e h rest =
        let same : x.image ≡ y = cc h in
        let bank : x.bank ≡ b = eqb-true x.bank b e in
        let it : IsGoodAt capacity b x.image = record { low = omega (arith, are.0.bank, bank); good = record { meta = are.0.meta; active = are.0.image } } in
        subst (λ (z : Image). IsGoodAt capacity b z) same it
    by false e h rest = rest h

placed_stored : (xs : List StoredImage) (b : ℕ) (y : Image) → placed_in xs b ≡ Some y → is_stored_in xs b ≡ true
unfolding placed_in
placed_stored [] b y at = absurd cc
placed_stored (x ∷ xs) b y at = by (eqb x.bank b) at (placed_stored xs b y)
  where
    by : (t : Bool) → either_of t (Some x.image) (placed_in xs b) ≡ Some y → (placed_in xs b ≡ Some y → is_stored_in xs b ≡ true) → (t || is_stored_in xs b) ≡ true
    by true h rest = refl
    by false h rest = rest h

free_of : (xs : List StoredImage) (b : ℕ) → is_stored_in xs b ≡ false → placed_in xs b ≡ None
unfolding placed_in
free_of [] b none = refl
free_of (x ∷ xs) b none = by (eqb x.bank b) none (free_of xs b)
  where
    by : (t : Bool) → (t || is_stored_in xs b) ≡ false → (is_stored_in xs b ≡ false → placed_in xs b ≡ None) → either_of t (Some x.image) (placed_in xs b) ≡ None
    by true h rest = absurd cc
    by false h rest = rest h

-- what lies in other banks lies there still with one image more
carried : (x : StoredImage) (xs ys : List StoredImage) → is_stored_in ys x.bank ≡ false → AllByRecursion (λ (y : StoredImage). placed_in xs y.bank ≡ Some y.image) ys → AllByRecursion (λ (y : StoredImage). placed_in (x ∷ xs) y.bank ≡ Some y.image) ys
unfolding placed_in
carried x xs [] none all = tt
carried x xs (y ∷ ys) none all =
    (by (eqb x.bank y.bank) refl all.0, carried x xs ys (others (eqb y.bank x.bank) (is_stored_in ys x.bank) none) all.1)
  where
    others : (t u : Bool) → (t || u) ≡ false → u ≡ false
    others true u h = absurd cc
    others false u h = h

    by : (t : Bool) → eqb x.bank y.bank ≡ t → placed_in xs y.bank ≡ Some y.image → either_of t (Some x.image) (placed_in xs y.bank) ≡ Some y.image
    by true e h =
        let same : eqb y.bank x.bank ≡ true = eq-eqb y.bank x.bank (sym (eqb-true x.bank y.bank e)) in
        absurd (let both : (true || is_stored_in ys x.bank) ≡ false = subst (λ (t : Bool). (t || is_stored_in ys x.bank) ≡ false) same none in cc both)
    by false e h = h

in_place : (xs : List StoredImage) → BanksDiffer xs → AllByRecursion (λ (x : StoredImage). placed_in xs x.bank ≡ Some x.image) xs
unfolding placed_in
in_place [] differ = tt
in_place (x ∷ xs) differ = (ap (λ (t : Bool). either_of t (Some x.image) (placed_in xs x.bank)) (eq-eqb x.bank x.bank refl), carried x xs xs differ.0 (in_place xs differ.1))

-- ---- the upload's bank

abbrev entry_for : Option Parameters → BankState
entry_for None = Empty
entry_for (Some p) = Filling p.size p.log

abbrev content_for : Option Parameters → Slots → Content
content_for None slots = nothing
content_for (Some p) slots = held slots

abbrev bank_of_job : Option UploadJob → ℕ
bank_of_job None = 0
bank_of_job (Some j) = j.bank

abbrev entry_of_job : Option UploadJob → BankState
entry_of_job None = Empty
entry_of_job (Some j) = entry_for j.transfer.parameters

abbrev content_of_job : Option UploadJob → Content
content_of_job None = nothing
content_of_job (Some j) = content_for j.transfer.parameters j.transfer.held

-- a sound upload's bank
record IsGoodBank (capacity : ℕ) (slots : Slots) (p : Option Parameters) : Type 0 where
  range : (r : Record) → capacity_of r ≡ capacity → IsEntryInRange r (entry_for p)
  content : ContentOf (entry_for p) (content_for p slots)
  bank_is : UploadBank p (entry_for p)
  goes_with : (r : Record) (bank : ℕ) → entry_of r bank ≡ entry_for p → ((IsFilling (entry_for p) → ⊥) → NoneFilling r) → BankGoesWith r bank p
  held_is : slots ≡ held_by p (content_for p slots)
  not_sealed : IsSealed (entry_for p) → ⊥

good_bank : (capacity size : ℕ) (slots : Slots) (p : Option Parameters) → 0 < size → size ≤ capacity → HasBlocks size p slots → IsGoodBank capacity slots p
good_bank capacity size slots None some room blocks = record {
  range = λ r c. tt;
  content = tt;
  bank_is = refl;
  goes_with = λ r bank e none. none (λ h. h);
  held_is = blocks;
  not_sealed = λ h. h;
}
good_bank capacity size slots (Some p) some room blocks = record {
  range = λ r c. (omega (arith, some, blocks.size), omega (arith, room, c, blocks.size), blocks.log_above, blocks.log_below);
  content = (blocks.count, blocks.lengths);
  bank_is = tt;
  goes_with = λ r bank e none. subst (λ (b : BankState). TakesBy p b) (sym e) (refl, refl);
  held_is = refl;
  not_sealed = λ h. h;
}

-- ---- the store

module _ (t : TagLaws) (read : BlobPartIsReadBack) (fit : ParametersOfBlocksFit) (law : StoresAreMade) (d : DistDurable) (sound : IsDistDurable d) (numbers : HasDistributorNumbers d) where
  abbrev pages : ℕ
  pages = sound.capacity.0

  abbrev plan : Plan
  plan = record {
    count = d.count;
    pages = sound.capacity.0;
    number = 4;
    tag = distributor_tag d;
    bank = bank_of_job (job_of d.upload);
    entry = entry_of_job (job_of d.upload);
    content = content_of_job (job_of d.upload);
  }

  abbrev store : StoreState
  store = made plan (placed_in d.images)

  job_bank : (j : UploadJob) → IsUploadJob d.capacity d.images d.upload_meta j → IsGoodBank d.capacity j.transfer.held j.transfer.parameters
  job_bank j is = good_bank d.capacity j.transfer.size j.transfer.held j.transfer.parameters (omega (arith, is.size, is.meta.some)) is.room is.blocks

  range_of : (r : Record) → capacity_of r ≡ d.capacity → (job : Option UploadJob) → HasUploadJob d.capacity d.images d.upload_meta job → IsEntryInRange r (entry_of_job job)
  range_of r c None is = tt
  range_of r c (Some j) is = (job_bank j is).range r c

  content_ok : (job : Option UploadJob) → HasUploadJob d.capacity d.images d.upload_meta job → ContentOf (entry_of_job job) (content_of_job job)
  content_ok None is = tt
  content_ok (Some j) is = (job_bank j is).content

  bank_low : (job : Option UploadJob) → HasUploadJob d.capacity d.images d.upload_meta job → bank_of_job job < 4
  bank_low None is = omega arith
  bank_low (Some j) is = is.bank

  not_sealed : (job : Option UploadJob) → HasUploadJob d.capacity d.images d.upload_meta job → IsSealed (entry_of_job job) → ⊥
  not_sealed None is h = h
  not_sealed (Some j) is h = (job_bank j is).not_sealed h

  is_plan : IsPlan plan (placed_in d.images)
  is_plan = record {
    count = numbers.count;
    pages_least = sound.capacity.1;
    pages_most = sound.capacity.2;
    number_least = omega arith;
    number_most = omega arith;
    tag = distributor_is_tag t read fit d sound numbers;
    there = λ b x at. (placed_good d.capacity d.images sound.images b x at).low;
    good = λ b x at. subst (λ (n : ℕ). IsGoodImage n x) sound.capacity.3 (placed_good d.capacity d.images sound.images b x at).good;
    bank = bank_low (job_of d.upload) sound.upload_job;
    entry = range_of store.present (sym sound.capacity.3) (job_of d.upload) sound.upload_job;
    content = content_ok (job_of d.upload) sound.upload_job;
  }

  of_plan : IsAsPlanned plan (placed_in d.images)
  of_plan = law plan (placed_in d.images) is_plan

  keeps_job : (job : Option UploadJob) → HasUploadJob d.capacity d.images d.upload_meta job
      → (placed_in d.images (bank_of_job job) ≡ None → (entry_of store.present (bank_of_job job) ≡ entry_of_job job) × (content_of_bank store (bank_of_job job) ≡ content_of_job job))
      → ((IsFilling (entry_of_job job) → ⊥) → NoneFilling store.present) → KeepsUploads store job
  keeps_job None is there none = none (λ h. h)
  keeps_job (Some j) is there none =
      let good = job_bank j is in
      let at = there (free_of d.images j.bank is.free) in
      record {
        bank = subst (λ (b : BankState). UploadBank j.transfer.parameters b) (sym at.0) good.bank_is;
        goes_with = good.goes_with store.present j.bank at.0 none;
        held = good.held_is ∙ ap (held_by j.transfer.parameters) (sym at.1);
      }

  images_there : (xs : List StoredImage) → AllByRecursion (λ (x : StoredImage). placed_in d.images x.bank ≡ Some x.image) xs → AllByRecursion (λ (x : StoredImage). HasImage store x.bank x.image) xs
  images_there [] all = tt
  images_there (x ∷ xs) all = (of_plan.image x.bank x.image all.0, images_there xs all.1)

  keeps : KeepsDistributor store d
  keeps = record {
    in_range = of_plan.state.in_range;
    four_banks = refl;
    count = refl;
    capacity = sound.capacity.3;
    images = images_there d.images (in_place d.images sound.banks);
    no_other = λ b h. let some = of_plan.sealed_image b (not_sealed (job_of d.upload) sound.upload_job) h in placed_stored d.images b some.0 some.1;
    upload = keeps_job (job_of d.upload) sound.upload_job (λ none. (of_plan.entry none, of_plan.content none)) of_plan.none_filling;
  }

  pub distributor_made : (s : StoreState) × IsStoreState s × IsDistributor s d
  distributor_made = (store, of_plan.state, (part_of_upload (job_of d.upload), note_of_distributor d, distributor_read_back t read fit store d sound numbers keeps refl))
