-- What is kept is another exactly where the note or the job is.
use Rattle.std.proofs.Common.{◌≡◌, ◌∙◌, ℕ, List, [], ◌∷◌, map, Option, Some, None, refl, sym, ap, subst}
use Rattle.std.specs.List.{AllByRecursion}
use Rattle.mu_model_image.specs.Meta.{Image}
use Rattle.mu_model_record.specs.Store.{StoreState, content_of_bank}
use Rattle.mu_model_node.specs.declared.Parameters.{Parameters}
use Rattle.mu_model_node.specs.Slots.{Slots}
use Rattle.mu_model_distributor.specs.declared.DistPhase.{DistPhase}
use Rattle.mu_model_distributor.specs.DistState.{StoredImage, UploadJob, Upload, NoUpload, Uploading, Broken, Uploaded, DistDurable, job_of}
use Rattle.mu_model_represents.specs.BlobPart.{BlobJob, held_by}
use Rattle.mu_model_represents.specs.Images.{HasImage, BankIsOneImage}
use Rattle.mu_model_represents_distributor.specs.DistributorNote.{DistributorNote}
use Rattle.mu_model_represents_distributor.specs.RepresentsDistributor.{part_of_upload, phase_of_upload, bank_of, note_of_distributor}
use Rattle.mu_model_stored_distributor.specs.Kept.{upload_part, HoldsBlocks, SpeaksOf, ChangesShowInTheTag}

images_once : BankIsOneImage → (s : StoreState) (xs ys : List StoredImage) → map bank_of xs ≡ map bank_of ys → AllByRecursion (λ (x : StoredImage). HasImage s x.bank x.image) xs
    → AllByRecursion (λ (x : StoredImage). HasImage s x.bank x.image) ys → xs ≡ ys
images_once one s [] [] same h g = refl
images_once one s [] (y ∷ ys) same h g = absurd cc
images_once one s (x ∷ xs) [] same h g = absurd cc
images_once one s (x ∷ xs) (y ∷ ys) same h g =
    let bank : x.bank ≡ y.bank = cc same in
    let banks : map bank_of xs ≡ map bank_of ys = cc same in
    let image : x.image ≡ y.image = one s x.bank x.image y.image h.0 (subst (λ (b : ℕ). HasImage s b y.image) (sym bank) g.0) in
    let rest = images_once one s xs ys banks h.1 g.1 in
    λ i. (record { bank = bank i; image = image i }) ∷ rest i

job_once : (s : StoreState) (a b : Option UploadJob) → HoldsBlocks s a → HoldsBlocks s b → part_of_upload a ≡ part_of_upload b → a ≡ b
job_once s None None h g same = refl
job_once s None (Some k) h g same = absurd cc
job_once s (Some j) None h g same = absurd cc
job_once s (Some j) (Some k) h g same =
    let part : upload_part j ≡ upload_part k = cc same in
    let bank : j.bank ≡ k.bank = ap (λ (b : BlobJob). b.bank) part in
    let parameters : j.transfer.parameters ≡ k.transfer.parameters = ap (λ (b : BlobJob). b.parameters) part in
    let held : j.transfer.held ≡ k.transfer.held = h ∙ (λ i. held_by (parameters i) (content_of_bank s (bank i))) ∙ sym g in
    λ i. Some (record {
      transfer = record { id = (part i).id; size = (part i).size; base = (part i).base; parameters = parameters i; held = held i };
      bank = bank i;
    })

upload_once : (u v : Upload) → phase_of_upload u ≡ phase_of_upload v → job_of u ≡ job_of v → u ≡ v
upload_once NoUpload NoUpload phase job = refl
upload_once NoUpload (Uploading k) phase job = absurd cc
upload_once NoUpload (Broken b) phase job = absurd cc
upload_once NoUpload Uploaded phase job = absurd cc
upload_once (Uploading j) NoUpload phase job = absurd cc
upload_once (Uploading j) (Uploading k) phase job = let same : j ≡ k = cc job in ap Uploading same
upload_once (Uploading j) (Broken b) phase job = absurd cc
upload_once (Uploading j) Uploaded phase job = absurd cc
upload_once (Broken a) NoUpload phase job = absurd cc
upload_once (Broken a) (Uploading k) phase job = absurd cc
upload_once (Broken a) (Broken b) phase job = ap Broken job
upload_once (Broken a) Uploaded phase job = absurd cc
upload_once Uploaded NoUpload phase job = absurd cc
upload_once Uploaded (Uploading k) phase job = absurd cc
upload_once Uploaded (Broken b) phase job = absurd cc
upload_once Uploaded Uploaded phase job = refl

by_parts : BankIsOneImage → (s : StoreState) (d e : DistDurable) → SpeaksOf s d → SpeaksOf s e → note_of_distributor d ≡ note_of_distributor e
    → part_of_upload (job_of d.upload) ≡ part_of_upload (job_of e.upload) → d ≡ e
by_parts one s d e h g note part =
    let images : d.images ≡ e.images = images_once one s d.images e.images (ap (λ (n : DistributorNote). n.banks) note) h.images g.images in
    let upload : d.upload ≡ e.upload = upload_once d.upload e.upload (ap (λ (n : DistributorNote). n.upload) note) (job_once s (job_of d.upload) (job_of e.upload) h.blocks g.blocks part) in
    λ i. record {
      count = (h.count ∙ sym g.count) i;
      capacity = (h.capacity ∙ sym g.capacity) i;
      images = images i;
      phase = (note i).phase;
      counter = (note i).counter;
      settings = (note i).settings;
      receivers = (note i).receivers;
      upload_ttl = (note i).upload_ttl;
      upload_meta = (note i).upload_meta;
      upload = upload i;
    }

pub shows : BankIsOneImage → ChangesShowInTheTag
shows one s d e h g = (
  λ same. (ap note_of_distributor same, ap (λ (x : DistDurable). part_of_upload (job_of x.upload)) same),
  λ parts. by_parts one s d e h g parts.0 parts.1,
)
