-- What is in memory of a node is what its store represents.
use Rattle.std.proofs.Common.{◌≡◌, ◌∙◌, ℕ, Bool, List, [], ◌∷◌, Option, Some, None, map, refl, sym, ap}
use Rattle.std.specs.Prelude.{◌&&◌, is_some}
use Rattle.std.specs.List.{AllZip, list_all}
use Rattle.mu_model_image.specs.Meta.{Image}
use Rattle.mu_model_record.specs.declared.Record.{Record}
use Rattle.mu_model_record.specs.declared.BankState.{BankState}
use Rattle.mu_model_record.specs.Record.{entry_of}
use Rattle.mu_model_record.specs.Store.{StoreState}
use Rattle.mu_model_node.specs.Slots.{Slots, is_full, received}
use Rattle.mu_model_node.specs.NodeState.{NodeDurable}
use Rattle.mu_model_represents.specs.BlobPart.{BlobJob, note_part}
use Rattle.mu_model_represents.specs.Images.{HasImage}
use Rattle.mu_model_represents.specs.Laws.{BlobPartIsOne}
use Rattle.mu_model_represents.specs.NodeNote.{NoteJob, NodeNote}
use Rattle.mu_model_represents.specs.RepresentsNode.{job_by, IsNodeRecord, IsNodeOf}
use Rattle.mu_model_stored_node.specs.NodeIn.{meta_in, NoteIsRead}
use Rattle.mu_model_shown_node.specs.Shown.{InMemory, HasMeta, job_with, IsShown, blocks_in, memory_of, LiesIn}

metas_of : (s : StoreState) (active : List ℕ) (images : List Image) → AllZip (HasImage s) active images → AllZip (HasMeta s.present) active images
metas_of s [] [] all = tt
metas_of s [] (x ∷ images) all = absurd all
metas_of s (b ∷ active) [] all = absurd all
metas_of s (b ∷ active) (x ∷ images) all = (all.0.entry, metas_of s active images all.1)

same_job : (s : StoreState) (part : Option BlobJob) (n : Option NoteJob) → job_by s part n ≡ job_with part n (blocks_in s part)
same_job s (Some b) (Some n) = refl
same_job s (Some b) None = refl
same_job s None n = refl

pub is_shown : (s : StoreState) (part : Option BlobJob) (note : NodeNote) (d : NodeDurable) → IsNodeOf s part note d → IsShown (memory_of s part note) d
is_shown s part note d is = record {
  count = is.count;
  capacity = is.capacity;
  images = metas_of s note.active d.images is.images;
  blocks = blocks_in s part;
  held = refl;
  job = is.job ∙ same_job s part note.job;
}

pub is_represented : (s : StoreState) (part : Option BlobJob) (note : NodeNote) (d : NodeDurable) → IsNodeRecord s.present part note → IsShown (memory_of s part note) d → LiesIn s part note d
    → IsNodeOf s part note d
is_represented s part note d rules shown lies = record {
  is_record = rules;
  count = shown.count;
  capacity = shown.capacity;
  images = lies.images;
  job = lies.job ∙ sym (same_job s part note.job);
}

pub is_one : BlobPartIsOne → NoteIsRead → (s : StoreState) (part other : Option BlobJob) (note another : NodeNote) (d : NodeDurable) → IsNodeRecord s.present part note → IsNodeOf s other another d
    → (other ≡ part) × (another ≡ note)
is_one parts notes s part other note another d rules is = (
  parts s.present other part is.is_record.blob rules.blob,
  sym (notes s.present.number another (note_part s.present.tag) is.is_record.note_octets) ∙ notes s.present.number note (note_part s.present.tag) rules.note_octets,
)

-- ---- what the rows look at

metas_shown : (r : Record) (active : List ℕ) (images : List Image) → AllZip (HasMeta r) active images → map (λ (b : ℕ). meta_in (entry_of r b)) active ≡ map (λ (image : Image). image.meta) images
metas_shown r [] [] all = refl
metas_shown r [] (x ∷ images) all = absurd all
metas_shown r (b ∷ active) [] all = absurd all
metas_shown r (b ∷ active) (x ∷ images) all =
    ap (λ e. e ∷ map (λ (c : ℕ). meta_in (entry_of r c)) active) (ap (λ (entry : BankState). meta_in entry) all.0) ∙ ap (λ l. x.meta ∷ l) (metas_shown r active images all.1)

pub metas : (m : InMemory) (d : NodeDurable) → IsShown m d → map (λ (b : ℕ). meta_in (entry_of m.present b)) m.note.active ≡ map (λ (image : Image). image.meta) d.images
metas m d shown = metas_shown m.present m.note.active d.images shown.images

all_by_flags : (blocks : Slots) → is_full blocks ≡ list_all (λ (there : Bool). there) (received blocks)
all_by_flags [] = refl
all_by_flags (b ∷ blocks) = ap (λ (t : Bool). is_some b && t) (all_by_flags blocks)

pub full : (blocks : Slots) (held : List Bool) → received blocks ≡ held → is_full blocks ≡ list_all (λ (there : Bool). there) held
full blocks held is = all_by_flags blocks ∙ ap (λ (l : List Bool). list_all (λ (there : Bool). there) l) is
