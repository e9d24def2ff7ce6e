-- What a store represents of a node is sound.
use Rattle.std.proofs.Common.{◌≡◌, ◌⊎◌, inl, inr, ℕ, zero, suc, ◌^◌, ◌<◌, ◌≤◌, true, Option, Some, None, List, [], ◌∷◌, length, refl, sym, ◌∙◌, ap, subst, arith}
use Rattle.std.specs.Prelude.{slice_get, is_some}
use Rattle.std.specs.List.{AllByRecursion, AllZip}
use Rattle.mu_model_image.specs.declared.Meta.{Meta}
use Rattle.mu_model_image.specs.Meta.{Image, IsMeta, IsFit}
use Rattle.mu_model_image.specs.Laws.{BlockHasItsLength, BlocksAreTheImage, MetaThatIsReadIsInRange}
use Rattle.mu_model_flash.specs.Bits.{AreOctets, part_of}
use Rattle.mu_model_record.specs.declared.BankState.{BankState}
use Rattle.mu_model_record.specs.declared.BankState.TheVariants.{Sealed}
use Rattle.mu_model_record.specs.Record.{entry_of, capacity_of}
use Rattle.mu_model_record.specs.Store.{Content, nothing, held, whole, StoreState, content_of_bank}
use Rattle.mu_model_node.specs.declared.Parameters.{Parameters}
use Rattle.mu_model_node.specs.declared.Stored.{Stored}
use Rattle.mu_model_node.specs.declared.Stored.TheVariants.{Filling, Verified, Refused, Applied}
use Rattle.mu_model_node.specs.NodeState.{Job, NodeDurable}
use Rattle.mu_model_node.specs.Slots.{is_full, joined}
use Rattle.mu_model_node.specs.Sound.{IsActiveImage, HasBlocks, IsNewer, IsWhole, StoredIs, HasJob, IsNodeDurable}
use Rattle.mu_model_represents.specs.BlobPart.{BlobJob, blob_part, note_part, HasParameters, IsBlobPart, HasBlobRules, held_by}
use Rattle.mu_model_represents.specs.Images.{HasImage, IsGoodImage}
use Rattle.mu_model_represents.specs.NodeNote.{NoteJob, NodeNote, HasNoteJob, SpellsActive, SpellsNote, SpellsOldNote}
use Rattle.mu_model_represents.specs.Numbers.{IsCount, HasMtu, HasNumbersOf, HasNodeNumbers}
use Rattle.mu_model_represents.specs.StoreStates.{ContentOf, IsStoreState}
use Rattle.mu_model_represents.specs.RepresentsNode.{IsNewerThan, IsNewerThanBank, StoredGoesWith, HasNodeJob, job_in, job_by, IsNode}
use Rattle.mu_model_represents.proofs.Octets.{octets_part, number_fits, all_octets}
use Rattle.mu_model_represents.proofs.StoreLemmas.{good_image, cut_is_full, cut_is_joined, job_blocks}

-- ---- the images

module _ (s : StoreState) (state : IsStoreState s) where
  images_good : (banks : List ℕ) (xs : List Image) → AllZip (HasImage s) banks xs → (index : ℕ) (x : Image) → slice_get xs index ≡ Some x → IsGoodImage (capacity_of s.present) x
  images_good [] [] all index x is = absurd cc
  images_good [] (y ∷ xs) all index x is = absurd all
  images_good (b ∷ banks) [] all index x is = absurd all
  images_good (b ∷ banks) (y ∷ xs) all zero x is = let same : y ≡ x = cc is in subst (λ (z : Image). IsGoodImage (capacity_of s.present) z) same (good_image s b y state all.0)
  images_good (b ∷ banks) (y ∷ xs) all (suc index) x is = images_good banks xs all.1 index x is

  images_meta : (banks : List ℕ) (xs : List Image) → AllZip (HasImage s) banks xs → AllByRecursion (λ (x : Image). IsMeta x.meta) xs
  images_meta [] [] all = tt
  images_meta [] (y ∷ xs) all = absurd all
  images_meta (b ∷ banks) [] all = absurd all
  images_meta (b ∷ banks) (y ∷ xs) all = ((good_image s b y state all.0).meta, images_meta banks xs all.1)

pub as_many : (s : StoreState) (banks : List ℕ) (xs : List Image) → AllZip (HasImage s) banks xs → length xs ≡ length banks
as_many s [] [] all = refl
as_many s [] (y ∷ xs) all = absurd all
as_many s (b ∷ banks) [] all = absurd all
as_many s (b ∷ banks) (y ∷ xs) all = ap suc (as_many s banks xs all.1)

newer_image : (s : StoreState) (version : ℕ) (banks : List ℕ) (xs : List Image) → AllZip (HasImage s) banks xs → (index : ℕ) → IsNewerThanBank s.present version (slice_get banks index) → IsNewer version (slice_get xs index)
newer_image s version [] [] all index newer = newer
newer_image s version [] (y ∷ xs) all index newer = absurd all
newer_image s version (b ∷ banks) [] all index newer = absurd all
newer_image s version (b ∷ banks) (y ∷ xs) all zero newer = subst (λ (e : BankState). IsNewerThan version e) all.0.entry newer
newer_image s version (b ∷ banks) (y ∷ xs) all (suc index) newer = newer_image s version banks xs all.1 index newer

active_many : (banks octets : List ℕ) → SpellsActive banks octets → (1 ≤ length banks) × (length banks ≤ 2)
active_many [] octets h = absurd h
active_many (a ∷ []) octets h = (omega arith, omega arith)
active_many (a ∷ b ∷ []) octets h = (omega arith, omega arith)
active_many (a ∷ b ∷ c ∷ banks) octets h = absurd h

note_many : (note : NodeNote) (octets : List ℕ) → SpellsNote note octets ⊎ SpellsOldNote note octets → (1 ≤ length note.active) × (length note.active ≤ 2)
note_many note octets (inl h) = active_many note.active octets h.active_at_1_44
note_many note octets (inr h) = let one : length note.active ≡ 1 = ap (length {A = ℕ}) h.active_at_1 in (omega (arith, one), omega (arith, one))

note_job : (note : NodeNote) (octets : List ℕ) → SpellsNote note octets ⊎ SpellsOldNote note octets → HasNoteJob note.job octets
note_job note octets (inl h) = h.job_at_2
note_job note octets (inr h) = h.job_at_2

-- ---- the job

module _ (tiles : BlocksAreTheImage) where
  whole_job : (j : Job) (p : Option Parameters) (meta : Meta) (content : Content) → j.parameters ≡ p → j.meta ≡ meta → j.held ≡ held_by p content → is_some p ≡ true → ContentOf (Sealed meta) content → IsWhole j
  whole_job j None meta content is_p is_meta is_held some has = absurd cc
  whole_job j (Some p) meta nothing is_p is_meta is_held some has = absurd has
  whole_job j (Some p) meta (held slots) is_p is_meta is_held some has = absurd has
  whole_job j (Some p) meta (whole x) is_p is_meta is_held some has = record {
    parameters = ap is_some is_p;
    full = ap is_full is_held ∙ cut_is_full x p.log;
    fit = subst (λ (m : Meta). IsFit (joined j.held) m) (sym is_meta) (subst (λ (xs : List ℕ). IsFit xs meta) (sym (ap joined is_held ∙ cut_is_joined tiles x p.log)) has);
  }

  stored_good : (s : StoreState) (b : BlobJob) (n : NoteJob) (stored : Stored) → IsStoreState s → b.bank < s.present.number → StoredGoesWith stored n.meta b.parameters (entry_of s.present b.bank) → StoredIs (job_in s b n) stored
  stored_good s b n Filling state there goes = tt
  stored_good s b n Verified state there goes =
      whole_job (job_in s b n) b.parameters n.meta (content_of_bank s b.bank) refl refl refl goes.0 (subst (λ (e : BankState). ContentOf e (content_of_bank s b.bank)) goes.1 (state.contents b.bank there))
  stored_good s b n Refused state there goes = goes
  stored_good s b n Applied state there goes =
      whole_job (job_in s b n) b.parameters n.meta (content_of_bank s b.bank) refl refl refl goes.0 (subst (λ (e : BankState). ContentOf e (content_of_bank s b.bank)) goes.1 (state.contents b.bank there))

module _ (lengths : BlockHasItsLength) (tiles : BlocksAreTheImage) where
  job_good : (s : StoreState) (d : NodeDurable) (active : List ℕ) → IsStoreState s → d.capacity ≡ capacity_of s.present → AllZip (HasImage s) active d.images
      → (part : Option BlobJob) (n : Option NoteJob) → IsBlobPart part (blob_part s.present.tag) → HasBlobRules s.present part → HasNodeJob s.present active part n → HasJob d.capacity d.images (job_by s part n)
  job_good s d active state capacity images None None spelled rules has = tt
  job_good s d active state capacity images None (Some n) spelled rules has = absurd has
  job_good s d active state capacity images (Some b) None spelled rules has = absurd has
  job_good s d active state capacity images (Some b) (Some n) spelled rules has = record {
    some = omega (arith, rules.size_least, has.size);
    room = omega (arith, rules.size_most, has.size, capacity);
    newer = newer_image s n.meta.version active d.images images n.index has.newer;
    blocks = subst (λ (m : ℕ). HasBlocks m b.parameters (held_by b.parameters (content_of_bank s b.bank))) (sym has.size)
        ((job_blocks lengths) s b (blob_part s.present.tag) b.parameters state refl spelled.parameters rules);
    stored = (stored_good tiles) s b n n.stored state rules.bank has.stored;
  }

-- ---- its numbers

pub mtu_good : (size : ℕ) (p : Option Parameters) (octets : List ℕ) → AreOctets octets → HasParameters size p octets → HasMtu p
mtu_good size None octets small h = tt
mtu_good size (Some p) octets small h = subst (λ (n : ℕ). n < 2 ^ 16) h.mtu_at_2 (number_fits 2 octets 2 small)

module _ (metas : MetaThatIsReadIsInRange) where
  numbers_good : (s : StoreState) (part : Option BlobJob) (n : Option NoteJob) (octets note : List ℕ) → AreOctets octets → AreOctets note → IsBlobPart part octets → HasNoteJob n note → HasNumbersOf (job_by s part n)
  numbers_good s None n octets note small fine spelled has = tt
  numbers_good s (Some b) None octets note small fine spelled has = tt
  numbers_good s (Some b) (Some n) octets note small fine spelled has = record {
    id = subst (λ (x : ℕ). x < 2 ^ 64) spelled.id_at_4 (number_fits 8 octets 4 small);
    meta = metas (part_of note 4 40) n.meta (all_octets (part_of note 4 40) (octets_part note 4 40 fine)) has.metadata_at_4;
    ttl = subst (λ (x : ℕ). x < 256) has.ttl_at_3 (fine 3);
    base = subst (λ (x : ℕ). x < 2 ^ 16) spelled.base_at_16 (number_fits 2 octets 16 small);
    mtu = mtu_good b.size b.parameters octets small spelled.parameters;
  }

-- ---- the node

module _ (lengths : BlockHasItsLength) (tiles : BlocksAreTheImage) (metas : MetaThatIsReadIsInRange) where
  pub node_sound : (s : StoreState) (d : NodeDurable) → IsStoreState s → IsNode s d → IsNodeDurable d × HasNodeNumbers d
  node_sound s d state is =
      let part = is.0 in
      let note = is.1 in
      let of = is.2 in
      let r = s.present in
      let many = note_many note (note_part r.tag) of.is_record.note_octets.spells in
      let images = as_many s note.active d.images of.images in
      let capacity : capacity_of r ≡ d.capacity = sym of.capacity in (
        record {
          capacity = (r.pages, state.in_range.pages_least, state.in_range.pages_most, of.capacity);
          some_image = omega (arith, many.0, images);
          two_images = omega (arith, many.1, images);
          images = λ index image got. subst (λ (n : ℕ). IsActiveImage n image) capacity ((images_good s state) note.active d.images of.images index image got).active;
          job = subst (λ (j : Option Job). HasJob d.capacity d.images j) (sym of.job)
              ((job_good lengths tiles) s d note.active state of.capacity of.images part note.job of.is_record.blob.octets of.is_record.blob.rules of.is_record.job);
        },
        record {
          count = subst (λ (n : ℕ). IsCount n) (sym of.count) (record { least = state.in_range.count_least; most = state.in_range.count_most });
          images = (images_meta s state) note.active d.images of.images;
          job = subst (λ (j : Option Job). HasNumbersOf j) (sym of.job)
              ((numbers_good metas) s part note.job (blob_part r.tag) (note_part r.tag) (octets_part r.tag 0 64 state.in_range.tag_octets) (octets_part r.tag 64 1728 state.in_range.tag_octets)
              of.is_record.blob.octets (note_job note (note_part r.tag) of.is_record.note_octets.spells));
        },
      )
