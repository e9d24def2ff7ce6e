-- A block that is put.
use Rattle.std.proofs.Common.{◌≡◌, ◌≢◌, ℕ, ◌<◌, Option, Some, None, List, [], ◌∷◌, length, sym, ◌∙◌, ap, arith}
use Rattle.std.specs.Prelude.{slice_set}
use Rattle.std.specs.List.{AllZip}
use Rattle.std.proofs.lemmas.List.{get_or-set_same, get_or-set_other}
use Rattle.mu_model_image.specs.Meta.{Image}
use Rattle.mu_model_image.specs.Laws.{BlocksAreThoseWithin, BlocksAreTheImage}
use Rattle.mu_model_record.specs.Store.{Content, nothing, held, whole, StoreState, content_of_bank}
use Rattle.mu_model_record.specs.Changes.{blocks_in, with_block}
use Rattle.mu_model_node.specs.NodeState.{Job}
use Rattle.mu_model_node.specs.Slots.{put}
use Rattle.mu_model_represents.specs.BlobPart.{BlobJob, held_by, transfer_in}
use Rattle.mu_model_represents.specs.Images.{HasImage}
use Rattle.mu_model_represents.specs.NodeNote.{NoteJob}
use Rattle.mu_model_represents.specs.StoreStates.{IsStoreState}
use Rattle.mu_model_represents.specs.RepresentsNode.{HasNodeJob, job_in, job_by}
use Rattle.mu_model_represents.specs.Blocks.{HeldBlocksAreCut, CutBlocksAreAllHeld, TakesBlocks, NodeBlockIsPut}
use Rattle.mu_model_represents.proofs.Cuts.{held_is_cut}
use Rattle.mu_model_represents.proofs.StoreLemmas.{cut_is_full, cut_is_joined}

pub held_cut : BlocksAreThoseWithin → HeldBlocksAreCut
held_cut within slots size log count lengths full all = held_is_cut within slots size log count lengths full all

pub cut_held : BlocksAreTheImage → CutBlocksAreAllHeld
cut_held tiles octets log = (cut_is_full octets log, cut_is_joined tiles octets log)

module _ (s : StoreState) (b : BlobJob) (i : ℕ) (octets : List ℕ) (state : IsStoreState s) (takes : TakesBlocks s b) where
  -- what the bank holds then, and that the others hold what they held
  content_put : content_of_bank (with_block s b.bank i octets) b.bank ≡ held (slice_set takes.blocks i (Some octets))
  content_put =
      let there : b.bank < length s.contents = omega (arith, takes.there, state.as_many) in
      get_or-set_same s.contents b.bank (held (slice_set (blocks_in (content_of_bank s b.bank)) i (Some octets))) nothing there
      ∙ ap (λ (c : Content). held (slice_set (blocks_in c) i (Some octets))) takes.content

  content_else : (bank : ℕ) → bank ≢ b.bank → content_of_bank (with_block s b.bank i octets) bank ≡ content_of_bank s bank
  content_else bank other = get_or-set_other s.contents b.bank bank (held (slice_set (blocks_in (content_of_bank s b.bank)) i (Some octets))) nothing other

  held_put : held_by b.parameters (content_of_bank (with_block s b.bank i octets) b.bank) ≡ put (held_by b.parameters (content_of_bank s b.bank)) i octets
  held_put =
      (λ k. held_by (takes.begun k) (content_put k)) ∙ sym (λ k. put (held_by (takes.begun k) (takes.content k)) i octets)

  pub block_put : transfer_in (with_block s b.bank i octets) b ≡ record (transfer_in s b) { held = put (transfer_in s b).held i octets }
  block_put = λ k. record { id = b.id; size = b.size; base = b.base; parameters = b.parameters; held = held_put k }

  -- images of other banks stay
  image_stays : (bank : ℕ) (x : Image) → bank ≢ b.bank → HasImage s bank x → HasImage (with_block s b.bank i octets) bank x
  image_stays bank x other has = record { entry = has.entry; content = content_else bank other ∙ has.content }

  not_held : (bank : ℕ) (x : Image) → HasImage s bank x → bank ≢ b.bank
  not_held bank x has same =
      let both : whole x.octets ≡ held takes.blocks = sym has.content ∙ ap (content_of_bank s) same ∙ takes.content in
      cc both

  pub image_held : (bank : ℕ) (x : Image) → HasImage s bank x → HasImage (with_block s b.bank i octets) bank x
  image_held bank x has = image_stays bank x (not_held bank x has) has

  images_stay : (banks : List ℕ) (xs : List Image) → AllZip (HasImage s) banks xs → AllZip (HasImage (with_block s b.bank i octets)) banks xs
  images_stay [] [] all = tt
  images_stay [] (x ∷ xs) all = absurd all
  images_stay (a ∷ banks) [] all = absurd all
  images_stay (a ∷ banks) (x ∷ xs) all = (image_held a x all.0, images_stay banks xs all.1)

  job_put : (active : List ℕ) (n : Option NoteJob) (j : Job) → HasNodeJob s.present active (Some b) n → Some j ≡ job_by s (Some b) n
      → Some (record j { held = put j.held i octets }) ≡ job_by (with_block s b.bank i octets) (Some b) n
  job_put active None j has is = absurd has
  job_put active (Some n) j has is =
      let same : j ≡ job_in s b n = cc is in
      ap (λ (k : Job). Some (record k { held = put k.held i octets })) same
      ∙ (λ k. Some (record {
        id = b.id;
        index = n.index;
        meta = n.meta;
        ttl = n.ttl;
        base = b.base;
        stored = n.stored;
        parameters = b.parameters;
        held = sym held_put k;
      }))

pub node_block : NodeBlockIsPut
node_block s b note d j i octets state takes is job = record {
  is_record = is.is_record;
  count = is.count;
  capacity = is.capacity;
  images = (images_stay s b i octets state takes) note.active d.images is.images;
  job = (job_put s b i octets state takes) note.active note.job j is.is_record.job (sym job ∙ is.job);
}
