-- The function of a store's state beside the relation.
use Rattle.std.proofs.Common.{◌≡◌, ◌∙◌, ◌<◌, ℕ, ◌+◌, Bool, true, false, List, [], ◌∷◌, length, map, Option, Some, None, refl, sym, ap, subst, arith, inl, inr}
use Rattle.std.specs.Prelude.{◌==◌, ◌&&◌, nat_lt, if◌then◌else◌, slice_index}
use Rattle.std.specs.List.{AllZip}
use Rattle.mu_model_image.specs.declared.Meta.{Meta}
use Rattle.mu_model_image.specs.Meta.{Image, meta_of, meta_from}
use Rattle.mu_model_flash.specs.Bits.{part_of}
use Rattle.mu_model_record.specs.Record.{capacity_of}
use Rattle.mu_model_record.specs.Store.{StoreState}
use Rattle.mu_model_node.specs.declared.Stored.{Stored}
use Rattle.mu_model_node.specs.declared.Stored.TheVariants.{Filling, Verified, Refused, Applied}
use Rattle.mu_model_node.specs.NodeState.{Job, NodeDurable}
use Rattle.mu_model_represents.specs.BlobPart.{BlobJob, blob_part, note_part}
use Rattle.mu_model_represents.specs.Images.{HasImage}
use Rattle.mu_model_represents.specs.NodeNote.{NoteJob, NodeNote, stored_number, HasNoteJob, SpellsActive, index_of, SpellsNote, SpellsOldNote, IsNodeNote}
use Rattle.mu_model_represents.specs.RepresentsNode.{job_by, IsNodeOf, IsNode}
use Rattle.mu_model_jobs.specs.Parts.{part_in, PartIsRead}
use Rattle.mu_model_stored_node.specs.NodeIn.{stored_in, index_in, note_job_in, active_in, note_in, meta_in, octets_in, image_in, note_of_store, node_in}

-- ---- the note

active_read : (banks : ℕ) (active octets : List ℕ) → banks ≡ 1 + length active → SpellsActive active octets → active_in banks octets ≡ active
active_read banks [] octets e s = absurd s
active_read banks (a ∷ []) octets e s =
    ap (λ (n : ℕ). if n == 2 then slice_index octets 1 ∷ [] else slice_index octets 1 ∷ slice_index octets 44 ∷ []) e ∙ ap (λ (n : ℕ). n ∷ []) s.0
active_read banks (a ∷ b ∷ []) octets e s =
    ap (λ (n : ℕ). if n == 2 then slice_index octets 1 ∷ [] else slice_index octets 1 ∷ slice_index octets 44 ∷ []) e ∙ (λ i. s.0 i ∷ s.1 i ∷ [])
active_read banks (a ∷ b ∷ c ∷ active) octets e s = absurd s

stored_some : (s : Stored) → (stored_number s == 0) ≡ false
stored_some Filling = refl
stored_some Verified = refl
stored_some Refused = refl
stored_some Applied = refl

stored_read : (s : Stored) → stored_in (stored_number s) ≡ s
stored_read Filling = refl
stored_read Verified = refl
stored_read Refused = refl
stored_read Applied = refl

by_some : (b : Bool) (x m : Meta) → (if b then Some x else None) ≡ Some m → x ≡ m
by_some true x m e = cc
by_some false x m e = cc

meta_read : (octets : List ℕ) (m : Meta) → meta_from octets ≡ Some m → meta_of octets ≡ m
meta_read octets m e = by_some (length octets == 40 && nat_lt 0 (meta_of octets).size) (meta_of octets) m e

job_read : (job : Option NoteJob) (octets : List ℕ) → index_in octets ≡ index_of job → HasNoteJob job octets → note_job_in octets ≡ job
job_read None octets index s =
    ap (λ (n : ℕ). if n == 0 then None else Some (record { stored = stored_in (slice_index octets 2); ttl = slice_index octets 3; meta = meta_of (part_of octets 4 40); index = index_in octets })) s.no_phase_at_2
job_read (Some j) octets index s =
    ap (λ (b : Bool). if b then None else Some (record { stored = stored_in (slice_index octets 2); ttl = slice_index octets 3; meta = meta_of (part_of octets 4 40); index = index_in octets }))
    (ap (λ (n : ℕ). n == 0) s.phase_at_2 ∙ stored_some j.stored)
    ∙ (λ i. Some (record {
      stored = (ap stored_in s.phase_at_2 ∙ stored_read j.stored) i;
      ttl = s.ttl_at_3 i;
      meta = meta_read (part_of octets 4 40) j.meta s.metadata_at_4 i;
      index = index i;
    }))

new_index : (octets : List ℕ) → slice_index octets 0 ≡ 3 → index_in octets ≡ slice_index octets 45
new_index octets e = ap (λ (n : ℕ). if n == 1 then 0 else slice_index octets 45) e

old_index : (octets : List ℕ) → slice_index octets 0 ≡ 1 → index_in octets ≡ 0
old_index octets e = ap (λ (n : ℕ). if n == 1 then 0 else slice_index octets 45) e

old_active : (octets : List ℕ) (banks : ℕ) → banks ≡ 2 → active_in banks octets ≡ slice_index octets 1 ∷ []
old_active octets banks e = ap (λ (n : ℕ). if n == 2 then slice_index octets 1 ∷ [] else slice_index octets 1 ∷ slice_index octets 44 ∷ []) e

read_new : (banks : ℕ) (note : NodeNote) (octets : List ℕ) → banks ≡ 1 + length note.active → SpellsNote note octets → note_in banks octets ≡ note
read_new banks note octets more s = λ i. record {
  active = active_read banks note.active octets more s.active_at_1_44 i;
  job = job_read note.job octets (new_index octets s.kind_at_0 ∙ s.index_at_45) s.job_at_2 i;
}

read_old : (banks : ℕ) (note : NodeNote) (octets : List ℕ) → banks ≡ 1 + length note.active → SpellsOldNote note octets → note_in banks octets ≡ note
read_old banks note octets more s =
    let two : banks ≡ 2 = more ∙ ap (λ (xs : List ℕ). 1 + length xs) s.active_at_1 in
    λ i. record {
      active = (old_active octets banks two ∙ sym s.active_at_1) i;
      job = job_read note.job octets (old_index octets s.kind_at_0 ∙ sym s.index_0) s.job_at_2 i;
    }

pub note_read : (banks : ℕ) (note : NodeNote) (octets : List ℕ) → IsNodeNote banks note octets → note_in banks octets ≡ note
note_read banks note octets is = elim (is.spells) [ inl s ↦ read_new banks note octets is.one_more s | inr s ↦ read_old banks note octets is.one_more s ]

-- ---- the node

images_read : (s : StoreState) (active : List ℕ) (images : List Image) → AllZip (HasImage s) active images → map (image_in s) active ≡ images
images_read s [] [] h = refl
images_read s [] (x ∷ images) h = absurd h
images_read s (b ∷ active) [] h = absurd h
images_read s (b ∷ active) (x ∷ images) h =
    λ i. (record { octets = octets_in (h.0.content i); meta = meta_in (h.0.entry i) }) ∷ images_read s active images h.1 i

read_of : PartIsRead → (s : StoreState) (part : Option BlobJob) (note : NodeNote) (d : NodeDurable) → IsNodeOf s part note d → node_in s ≡ d
read_of law s part note d is =
    let same : note_of_store s ≡ note = note_read s.present.number note (note_part s.present.tag) is.is_record.note_octets in
    let job : part_in (blob_part s.present.tag) ≡ part = law part (blob_part s.present.tag) is.is_record.blob.octets in
    λ i. record {
      count = sym is.count i;
      capacity = sym is.capacity i;
      images = (ap (λ (n : NodeNote). map (image_in s) n.active) same ∙ images_read s note.active d.images is.images) i;
      job = ((λ k. job_by s (job k) (same k).job) ∙ sym is.job) i;
    }

pub node_read : PartIsRead → (s : StoreState) (d : NodeDurable) → IsNode s d → node_in s ≡ d
node_read law s d is = read_of law s is.0 is.1 d is.2
