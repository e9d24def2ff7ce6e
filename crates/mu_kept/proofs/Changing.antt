-- What a row's change makes of what is kept.
use Rattle.std.proofs.Common.{◌≡◌, ◌∙◌, ℕ, Bool, true, false, Option, Some, None, List, [], set, replicate, refl, sym, ap, subst}
use Rattle.std.specs.Prelude.{if◌then◌else◌}
use Rattle.std.specs.List.{list_all}
use Rattle.mu_model_image.specs.Pieces.{block_count}
use Rattle.mu_model_record.specs.declared.Record.{Record}
use Rattle.mu_model_record.specs.declared.BankState.{BankState}
use Rattle.mu_model_record.specs.declared.BankState.TheVariants.{Empty, Filling, Sealed}
use Rattle.mu_model_record.specs.Record.{entry_of, capacity_of, IsFilling}
use Rattle.mu_model_node.specs.declared.Parameters.{Parameters}
use Rattle.mu_model_node.specs.Slots.{Slots, received}
use Rattle.mu_model_node.specs.BlobServer.{Lacking, Change, Begins, Drops, Puts, serving_after}
use Rattle.mu_note.specs.declared.blob.BlobJob.{BlobJob}
use Rattle.mu_blob_rows.specs.declared.looks.Serving.TheVariants.{Lacking as LackingHere, Whole as WholeHere}
use Rattle.mu_blob_rows.specs.Looks.{transfer_with, serving_with}
use Rattle.mu_place.specs.declared.place.Place.{Place}
use Rattle.mu_place.specs.Place.{place_record, place_held}
use Rattle.mu_kept.specs.declared.store.JobStore.{JobStore}
use Rattle.mu_kept.specs.Views.{place_in, job_in, with_parameters, is_filling, fills_by, flags_by, flags_with, flags_of, flags_in, transfer_look, serving_by, serving_of, serving_in}
use Rattle.mu_kept.specs.Shows.{Shows, served_with, held_after, IsChanged}
use Rattle.mu_kept.proofs.Showing.{shown, received-empty, received-put}

-- ---- a job that lacks blocks

pub new_lacks : (job : Option BlobJob) (flags : List Bool) (j : BlobJob) → job ≡ Some j → j.parameters ≡ None → serving_of job flags ≡ LackingHere (transfer_look j)
new_lacks job flags j is new = ap (λ (o : Option BlobJob). serving_of o flags) is ∙ ap (λ (q : Option Parameters). serving_by (transfer_look j) q flags) new

pub begun_lacks : (job : Option BlobJob) (flags : List Bool) (j : BlobJob) (p : Parameters) → job ≡ Some j → j.parameters ≡ Some p → list_all (λ b. b) flags ≡ false
    → serving_of job flags ≡ LackingHere (transfer_look j)
begun_lacks job flags j p is has lacks =
    ap (λ (o : Option BlobJob). serving_of o flags) is
    ∙ ap (λ (q : Option Parameters). serving_by (transfer_look j) q flags) has
    ∙ ap (λ (b : Bool). if b then WholeHere (transfer_look j) else LackingHere (transfer_look j)) lacks

module _ {F : Type 0} {g : _} (old new : JobStore F g) (j : BlobJob) (held : Slots) (lacks : serving_in old ≡ LackingHere (transfer_look j))
    (capacity : capacity_of (place_record (place_in new)) ≡ capacity_of (place_record (place_in old))) where
  changes : (change : Change) → Shows new (held_after change held)
      → served_with (job_in new) (held_after change held) ≡ serving_after change (Lacking (transfer_with (transfer_look j) held)) → IsChanged old new change held
  changes change shows served = record {
    shows = shows;
    serving = shown (job_in new) (flags_in new) (held_after change held) shows ∙ served ∙ ap (λ v. serving_after change (serving_with v held)) (sym lacks);
    capacity = capacity;
  }

  pub begins : (p : Parameters) → job_in new ≡ Some (with_parameters (Some p) j) → flags_in new ≡ replicate (block_count p.size p.log) false → IsChanged old new (Begins p) held
  begins p job flags = changes (Begins p) (received-empty (block_count p.size p.log) ∙ sym flags) (ap (λ o. served_with o (held_after (Begins p) held)) job)

  pub drops : job_in new ≡ Some (with_parameters None j) → flags_in new ≡ [] → IsChanged old new Drops held
  drops job flags = changes Drops (sym flags) (ap (λ o. served_with o []) job)

  pub puts : (i : ℕ) (octets : List ℕ) → Shows old held → job_in new ≡ Some j → flags_in new ≡ set (flags_in old) i true → IsChanged old new (Puts i octets) held
  puts i octets shows job flags = changes (Puts i octets) (received-put held i octets (flags_in old) shows ∙ sym flags) (ap (λ o. served_with o (held_after (Puts i octets) held)) job)

-- ---- flags

-- those of a bank that is being filled are its marks
pub flags_marked : {F : Type 0} {g : _} (place : Place F g) (job : Option BlobJob) (j : BlobJob) (p : Parameters) → job ≡ Some j → j.parameters ≡ Some p
    → fills_by place job ≡ true → flags_of place job ≡ place_held place
flags_marked place job j p is has fills =
    ap (flags_of place) is
    ∙ ap (flags_with (entry_of (place_record place) j.bank) (place_held place)) has
    ∙ marked (entry_of (place_record place) j.bank) (sym (ap (fills_by place) is) ∙ fills)
  where
    marked : (e : BankState) → is_filling e ≡ true → flags_by e (place_held place) p ≡ place_held place
    marked Empty h = absurd (cc h)
    marked (Filling size log) h = refl
    marked (Sealed meta) h = absurd (cc h)

-- of a bank that isn't, the marks don't count
pub flags_rest : (e : BankState) (m n : List Bool) (q : Option Parameters) → (IsFilling e → ⊥) → flags_with e m q ≡ flags_with e n q
flags_rest e m n None never = refl
flags_rest Empty m n (Some p) never = refl
flags_rest (Filling size log) m n (Some p) never = absurd (never tt)
flags_rest (Sealed meta) m n (Some p) never = refl

-- of a bank that was just begun
pub flags_begun : {F : Type 0} {g : _} (place : Place F g) (j : BlobJob) (p : Parameters) → entry_of (place_record place) j.bank ≡ Filling p.size p.log
    → flags_of place (Some (with_parameters (Some p) j)) ≡ place_held place
flags_begun place j p e = ap (λ (entry : BankState). flags_by entry (place_held place) p) e
