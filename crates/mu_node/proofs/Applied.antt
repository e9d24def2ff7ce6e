-- An update that is to be applied.
use Rattle.std.proofs.Common.{◌≡◌, ◌∙◌, ℕ, List, Option, Some, None, refl, sym, ap, subst}
use Rattle.std.specs.Prelude.{false}
use Rattle.std.specs.Option.{option_map}
use Rattle.mu_model_record.specs.declared.Record.{Record}
use Rattle.mu_model_record.specs.Store.{StoreState}
use Rattle.mu_model_record.specs.Record.{IsRecord, entry_of}
use Rattle.mu_model_record.specs.Changes.{next_record, tagged}
use Rattle.mu_model_node.specs.declared.Stored.{Stored}
use Rattle.mu_model_node.specs.declared.Stored.TheVariants.{Verified, Applied}
use Rattle.mu_model_node.specs.declared.FlashWork.TheVariants.{Recorded}
use Rattle.mu_model_node.specs.FlashWork.{fresh_after as fresh_left}
use Rattle.mu_model_node.specs.Slots.{Slots, received}
use Rattle.mu_model_node.specs.NodeState.{Job, NodeState}
use Rattle.mu_model_node.specs.Sound.{IsNodeDurable}
use Rattle.mu_model_represents.specs.BlobPart.{BlobJob, IsBlobRecord}
use Rattle.mu_model_represents.specs.NodeNote.{NoteJob, NodeNote, note_octets}
use Rattle.mu_model_represents.specs.Notes.{FitsNote, NoteFits}
use Rattle.mu_model_represents.specs.RepresentsNode.{job_in, job_by, StoredGoesWith, HasNodeJob}
use Rattle.mu_model_stored_node.specs.Kept.{with_next}
use Rattle.mu_model_shown_node.specs.Shown.{IsNodeMemory, job_with, IsShown}
use Rattle.mu_model_shown_node.specs.Next.{JobGoesOn}
use Rattle.mu_model_written_node.specs.Memory.{NodeNoteFits}
use Rattle.mu_model_written_node.specs.Written.{CanWrite, IsWritten, AppliedIsWritten, tag_by, note_with, applied_note}
use Rattle.mu_update_rows.specs.Rows.{applied_with}
use Rattle.mu_note.specs.declared.node.NodeNote.{NodeNote as NoteHere}
use Rattle.mu_note.specs.Views.{note_job, node_note, active_banks}
use Rattle.mu_place.specs.Place.{place_record, place_fresh}
use Rattle.mu_kept.specs.Tags.{tag_with}
use Rattle.mu_kept.specs.Views.{job_in as job_of_store, part_in, flags_in}
use Rattle.mu_blobsrv.specs.declared.server.BlobServer.{BlobServer}
use Rattle.mu_blobsrv.specs.Views.{store_of, place_of, session_of}
use Rattle.mu_node.specs.declared.node.Node.{Node}
use Rattle.mu_node.specs.Memory.{memory_with}
use Rattle.mu_node.specs.Views.{server_in, place_in, memory_of, moment_of}
use Rattle.mu_node.specs.Does.{HasInMemory}
use Rattle.mu_node.proofs.Recorded.{HasWritten, Laws, same_banks, rules_after, shown_after}

-- ---- in memory

pub applied_job : JobGoesOn → (r : Record) (active tag : List ℕ) (part : Option BlobJob) (n : NoteJob) → HasNodeJob r active part (Some n) → n.stored ≡ Verified
    → HasNodeJob (next_record r r.banks tag) active part (Some (applied_note n))
applied_job law r active tag None n has stored = absurd has
applied_job law r active tag (Some b) n has stored =
    law active r (next_record r r.banks tag) b b n (applied_note n) has (same_banks active r tag) (record { bank = refl; size = refl; meta = refl; index = refl })
    (subst (λ (q : Stored). StoredGoesWith q n.meta b.parameters (entry_of r b.bank)) stored has.stored)

-- the update that is there
pub record IsThere (n : NodeState) (part : Option BlobJob) (k : NoteJob) (blocks : Slots) : Type 0 where
  pub job : Job
  pub is : n.durable.job ≡ Some job
  pub applied : job_with part (Some (applied_note k)) blocks ≡ Some (record job { stored = Applied })

there_by : (n : NodeState) (part : Option BlobJob) (k : NoteJob) (blocks : Slots) (r : Record) (active : List ℕ) → HasNodeJob r active part (Some k) → n.durable.job ≡ job_with part (Some k) blocks → IsThere n part k blocks
there_by n None k blocks r active has is = absurd has
there_by n (Some b) k blocks r active has is = record {
  job = record { id = b.id; index = k.index; meta = k.meta; ttl = k.ttl; base = b.base; stored = k.stored; parameters = b.parameters; held = blocks };
  is = is;
  applied = refl;
}

pub is_there : (n : NodeState) (part : Option BlobJob) (job : Option NoteJob) (k : NoteJob) (blocks : Slots) (r : Record) (active : List ℕ) → job ≡ Some k → HasNodeJob r active part job
    → n.durable.job ≡ job_with part job blocks → IsThere n part k blocks
is_there n part job k blocks r active is has kept =
    there_by n part k blocks r active (subst (λ (q : Option NoteJob). HasNodeJob r active part q) is has) (kept ∙ ap (λ (q : Option NoteJob). job_with part q blocks) is)

-- the rules on what is in memory then
module _ {F : Type 0} {g : _} (laws : Laws) (v w : BlobServer F g) (k l : NoteHere) (n : NoteJob) (rules : IsNodeMemory (memory_with v k)) (is : IsRecord (place_record (place_of v)))
    (wrote : HasWritten v w l (place_record (place_of v)).banks (job_of_store (store_of v))) (active : active_banks l.active ≡ active_banks k.active) (old : option_map note_job k.job ≡ Some n)
    (new : option_map note_job l.job ≡ Some (applied_note n)) where
  applied_fits : NodeNoteFits → NoteFits (option_map note_job l.job)
  applied_fits law =
      let fits : FitsNote n = subst NoteFits old (law (memory_with v k) rules is) in
      subst NoteFits (sym new) (record { ttl = fits.ttl; meta = fits.meta; index = fits.index })

  applied_has : JobGoesOn → n.stored ≡ Verified → HasNodeJob (next_record (place_record (place_of v)) (place_record (place_of v)).banks (tag_with (job_of_store (store_of v)) (note_octets (node_note l)))) (active_banks l.active) (part_in (store_of v)) (option_map note_job l.job)
  applied_has law stored =
      let r = place_record (place_of v) in
      let t = tag_with (job_of_store (store_of v)) (note_octets (node_note l)) in
      let had : HasNodeJob r (active_banks k.active) (part_in (store_of v)) (Some n) = subst (λ (q : Option NoteJob). HasNodeJob r (active_banks k.active) (part_in (store_of v)) q) old rules.job in
      subst (λ (q : Option NoteJob). HasNodeJob (next_record r r.banks t) (active_banks l.active) (part_in (store_of v)) q) (sym new)
      (subst (λ (a : List ℕ). HasNodeJob (next_record r r.banks t) a (part_in (store_of v)) (Some (applied_note n))) (sym active) (applied_job law r (active_banks k.active) t (part_in (store_of v)) n had stored))

  pub applied_rules : NodeNoteFits → JobGoesOn → n.stored ≡ Verified → IsBlobRecord (place_record (place_of w)) (part_in (store_of w)) → IsNodeMemory (memory_with w l)
  applied_rules fits law stored blob =
      rules_after laws v w k l (place_record (place_of v)).banks (job_of_store (store_of v)) rules is wrote (same_banks (active_banks k.active) (place_record (place_of v)) (tag_with (job_of_store (store_of v)) (note_octets (node_note l)))) active (applied_fits fits) blob (applied_has law stored)

  pub applied_kept : (m : NodeState) (blocks : Slots) → (there : IsThere m (part_in (store_of v)) n blocks) → IsShown (memory_with v k) m.durable → received blocks ≡ flags_in (store_of w)
      → IsShown (memory_with w l) (with_next m.durable (Some (record there.job { stored = Applied })))
  applied_kept m blocks there shown held =
      let next = shown_after laws v w k l (place_record (place_of v)).banks (job_of_store (store_of v)) rules is wrote (same_banks (active_banks k.active) (place_record (place_of v)) (tag_with (job_of_store (store_of v)) (note_octets (node_note l)))) active m.durable blocks shown held in
      subst (λ (q : Option Job). IsShown (memory_with w l) (with_next m.durable q)) (ap (λ (q : Option NoteJob). job_with (part_in (store_of v)) q blocks) new ∙ there.applied) next

-- ---- on the flash

pub applied_written : AppliedIsWritten → (s : StoreState) (part : Option BlobJob) (note : NodeNote) (k : NoteJob) (n : NodeState) (to bank : ℕ) → CanWrite s part note n.durable bank → note.job ≡ Some k
    → k.stored ≡ Verified → IsNodeDurable (applied_with n to n.durable.job).next.durable
    → IsWritten s (tagged s (tag_by part (note_with note (Some (applied_note k))))) part (note_with note (Some (applied_note k))) n.durable (applied_with n to n.durable.job).next.durable
applied_written law s None note k n to bank can has stored is =
    absurd (subst (λ (q : Option NoteJob). HasNodeJob s.present note.active None q) has can.is.is_record.job)
applied_written law s (Some b) note k n to bank can has stored is =
    let job : n.durable.job ≡ Some (job_in s b k) = can.is.job ∙ ap (λ (q : Option NoteJob). job_by s (Some b) q) has in
    let P : Option Job → Type 0 = λ q. IsWritten s (tagged s (tag_by (Some b) (note_with note (Some (applied_note k))))) (Some b) (note_with note (Some (applied_note k))) n.durable (applied_with n to q).next.durable in
    subst P (sym job) (law s b k note n.durable bank can has stored (subst (λ (q : Option Job). IsNodeDurable (applied_with n to q).next.durable) job is))

pub applied_work : (s : StoreState) (part : Option BlobJob) (note : NodeNote) (k : NoteJob) (n : NodeState) (to bank : ℕ) → CanWrite s part note n.durable bank → note.job ≡ Some k
    → (applied_with n to n.durable.job).work ≡ Recorded false
applied_work s None note k n to bank can has = absurd (subst (λ (q : Option NoteJob). HasNodeJob s.present note.active None q) has can.is.is_record.job)
applied_work s (Some b) note k n to bank can has =
    let job : n.durable.job ≡ Some (job_in s b k) = can.is.job ∙ ap (λ (q : Option NoteJob). job_by s (Some b) q) has in
    ap (λ (q : Option Job). (applied_with n to q).work) job

pub in_memory : {F : Type 0} {g : _} (new : Node F g) (n : NodeState) (to : ℕ) (j : Job) → n.durable.job ≡ Some j → IsShown (memory_of new) (with_next n.durable (Some (record j { stored = Applied })))
    → fresh_left false n.fresh ≡ place_fresh (place_in new) → n.session ≡ session_of (server_in new) → n.moment ≡ moment_of new → HasInMemory new (applied_with n to n.durable.job).next
in_memory new n to j is kept fresh session moment =
    subst (λ (q : Option Job). HasInMemory new (applied_with n to q).next) (sym is) (record { kept = kept; fresh = fresh; session = session; moment = moment })
