-- The record that is written next is a node's.
use Rattle.std.proofs.Common.{◌≡◌, ◌∙◌, ◌<◌, ◌≤◌, ◌⊎◌, inl, inr, ℕ, ◌+◌, List, [], ◌∷◌, length, Option, Some, None, sym, ap, subst, arith}
use Rattle.std.specs.Prelude.{false}
use Rattle.std.specs.List.{AllByRecursion}
use Rattle.mu_model_image.specs.Laws.{MetaThatIsReadIsInRange}
use Rattle.mu_model_flash.specs.Bits.{AreOctets, part_of}
use Rattle.mu_model_flash.specs.Laws.{RangeLaws}
use Rattle.mu_model_record.specs.Record.{zeros, IsRecord}
use Rattle.mu_model_record.specs.Next.{fresh_after}
use Rattle.mu_model_node.specs.FlashWork.{fresh_after as fresh_left}
use Rattle.mu_model_represents.specs.BlobPart.{BlobJob, note_part}
use Rattle.mu_model_represents.specs.NodeNote.{NoteJob, NodeNote, HasNoteJob, index_of, SpellsNote, SpellsOldNote, IsNodeNote, note_octets}
use Rattle.mu_model_represents.specs.Notes.{NoteFits, NodeNoteIsReadBack}
use Rattle.mu_model_represents.specs.Octets.{TagLaws}
use Rattle.mu_model_represents.specs.RepresentsNode.{IsNodeJob, HasNodeJob}
use Rattle.mu_model_represents.specs.Short.{RecordIsShortByItsNote}
use Rattle.mu_model_stored_node.specs.Steps.{ShortFreshIsTheSame}
use Rattle.mu_model_shown_node.specs.Shown.{InMemory, IsNodeMemory}
use Rattle.mu_model_shown_node.specs.Next.{NextIsANode, JobGoesOn}
use Rattle.mu_model_written_node.specs.Memory.{IsWrittenNext, IsChangedNext}
use Rattle.mu_model_written_node.proofs.Free.{AreFew, few, all_there}

pub are_octets : (n : ℕ) (active : List ℕ) → n ≤ 256 → AllByRecursion (λ (b : ℕ). b < n) active → AllByRecursion (λ (b : ℕ). b < 256) active
are_octets n [] most all = tt
are_octets n (b ∷ active) most all = (omega (arith, most, all.0), are_octets n active most all.1)

pub written_node : NextIsANode → NodeNoteIsReadBack → (m next : InMemory) → IsNodeMemory m → IsRecord m.present → IsWrittenNext m next → IsNodeMemory next
written_node law back m next rules is w =
    let are : AreFew next.note.active = subst AreFew (sym w.active) (few m.present.number m.note _ rules.note_octets) in
    let octets = are_octets m.present.number m.note.active (omega (arith, is.number_most)) (all_there m.present m.note.active is rules.active_sealed) in
    let read = back next.note w.fits are.least are.most (subst (λ (l : List ℕ). AllByRecursion (λ (b : ℕ). b < 256) l) (sym w.active) octets) in
    let many : 1 + length next.note.active ≡ next.present.number = ap (λ (l : List ℕ). 1 + length l) w.active ∙ sym rules.note_octets.one_more ∙ sym w.is_next.number in
    law m next rules w.is_next w.active
    (record { blob = w.blob; note = subst (λ (l : List ℕ). IsNodeNote next.present.number next.note l) (sym w.note) (subst (λ (k : ℕ). IsNodeNote k next.note (note_octets next.note)) many read); job = w.job })

note_zeros : TagLaws → (note : NodeNote) (a : List ℕ) → length a ≡ 1728 → SpellsNote note a ⊎ SpellsOldNote note a → part_of a 192 1536 ≡ zeros 1536
note_zeros laws note a many (inl h) = laws.joins.zeros_within a 46 1682 146 1536 (omega arith) (omega (arith, many)) h.zero_at_46
note_zeros laws note a many (inr h) = laws.joins.zeros_within a 44 1684 148 1536 (omega arith) (omega (arith, many)) h.zero_at_44

pub written_short : RangeLaws → TagLaws → RecordIsShortByItsNote → ShortFreshIsTheSame → (m : InMemory) (fresh : ℕ) → IsNodeMemory m → IsRecord m.present → fresh_after fresh m.present ≡ fresh_left false fresh
written_short ranges laws by_note same m fresh rules is =
    let many : length (note_part m.present.tag) ≡ 1728 = ranges.parts.length_part m.present.tag 64 1728 (omega (arith, is.tag_size)) in
    same fresh m.present ((by_note m.present is).1 (note_zeros laws m.note (note_part m.present.tag) many rules.note_octets.spells))

job_fits : TagLaws → MetaThatIsReadIsInRange → (job : Option NoteJob) (octets : List ℕ) → AreOctets octets → HasNoteJob job octets → index_of job < 256 → NoteFits job
job_fits laws in_range None octets are has index = tt
job_fits laws in_range (Some j) octets are has index = record {
  ttl = omega (arith, has.ttl_at_3, are 3);
  meta = in_range (part_of octets 4 40) j.meta (laws.octets.each (part_of octets 4 40) (laws.octets.of_part octets 4 40 are)) has.metadata_at_4;
  index = index;
}

fits_by : TagLaws → MetaThatIsReadIsInRange → (note : NodeNote) (octets : List ℕ) → AreOctets octets → SpellsNote note octets ⊎ SpellsOldNote note octets → NoteFits note.job
fits_by laws in_range note octets are (inl new) = job_fits laws in_range note.job octets are new.job_at_2 (omega (arith, new.index_at_45, are 45))
fits_by laws in_range note octets are (inr old) = job_fits laws in_range note.job octets are old.job_at_2 (omega (arith, old.index_0))

pub note_fits : TagLaws → MetaThatIsReadIsInRange → (m : InMemory) → IsNodeMemory m → IsRecord m.present → NoteFits m.note.job
note_fits laws in_range m rules is =
    fits_by laws in_range m.note (note_part m.present.tag) (laws.octets.of_part m.present.tag 64 1728 is.tag_octets) rules.note_octets.spells

pub changed_node : NextIsANode → JobGoesOn → (m next : InMemory) (b c : BlobJob) (n : NoteJob) → IsNodeMemory m → IsChangedNext m next b c n → IsNodeMemory next
changed_node law goes m next b c n rules w =
    let was : IsNodeJob m.present m.note.active b n =
    subst (λ (q : Option NoteJob). HasNodeJob m.present m.note.active (Some b) q) w.job (subst (λ (q : Option BlobJob). HasNodeJob m.present m.note.active q m.note.job) w.was rules.job) in
    let now : HasNodeJob next.present m.note.active (Some c) (Some n) = goes m.note.active m.present next.present b c n n was w.is_next.active w.same w.stored in
    let job = subst (λ (q : Option NoteJob). HasNodeJob next.present m.note.active (Some c) q) (sym w.job) now in
    law m next rules w.is_next (ap (λ (k : NodeNote). k.active) w.note)
    (record {
      blob = w.blob;
      note = rw (w.is_next.number, w.note, w.octets) rules.note_octets;
      job = subst (λ (k : NodeNote). HasNodeJob next.present k.active next.part k.job) (sym w.note) (subst (λ (q : Option BlobJob). HasNodeJob next.present m.note.active q m.note.job) (sym w.part) job);
    })
