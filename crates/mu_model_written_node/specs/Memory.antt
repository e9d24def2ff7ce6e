-- The record that a node writes next, as the node has it in memory (this profile).
use Rattle.std.specs.Prelude.{◌≡◌, ℕ, false, Some}
use Rattle.mu_model_record.specs.Record.{IsRecord, entry_of}
use Rattle.mu_model_record.specs.Next.{fresh_after}
use Rattle.mu_model_node.specs.FlashWork.{fresh_after as fresh_left}
use Rattle.mu_model_represents.specs.BlobPart.{BlobJob, note_part, IsBlobRecord}
use Rattle.mu_model_represents.specs.NodeNote.{NoteJob, note_octets}
use Rattle.mu_model_represents.specs.Notes.{NoteFits}
use Rattle.mu_model_represents.specs.RepresentsNode.{StoredGoesWith, HasNodeJob}
use Rattle.mu_model_shown_node.specs.Shown.{InMemory, IsNodeMemory}
use Rattle.mu_model_shown_node.specs.Next.{IsNext, IsSameUpdate}

-- The next record, with the same active banks and this note.
pub record IsWrittenNext (m next : InMemory) : Type 0 where
  pub is_next : IsNext m next
  pub active : next.note.active ≡ m.note.active
  pub note : note_part next.present.tag ≡ note_octets next.note
  pub fits : NoteFits next.note.job
  pub blob : IsBlobRecord next.present next.part
  pub job : HasNodeJob next.present next.note.active next.part next.note.job

abbrev pub WrittenIsANode : Type 0
WrittenIsANode = (m next : InMemory) → IsNodeMemory m → IsRecord m.present → IsWrittenNext m next → IsNodeMemory next

-- both notions of what is fresh agree after it
abbrev pub WrittenIsShort : Type 0
WrittenIsShort = (m : InMemory) (fresh : ℕ) → IsNodeMemory m → IsRecord m.present → fresh_after fresh m.present ≡ fresh_left false fresh

-- what a node's note keeps of its job has its places
abbrev pub NodeNoteFits : Type 0
NodeNoteFits = (m : InMemory) → IsNodeMemory m → IsRecord m.present → NoteFits m.note.job

-- The next record, in which the same update goes on: its note stays.
pub record IsChangedNext (m next : InMemory) (b c : BlobJob) (n : NoteJob) : Type 0 where
  pub is_next : IsNext m next
  pub was : m.part ≡ Some b
  pub part : next.part ≡ Some c
  pub job : m.note.job ≡ Some n
  pub same : IsSameUpdate b c n n
  pub note : next.note ≡ m.note
  pub octets : note_part next.present.tag ≡ note_part m.present.tag
  pub blob : IsBlobRecord next.present next.part
  pub stored : StoredGoesWith n.stored n.meta c.parameters (entry_of next.present c.bank)

abbrev pub ChangedIsANode : Type 0
ChangedIsANode = (m next : InMemory) (b c : BlobJob) (n : NoteJob) → IsNodeMemory m → IsChangedNext m next b c n → IsNodeMemory next
