-- What the record of each row makes of a store that represents a node: the tag is read back (this profile).
use Rattle.std.specs.Prelude.{◌≡◌, ◌++◌, ℕ, false, List, Option, Some, None, length, set}
use Rattle.mu_model_flash.specs.Run.{either, Refines}
use Rattle.mu_model_record.specs.Represents.{RepresentsStore}
use Rattle.mu_model_record.specs.Store.{StoreState}
use Rattle.mu_model_record.specs.Next.{record_steps}
use Rattle.mu_model_record.specs.Changes.{tagged, emptied}
use Rattle.mu_model_record.specs.ChangeLaws.{IsNotLast}
use Rattle.mu_model_node.specs.declared.FlashWork.{FlashWork}
use Rattle.mu_model_node.specs.declared.FlashWork.TheVariants.{Recorded}
use Rattle.mu_model_node.specs.declared.Stored.TheVariants.{Verified, Applied}
use Rattle.mu_model_node.specs.FlashWork.{work_by}
use Rattle.mu_model_node.specs.NodeState.{Job, NodeDurable}
use Rattle.mu_model_node.specs.Sound.{IsNodeDurable}
use Rattle.mu_model_represents.specs.BlobPart.{BlobJob, blob_octets}
use Rattle.mu_model_represents.specs.NodeNote.{NoteJob, NodeNote, note_octets}
use Rattle.mu_model_represents.specs.Numbers.{HasJobNumbers}
use Rattle.mu_model_represents.specs.RepresentsNode.{job_in, part_of_job, note_of_job, IsNodeOf, RepresentsNode}
use Rattle.mu_model_represents.specs.StoreStates.{IsStoreState}
use Rattle.mu_model_stored_node.specs.Kept.{with_next, IsOffered, activated_as}
use Rattle.mu_model_written_node.specs.Free.{IsFreeBank, FillsBank}

-- a store that represents a node, whose record isn't the last that can be, and the bank that isn't active
pub record CanWrite (s : StoreState) (part : Option BlobJob) (note : NodeNote) (d : NodeDurable) (bank : ℕ) : Type 0 where
  pub state : IsStoreState s
  pub counted : IsNotLast s.present
  pub is : IsNodeOf s part note d
  pub free : IsFreeBank s.present note.active bank

-- The state after the operations represents this node, and they are this flash work.
pub record IsWorked (s e : StoreState) (part : Option BlobJob) (note : NodeNote) (d n : NodeDurable) (steps : ℕ → List StoreState) (work : FlashWork) : Type 0 where
  pub state : IsStoreState e
  pub is : IsNodeOf e part note n
  pub as_many : (fresh : ℕ) → length (steps fresh) ≡ length (work_by fresh d n work)
  pub reads : (fresh : ℕ) → Refines (either RepresentsStore) (either RepresentsNode) s (steps fresh) d (work_by fresh d n work)

-- those of one record
abbrev pub IsWritten : StoreState → StoreState → Option BlobJob → NodeNote → NodeDurable → NodeDurable → Type 0
IsWritten s e part note d n = IsWorked s e part note d n (λ (fresh : ℕ). record_steps fresh s e) (Recorded false)

-- the tag of a job with a note
abbrev pub tag_by : Option BlobJob → NodeNote → List ℕ
tag_by part note = blob_octets part ++ note_octets note

abbrev pub note_with : NodeNote → Option NoteJob → NodeNote
note_with note job = record { active = note.active; job = job }

-- the bank that is being filled is given up, if one is
abbrev pub given_up : Option ℕ → StoreState → List ℕ → StoreState
given_up None s tag = tagged s tag
given_up (Some bank) s tag = emptied s bank tag

-- the job goes
abbrev pub LostIsWritten : Type 0
LostIsWritten =
    (s : StoreState) (part : Option BlobJob) (note : NodeNote) (d : NodeDurable) (bank : ℕ) (filling : Option ℕ) → CanWrite s part note d bank → FillsBank filling s.present bank
    → IsNodeDurable (with_next d None)
    → IsWritten s (given_up filling s (tag_by None (note_with note None))) None (note_with note None) d (with_next d None)

-- another one comes in its place
abbrev pub TakenIsWritten : Type 0
TakenIsWritten =
    (s : StoreState) (part : Option BlobJob) (note : NodeNote) (d : NodeDurable) (bank : ℕ) (filling : Option ℕ) (j : Job) → CanWrite s part note d bank → FillsBank filling s.present bank
    → IsOffered j → HasJobNumbers j → IsNodeDurable (with_next d (Some j))
    → IsWritten s (given_up filling s (tag_by (Some (part_of_job bank j)) (note_with note (Some (note_of_job j))))) (Some (part_of_job bank j)) (note_with note (Some (note_of_job j))) d (with_next d (Some j))

-- it is to be applied
abbrev pub applied_note : NoteJob → NoteJob
applied_note n = record { stored = Applied; ttl = n.ttl; meta = n.meta; index = n.index }

abbrev pub AppliedIsWritten : Type 0
AppliedIsWritten =
    (s : StoreState) (b : BlobJob) (n : NoteJob) (note : NodeNote) (d : NodeDurable) (bank : ℕ) → CanWrite s (Some b) note d bank → note.job ≡ Some n → n.stored ≡ Verified
    → IsNodeDurable (with_next d (Some (record (job_in s b n) { stored = Applied })))
    → IsWritten s (tagged s (tag_by (Some b) (note_with note (Some (applied_note n))))) (Some b) (note_with note (Some (applied_note n))) d (with_next d (Some (record (job_in s b n) { stored = Applied })))

-- its image becomes the active one of its index, and the job goes
abbrev pub activated_note : NodeNote → BlobJob → NoteJob → NodeNote
activated_note note b n = record { active = set note.active n.index b.bank; job = None }

abbrev pub ActivatedIsWritten : Type 0
ActivatedIsWritten =
    (s : StoreState) (b : BlobJob) (n : NoteJob) (note : NodeNote) (d : NodeDurable) (bank : ℕ) → CanWrite s (Some b) note d bank → note.job ≡ Some n → n.stored ≡ Applied
    → IsNodeDurable (activated_as d (job_in s b n))
    → IsWritten s (tagged s (tag_by None (activated_note note b n))) None (activated_note note b n) d (activated_as d (job_in s b n))
