-- What a record, or a block, makes of a node in memory (this profile).
use Rattle.std.specs.Prelude.{◌≡◌, ◌+◌, ℕ, true, false, List, [], Some, None, set, slice_set, slice_get}
use Rattle.mu_model_record.specs.declared.Record.{Record}
use Rattle.mu_model_record.specs.declared.BankState.{BankState}
use Rattle.mu_model_record.specs.Record.{entry_of}
use Rattle.mu_model_record.specs.Changes.{next_record}
use Rattle.mu_model_node.specs.declared.Stored.TheVariants.{Filling, Applied}
use Rattle.mu_model_node.specs.Slots.{Slots, received}
use Rattle.mu_model_node.specs.NodeState.{Job, NodeDurable}
use Rattle.mu_model_represents.specs.BlobPart.{BlobJob, note_part, IsBlobRecord}
use Rattle.mu_model_represents.specs.Images.{is_among}
use Rattle.mu_model_represents.specs.NodeNote.{NoteJob, IsNodeNote}
use Rattle.mu_model_represents.specs.RepresentsNode.{IsNewerThanBank, StoredGoesWith, IsNodeJob, HasNodeJob}
use Rattle.mu_model_stored_node.specs.Kept.{with_next, activated_as}
use Rattle.mu_model_shown_node.specs.Shown.{InMemory, IsNodeMemory, job_with, IsShown}

-- the active banks are as before
abbrev pub ActiveStay : List ℕ → Record → Record → Type 0
ActiveStay active old new = (b : ℕ) → is_among active b ≡ true → entry_of new b ≡ entry_of old b

-- the next record, which leaves the active banks as they were
pub record IsNext (m next : InMemory) : Type 0 where
  pub counted : next.present.count ≡ m.present.count + 1
  pub number : next.present.number ≡ m.present.number
  pub pages : next.present.pages ≡ m.present.pages
  pub active : ActiveStay m.note.active m.present next.present

-- a bank that isn't active may hold something else
abbrev pub OthersStay : Type 0
OthersStay = (r : Record) (bank : ℕ) (entry : BankState) (active tag : List ℕ) → is_among active bank ≡ false → ActiveStay active r (next_record r (slice_set r.banks bank entry) tag)

-- ---- what is kept after it

-- The job is what both halves say then.
abbrev pub NextIsShown : Type 0
NextIsShown =
    (m next : InMemory) (d : NodeDurable) (blocks : Slots) → IsShown m d → IsNext m next → next.note.active ≡ m.note.active → received blocks ≡ next.held
    → IsShown next (with_next d (job_with next.part next.note.job blocks))

-- a block is put, and no record says so
abbrev pub BlockIsShown : Type 0
BlockIsShown =
    (m next : InMemory) (d : NodeDurable) (blocks : Slots) → IsShown m d → next.present ≡ m.present → next.note ≡ m.note → received blocks ≡ next.held
    → IsShown next (record d { job = job_with next.part next.note.job blocks })

-- the job's image becomes the active one of its index, and the job goes
abbrev pub ActivatedIsShown : Type 0
ActivatedIsShown =
    (m next : InMemory) (d : NodeDurable) (j : Job) (b : BlobJob) (n : NoteJob) → IsNodeMemory m → IsShown m d → d.job ≡ Some j → m.part ≡ Some b → m.note.job ≡ Some n
    → n.stored ≡ Applied → next.present.count ≡ m.present.count + 1 → next.present.pages ≡ m.present.pages → next.present.banks ≡ m.present.banks
    → next.note.active ≡ set m.note.active n.index b.bank → next.part ≡ None → next.note.job ≡ None → next.held ≡ [] → IsShown next (activated_as d j)

-- ---- the rules on it

-- the two parts of its tag are those in memory, and the job goes with it
pub record SaysJob (next : InMemory) : Type 0 where
  pub blob : IsBlobRecord next.present next.part
  pub note : IsNodeNote next.present.number next.note (note_part next.present.tag)
  pub job : HasNodeJob next.present next.note.active next.part next.note.job

abbrev pub NextIsANode : Type 0
NextIsANode = (m next : InMemory) → IsNodeMemory m → IsNext m next → next.note.active ≡ m.note.active → SaysJob next → IsNodeMemory next

-- the same update goes on: its stored phase goes with its parameters and its bank
pub record IsSameUpdate (b c : BlobJob) (n o : NoteJob) : Type 0 where
  pub bank : c.bank ≡ b.bank
  pub size : c.size ≡ b.size
  pub meta : o.meta ≡ n.meta
  pub index : o.index ≡ n.index

abbrev pub JobGoesOn : Type 0
JobGoesOn =
    (active : List ℕ) (old new : Record) (b c : BlobJob) (n o : NoteJob) → IsNodeJob old active b n → ActiveStay active old new → IsSameUpdate b c n o
    → StoredGoesWith o.stored o.meta c.parameters (entry_of new c.bank) → IsNodeJob new active c o

-- an update that was just taken, of an image that is newer than the active one of its index
pub record IsTaken (active : List ℕ) (r : Record) (b : BlobJob) (n : NoteJob) : Type 0 where
  pub bank : is_among active b.bank ≡ false
  pub size : n.meta.size ≡ b.size
  pub newer : IsNewerThanBank r n.meta.version (slice_get active n.index)
  pub stored : n.stored ≡ Filling
  pub parameters : b.parameters ≡ None

abbrev pub JobIsTaken : Type 0
JobIsTaken = (active : List ℕ) (old new : Record) (b : BlobJob) (n : NoteJob) → IsTaken active old b n → ActiveStay active old new → IsNodeJob new active b n

-- the job's bank is the active one of its index
abbrev pub ActivatedIsANode : Type 0
ActivatedIsANode =
    (m next : InMemory) (b : BlobJob) (n : NoteJob) → IsNodeMemory m → m.part ≡ Some b → m.note.job ≡ Some n → n.stored ≡ Applied → next.present.number ≡ m.present.number
    → next.present.banks ≡ m.present.banks → next.note.active ≡ set m.note.active n.index b.bank → next.part ≡ None → next.note.job ≡ None → SaysJob next → IsNodeMemory next
