-- A node as it stands in memory beside its flash (this profile). The octets of images and of blocks lie in the flash alone, so its model state
-- is a relation.
use Rattle.std.specs.Prelude.{◌≡◌, ℕ, Bool, List, [], Option, Some, None, map}
use Rattle.std.specs.List.{AllZip, list_all}
use Rattle.mu_model_image.specs.Meta.{Image}
use Rattle.mu_model_record.specs.declared.Record.{Record}
use Rattle.mu_model_record.specs.declared.BankState.TheVariants.{Sealed}
use Rattle.mu_model_record.specs.Record.{entry_of, capacity_of}
use Rattle.mu_model_record.specs.Store.{StoreState, content_of_bank}
use Rattle.mu_model_node.specs.Slots.{Slots, is_full, received}
use Rattle.mu_model_node.specs.NodeState.{Job, NodeDurable}
use Rattle.mu_model_represents.specs.BlobPart.{BlobJob, held_by}
use Rattle.mu_model_represents.specs.Images.{HasImage}
use Rattle.mu_model_represents.specs.NodeNote.{NoteJob, NodeNote}
use Rattle.mu_model_represents.specs.RepresentsNode.{IsNodeRecord, IsNodeOf}
use Rattle.mu_model_stored_node.specs.NodeIn.{meta_in}

pub record InMemory : Type 0 where
  pub present : Record
  -- what the BLOB part of its tag says, and what its note says
  pub part : Option BlobJob
  pub note : NodeNote
  -- whether each block of the job's transfer is held
  pub held : List Bool

-- every rule on a node's record
abbrev pub IsNodeMemory : InMemory → Type 0
IsNodeMemory m = IsNodeRecord m.present m.part m.note

-- ---- the node

abbrev pub HasMeta : Record → ℕ → Image → Type 0
HasMeta r bank image = entry_of r bank ≡ Sealed image.meta

-- the job that both halves say, with the octets of its blocks
abbrev pub job_with : Option BlobJob → Option NoteJob → Slots → Option Job
job_with (Some b) (Some n) blocks = Some (record {
  id = b.id;
  index = n.index;
  meta = n.meta;
  ttl = n.ttl;
  base = b.base;
  stored = n.stored;
  parameters = b.parameters;
  held = blocks;
})
job_with None n blocks = None
job_with (Some b) None blocks = None

-- what is in memory of what a node keeps: all but the octets of images and blocks
pub record IsShown (m : InMemory) (d : NodeDurable) : Type 0 where
  pub count : d.count ≡ m.present.count
  pub capacity : d.capacity ≡ capacity_of m.present
  pub images : AllZip (HasMeta m.present) m.note.active d.images
  pub blocks : Slots
  pub held : received blocks ≡ m.held
  pub job : d.job ≡ job_with m.part m.note.job blocks

-- ---- beside a store

-- the blocks of a job in a state of the store; none without a job
abbrev pub blocks_in : StoreState → Option BlobJob → Slots
blocks_in s None = []
blocks_in s (Some b) = held_by b.parameters (content_of_bank s b.bank)

-- what is in memory of a store's state, whose tag says this
abbrev pub memory_of : StoreState → Option BlobJob → NodeNote → InMemory
memory_of s part note = record { present = s.present; part = part; note = note; held = received (blocks_in s part) }

abbrev pub RepresentedIsShown : Type 0
RepresentedIsShown = (s : StoreState) (part : Option BlobJob) (note : NodeNote) (d : NodeDurable) → IsNodeOf s part note d → IsShown (memory_of s part note) d

-- The images lie in the active banks, and the job's blocks in its bank.
pub record LiesIn (s : StoreState) (part : Option BlobJob) (note : NodeNote) (d : NodeDurable) : Type 0 where
  pub images : AllZip (HasImage s) note.active d.images
  pub job : d.job ≡ job_with part note.job (blocks_in s part)

abbrev pub ShownIsRepresented : Type 0
ShownIsRepresented =
    (s : StoreState) (part : Option BlobJob) (note : NodeNote) (d : NodeDurable) → IsNodeMemory (memory_of s part note) → IsShown (memory_of s part note) d
    → LiesIn s part note d → IsNodeOf s part note d

abbrev pub MemoryIsOne : Type 0
MemoryIsOne =
    (s : StoreState) (part other : Option BlobJob) (note another : NodeNote) (d : NodeDurable) → IsNodeRecord s.present part note → IsNodeOf s other another d
    → (other ≡ part) × (another ≡ note)

-- ---- what the rows look at

-- the metadata of the active images by index
abbrev pub MetasAreShown : Type 0
MetasAreShown = (m : InMemory) (d : NodeDurable) → IsShown m d → map (λ (b : ℕ). meta_in (entry_of m.present b)) m.note.active ≡ map (λ (image : Image). image.meta) d.images

-- all blocks are held
abbrev pub FullIsShown : Type 0
FullIsShown = (blocks : Slots) (held : List Bool) → received blocks ≡ held → is_full blocks ≡ list_all (λ (there : Bool). there) held
