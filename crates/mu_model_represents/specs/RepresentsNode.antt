-- When a store, or the octets of a flash, represent what a node keeps (this profile).
use Rattle.std.specs.Prelude.{◌≡◌, ◌++◌, ℕ, ◌<◌, true, false, List, Option, Some, None, is_some, slice_get}
use Rattle.std.specs.List.{AllByRecursion, AllZip}
use Rattle.mu_model_image.specs.declared.Meta.{Meta}
use Rattle.mu_model_record.specs.declared.Record.{Record}
use Rattle.mu_model_record.specs.declared.BankState.{BankState}
use Rattle.mu_model_record.specs.declared.BankState.TheVariants.{Sealed}
use Rattle.mu_model_record.specs.Record.{entry_of, capacity_of, IsFilling}
use Rattle.mu_model_record.specs.Store.{StoreState, content_of_bank}
use Rattle.mu_model_record.specs.Represents.{RepresentsStore}
use Rattle.mu_model_node.specs.declared.Parameters.{Parameters}
use Rattle.mu_model_node.specs.declared.Stored.{Stored}
use Rattle.mu_model_node.specs.declared.Stored.TheVariants.{Filling, Verified, Refused, Applied}
use Rattle.mu_model_node.specs.NodeState.{Job, NodeDurable}
use Rattle.mu_model_represents.specs.BlobPart.{BlobJob, note_part, IsBlobRecord, held_by, blob_octets}
use Rattle.mu_model_represents.specs.Images.{IsSealed, is_among, AllDiffer, HasImage}
use Rattle.mu_model_represents.specs.NodeNote.{NoteJob, NodeNote, IsNodeNote, note_octets, old_note_octets}

-- ---- the rules on a node's record

-- the version is greater than that of the bank
abbrev pub IsNewerThan : ℕ → BankState → Type 0
IsNewerThan version (Sealed meta) = meta.version < version
IsNewerThan version _ = ⊥

abbrev pub IsNewerThanBank : Record → ℕ → Option ℕ → Type 0
IsNewerThanBank r version None = ⊥
IsNewerThanBank r version (Some bank) = IsNewerThan version (entry_of r bank)

-- what the stored phase says of the parameters and of the job's bank
abbrev pub StoredGoesWith : Stored → Meta → Option Parameters → BankState → Type 0
StoredGoesWith Filling meta None bank = Unit {0}
StoredGoesWith Filling meta (Some p) bank = IsFilling bank
StoredGoesWith Verified meta parameters bank = (is_some parameters ≡ true) × (bank ≡ Sealed meta)
StoredGoesWith Refused meta parameters bank = parameters ≡ None
StoredGoesWith Applied meta parameters bank = (is_some parameters ≡ true) × (bank ≡ Sealed meta)

-- a job, by its two parts
pub record IsNodeJob (r : Record) (active : List ℕ) (b : BlobJob) (n : NoteJob) : Type 0 where
  -- its bank is the one that isn't active
  pub bank : is_among active b.bank ≡ false
  pub size : n.meta.size ≡ b.size
  -- its index is one of an image, and its version is greater than that image's
  pub newer : IsNewerThanBank r n.meta.version (slice_get active n.index)
  pub stored : StoredGoesWith n.stored n.meta b.parameters (entry_of r b.bank)

-- both parts have a job, or neither has
abbrev pub HasNodeJob : Record → List ℕ → Option BlobJob → Option NoteJob → Type 0
HasNodeJob r active None None = Unit {0}
HasNodeJob r active (Some b) (Some n) = IsNodeJob r active b n
HasNodeJob r active None (Some n) = ⊥
HasNodeJob r active (Some b) None = ⊥

-- a record that is a node's, with the two parts of its tag
pub record IsNodeRecord (r : Record) (part : Option BlobJob) (note : NodeNote) : Type 0 where
  pub blob : IsBlobRecord r part
  pub note_octets : IsNodeNote r.number note (note_part r.tag)
  pub active_differ : AllDiffer note.active
  pub active_sealed : AllByRecursion (λ (b : ℕ). IsSealed (entry_of r b)) note.active
  pub job : HasNodeJob r note.active part note.job

-- a record that is no node's
abbrev pub IsNoNodeRecord : Record → Type 0
IsNoNodeRecord r = (part : Option BlobJob) (note : NodeNote) → ¬ IsNodeRecord r part note

-- ---- what a node keeps

abbrev pub job_in : StoreState → BlobJob → NoteJob → Job
job_in s b n = record {
  id = b.id;
  index = n.index;
  meta = n.meta;
  ttl = n.ttl;
  base = b.base;
  stored = n.stored;
  parameters = b.parameters;
  held = held_by b.parameters (content_of_bank s b.bank);
}

abbrev pub job_by : StoreState → Option BlobJob → Option NoteJob → Option Job
job_by s (Some b) (Some n) = Some (job_in s b n)
job_by s _ _ = None

-- The active images are those of the active banks, by index.
pub record IsNodeOf (s : StoreState) (part : Option BlobJob) (note : NodeNote) (d : NodeDurable) : Type 0 where
  pub is_record : IsNodeRecord s.present part note
  pub count : d.count ≡ s.present.count
  pub capacity : d.capacity ≡ capacity_of s.present
  pub images : AllZip (HasImage s) note.active d.images
  pub job : d.job ≡ job_by s part note.job

-- a state of a store represents what a node keeps
abbrev pub IsNode : StoreState → NodeDurable → Type 0
IsNode s d = (part : Option BlobJob) × (note : NodeNote) × IsNodeOf s part note d

-- the octets of a flash represent it
abbrev pub RepresentsNode : NodeDurable → List ℕ → Type 0
RepresentsNode d image = (s : StoreState) × RepresentsStore s image × IsNode s d

-- ---- what is written

-- the parts of a job that comes into this bank
abbrev pub part_of_job : ℕ → Job → BlobJob
part_of_job bank j = record { id = j.id; size = j.meta.size; base = j.base; bank = bank; parameters = j.parameters }

abbrev pub note_of_job : Job → NoteJob
note_of_job j = record { stored = j.stored; ttl = j.ttl; meta = j.meta; index = j.index }

abbrev pub part_of_node : ℕ → Option Job → Option BlobJob
part_of_node bank None = None
part_of_node bank (Some j) = Some (part_of_job bank j)

abbrev pub note_jobs : Option Job → Option NoteJob
note_jobs None = None
note_jobs (Some j) = Some (note_of_job j)

abbrev pub note_of_node : List ℕ → Option Job → NodeNote
note_of_node active job = record { active = active; job = note_jobs job }

-- the tag of a node with these active banks, whose job comes into this bank
abbrev pub node_tag : List ℕ → ℕ → Option Job → List ℕ
node_tag active bank job = blob_octets (part_of_node bank job) ++ note_octets (note_of_node active job)

-- the tag with the old note
abbrev pub old_node_tag : List ℕ → ℕ → Option Job → List ℕ
old_node_tag active bank job = blob_octets (part_of_node bank job) ++ old_note_octets (note_of_node active job)
