-- What a node keeps, as a function of a store's state: its tag is read by place and width.
use Rattle.std.specs.Prelude.{◌≡◌, ◌==◌, ℕ, List, [], ◌∷◌, Option, Some, None, map, slice_index, if◌then◌else◌}
use Rattle.mu_model_image.specs.Meta.{meta_of}
use Rattle.mu_model_flash.specs.Bits.{part_of}
use Rattle.mu_model_record.specs.Record.{capacity_of}
use Rattle.mu_model_record.specs.Store.{StoreState}
use Rattle.mu_model_node.specs.declared.Stored.{Stored}
use Rattle.mu_model_node.specs.declared.Stored.TheVariants.{Verified, Refused, Applied}
use Rattle.mu_model_node.specs.declared.Stored.TheVariants.{Filling as Coming}
use Rattle.mu_model_node.specs.NodeState.{NodeDurable}
use Rattle.mu_model_represents.specs.BlobPart.{blob_part, note_part}
use Rattle.mu_model_represents.specs.NodeNote.{NoteJob, NodeNote, IsNodeNote}
use Rattle.mu_model_represents.specs.RepresentsNode.{job_by, IsNode}
pub use Rattle.mu_model_jobs.specs.Images.{no_meta, meta_in, octets_in, image_in}
use Rattle.mu_model_jobs.specs.Parts.{part_in}

-- ---- the note

-- the stored phase of a job (MshDFU, Update Phase)
abbrev pub stored_in : ℕ → Stored
stored_in n = if n == 2 then Coming else if n == 4 then Verified else if n == 5 then Refused else Applied

-- a note of the first kind begins with 1
abbrev pub index_in : List ℕ → ℕ
index_in octets = if slice_index octets 0 == 1 then 0 else slice_index octets 45

abbrev pub note_job_in : List ℕ → Option NoteJob
note_job_in octets =
    if slice_index octets 2 == 0 then None
    else Some (record { stored = stored_in (slice_index octets 2); ttl = slice_index octets 3; meta = meta_of (part_of octets 4 40); index = index_in octets })

-- one active bank of two, or two of three
abbrev pub active_in : ℕ → List ℕ → List ℕ
active_in banks octets = if banks == 2 then slice_index octets 1 ∷ [] else slice_index octets 1 ∷ slice_index octets 44 ∷ []

abbrev pub note_in : ℕ → List ℕ → NodeNote
note_in banks octets = record { active = active_in banks octets; job = note_job_in octets }

-- what the octets say is what the function gives
abbrev pub NoteIsRead : Type 0
NoteIsRead = (banks : ℕ) (note : NodeNote) (octets : List ℕ) → IsNodeNote banks note octets → note_in banks octets ≡ note

-- ---- the node

abbrev pub note_of_store : StoreState → NodeNote
note_of_store s = note_in s.present.number (note_part s.present.tag)

abbrev pub node_in : StoreState → NodeDurable
node_in s = record {
  count = s.present.count;
  capacity = capacity_of s.present;
  images = map (image_in s) (note_of_store s).active;
  job = job_by s (part_in (blob_part s.present.tag)) (note_of_store s).job;
}

-- a store that represents a node represents this one
abbrev pub NodeIsRead : Type 0
NodeIsRead = (s : StoreState) (d : NodeDurable) → IsNode s d → node_in s ≡ d
