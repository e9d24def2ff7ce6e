-- The note of a node as a table: its active banks, and what it keeps of a job beside the BLOB part (this profile).
use Rattle.std.specs.Prelude.{◌≡◌, ◌⊎◌, ◌++◌, ◌+◌, ℕ, List, [], ◌∷◌, Option, Some, None, length, slice_index}
use Rattle.mu_model_image.specs.declared.Meta.{Meta}
use Rattle.mu_model_image.specs.Meta.{meta_from, meta_octets}
use Rattle.mu_model_flash.specs.Bits.{part_of}
use Rattle.mu_model_record.specs.Record.{zeros}
use Rattle.mu_model_node.specs.declared.Stored.{Stored}
use Rattle.mu_model_node.specs.declared.Stored.TheVariants.{Filling, Verified, Refused, Applied}

-- what the note keeps of a job
pub record NoteJob : Type 0 where
  pub stored : Stored
  pub ttl : ℕ
  pub meta : Meta
  -- the index of the image
  pub index : ℕ

pub record NodeNote : Type 0 where
  -- the active banks, by the index of the image
  pub active : List ℕ
  pub job : Option NoteJob

-- ---- the octets

-- the stored phase on the flash (MshDFU, Update Phase); 0 without a job
abbrev pub stored_number : Stored → ℕ
stored_number Filling = 2
stored_number Verified = 4
stored_number Refused = 5
stored_number Applied = 6

-- Any TTL is read without a job.
pub record LacksNoteJob (octets : List ℕ) : Type 0 where
  pub no_phase_at_2 : slice_index octets 2 ≡ 0
  pub no_metadata_at_4 : part_of octets 4 40 ≡ zeros 40

pub record SpellsNoteJob (j : NoteJob) (octets : List ℕ) : Type 0 where
  pub phase_at_2 : slice_index octets 2 ≡ stored_number j.stored
  pub ttl_at_3 : slice_index octets 3 ≡ j.ttl
  pub metadata_at_4 : meta_from (part_of octets 4 40) ≡ Some j.meta

abbrev pub HasNoteJob : Option NoteJob → List ℕ → Type 0
HasNoteJob None octets = LacksNoteJob octets
HasNoteJob (Some j) octets = SpellsNoteJob j octets

-- one active bank, and 0 in place of the second, or two
abbrev pub SpellsActive : List ℕ → List ℕ → Type 0
SpellsActive [] octets = ⊥
SpellsActive (a ∷ []) octets = (slice_index octets 1 ≡ a) × (slice_index octets 44 ≡ 0)
SpellsActive (a ∷ b ∷ []) octets = (slice_index octets 1 ≡ a) × (slice_index octets 44 ≡ b)
SpellsActive (a ∷ b ∷ c ∷ banks) octets = ⊥

-- 0 without a job
abbrev pub index_of : Option NoteJob → ℕ
index_of None = 0
index_of (Some j) = j.index

-- the note that is written
pub record SpellsNote (note : NodeNote) (octets : List ℕ) : Type 0 where
  pub kind_at_0 : slice_index octets 0 ≡ 3
  pub active_at_1_44 : SpellsActive note.active octets
  pub job_at_2 : HasNoteJob note.job octets
  pub index_at_45 : slice_index octets 45 ≡ index_of note.job
  pub zero_at_46 : part_of octets 46 1682 ≡ zeros 1682

-- The old note has one active bank, and its job is for the image of index 0.
pub record SpellsOldNote (note : NodeNote) (octets : List ℕ) : Type 0 where
  pub kind_at_0 : slice_index octets 0 ≡ 1
  pub active_at_1 : note.active ≡ slice_index octets 1 ∷ []
  pub job_at_2 : HasNoteJob note.job octets
  pub index_0 : index_of note.job ≡ 0
  pub zero_at_44 : part_of octets 44 1684 ≡ zeros 1684

-- The 1,728 octets of a note, new or old. There is one bank more than active ones.
pub record IsNodeNote (banks : ℕ) (note : NodeNote) (octets : List ℕ) : Type 0 where
  pub one_more : banks ≡ 1 + length note.active
  pub spells : SpellsNote note octets ⊎ SpellsOldNote note octets

-- ---- what is written

abbrev pub first_of : List ℕ → ℕ
first_of [] = 0
first_of (a ∷ banks) = a

abbrev pub second_of : List ℕ → ℕ
second_of [] = 0
second_of (a ∷ banks) = first_of banks

abbrev pub job_octets : Option NoteJob → List ℕ
job_octets None = 0 ∷ 0 ∷ zeros 40
job_octets (Some j) = stored_number j.stored ∷ j.ttl ∷ meta_octets j.meta

abbrev pub note_octets : NodeNote → List ℕ
note_octets note = (3 ∷ first_of note.active ∷ []) ++ (job_octets note.job ++ (second_of note.active ∷ index_of note.job ∷ zeros 1682))

abbrev pub old_note_octets : NodeNote → List ℕ
old_note_octets note = (1 ∷ first_of note.active ∷ []) ++ (job_octets note.job ++ zeros 1684)
