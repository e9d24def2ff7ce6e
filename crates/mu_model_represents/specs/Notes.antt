-- The note that is written for a node is read back by itself, whatever BLOB part stands before it.
use Rattle.std.specs.Prelude.{ℕ, ◌+◌, ◌<◌, ◌≤◌, Option, Some, None, length}
use Rattle.std.specs.List.{AllByRecursion}
use Rattle.mu_model_image.specs.Meta.{IsMeta}
use Rattle.mu_model_represents.specs.NodeNote.{NoteJob, NodeNote, IsNodeNote, note_octets}

-- what it keeps of a job has its places
pub record FitsNote (j : NoteJob) : Type 0 where
  pub ttl : j.ttl < 256
  pub meta : IsMeta j.meta
  pub index : j.index < 256

abbrev pub NoteFits : Option NoteJob → Type 0
NoteFits None = Unit {0}
NoteFits (Some j) = FitsNote j

-- with one active bank or two
abbrev pub NodeNoteIsReadBack : Type 0
NodeNoteIsReadBack =
    (note : NodeNote) → NoteFits note.job → 1 ≤ length note.active → length note.active ≤ 2 → AllByRecursion (λ (b : ℕ). b < 256) note.active
    → IsNodeNote (1 + length note.active) note (note_octets note)
