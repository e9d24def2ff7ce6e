-- When a reply's fields are in the ranges of the grammar, as far as their types don't say so.
use Rattle.std.specs.Prelude.{ℕ, ◌≡◌, ◌≤◌, Bool, List, length, Option, Some, None}
use Rattle.mu_model_wire.specs.Patterns.{list_spelling}
use Rattle.mu_model_wire.specs.declared.reports.Report.{Report}
use Rattle.mu_model_wire.specs.declared.reports.Report.TheVariants.{All, Nothing, Bits, List as Listed}
use Rattle.mu_model_node.specs.declared.Parameters.{Parameters}
use Rattle.mu_blob_rows.specs.declared.looks.BlobPhase.{BlobPhase}
use Rattle.mu_blob_rows.specs.declared.looks.BlobPhase.TheVariants.{NextBlock, NextChunk, Complete, Suspended}
use Rattle.mu_blob_rows.specs.declared.table.ReportTold.{ReportTold}
use Rattle.mu_blob_rows.specs.declared.table.ReportTold.TheVariants.{Missing}
use Rattle.mu_blob_answers.specs.declared.messages.BlobReply.{BlobReply}
use Rattle.mu_blob_answers.specs.declared.messages.BlobReply.TheVariants.{BlobInformationStatus, TransferStatus, BlockStatus, PartialBlockReport}

-- parameters that a Transfer Status can show
pub record CanShow (p : Parameters) : Type 0 where
  pub mode : p.mode ≤ 2
  pub size : 1 ≤ p.size
  pub log_above : 6 ≤ p.log
  pub log_below : p.log ≤ 32
  pub mtu : 20 ≤ p.mtu

-- the BLOB ID is there unless the phase is 0, the parameters unless it is 0 or 1
abbrev pub ShowsWhatItMay : ℕ → Option ℕ → Option Parameters → Type 0
ShowsWhatItMay phase None None = phase ≡ 0
ShowsWhatItMay phase None (Some p) = ⊥
ShowsWhatItMay phase (Some id) None = phase ≡ 1
ShowsWhatItMay phase (Some id) (Some p) = (2 ≤ phase) × (phase ≤ 5) × CanShow p

-- what names the missing chunks of a block
abbrev pub IsShort : Report → Type 0
IsShort All = Unit {0}
IsShort Nothing = Unit {0}
IsShort (Bits octets) = length octets.items ≤ 256
IsShort (Listed numbers) = length (list_spelling numbers.items) ≤ 256

abbrev pub BlobReplyFits : BlobReply → Type 0
BlobReplyFits (BlobInformationStatus capacity) = Unit {0}
BlobReplyFits (TransferStatus status mode phase id parameters missing) =
    (status ≤ 10) × (mode ≤ 2) × ShowsWhatItMay phase id parameters × (length missing ≤ 256)
BlobReplyFits (BlockStatus status block size report) = (status ≤ 10) × IsShort report
BlobReplyFits (PartialBlockReport chunks) = Unit {0}

-- ---- where they come from

abbrev pub HasShown : Option Parameters → Type 0
HasShown None = ⊥
HasShown (Some p) = CanShow p

-- a Transfer Status can show the phase
abbrev pub IsShown : BlobPhase → Type 0
IsShown (NextBlock t p) = CanShow p
IsShown (NextChunk t p b) = CanShow p
IsShown (Suspended t p) = CanShow p
IsShown (Complete t) = HasShown t.parameters
IsShown _ = Unit {0}

-- missing chunks are reported of a block, which has some
abbrev pub CanReport : ReportTold → List Bool → Type 0
CanReport Missing set = 1 ≤ length set
CanReport _ set = Unit {0}
