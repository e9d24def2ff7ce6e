-- A block that a row opens.
use Rattle.std.specs.Prelude.{◌≡◌, ◌⊎◌, ◌≤◌, ◌<◌, ℕ, true, false, is_some, List, [], ◌∷◌, Option, Some}
use Rattle.mu_model_wire.specs.Limits.{most_chunk}
use Rattle.mu_model_image.specs.Pieces.{block_count, block_length}
use Rattle.mu_model_node.specs.Slots.{missing}
use Rattle.mu_model_node.specs.BlobMessages.{BlobReply, BlockStatus}
use Rattle.mu_block.specs.Coming.{Coming, opened, chunks_of}
use Rattle.mu_blob_rows.specs.declared.session.SessionChange.{SessionChange}
use Rattle.mu_blob_rows.specs.declared.session.SessionChange.TheVariants.{Link, Opens}
use Rattle.mu_blob_rows.specs.declared.session.LinkChange.TheVariants.{Unlinks}
use Rattle.mu_blob_rows.specs.declared.table.BlocksLook.{BlocksLook}
use Rattle.mu_blob_rows.specs.declared.table.BlockTold.{BlockTold}
use Rattle.mu_blob_rows.specs.declared.table.ReportTold.{ReportTold}
use Rattle.mu_blob_rows.specs.declared.table.ReportTold.TheVariants.{Missing}
use Rattle.mu_blob_rows.specs.Rows.{report_by}
use Rattle.mu_blob_session.specs.Sound.{AreBegun}

-- it is one of the transfer's, with such chunks; and the row doesn't unlink
abbrev pub CanOpen : SessionChange → Type 0
CanOpen (Opens p block size) = AreBegun p × (block < block_count p.size p.log) × (8 ≤ size) × (size ≤ most_chunk)
CanOpen (Link Unlinks) = ⊥
CanOpen _ = Unit {0}

abbrev pub coming_by : SessionChange → Option Coming → Option Coming
coming_by (Opens p block size) coming = Some (opened block size (block_length p.size p.log block))
coming_by _ coming = coming

-- the block that came still comes, or this one comes now, which wasn't held
abbrev pub IsOpenedBy : BlocksLook → ℕ → Option Coming → Option Coming → Type 0
IsOpenedBy blocks block old new =
    (new ≡ old) ⊎ ((c : Coming) × (new ≡ Some c) × (c.block.number ≡ block) × (blocks.is_held ≡ false))

-- missing chunks are told only of a block that comes
abbrev pub ReportOf : ReportTold → Option Coming → Type 0
ReportOf Missing coming = is_some coming ≡ true
ReportOf _ coming = Unit {0}

-- the Block Status that is told, of the chunks that are missing of this block
abbrev pub block_replies : ℕ → BlockTold → Option Coming → List (ℕ × BlobReply)
block_replies to told coming = (to, BlockStatus told.status told.block told.chunk_size (report_by told.report (missing (chunks_of coming)))) ∷ []
