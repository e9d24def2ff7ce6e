-- The block that comes, as the rows look at it.
use Rattle.std.specs.Prelude.{ℕ, Bool, true, false, Option, Some, None, if◌then◌else◌}
use Rattle.mu_model_node.specs.declared.Link.{Link}
use Rattle.mu_model_node.specs.declared.Link.TheVariants.{Cut}
use Rattle.mu_model_node.specs.BlobServer.{CurrentBlock, Session, made_ready, heard_at}
use Rattle.mu_block.specs.Coming.{Coming}
use Rattle.mu_blob_rows.specs.declared.looks.BlockLook.{BlockLook}
use Rattle.mu_blob_rows.specs.declared.session.LinkChange.{LinkChange}
use Rattle.mu_blob_rows.specs.declared.session.LinkChange.TheVariants.{Unlinks}

abbrev pub block_look : Option Coming → Option BlockLook
block_look None = None
block_look (Some c) = Some (record { number = c.block.number; chunk_size = c.block.chunk_size })

abbrev pub current_of : Option Coming → Option CurrentBlock
current_of None = None
current_of (Some c) = Some c.block

-- what becomes of it as the link changes
abbrev pub coming_after : LinkChange → Option Coming → Option Coming
coming_after Unlinks coming = None
coming_after _ coming = coming

abbrev pub is_cut_link : Link → Bool
is_cut_link Cut = true
is_cut_link _ = false

-- a job is taken up again: it is heard, and a Cut link becomes Ready (this profile)
abbrev pub resumed : ℕ → Session → Session
resumed now l = if is_cut_link l.link then made_ready now l else heard_at now l
