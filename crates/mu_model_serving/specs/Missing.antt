-- What replies say of the block that comes (MshMBT: Block Status, Partial Block Report).
use Rattle.std.specs.Prelude.{ℕ, ◌≡◌, take}
use Rattle.std.specs.List.{All as AllOf}
use Rattle.mu_model_wire.specs.Reports.{members, Reports}
use Rattle.mu_model_node.specs.Slots.{missing}
use Rattle.mu_model_node.specs.BlobMessages.{BlobRequest, BlobReply, BlockStatus, PartialBlockReport}
use Rattle.mu_model_node.specs.BlobServer.{CurrentBlock, BlobPhase, NextChunk, Server, serving_phase, serving_after}
use Rattle.mu_model_node.specs.BlobTable.{Served, on_blob, on_server_time}

-- a Block Status 0 of this block names exactly its missing chunks, and a Partial Block Report the least 16 of them, or all where there are fewer
abbrev pub NamesChunks : CurrentBlock → BlobReply → Type 0
NamesChunks c (BlockStatus status block size report) = status ≡ 0 → block ≡ c.number → Reports report (missing c.chunks)
NamesChunks c (PartialBlockReport chunks) = chunks ≡ take 16 (members (missing c.chunks))
NamesChunks c _ = Unit {0}

-- while a block comes
abbrev pub NamesIn : BlobPhase → BlobReply → Type 0
NamesIn (NextChunk t p c) reply = NamesChunks c reply
NamesIn _ reply = Unit {0}

-- the replies of a row, in the phase after it
abbrev pub NameMissing : Server → Served → Type 0
NameMissing v o = AllOf (λ reply. NamesIn (serving_phase o.session (serving_after o.change v.serving)) reply.1) o.replies

abbrev pub MessagesNameMissing : Type 0
MessagesNameMissing = (v : Server) (from : ℕ) (request : BlobRequest) → NameMissing v (on_blob v from request)

abbrev pub TimeNamesMissing : Type 0
TimeNamesMissing = (v : Server) → NameMissing v (on_server_time v v.serving)
