-- What came of a chunk.
use Rattle.std.specs.Prelude.{◌≡◌, ◌⊎◌, ℕ, true, List, [], ◌∷◌, length, nat_lt, is_some, if◌then◌else◌, Option, Some, None}
use Rattle.mu_model_image.specs.Pieces.{chunk_length}
use Rattle.mu_model_node.specs.declared.Parameters.{Parameters}
use Rattle.mu_model_node.specs.Slots.{at, is_full}
use Rattle.mu_model_node.specs.BlobMessages.{BlobReply, PartialBlockReport}
use Rattle.mu_model_node.specs.BlobServer.{Session}
use Rattle.mu_model_node.specs.BlobTable.{Served, silently, completes}
use Rattle.mu_block.specs.Coming.{Coming}
use Rattle.mu_blob_rows.specs.declared.table.ChunkLook.{ChunkLook}
use Rattle.mu_blob_session.specs.declared.chunks.Came.{Came}
use Rattle.mu_blob_session.specs.declared.chunks.Came.TheVariants.{InPart, Whole}

abbrev pub chunk_look : Option Coming → ℕ → Option ChunkLook
chunk_look None chunk = None
chunk_look (Some c) chunk =
    if nat_lt chunk (length c.block.chunks) then Some (record { octets = chunk_length c.size c.block.chunk_size chunk; is_received = is_some (at c.block.chunks chunk) }) else None

-- the row completes the block that comes, which is whole
pub record IsWhole (o : Served) (l : Session) (p : Parameters) (c : Coming) : Type 0 where
  pub full : is_full c.block.chunks ≡ true
  pub row : o ≡ completes l p c.block c.block.chunks

abbrev pub CameWhole : Served → Session → Parameters → Option Coming → Type 0
CameWhole o l p None = ⊥
CameWhole o l p (Some c) = IsWhole o l p c

abbrev pub CameAs : Served → Session → Option Coming → Came → Type 0
CameAs o l coming InPart = o ≡ silently l
CameAs o l coming (Whole p) = CameWhole o l p coming

-- the numbers that are asked for, with the client that they go to; or nothing is asked for
abbrev pub asked_of : Option (ℕ × List ℕ) → List (ℕ × BlobReply)
asked_of None = []
asked_of (Some asked) = (asked.0, PartialBlockReport asked.1) ∷ []

-- the block that came still comes, or none does
abbrev pub StaysOrGoes : Option Coming → Option Coming → Type 0
StaysOrGoes old new = (new ≡ old) ⊎ (new ≡ None)
