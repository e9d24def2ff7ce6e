-- What a server has in memory, as the model's session, and the server that the rows see.
use Rattle.std.specs.Prelude.{ℕ, Option}
use Rattle.mu_model_node.specs.Slots.{Slots}
use Rattle.mu_model_node.specs.BlobServer.{Session, Server}
use Rattle.mu_block.specs.Coming.{Coming}
use Rattle.mu_blob_rows.specs.Sessions.{session_of}
use Rattle.mu_blob_rows.specs.Looks.{serving_with}
use Rattle.mu_blob_session.specs.declared.session.BlobSession.{BlobSession}
use Rattle.mu_blob_session.specs.declared.session.Kept.{Kept}
use Rattle.mu_blob_session.specs.Blocks.{current_of}

-- the block that comes, with how many octets it has
abbrev pub coming_in : BlobSession → Option Coming
coming_in s = s.block

abbrev pub session_in : BlobSession → Session
session_in s = session_of s.session (current_of s.block)

-- with another block that comes
abbrev pub session_with : BlobSession → Option Coming → Session
session_with s coming = session_of s.session (current_of coming)

-- with these blocks held, at a moment
abbrev pub server_in : BlobSession → Kept → Slots → ℕ → Server
server_in s kept held now = record { capacity = kept.capacity; serving = serving_with kept.serving held; session = session_in s; now = now }
