-- What a row made of a server.
use Rattle.std.specs.Prelude.{◌≡◌, ℕ, List, Option, Some, None}
use Rattle.mu_model_wire.specs.Packet.{Packet}
use Rattle.mu_model_node.specs.Slots.{Slots}
use Rattle.mu_model_node.specs.BlobMessages.{BlobRequest, BlobReply}
use Rattle.mu_model_node.specs.BlobServer.{Server, Same}
use Rattle.mu_model_node.specs.BlobTable.{Served, silently, on_blob}
use Rattle.mu_kept.specs.declared.store.JobStore.{JobStore}
use Rattle.mu_kept.specs.Shows.{IsChanged}
use Rattle.mu_blobsrv.specs.declared.server.BlobServer.{BlobServer}
use Rattle.mu_blobsrv.specs.Changes.{IsChangedTo}
use Rattle.mu_blobsrv.specs.Replies.{packets_of}
use Rattle.mu_blobsrv.specs.Views.{store_of, session_of}

-- the row of a message; one that a server doesn't take is passed over
abbrev pub served_by : Server → ℕ → Option BlobRequest → Served
served_by v from None = silently v.session
served_by v from (Some request) = on_blob v from request

-- The session is the row's, its change was made of what was kept with these blocks held and of the present record, and these are its replies.
pub record IsRow {F : Type 0} {g : _} (old : JobStore F g) (held : Slots) (o : Served) (new : BlobServer F g) (replies : List (ℕ × BlobReply)) : Type 0 where
  pub session : session_of new ≡ o.session
  pub changed : IsChanged old (store_of new) o.change held
  pub stands : IsChangedTo old (store_of new) o.change
  pub replies_are : replies ≡ o.replies

-- the same, with the packets that take the replies from an address
pub record IsServed {F : Type 0} {g : _} (from : ℕ) (old : JobStore F g) (held : Slots) (o : Served) (new : BlobServer F g) (packets : List Packet) : Type 0 where
  pub session : session_of new ≡ o.session
  pub changed : IsChanged old (store_of new) o.change held
  pub stands : IsChangedTo old (store_of new) o.change
  pub packets_are : packets ≡ packets_of from o.replies

-- a row that changes nothing of what is kept
abbrev pub quietly : {F : Type 0} {g : _} → BlobServer F g → List (ℕ × BlobReply) → Served
quietly new replies = record { session = session_of new; change = Same; replies = replies }
