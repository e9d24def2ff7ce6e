-- What callers see of a server: what it keeps, and its session.
use Rattle.std.specs.Prelude.{ℕ, Option}
use Rattle.mu_model_node.specs.Slots.{Slots}
use Rattle.mu_model_node.specs.BlobServer.{Session, Server}
use Rattle.mu_block.specs.Coming.{Coming}
use Rattle.mu_blob_session.specs.Sessions.{session_in, coming_in, server_in}
use Rattle.mu_store.specs.declared.faults.StoreFault.{StoreFault}
use Rattle.mu_place.specs.declared.place.Place.{Place}
use Rattle.mu_place.specs.Place.{place_fault}
use Rattle.mu_kept.specs.declared.store.JobStore.{JobStore}
use Rattle.mu_kept.specs.Views.{place_in, kept_in}
use Rattle.mu_blobsrv.specs.declared.server.BlobServer.{BlobServer}

-- what it keeps over a power cut
abbrev pub store_of : {F : Type 0} {g : _} → BlobServer F g → JobStore F g
store_of v = v.store

abbrev pub place_of : {F : Type 0} {g : _} → BlobServer F g → Place F g
place_of v = place_in (store_of v)

-- the fault that it keeps
abbrev pub fault_of : {F : Type 0} {g : _} → BlobServer F g → Option StoreFault
fault_of v = place_fault (place_of v)

-- what isn't kept, with the block that comes
abbrev pub session_of : {F : Type 0} {g : _} → BlobServer F g → Session
session_of v = session_in v.session

abbrev pub coming_of : {F : Type 0} {g : _} → BlobServer F g → Option Coming
coming_of v = coming_in v.session

-- the model's server with these blocks held, at a moment
abbrev pub server_of : {F : Type 0} {g : _} → BlobServer F g → Slots → ℕ → Server
server_of v held now = server_in v.session (kept_in (store_of v)) held now
