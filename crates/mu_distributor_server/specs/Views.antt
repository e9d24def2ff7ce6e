-- What callers see of a distributor over a flash.
use Rattle.std.specs.Prelude.{ℕ, Option}
use Rattle.mu_model_flash.specs.Flash.{Seen}
use Rattle.mu_model_record.specs.declared.Record.{Record}
use Rattle.mu_store.specs.declared.faults.StoreFault.{StoreFault}
use Rattle.mu_place.specs.declared.place.Place.{Place}
use Rattle.mu_place.specs.Place.{place_flash, place_seen, place_record}
use Rattle.mu_blobsrv.specs.declared.server.BlobServer.{BlobServer}
use Rattle.mu_blobsrv.specs.Views.{place_of as place_of_server, fault_of as fault_of_server}
use Rattle.mu_distributor_memory.specs.declared.memory.Memory.{Memory}
use Rattle.mu_distributor_server.specs.declared.distributor.Distributor.{Distributor}

-- the BLOB server that it owns, and what it has in memory
abbrev pub server_in : {F : Type 0} {g : _} → Distributor F g → BlobServer F g
server_in v = v.server

abbrev pub memory_in : {F : Type 0} {g : _} → Distributor F g → Memory
memory_in v = v.memory

abbrev pub place_in : {F : Type 0} {g : _} → Distributor F g → Place F g
place_in v = place_of_server (server_in v)

abbrev pub record_in : {F : Type 0} {g : _} → Distributor F g → Record
record_in v = place_record (place_in v)

-- the flash that it owns, as it is seen
abbrev pub flash_of : {F : Type 0} {g : _} → Distributor F g → F
flash_of v = place_flash (place_in v)

abbrev pub seen_of : {F : Type 0} {g : _} → (F → Seen) → Distributor F g → Seen
seen_of seen v = place_seen seen (place_in v)

-- the fault that it keeps
abbrev pub fault_in : {F : Type 0} {g : _} → Distributor F g → Option StoreFault
fault_in v = fault_of_server (server_in v)

-- its address in the mesh, and the greatest moment that it was handed
abbrev pub address_of : {F : Type 0} {g : _} → Distributor F g → ℕ
address_of v = v.address

abbrev pub moment_of : {F : Type 0} {g : _} → Distributor F g → ℕ
moment_of v = v.moment
