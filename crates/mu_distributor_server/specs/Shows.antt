-- Which states of the model's distributor a distributor over a flash shows, and which its flash represents (this profile).
use Rattle.std.specs.Prelude.{◌≡◌, [], Option, Some, None}
use Rattle.mu_model_flash.specs.Flash.{Seen}
use Rattle.mu_model_record.specs.Record.{capacity_of}
use Rattle.mu_model_record.specs.Store.{StoreState}
use Rattle.mu_model_node.specs.Slots.{Slots}
use Rattle.mu_model_distributor.specs.DistState.{UploadJob, DistState, job_of}
use Rattle.mu_model_represents_distributor.specs.RepresentsDistributor.{IsDistributor, part_of_upload}
use Rattle.mu_place.specs.Place.{place_record, place_fresh, PlaceHolds}
use Rattle.mu_kept.specs.Views.{part_in}
use Rattle.mu_kept.specs.Shows.{Shows as ShowsBlocks}
use Rattle.mu_blobsrv.specs.declared.server.BlobServer.{BlobServer}
use Rattle.mu_blobsrv.specs.Views.{store_of, place_of, session_of}
use Rattle.mu_distributor_memory.specs.Shows.{IsHeadOf, IsMemoryOf}
use Rattle.mu_distributor_server.specs.declared.distributor.Distributor.{Distributor}
use Rattle.mu_distributor_server.specs.Views.{server_in, memory_in, moment_of}

-- the blocks of the job of an upload
abbrev pub blocks_of : Option UploadJob → Slots
blocks_of None = []
blocks_of (Some j) = j.transfer.held

-- what the BLOB server keeps of it
pub record IsServing {F : Type 0} {g : _} (server : BlobServer F g) (s : DistState) : Type 0 where
  pub count : s.durable.count ≡ (place_record (place_of server)).count
  pub capacity : s.durable.capacity ≡ capacity_of (place_record (place_of server))
  pub job : part_of_upload (job_of s.durable.upload) ≡ part_in (store_of server)
  pub blocks : ShowsBlocks (store_of server) (blocks_of (job_of s.durable.upload))
  pub session : s.session ≡ session_of server

-- It is in this state, as far as its memory tells: all but the octets of images and of blocks, the client, and the slots that are fresh.
pub record Shows {F : Type 0} {g : _} (v : Distributor F g) (s : DistState) : Type 0 where
  pub memory : IsMemoryOf (memory_in v) s
  pub server : IsServing (server_in v) s
  pub moment : s.moment ≡ moment_of v

-- the same without its receivers
pub record ShowsHead {F : Type 0} {g : _} (v : Distributor F g) (s : DistState) : Type 0 where
  pub head : IsHeadOf (memory_in v) s
  pub server : IsServing (server_in v) s
  pub moment : s.moment ≡ moment_of v

-- Its flash represents what is kept, told and with the power on.
pub record Carries {F : Type 0} {g : _} (seen : F → Seen) (server : BlobServer F g) (s : DistState) : Type 0 where
  pub fresh : s.fresh ≡ place_fresh (place_of server)
  pub store : StoreState
  pub holds : PlaceHolds seen (place_of server) store
  pub represents : IsDistributor store s.durable

-- It is in this state, which its flash represents.
pub record Holds {F : Type 0} {g : _} (seen : F → Seen) (v : Distributor F g) (s : DistState) : Type 0 where
  pub shows : Shows v s
  pub carries : Carries seen (server_in v) s
