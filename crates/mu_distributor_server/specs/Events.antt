-- What an event does at a distributor over flash.
use Rattle.std.specs.Prelude.{◌≡◌, ℕ, List, IsOk, IfErr, Result, map}
use Rattle.mu_model_flash.specs.Flash.{Seen}
use Rattle.mu_model_flash.specs.Run.{either, Goes}
use Rattle.mu_model_wire.specs.Packet.{Packet}
use Rattle.mu_model_node.specs.declared.FlashWork.{FlashWork}
use Rattle.mu_model_node.specs.declared.FlashWork.TheVariants.{Untouched, Recorded, Begun, PutBlock}
use Rattle.mu_model_node.specs.FlashWork.{work_by}
use Rattle.mu_model_distributor.specs.Commit.{Outcome}
use Rattle.mu_model_distributor.specs.DistMessages.{sent_packet}
use Rattle.mu_model_distributor.specs.DistState.{DistState, job_of}
use Rattle.mu_model_represents_distributor.specs.RepresentsDistributor.{RepresentsDistributor}
use Rattle.mu_store.specs.declared.faults.StoreFault.{StoreFault}
use Rattle.mu_store.specs.declared.faults.StoreFault.TheVariants.{Flash}
use Rattle.mu_place.specs.declared.place.Place.{Place}
use Rattle.mu_place.specs.Place.{place_seen}
use Rattle.mu_place.specs.Calls.{WornAtLast, IsFlash}
use Rattle.mu_blobsrv.specs.declared.server.BlobServer.{BlobServer}
use Rattle.mu_blobsrv.specs.Views.{place_of}
use Rattle.mu_distributor_server.specs.declared.distributor.Distributor.{Distributor}
use Rattle.mu_distributor_server.specs.Shows.{Shows, Holds, Carries}
use Rattle.mu_distributor_server.specs.Views.{seen_of}

-- It is in the state that an event leads to, and these are the packets that go out from its address.
pub record Did {F : Type 0} {g : _} (address : ℕ) (o : Outcome) (new : Distributor F g) (packets : List Packet) : Type 0 where
  pub shows : Shows new o.next
  pub sent : packets ≡ map (sent_packet address) o.sends

-- ---- the flash

-- The flash goes through the states that stand after each operation of this work, from s to t, or a fault. After all of them it represents what is
-- kept in t.
abbrev pub ServerWorks : {F T : Type 0} {g : _} → (F → Seen) → DistState → DistState → FlashWork → BlobServer F g → BlobServer F g → Result T StoreFault → Type 0
ServerWorks seen s t work old new result =
    Goes (either RepresentsDistributor) s.durable (work_by s.fresh s.durable t.durable work) (place_seen seen (place_of old)) (λ _. place_seen seen (place_of new)) (λ _. place_seen seen (place_of new))
    (λ _ _. Carries seen new t) IsFlash result

-- the same of an event, after which the distributor is in its state
abbrev pub Works : {F T : Type 0} {g : _} → (F → Seen) → DistState → Outcome → Distributor F g → Distributor F g → Result T StoreFault → Type 0
Works seen s o old new result =
    Goes (either RepresentsDistributor) s.durable (work_by s.fresh s.durable o.next.durable o.work) (seen_of seen old) (λ _. seen_of seen new) (λ _. seen_of seen new) (λ _ _. Holds seen new o.next) IsFlash result

-- Which fault may come of it: none where nothing is written, only the flash's where a block is put, and where a record is written also `Worn`, exactly at
-- the last count.
abbrev pub FaultBy : {F T : Type 0} {g : _} → FlashWork → Place F g → Result T StoreFault → Type 0
FaultBy Untouched old result = IsOk result
FaultBy (Recorded long) old result = WornAtLast old result
FaultBy (Begun long) old result = WornAtLast old result
FaultBy (PutBlock pages) old result = IfErr result (λ why. why ≡ Flash)

-- ---- a commit

-- s and t are as one but for what a note alone says
pub record SameBesideNote (s t : DistState) : Type 0 where
  pub count : t.durable.count ≡ s.durable.count
  pub capacity : t.durable.capacity ≡ s.durable.capacity
  pub images : t.durable.images ≡ s.durable.images
  pub job : job_of t.durable.upload ≡ job_of s.durable.upload
  pub fresh : t.fresh ≡ s.fresh
