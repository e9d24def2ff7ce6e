-- What a row's change is on the flash.
use Rattle.std.specs.Prelude.{◌≡◌, ◌≤◌, ℕ, Bool, true, false, List, [], ◌∷◌, Some, None, length, IsOk, IfErr, Result, Err}
use Rattle.std.specs.Option.{option_map}
use Rattle.mu_model_image.specs.Pieces.{piece_count}
use Rattle.mu_model_record.specs.Store.{StoreState}
use Rattle.mu_model_record.specs.Next.{record_steps, block_steps}
use Rattle.mu_model_record.specs.Changes.{begun, emptied, with_block}
use Rattle.mu_model_node.specs.BlobServer.{Session, unlinked, Change, Same, Begins, Drops, Puts}
use Rattle.mu_store.specs.declared.faults.StoreFault.{StoreFault}
use Rattle.mu_store.specs.declared.faults.StoreFault.TheVariants.{Flash}
use Rattle.mu_place.specs.declared.place.Place.{Place}
use Rattle.mu_place.specs.Place.{place_fresh}
use Rattle.mu_place.specs.Calls.{WornAtLast}
use Rattle.mu_kept.specs.declared.store.JobStore.{JobStore}
use Rattle.mu_kept.specs.Views.{place_in, job_in, bank_in, expect_of}
use Rattle.mu_kept.specs.Calls.{note_in}
use Rattle.mu_blobsrv.specs.declared.server.BlobServer.{BlobServer}
use Rattle.mu_blobsrv.specs.Changes.{tag_after}
use Rattle.mu_blobsrv.specs.Views.{fault_of}

-- The states of the store after each operation of a row's change: a bank that is begun or given up in a record, or a block that is put.
abbrev pub change_steps : {F : Type 0} {g : _} → JobStore F g → StoreState → Change → List StoreState
change_steps store s Same = []
change_steps store s (Begins p) =
    s ∷ record_steps (place_fresh (place_in store)) s (begun s (bank_in store) p.size p.log (tag_after store (Begins p)))
change_steps store s Drops = record_steps (place_fresh (place_in store)) s (emptied s (bank_in store) (tag_after store Drops))
change_steps store s (Puts i octets) = block_steps (piece_count (length octets) 4096) s (with_block s (bank_in store) i octets)

-- How many pages the block has that is put; and it is one of 16,384 octets at most (this profile).
abbrev pub pages_put : Change → ℕ
pages_put Same = 0
pages_put (Begins p) = 0
pages_put Drops = 0
pages_put (Puts i octets) = piece_count (length octets) 4096

abbrev pub PutsOneBlock : Change → Type 0
PutsOneBlock Same = Unit {0}
PutsOneBlock (Begins p) = Unit {0}
PutsOneBlock Drops = Unit {0}
PutsOneBlock (Puts i octets) = length octets ≤ 16384

-- Which fault may come of it: none where nothing is written, only the flash's where a block is put, and where a record is written also `Worn`,
-- exactly at the last count.
abbrev pub FaultBy : {F T : Type 0} {g : _} → Change → Place F g → Result T StoreFault → Type 0
FaultBy Same old result = IsOk result
FaultBy (Begins p) old result = WornAtLast old result
FaultBy Drops old result = WornAtLast old result
FaultBy (Puts i octets) old result = IfErr result (λ why. why ≡ Flash)

-- What a message leaves as it is: the note, and what is expected for the job.
pub record Stays {F : Type 0} {g : _} (old new : JobStore F g) : Type 0 where
  pub note : note_in new ≡ note_in old
  pub expects : option_map expect_of (job_in new) ≡ option_map expect_of (job_in old)

-- where a fault was kept before, it is answered and nothing changes
abbrev pub KeepsServer : {F T : Type 0} {g : _} → BlobServer F g → BlobServer F g → Result T StoreFault → Type 0
KeepsServer old new result = (why : StoreFault) → fault_of old ≡ Some why → (result ≡ Err why) × (new ≡ old)

-- the session after a verification: as before where the job stays and its octets fit, and else the link is Cut
abbrev pub verified_session : Bool → Bool → Session → Session
verified_session true true l = l
verified_session true false l = unlinked l
verified_session false fit l = unlinked l
