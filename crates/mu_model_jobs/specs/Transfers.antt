-- What each call on a store makes of the transfer of a job.
use Rattle.std.specs.Prelude.{◌≡◌, ◌≢◌, ℕ, ◌<◌, true, false, Bool, List, Option, Some, None, slice_index_or}
use Rattle.mu_model_image.specs.declared.Meta.{Meta}
use Rattle.mu_model_image.specs.Meta.{IsFit}
use Rattle.mu_model_record.specs.declared.BankState.{BankState}
use Rattle.mu_model_record.specs.declared.BankState.TheVariants.{Filling}
use Rattle.mu_model_record.specs.Record.{entry_of}
use Rattle.mu_model_record.specs.Store.{Content, held, StoreState, content_of_bank}
use Rattle.mu_model_record.specs.Changes.{tagged, with_bank, begun, emptied, sealed_up, released}
use Rattle.mu_model_node.specs.declared.Parameters.{Parameters}
use Rattle.mu_model_node.specs.Slots.{Slots, is_full, joined}
use Rattle.mu_model_node.specs.BlobServer.{Begins, Drops, changed}
use Rattle.mu_model_represents.specs.BlobPart.{BlobJob, transfer_in}
use Rattle.mu_model_represents.specs.StoreStates.{IsStoreState}

-- the job once its transfer was begun, and once that was given up
abbrev pub begun_job : BlobJob → Parameters → BlobJob
begun_job j p = record { id = j.id; size = j.size; base = j.base; bank = j.bank; parameters = Some p }

abbrev pub dropped_job : BlobJob → BlobJob
dropped_job j = record { id = j.id; size = j.size; base = j.base; bank = j.bank; parameters = None }

-- a commit changes no transfer
abbrev pub TaggedStays : Type 0
TaggedStays = (s : StoreState) (j : BlobJob) (tag : List ℕ) → transfer_in (tagged s tag) j ≡ transfer_in s j

-- nor does it where the parameters go, and no bank was being filled
abbrev pub TaggedDrops : Type 0
TaggedDrops = (s : StoreState) (j : BlobJob) (tag : List ℕ) → transfer_in (tagged s tag) (dropped_job j) ≡ changed Drops (transfer_in s j)

-- the bank is begun: the parameters are there, and no block is held
abbrev pub BegunBegins : Type 0
BegunBegins =
    (s : StoreState) (j : BlobJob) (p : Parameters) (tag : List ℕ) → IsStoreState s → j.bank < s.present.number
    → transfer_in (begun s j.bank p.size p.log tag) (begun_job j p) ≡ changed (Begins p) (transfer_in s j)

-- the bank is given up: the parameters and the blocks are gone
abbrev pub EmptiedDrops : Type 0
EmptiedDrops = (s : StoreState) (j : BlobJob) (tag : List ℕ) → transfer_in (emptied s j.bank tag) (dropped_job j) ≡ changed Drops (transfer_in s j)

-- a job whose bank is Filling by its parameters, all blocks of which are held and fit these metadata
pub record IsFullJob (s : StoreState) (j : BlobJob) (meta : Meta) : Type 0 where
  pub there : j.bank < s.present.number
  pub parameters : Parameters
  pub begun : j.parameters ≡ Some parameters
  pub entry : entry_of s.present j.bank ≡ Filling parameters.size parameters.log
  pub blocks : Slots
  pub content : content_of_bank s j.bank ≡ held blocks
  pub full : is_full blocks ≡ true
  pub size : meta.size ≡ parameters.size
  pub fit : IsFit (joined blocks) meta

-- the bank is Sealed with its blocks: they stay
abbrev pub SealedStays : Type 0
SealedStays =
    (s : StoreState) (j : BlobJob) (meta : Meta) (tag : List ℕ) → IsStoreState s → (full : IsFullJob s j meta)
    → transfer_in (sealed_up s j.bank meta (joined full.blocks) tag) j ≡ transfer_in s j

-- another bank is filled, sealed or emptied
abbrev pub OtherBankStays : Type 0
OtherBankStays =
    (s : StoreState) (j : BlobJob) (bank : ℕ) (entry : BankState) (content : Content) (tag : List ℕ) → bank ≢ j.bank
    → transfer_in (with_bank s bank entry content tag) j ≡ transfer_in s j

-- others are released
abbrev pub ReleasedStays : Type 0
ReleasedStays =
    (s : StoreState) (j : BlobJob) (named : List Bool) (tag : List ℕ) → slice_index_or named j.bank false ≡ false
    → transfer_in (released s named tag) j ≡ transfer_in s j
