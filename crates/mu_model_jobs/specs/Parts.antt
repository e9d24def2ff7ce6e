-- What the BLOB part of a record says of a job, read from its octets, and after each call on a store.
use Rattle.std.specs.Prelude.{◌≡◌, ◌≢◌, ◌==◌, ◌++◌, ℕ, ◌<◌, ◌≤◌, true, false, Bool, List, Option, Some, None, slice_index, slice_index_or, if◌then◌else◌}
use Rattle.mu_model_image.specs.declared.Meta.{Meta}
use Rattle.mu_model_record.specs.declared.Record.{Record}
use Rattle.mu_model_record.specs.declared.BankState.{BankState}
use Rattle.mu_model_record.specs.Record.{number_at, entry_of, capacity_of, IsFilling}
use Rattle.mu_model_record.specs.Store.{Content, StoreState}
use Rattle.mu_model_record.specs.Changes.{tagged, with_bank, begun, emptied, sealed_up, released}
use Rattle.mu_model_record.specs.ChangeLaws.{IsTag}
use Rattle.mu_model_node.specs.declared.Parameters.{Parameters}
use Rattle.mu_model_represents.specs.BlobPart.{BlobJob, blob_part, note_part, IsBlobPart, NoneFilling, HasBlobRules, PartFits, blob_octets}
use Rattle.mu_model_represents.specs.StoreStates.{IsStoreState}
use Rattle.mu_model_jobs.specs.Transfers.{begun_job, dropped_job}
use Rattle.mu_model_jobs.specs.States.{CanBegin}

-- ---- a tag with another BLOB part

abbrev pub with_part : Option BlobJob → List ℕ → List ℕ
with_part part tag = blob_octets part ++ note_part tag

-- the note stays
abbrev pub NewPartKeepsTheNote : Type 0
NewPartKeepsTheNote =
    (part : Option BlobJob) (tag : List ℕ) → PartFits part → IsTag tag
    → IsTag (with_part part tag) × IsBlobPart part (blob_part (with_part part tag)) × (note_part (with_part part tag) ≡ note_part tag)

-- ---- the part as a function of its octets

abbrev pub parameters_in : List ℕ → Option Parameters
parameters_in octets =
    if slice_index octets 1 == 0 then None
    else Some (record { mode = slice_index octets 1; size = number_at 4 octets 12; log = slice_index octets 19; mtu = number_at 2 octets 2 })

abbrev pub part_in : List ℕ → Option BlobJob
part_in octets =
    if slice_index octets 0 == 0 then None
    else Some (record { id = number_at 8 octets 4; size = number_at 4 octets 12; base = number_at 2 octets 16; bank = slice_index octets 18; parameters = parameters_in octets })

-- what the octets say is what the function gives
abbrev pub PartIsRead : Type 0
PartIsRead = (part : Option BlobJob) (octets : List ℕ) → IsBlobPart part octets → part_in octets ≡ part

-- ---- the rules against the banks, after each call

-- a commit
abbrev pub RulesStay : Type 0
RulesStay = (s : StoreState) (part : Option BlobJob) (tag : List ℕ) → HasBlobRules s.present part → HasBlobRules (tagged s tag).present part

-- another job, or none, where no bank is Filling
abbrev pub RulesOfAnother : Type 0
RulesOfAnother =
    (s : StoreState) (j : BlobJob) (tag : List ℕ) → NoneFilling s.present → j.parameters ≡ None → 1 ≤ j.size → j.size ≤ capacity_of s.present
    → j.bank < s.present.number → HasBlobRules (tagged s tag).present (Some j)

abbrev pub RulesOfADrop : Type 0
RulesOfADrop = (s : StoreState) (tag : List ℕ) → NoneFilling s.present → HasBlobRules (tagged s tag).present None

-- the job's bank is begun by its parameters
abbrev pub RulesBegin : Type 0
RulesBegin =
    (s : StoreState) (j : BlobJob) (p : Parameters) (tag : List ℕ) → IsStoreState s → HasBlobRules s.present (Some j)
    → HasBlobRules (begun s j.bank p.size p.log tag).present (Some (begun_job j p))

-- the job's bank is given up: so it is for the job without parameters, for any other without them, and for none
abbrev pub RulesAreGivenUp : Type 0
RulesAreGivenUp =
    (s : StoreState) (j : BlobJob) (tag : List ℕ) → IsStoreState s → j.bank < s.present.number → IsFilling (entry_of s.present j.bank)
    → NoneFilling (emptied s j.bank tag).present

-- the job's bank is Sealed
abbrev pub RulesSeal : Type 0
RulesSeal =
    (s : StoreState) (j : BlobJob) (p : Parameters) (meta : Meta) (octets tag : List ℕ) → IsStoreState s → HasBlobRules s.present (Some j)
    → j.parameters ≡ Some p → meta.size ≡ p.size → 12 ≤ p.log → p.log ≤ 14 → HasBlobRules (sealed_up s j.bank meta octets tag).present (Some j)

-- banks are released, but not that of a job with parameters
abbrev pub ParametersStay : BlobJob → List Bool → Type 0
ParametersStay j named = (p : Parameters) → j.parameters ≡ Some p → slice_index_or named j.bank false ≡ false

abbrev pub RulesRelease : Type 0
RulesRelease =
    (s : StoreState) (j : BlobJob) (named : List Bool) (tag : List ℕ) → HasBlobRules s.present (Some j) → ParametersStay j named
    → HasBlobRules (released s named tag).present (Some j)
