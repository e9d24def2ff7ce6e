-- What a row's change makes of the present record, and of what goes with it (this profile).
use Rattle.std.specs.Prelude.{◌≡◌, ℕ, Bool, true, false, List, [], replicate, slice_set, Option, Some, None}
use Rattle.std.specs.Option.{option_map}
use Rattle.mu_model_image.specs.Pieces.{block_count}
use Rattle.mu_model_record.specs.declared.Record.{Record}
use Rattle.mu_model_record.specs.declared.BankState.{BankState}
use Rattle.mu_model_record.specs.declared.BankState.TheVariants.{Empty}
use Rattle.mu_model_record.specs.Next.{fresh_after}
use Rattle.mu_model_record.specs.Changes.{next_record, filling_entry}
use Rattle.mu_model_node.specs.BlobServer.{Change, Same, Begins, Drops, Puts}
use Rattle.mu_note.specs.declared.blob.BlobJob.{BlobJob}
use Rattle.mu_place.specs.declared.place.FillingBank.{FillingBank}
use Rattle.mu_place.specs.Place.{place_record, place_fresh, place_filling}
use Rattle.mu_kept.specs.declared.store.JobStore.{JobStore}
use Rattle.mu_kept.specs.Views.{place_in, job_in, bank_in, flags_in, with_parameters}
use Rattle.mu_kept.specs.Calls.{note_in}
use Rattle.mu_kept.specs.Tags.{tag_with}

-- the job: its parameters come or go
abbrev pub job_after : Change → Option BlobJob → Option BlobJob
job_after Same job = job
job_after (Begins p) job = option_map (with_parameters (Some p)) job
job_after Drops job = option_map (with_parameters None) job
job_after (Puts i octets) job = job

-- whether each of its blocks is held
abbrev pub flags_after : Change → List Bool → List Bool
flags_after Same flags = flags
flags_after (Begins p) flags = replicate (block_count p.size p.log) false
flags_after Drops flags = []
flags_after (Puts i octets) flags = slice_set flags i true

-- the bank that is being filled: the job's, or none
abbrev pub filling_after : Change → ℕ → Option FillingBank → Option FillingBank
filling_after Same bank filling = filling
filling_after (Begins p) bank filling = Some (record { bank = bank; size = p.size; log = p.log })
filling_after Drops bank filling = None
filling_after (Puts i octets) bank filling = filling

-- the tag of the record that it writes: the note stays
abbrev pub tag_after : {F : Type 0} {g : _} → JobStore F g → Change → List ℕ
tag_after store change = tag_with (job_after change (job_in store)) (note_in store)

-- the job's bank in the next record, with that tag
abbrev pub next_with : {F : Type 0} {g : _} → JobStore F g → BankState → Change → Record
next_with store entry change = next_record (place_record (place_in store)) (slice_set (place_record (place_in store)).banks (bank_in store) entry) (tag_after store change)

-- the present record: a bank that is begun or given up is said in the next one, and a block that is put in none
abbrev pub record_after : {F : Type 0} {g : _} → JobStore F g → Change → Record
record_after store Same = place_record (place_in store)
record_after store (Begins p) = next_with store (filling_entry p.size p.log) (Begins p)
record_after store Drops = next_with store Empty Drops
record_after store (Puts i octets) = place_record (place_in store)

-- the fresh slots of the control page: fewer after a record
abbrev pub slots_after : Change → ℕ → Record → ℕ
slots_after Same fresh r = fresh
slots_after (Begins p) fresh r = fresh_after fresh r
slots_after Drops fresh r = fresh_after fresh r
slots_after (Puts i octets) fresh r = fresh

-- all of it
pub record IsChangedTo {F : Type 0} {g : _} (old new : JobStore F g) (change : Change) : Type 0 where
  pub fields : place_record (place_in new) ≡ record_after old change
  pub fresh : place_fresh (place_in new) ≡ slots_after change (place_fresh (place_in old)) (place_record (place_in new))
  pub filling : place_filling (place_in new) ≡ filling_after change (bank_in old) (place_filling (place_in old))
  pub job : job_in new ≡ job_after change (job_in old)
  pub flags : flags_in new ≡ flags_after change (flags_in old)
