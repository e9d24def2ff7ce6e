-- The job that is kept in memory goes with the present record.
use Rattle.std.specs.Prelude.{◌≡◌, ℕ, List, Option, Some, None}
use Rattle.std.specs.Option.{option_map}
use Rattle.std.proofs.Props.{props}
use Rattle.mu_model_record.specs.declared.Record.{Record}
use Rattle.mu_model_record.specs.declared.BankState.{BankState}
use Rattle.mu_model_record.specs.declared.BankState.TheVariants.{Empty, Filling, Sealed}
use Rattle.mu_model_record.specs.Record.{entry_of}
use Rattle.mu_model_record.specs.Props.{filling_prop}
use Rattle.mu_model_node.specs.declared.Parameters.{Parameters}
use Rattle.mu_model_represents.specs.BlobPart.{BlobJob as PartJob, blob_part, HasParameters, IsBlobPart, SpellsJob, NoneFilling, TakesBy, BankGoesWith, IsJobOf, HasBlobRules, IsBlobRecord}
use Rattle.mu_note.specs.declared.blob.BlobJob.{BlobJob}
use Rattle.mu_note.specs.Views.{part_job}
use Rattle.mu_place.specs.declared.place.Place.{Place}
use Rattle.mu_place.specs.Place.{place_fault, place_record}

-- Where no fault is kept, the BLOB part of the present record says this job, and the record goes with it by every rule.
abbrev pub FitsJob : {F : Type 0} {g : _} → Place F g → Option BlobJob → Type 0
FitsJob place job = place_fault place ≡ None → IsBlobRecord (place_record place) (option_map part_job job)

-- each has one proof at most
parameters_prop : (size : ℕ) (q : Option Parameters) (octets : List ℕ) → IsProp (HasParameters size q octets)
parameters_prop size None octets = hlevel props
parameters_prop size (Some p) octets = hlevel props

part_prop : (part : Option PartJob) (octets : List ℕ) → IsProp (IsBlobPart part octets)
part_prop None octets = hlevel props
part_prop (Some j) octets = hlevel (parameters_prop, props)

none_prop : (r : Record) → IsProp (NoneFilling r)
none_prop r = hlevel (filling_prop, props)

takes_prop : (p : Parameters) (entry : BankState) → IsProp (TakesBy p entry)
takes_prop p Empty = hlevel props
takes_prop p (Filling size log) = hlevel props
takes_prop p (Sealed meta) = hlevel props

goes_prop : (r : Record) (bank : ℕ) (q : Option Parameters) → IsProp (BankGoesWith r bank q)
goes_prop r bank None = none_prop r
goes_prop r bank (Some p) = takes_prop p (entry_of r bank)

rules_prop : (r : Record) (part : Option PartJob) → IsProp (HasBlobRules r part)
rules_prop r None = none_prop r
rules_prop r (Some j) = hlevel (goes_prop, props)

blob_prop : (r : Record) (part : Option PartJob) → IsProp (IsBlobRecord r part)
blob_prop r part = hlevel (part_prop, rules_prop, props)

pub fits_prop : {F : Type 0} {g : _} (place : Place F g) (job : Option BlobJob) → IsProp (FitsJob place job)
fits_prop place job = hlevel (blob_prop, props)
