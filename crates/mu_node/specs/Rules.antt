-- The note that a node has in memory goes with the present record (this profile).
use Rattle.std.specs.Prelude.{◌≡◌, ℕ, List, [], ◌∷◌, Option, Some, None}
use Rattle.std.specs.List.{AllByRecursion}
use Rattle.std.proofs.Common.{◌⊎◌, inl, inr, ap, arith}
use Rattle.std.proofs.Props.{props}
use mathlib.Core.Sum.{⊎_set}
use Rattle.mu_model_image.specs.declared.Meta.{Meta}
use Rattle.mu_model_record.specs.declared.Record.{Record}
use Rattle.mu_model_record.specs.declared.BankState.{BankState}
use Rattle.mu_model_record.specs.declared.BankState.TheVariants.{Empty, Filling, Sealed}
use Rattle.mu_model_record.specs.Record.{entry_of}
use Rattle.mu_model_record.specs.Props.{bank_set, filling_prop}
use Rattle.mu_model_node.specs.declared.Parameters.{Parameters}
use Rattle.mu_model_node.specs.declared.Stored.{Stored}
use Rattle.mu_model_node.specs.declared.Stored.TheVariants.{Filling as Coming, Verified, Refused, Applied}
use Rattle.mu_model_represents.specs.BlobPart.{BlobJob, note_part}
use Rattle.mu_model_represents.specs.Images.{IsSealed, AllDiffer}
use Rattle.mu_model_represents.specs.NodeNote.{NoteJob, NodeNote, HasNoteJob, SpellsActive, SpellsNote, SpellsOldNote, IsNodeNote}
use Rattle.mu_model_represents.specs.RepresentsNode.{IsNewerThan, IsNewerThanBank, StoredGoesWith, HasNodeJob}
use Rattle.mu_note.specs.declared.node.NodeNote.{NodeNote as NoteHere}
use Rattle.mu_note.specs.Views.{node_note}
use Rattle.mu_blobsrv.specs.declared.server.BlobServer.{BlobServer}
use Rattle.mu_blobsrv.specs.Views.{store_of, place_of, fault_of}
use Rattle.mu_kept.specs.Views.{part_in}
use Rattle.mu_place.specs.Place.{place_record}

-- the rules on a node's record, beside those on its BLOB part
pub record GoesWith (r : Record) (part : Option BlobJob) (note : NodeNote) : Type 0 where
  pub octets : IsNodeNote r.number note (note_part r.tag)
  pub differ : AllDiffer note.active
  pub are_sealed : AllByRecursion (λ (b : ℕ). IsSealed (entry_of r b)) note.active
  pub job : HasNodeJob r note.active part note.job

-- those that the octets of its tag don't say
abbrev pub HasRules : Record → Option BlobJob → NodeNote → Type 0
HasRules r part note = AllDiffer note.active × AllByRecursion (λ (b : ℕ). IsSealed (entry_of r b)) note.active × HasNodeJob r note.active part note.job

-- so it is where no fault is kept
abbrev pub HasItsNote : {F : Type 0} {g : _} → BlobServer F g → NoteHere → Type 0
HasItsNote server note = fault_of server ≡ None → GoesWith (place_record (place_of server)) (part_in (store_of server)) (node_note note)

-- ---- each has one proof at most

stored_set : IsSet Stored
stored_set = hlevel (⊎_set, props)

job_prop : (job : Option NoteJob) (octets : List ℕ) → IsProp (HasNoteJob job octets)
job_prop None octets = hlevel props
job_prop (Some j) octets = hlevel props

active_prop : (active octets : List ℕ) → IsProp (SpellsActive active octets)
active_prop [] octets = hlevel props
active_prop (a ∷ []) octets = hlevel props
active_prop (a ∷ b ∷ []) octets = hlevel props
active_prop (a ∷ b ∷ c ∷ banks) octets = hlevel props

new_prop : (note : NodeNote) (octets : List ℕ) → IsProp (SpellsNote note octets)
new_prop note octets = hlevel (job_prop, active_prop, props)

old_prop : (note : NodeNote) (octets : List ℕ) → IsProp (SpellsOldNote note octets)
old_prop note octets = hlevel (job_prop, props)

-- a note is of one kind
kinds_differ : (note : NodeNote) (octets : List ℕ) → SpellsNote note octets → SpellsOldNote note octets → ⊥
kinds_differ note octets new old = omega (arith, new.kind_at_0, old.kind_at_0)

either_prop : {A B : Type 0} → IsProp A → IsProp B → (A → B → ⊥) → IsProp (A ⊎ B)
either_prop a b apart (inl x) (inl y) = ap inl (a x y)
either_prop a b apart (inl x) (inr y) = absurd (apart x y)
either_prop a b apart (inr x) (inl y) = absurd (apart y x)
either_prop a b apart (inr x) (inr y) = ap inr (b x y)

spells_prop : (note : NodeNote) (octets : List ℕ) → IsProp (SpellsNote note octets ⊎ SpellsOldNote note octets)
spells_prop note octets = either_prop (new_prop note octets) (old_prop note octets) (kinds_differ note octets)

octets_prop : (banks : ℕ) (note : NodeNote) (octets : List ℕ) → IsProp (IsNodeNote banks note octets)
octets_prop banks note octets = hlevel (spells_prop, props)

differ_prop : (banks : List ℕ) → IsProp (AllDiffer banks)
differ_prop [] = hlevel props
differ_prop (b ∷ banks) = hlevel (differ_prop banks, props)

sealed_prop : (entry : BankState) → IsProp (IsSealed entry)
sealed_prop Empty = hlevel props
sealed_prop (Filling size log) = hlevel props
sealed_prop (Sealed meta) = hlevel props

all_sealed_prop : (r : Record) (banks : List ℕ) → IsProp (AllByRecursion (λ (b : ℕ). IsSealed (entry_of r b)) banks)
all_sealed_prop r [] = hlevel props
all_sealed_prop r (b ∷ banks) = hlevel (sealed_prop, all_sealed_prop r banks, props)

newer_prop : (version : ℕ) (entry : BankState) → IsProp (IsNewerThan version entry)
newer_prop version Empty = hlevel props
newer_prop version (Filling size log) = hlevel props
newer_prop version (Sealed meta) = hlevel props

newer_bank_prop : (r : Record) (version : ℕ) (bank : Option ℕ) → IsProp (IsNewerThanBank r version bank)
newer_bank_prop r version None = hlevel props
newer_bank_prop r version (Some bank) = newer_prop version (entry_of r bank)

goes_prop : (stored : Stored) (meta : Meta) (parameters : Option Parameters) (bank : BankState) → IsProp (StoredGoesWith stored meta parameters bank)
goes_prop Coming meta None bank = hlevel props
goes_prop Coming meta (Some p) bank = filling_prop bank
goes_prop Verified meta parameters bank = hlevel (bank_set, props)
goes_prop Refused meta parameters bank = hlevel props
goes_prop Applied meta parameters bank = hlevel (bank_set, props)

node_job_prop : (r : Record) (active : List ℕ) (part : Option BlobJob) (job : Option NoteJob) → IsProp (HasNodeJob r active part job)
node_job_prop r active None None = hlevel props
node_job_prop r active (Some b) (Some n) = hlevel (newer_bank_prop, goes_prop, props)
node_job_prop r active None (Some n) = hlevel props
node_job_prop r active (Some b) None = hlevel props

goes_with_prop : (r : Record) (part : Option BlobJob) (note : NodeNote) → IsProp (GoesWith r part note)
goes_with_prop r part note = hlevel (octets_prop, differ_prop, all_sealed_prop, node_job_prop, props)

pub note_prop : {F : Type 0} {g : _} (server : BlobServer F g) (note : NoteHere) → IsProp (HasItsNote server note)
note_prop server note = hlevel (goes_with_prop, props)
