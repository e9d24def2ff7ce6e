-- Banks that are released.
use Rattle.std.proofs.Common.{◌≡◌, ◌∙◌, ℕ, zero, suc, Bool, true, false, Option, Some, None, List, [], ◌∷◌, get_or, refl, sym, ap, subst}
use Rattle.std.specs.Prelude.{slice_index_or}
use Rattle.std.specs.Option.{option_map}
use Rattle.mu_model_record.specs.declared.Record.{Record}
use Rattle.mu_model_record.specs.declared.BankState.{BankState}
use Rattle.mu_model_record.specs.declared.BankState.TheVariants.{Empty}
use Rattle.mu_model_record.specs.Record.{entry_of, IsFilling}
use Rattle.mu_model_record.specs.Changes.{next_record, cleared}
use Rattle.mu_model_node.specs.declared.Parameters.{Parameters}
use Rattle.mu_model_represents.specs.BlobPart.{NoneFilling, TakesBy, BankGoesWith, HasBlobRules}
use Rattle.mu_note.specs.declared.blob.BlobJob.{BlobJob}
use Rattle.mu_note.specs.Views.{part_job}
use Rattle.mu_place.specs.declared.place.Place.{Place}
use Rattle.mu_place.specs.Place.{place_record, place_held}
use Rattle.mu_kept.specs.Views.{flags_by, flags_with, flags_of}
use Rattle.mu_kept.specs.Calls.{StaysBy, JobStays}
use Rattle.mu_kept.proofs.Changing.{flags_rest}

cleared_filling : (named : List Bool) (xs : List BankState) (b : ℕ) → IsFilling (get_or (cleared Empty named xs) b Empty) → IsFilling (get_or xs b Empty)
cleared_filling [] xs b h = h
cleared_filling (n ∷ named) [] b h = h
cleared_filling (false ∷ named) (x ∷ xs) zero h = h
cleared_filling (true ∷ named) (x ∷ xs) zero h = absurd h
cleared_filling (n ∷ named) (x ∷ xs) (suc b) h = cleared_filling named xs b h

cleared_same : (named : List Bool) (xs : List BankState) (b : ℕ) → get_or named b false ≡ false → get_or (cleared Empty named xs) b Empty ≡ get_or xs b Empty
cleared_same [] xs b e = refl
cleared_same (n ∷ named) [] b e = refl
cleared_same (false ∷ named) (x ∷ xs) zero e = refl
cleared_same (true ∷ named) (x ∷ xs) zero e = cc
cleared_same (n ∷ named) (x ∷ xs) (suc b) e = cleared_same named xs b e

module _ (r : Record) (named : List Bool) (tag : List ℕ) (rests : NoneFilling r) where
  rests_still : NoneFilling (next_record r (cleared Empty named r.banks) tag)
  rests_still b h = rests b (cleared_filling named r.banks b h)

  goes_still : (bank : ℕ) (q : Option Parameters) → StaysBy q (slice_index_or named bank false) → BankGoesWith r bank q
      → BankGoesWith (next_record r (cleared Empty named r.banks) tag) bank q
  goes_still bank None stays goes = rests_still
  goes_still bank (Some p) stays goes = subst (λ (e : BankState). TakesBy p e) (sym (cleared_same named r.banks bank stays)) goes

  rules_still : (job : Option BlobJob) → JobStays named job → HasBlobRules r (option_map part_job job) → HasBlobRules (next_record r (cleared Empty named r.banks) tag) (option_map part_job job)
  rules_still None stays rules = rests_still
  rules_still (Some j) stays rules =
      record { size_least = rules.size_least; size_most = rules.size_most; bank = rules.bank; goes_with = goes_still j.bank j.parameters stays rules.goes_with }

  pub rules_released : (next : Record) → next ≡ next_record r (cleared Empty named r.banks) tag → (job : Option BlobJob) → JobStays named job
      → HasBlobRules r (option_map part_job job) → HasBlobRules next (option_map part_job job)
  rules_released next e job stays rules = subst (λ (n : Record). HasBlobRules n (option_map part_job job)) (sym e) (rules_still job stays rules)

  flags_still : (m n : List Bool) (bank : ℕ) (q : Option Parameters) → StaysBy q (slice_index_or named bank false)
      → flags_with (entry_of (next_record r (cleared Empty named r.banks) tag) bank) m q ≡ flags_with (entry_of r bank) n q
  flags_still m n bank None stays = refl
  flags_still m n bank (Some p) stays =
      ap (λ (e : BankState). flags_by e m p) (cleared_same named r.banks bank stays) ∙ flags_rest (entry_of r bank) m n (Some p) (rests bank)

  pub flags_released : {F : Type 0} {g : _} (old new : Place F g) → place_record old ≡ r → place_record new ≡ next_record r (cleared Empty named r.banks) tag → (job : Option BlobJob) → JobStays named job
      → flags_of new job ≡ flags_of old job
  flags_released old new was e None stays = refl
  flags_released old new was e (Some j) stays =
      ap (λ (n : Record). flags_with (entry_of n j.bank) (place_held new) j.parameters) e
      ∙ flags_still (place_held new) (place_held old) j.bank j.parameters stays
      ∙ ap (λ (n : Record). flags_with (entry_of n j.bank) (place_held old) j.parameters) (sym was)
