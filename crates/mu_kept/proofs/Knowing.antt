-- What is known of the job of every place that it goes with.
use Rattle.std.proofs.Common.{◌≡◌, ◌∙◌, ℕ, ◌+◌, ◌-◌, ◌*◌, ◌/◌, ◌^◌, ◌<◌, ◌≤◌, lit≤, Bool, true, false, Option, Some, None, List, [], length, refl, sym, ap, subst, arith}
use Rattle.std.specs.Prelude.{IfSome, is_some}
use Rattle.std.specs.Option.{option_map}
use Rattle.std.proofs.Math.Nat.{pow-le-pow_right}
use Rattle.std.proofs.lemmas.Nat.{div_below}
use Rattle.mu_model_image.specs.Pieces.{block_count}
use Rattle.mu_model_record.specs.declared.Record.{Record}
use Rattle.mu_model_record.specs.declared.BankState.{BankState}
use Rattle.mu_model_record.specs.Record.{entry_of}
use Rattle.mu_model_record.specs.Store.{StoreState, content_of_bank}
use Rattle.mu_model_node.specs.declared.Parameters.{Parameters}
use Rattle.mu_model_node.specs.Slots.{Slots, received}
use Rattle.mu_model_represents.specs.BlobPart.{BankGoesWith, IsBlobRecord, transfer_in}
use Rattle.mu_model_represents.specs.Laws.{BlobPartIsSound}
use Rattle.mu_model_represents.specs.StoreStates.{ContentOf, IsStoreState}
use Rattle.mu_note.specs.declared.blob.BlobJob.{BlobJob}
use Rattle.mu_note.specs.Views.{part_job}
use Rattle.mu_blob_rows.specs.Looks.{serving_with}
use Rattle.mu_blob_session.specs.Sound.{AreSound, IsSoundServing, count_of, blocks_of}
use Rattle.mu_place.specs.declared.place.FillingBank.{FillingBank}
use Rattle.mu_place.specs.declared.place.Place.{Place}
use Rattle.mu_place.specs.Place.{place_fault, place_record, place_filling, place_held, HasBlocks}
use Rattle.mu_kept.specs.Views.{has_parameters, are_there, is_filling, fills_by, flags_with, flags_of, transfer_look, serving_by, serving_of, is_whole}
use Rattle.mu_kept.specs.Shows.{served_with, held_in, served_in}
use Rattle.mu_kept.specs.Calls.{bank_for}
use Rattle.mu_kept.proofs.Showing.{shown}
use Rattle.mu_kept.proofs.Fitting.{Knows, fills_is, rests_is, lacks_is, count_is, blocks_served, sound_served, sound_is}
use Rattle.mu_kept.proofs.Asking.{Lacks, lacking_by}
use Rattle.mu_kept.proofs.States.{held_shown, marked}

-- at most 256 blocks
few : (size log : ℕ) → size ≤ 1048576 → 12 ≤ log → block_count size log ≤ 256
few size log small least = at_most (2 ^ log) (pow-le-pow_right {n = 2} (lit≤ tt) least)
  where
    at_most : (n : ℕ) → 4096 ≤ n → (size + n - 1) / n ≤ 256
    at_most n large = let h = div_below (size + n - 1) n 257 (omega arith) (omega arith) in omega arith

few_of : (q : Option Parameters) → AreSound q → count_of q ≤ 256
few_of None sound = lit≤ tt
few_of (Some p) sound = few p.size p.log sound.size_most sound.log_least

module _ {F : Type 0} {g : _} (place : Place F g) (k : Knows (place_record place) (place_filling place) (place_held place)) where
  rests_by : (q : Option Parameters) (bank : ℕ) → BankGoesWith (place_record place) bank q → are_there q ≡ false → place_filling place ≡ None
  rests_by None bank goes h = rests_is (place_record place) (place_held place) (place_filling place) k goes
  rests_by (Some p) bank goes h = absurd (cc h)

  pub rests_known : (job : Option BlobJob) → IsBlobRecord (place_record place) (option_map part_job job) → has_parameters job ≡ false → place_filling place ≡ None
  rests_known None blob h = rests_is (place_record place) (place_held place) (place_filling place) k blob.rules
  rests_known (Some j) blob h = rests_by j.parameters j.bank blob.rules.goes_with h

  pub fills_known : (job : Option BlobJob) → IsBlobRecord (place_record place) (option_map part_job job) → fills_by place job ≡ true → place_filling place ≡ bank_for job
  fills_known None blob h = absurd (cc h)
  fills_known (Some j) blob h = fills_is (place_record place) (place_held place) (place_filling place) j k blob.rules.goes_with h

  lacking_with : (j : BlobJob) (q : Option Parameters) (p : Parameters) → q ≡ Some p → BankGoesWith (place_record place) j.bank q
      → Lacks (Some j) (flags_with (entry_of (place_record place) j.bank) (place_held place) q) → fills_by place (Some j) ≡ true
  lacking_with j None p has goes lacks = absurd (cc has)
  lacking_with j (Some q) p has goes lacks = lacks_is (place_record place) (place_held place) q (entry_of (place_record place) j.bank) goes lacks.lacks

  pub lacks_known : (job : Option BlobJob) → IsBlobRecord (place_record place) (option_map part_job job) → Lacks job (flags_of place job) → fills_by place job ≡ true
  lacks_known None blob lacks = absurd (cc lacks.is)
  lacks_known (Some j) blob lacks = lacking_with j j.parameters lacks.p (same j lacks.j lacks.is ∙ lacks.has) blob.rules.goes_with lacks
    where
      same : (a b : BlobJob) → Some a ≡ Some b → a.parameters ≡ b.parameters
      same a b e = cc e

  pub lacking_known : (job : Option BlobJob) → IsBlobRecord (place_record place) (option_map part_job job) → has_parameters job ≡ true
      → is_whole (serving_of job (flags_of place job)) ≡ false → fills_by place job ≡ true
  lacking_known None blob h whole = absurd (cc h)
  lacking_known (Some j) blob h whole = lacks_known (Some j) blob (lacking_by j j.parameters (flags_of place (Some j)) refl (there j.parameters h) whole)
    where
      there : (q : Option Parameters) → are_there q ≡ true → is_some q ≡ true
      there None e = absurd (cc e)
      there (Some p) e = refl

  pub count_known : (job : Option BlobJob) → IsBlobRecord (place_record place) (option_map part_job job) → length (flags_of place job) ≡ blocks_of (serving_of job (flags_of place job))
  count_known None blob = refl
  count_known (Some j) blob =
      count_is (place_record place) (place_held place) (place_filling place) j k blob.rules.goes_with
      ∙ sym (blocks_served (transfer_look j) j.parameters (flags_of place (Some j)) refl)

  pub few_known : (job : Option BlobJob) → IsBlobRecord (place_record place) (option_map part_job job) → length (flags_of place job) ≤ 256
  few_known None blob = lit≤ tt
  few_known (Some j) blob =
      subst (λ (n : ℕ). n ≤ 256) (sym (count_is (place_record place) (place_held place) (place_filling place) j k blob.rules.goes_with))
      (few_of j.parameters (sound_is (place_record place) j k.in_range blob))

  pub sound_known : (job : Option BlobJob) → IsBlobRecord (place_record place) (option_map part_job job) → IsSoundServing (serving_of job (flags_of place job))
  sound_known None blob = tt
  sound_known (Some j) blob = sound_served j.id j.size j.base j.parameters (flags_of place (Some j)) (sound_is (place_record place) j k.in_range blob)

  -- of a state
  pub held_known : BlobPartIsSound → (s : StoreState) → IsStoreState s → s.present ≡ place_record place → IfSome (place_filling place) (λ f. HasBlocks s f.bank (place_held place))
      → (job : Option BlobJob) → IsBlobRecord (place_record place) (option_map part_job job) → received (held_in s (option_map part_job job)) ≡ flags_of place job
  held_known law s is present has None blob = refl
  held_known law s is present has (Some j) blob =
      held_shown s j.bank (place_held place) j.size j.parameters (place_record place) blob.rules.goes_with
      (subst (λ (r : Record). ContentOf (entry_of r j.bank) (content_of_bank s j.bank)) present
      (is.contents j.bank (subst (λ (r : Record). j.bank < r.number) (sym present) blob.rules.bank)))
      (law s (part_job j) is (subst (λ (r : Record). IsBlobRecord r (Some (part_job j))) (sym present) blob)).1
      (marked s (place_record place) (place_held place) (place_filling place) j k blob.rules.goes_with has)

-- what an owner says of the transfer that a state has
served_is : (s : StoreState) (job : Option BlobJob) → served_with job (held_in s (option_map part_job job)) ≡ served_in s (option_map part_job job)
served_is s None = refl
served_is s (Some j) = refl

pub serving_known : (s : StoreState) (job : Option BlobJob) (flags : List Bool) → received (held_in s (option_map part_job job)) ≡ flags
    → serving_with (serving_of job flags) (held_in s (option_map part_job job)) ≡ served_in s (option_map part_job job)
serving_known s job flags e = shown job flags (held_in s (option_map part_job job)) e ∙ served_is s job
