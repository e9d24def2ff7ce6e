-- A job that is verified.
use Rattle.std.proofs.Common.{◌≡◌, ◌∙◌, ℕ, ◌<◌, ◌≤◌, Bool, true, false, Option, Some, None, List, [], ◌∷◌, length, replicate, refl, sym, ap, subst}
use Rattle.std.specs.Prelude.{IsTrue, IfSome, All, slice_set}
use Rattle.std.specs.List.{list_all}
use Rattle.std.specs.Option.{option_map}
use Rattle.std.proofs.lemmas.List.Sums.{AllPass-from_list_all}
use Rattle.mu_model_image.specs.declared.Meta.{Meta}
use Rattle.mu_model_image.specs.Pieces.{block_count}
use Rattle.mu_model_record.specs.declared.Record.{Record}
use Rattle.mu_model_record.specs.declared.BankState.{BankState}
use Rattle.mu_model_record.specs.declared.BankState.TheVariants.{Empty, Sealed}
use Rattle.mu_model_record.specs.Record.{IsRecord, entry_of}
use Rattle.mu_model_record.specs.Changes.{next_record}
use Rattle.mu_model_node.specs.declared.Parameters.{Parameters}
use Rattle.mu_model_represents.specs.BlobPart.{blob_part, HasParameters, NoneFilling, BankGoesWith, TakesBy, IsBlobPart, IsBlobRecord}
use Rattle.mu_note.specs.declared.blob.BlobJob.{BlobJob}
use Rattle.mu_note.specs.Views.{part_job}
use Rattle.mu_blob_session.specs.Sound.{AreBegun, AreSound}
use Rattle.mu_place.specs.declared.place.FillingBank.{FillingBank}
use Rattle.mu_place.specs.declared.place.Place.{Place}
use Rattle.mu_place.specs.Place.{place_fault, place_record, place_filling, place_bank, place_held}
use Rattle.mu_place.specs.Calls.{closed_record}
use Rattle.mu_kept.specs.declared.store.JobStore.{JobStore}
use Rattle.mu_kept.specs.Views.{bank_of, flags_by, flags_with, flags_of, fills_by}
use Rattle.mu_kept.specs.Calls.{CanVerify, verified, verified_flags}
use Rattle.mu_kept.proofs.Asking.{Holds, holds_all}
use Rattle.mu_kept.proofs.Fitting.{Knows, sound_is}
use Rattle.mu_kept.proofs.Knowing.{fills_known}
use Rattle.mu_kept.proofs.Changing.{flags_marked}
use Rattle.mu_kept.proofs.Writing.{is_kept, rules_of, entry_given, job_of, bank_is, begun_for, filling_is}

all_true : (flags : List Bool) → list_all (λ b. b) flags ≡ true → flags ≡ replicate (length flags) true
all_true [] h = refl
all_true (true ∷ flags) h = ap (λ (bs : List Bool). true ∷ bs) (all_true flags h)
all_true (false ∷ flags) h = absurd (cc h)

-- the record that is written goes with the job as it is then
module _ (r next : Record) (j : BlobJob) (p : Parameters) (has : j.parameters ≡ Some p) (is : IsRecord r) (blob : IsBlobRecord r (Some (part_job j))) (meta : Meta) (fit unfit : List ℕ) where
  sealed_goes : next ≡ next_record r (slice_set r.banks j.bank (Sealed meta)) fit → p.size ≡ meta.size → BankGoesWith next j.bank j.parameters
  sealed_goes e size =
      subst (λ (q : Option Parameters). BankGoesWith next j.bank q) (sym has)
      (subst (λ (entry : BankState). TakesBy p entry) (sym (entry_given r next j.bank (Sealed meta) fit is blob.rules.bank e)) (sym size, begun.log_least, begun.log_most))
    where
      begun : AreBegun p
      begun = subst AreSound has (sound_is r j is blob)

  pub verified_kept : (keep t : Bool) → next ≡ closed_record r j.bank meta fit unfit t → (IsTrue t → p.size ≡ meta.size) → NoneFilling next
      → IsBlobPart (option_map part_job (verified keep true (Some j))) (blob_part fit) → IsBlobPart (option_map part_job (verified keep false (Some j))) (blob_part unfit)
      → IsBlobRecord next (option_map part_job (verified keep t (Some j)))
  verified_kept false true e size none sealed emptied = is_kept next _ _ e sealed none
  verified_kept false false e size none sealed emptied = is_kept next _ _ e emptied none
  verified_kept true true e size none sealed emptied = is_kept next _ _ e sealed (rules_of r next _ fit j j.parameters e blob.rules (sealed_goes e (size refl)))
  verified_kept true false e size none sealed emptied = is_kept next _ _ e emptied (rules_of r next _ unfit j None e blob.rules none)

-- what is asked for, of the job that there is
module _ {F : Type 0} {g : _} (store : JobStore F g) (asks : place_fault store.place ≡ None → CanVerify store) (none : place_fault store.place ≡ None)
    (k : Knows (place_record store.place) (place_filling store.place) (place_held store.place)) where
  pub was : Holds store.job (flags_of store.place store.job)
  was = holds_all store.job (flags_of store.place store.job) (asks none).whole

  pub filled : place_filling store.place ≡ Some (record { bank = was.j.bank; size = was.p.size; log = was.p.log })
  filled = begun_for store.job was.j was.p (place_filling store.place) was.is was.has (fills_known store.place k store.job (store.fits none) (asks none).fills)

  marks : flags_of store.place store.job ≡ place_held store.place
  marks = flags_marked store.place store.job was.j was.p was.is was.has (asks none).fills

  pub all_marked : All IsTrue (place_held store.place)
  all_marked = AllPass-from_list_all (λ b. b) (place_held store.place) (ap (list_all (λ b. b)) (sym marks) ∙ was.all)

  pub bank : place_bank store.place ≡ was.j.bank
  bank = bank_is store.place _ filled

  pub bank_here : place_bank store.place ≡ bank_of store.job
  bank_here = bank ∙ ap bank_of (sym was.is)

  pub blob : IsBlobRecord (place_record store.place) (Some (part_job was.j))
  blob = job_of (place_record store.place) store.job was.j was.is (store.fits none)

  -- the size of the bank is that of the job
  pub size_of : (meta : Meta) → IfSome (place_filling store.place) (λ f. f.size ≡ meta.size) → was.p.size ≡ meta.size
  size_of meta h = subst (λ (o : Option FillingBank). IfSome o (λ f. f.size ≡ meta.size)) filled h

  same_size : was.p.size ≡ was.j.size
  same_size = by_parameters was.j.parameters was.has blob.octets.parameters
    where
      by_parameters : (q : Option Parameters) → q ≡ Some was.p → HasParameters was.j.size q (blob_part (place_record store.place).tag) → was.p.size ≡ was.j.size
      by_parameters q e h = (subst (λ (o : Option Parameters). HasParameters was.j.size o (blob_part (place_record store.place).tag)) e h).same_size

  pub job_size : (meta : Meta) → IfSome (place_filling store.place) (λ f. f.size ≡ meta.size) → IfSome store.job (λ j. j.size ≡ meta.size)
  job_size meta h = subst (λ (o : Option BlobJob). IfSome o (λ j. j.size ≡ meta.size)) (sym was.is) (sym same_size ∙ size_of meta h)

  all_flags : flags_of store.place store.job ≡ replicate (block_count was.p.size was.p.log) true
  all_flags = all_true (flags_of store.place store.job) was.all ∙ ap (λ (n : ℕ). replicate n true) (ap length marks ∙ subst (λ (o : Option FillingBank). IfSome o (λ f. length (place_held store.place) ≡ block_count f.size f.log)) filled k.as_many)

  -- the flags afterwards
  pub flags_verified : (new : Place F g) (meta : Meta) (fit unfit : List ℕ) (keep t : Bool) → place_record new ≡ closed_record (place_record store.place) was.j.bank meta fit unfit t
      → flags_of new (verified keep t (Some was.j)) ≡ verified_flags keep t (flags_of store.place store.job)
  flags_verified new meta fit unfit false true e = refl
  flags_verified new meta fit unfit false false e = refl
  flags_verified new meta fit unfit true false e = refl
  flags_verified new meta fit unfit true true e =
      ap (λ (q : Option Parameters). flags_with (entry_of (place_record new) was.j.bank) (place_held new) q) was.has
      ∙ ap (λ (entry : BankState). flags_by entry (place_held new) was.p) (entry_given (place_record store.place) (place_record new) was.j.bank (Sealed meta) fit k.in_range blob.rules.bank e)
      ∙ sym all_flags
