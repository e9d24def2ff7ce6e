-- What is known of a job that goes with its record.
use Rattle.std.proofs.Common.{◌≡◌, ◌∙◌, ℕ, zero, suc, ◌*◌, ◌<◌, ◌≤◌, Bool, true, false, Option, Some, None, List, [], length, replicate, refl, sym, ap, subst, arith}
use Rattle.std.specs.Prelude.{IfSome, if◌then◌else◌}
use Rattle.std.specs.List.{list_all}
use Rattle.std.proofs.lemmas.List.{length-replicate}
use Rattle.mu_model_image.specs.declared.Meta.{Meta}
use Rattle.mu_model_image.specs.Pieces.{block_count}
use Rattle.mu_model_record.specs.declared.Record.{Record}
use Rattle.mu_model_record.specs.declared.BankState.{BankState}
use Rattle.mu_model_record.specs.declared.BankState.TheVariants.{Empty, Filling, Sealed}
use Rattle.mu_model_record.specs.Record.{IsRecord, IsFilling, IsEntryInRange, entry_of, capacity_of}
use Rattle.mu_model_node.specs.declared.Parameters.{Parameters}
use Rattle.mu_model_represents.specs.BlobPart.{blob_part, IsBlobPart, HasParameters, SpellsParameters, NoneFilling, TakesBy, BankGoesWith, IsJobOf, IsBlobRecord}
use Rattle.mu_note.specs.declared.blob.BlobJob.{BlobJob}
use Rattle.mu_note.specs.Views.{part_job}
use Rattle.mu_place.specs.declared.place.FillingBank.{FillingBank}
use Rattle.mu_blob_rows.specs.declared.looks.TransferLook.{TransferLook}
use Rattle.mu_blob_rows.specs.declared.looks.Serving.{Serving}
use Rattle.mu_blob_rows.specs.declared.looks.Serving.TheVariants.{Lacking, Whole}
use Rattle.mu_blob_session.specs.Sound.{AreBegun, AreSound, IsSoundServing, count_of, blocks_of}
use Rattle.mu_kept.specs.Views.{is_filling, flags_by, flags_with, transfer_look, serving_by, serving_of, is_whole, are_there}
use Rattle.mu_kept.specs.Calls.{bank_begun}

pub filling_from : (e : BankState) → is_filling e ≡ true → IsFilling e
filling_from Empty h = absurd (cc h)
filling_from (Filling size log) h = tt
filling_from (Sealed meta) h = absurd (cc h)

pub all_replicated : (n : ℕ) → list_all (λ b. b) (replicate n true) ≡ true
all_replicated zero = refl
all_replicated (suc n) = all_replicated n

-- what is known of a bank that is being filled, if one is
pub record Knows (r : Record) (filling : Option FillingBank) (marks : List Bool) : Type 0 where
  pub in_range : IsRecord r
  pub rests : filling ≡ None → NoneFilling r
  pub entry : IfSome filling (λ f. entry_of r f.bank ≡ Filling f.size f.log)
  pub as_many : IfSome filling (λ f. length marks ≡ block_count f.size f.log)

-- by the parameters of a job
module _ (r : Record) (marks : List Bool) where
  same_bank : (f : FillingBank) (j : BlobJob) (q : Option Parameters) → IsRecord r → entry_of r f.bank ≡ Filling f.size f.log
      → BankGoesWith r j.bank q → is_filling (entry_of r j.bank) ≡ true → Some f ≡ bank_begun j q
  same_bank f j None is entry goes h = absurd (goes j.bank (filling_from (entry_of r j.bank) h))
  same_bank f j (Some p) is entry goes h = λ i. Some (record { bank = banks i; size = sizes.0 i; log = sizes.1 i })
    where
      banks : f.bank ≡ j.bank
      banks = is.one_filling f.bank j.bank (subst IsFilling (sym entry) tt) (filling_from (entry_of r j.bank) h)

      sizes : (f.size ≡ p.size) × (f.log ≡ p.log)
      sizes = subst (λ (e : BankState). TakesBy p e) (ap (entry_of r) (sym banks) ∙ entry) goes

  -- the bank that is being filled is the job's
  pub fills_is : (filling : Option FillingBank) (j : BlobJob) → Knows r filling marks → BankGoesWith r j.bank j.parameters
      → is_filling (entry_of r j.bank) ≡ true → filling ≡ bank_begun j j.parameters
  fills_is None j k goes h = absurd (k.rests refl j.bank (filling_from (entry_of r j.bank) h))
  fills_is (Some f) j k goes h = same_bank f j j.parameters k.in_range k.entry goes h

  -- without parameters none is
  pub rests_is : (filling : Option FillingBank) → Knows r filling marks → NoneFilling r → filling ≡ None
  rests_is None k none = refl
  rests_is (Some f) k none = absurd (none f.bank (subst IsFilling (sym k.entry) tt))

  -- it is being filled where a block is missing
  pub lacks_is : (p : Parameters) (e : BankState) → TakesBy p e → list_all (λ b. b) (flags_by e marks p) ≡ false → is_filling e ≡ true
  lacks_is p Empty takes h = absurd takes
  lacks_is p (Filling size log) takes h = refl
  lacks_is p (Sealed meta) takes h = absurd (cc (h, all_replicated (block_count p.size p.log)))

  marks_are : (filling : Option FillingBank) (j : BlobJob) (p : Parameters) → j.parameters ≡ Some p → Knows r filling marks → BankGoesWith r j.bank j.parameters
      → is_filling (entry_of r j.bank) ≡ true → length marks ≡ block_count p.size p.log
  marks_are filling j p has k goes h =
      subst (λ (o : Option FillingBank). IfSome o (λ f. length marks ≡ block_count f.size f.log)) (fills_is filling j k goes h ∙ ap (bank_begun j) has) k.as_many

  counted : (p : Parameters) (e : BankState) → TakesBy p e → (is_filling e ≡ true → length marks ≡ block_count p.size p.log)
      → length (flags_by e marks p) ≡ block_count p.size p.log
  counted p Empty takes long = absurd takes
  counted p (Filling size log) takes long = long refl
  counted p (Sealed meta) takes long = length-replicate (block_count p.size p.log) true

  count_by_parameters : (filling : Option FillingBank) (j : BlobJob) (q : Option Parameters) → j.parameters ≡ q → Knows r filling marks
      → BankGoesWith r j.bank j.parameters → BankGoesWith r j.bank q → length (flags_with (entry_of r j.bank) marks q) ≡ count_of q
  count_by_parameters filling j None has k goes here = refl
  count_by_parameters filling j (Some p) has k goes here = counted p (entry_of r j.bank) here (marks_are filling j p has k goes)

  pub count_is : (filling : Option FillingBank) (j : BlobJob) → Knows r filling marks → BankGoesWith r j.bank j.parameters
      → length (flags_with (entry_of r j.bank) marks j.parameters) ≡ count_of j.parameters
  count_is filling j k goes = count_by_parameters filling j j.parameters refl k goes goes

-- ---- what the rows look at

-- of a serving, whatever its flags
pub blocks_served : (t : TransferLook) (q : Option Parameters) (flags : List Bool) → t.parameters ≡ q → blocks_of (serving_by t q flags) ≡ count_of q
blocks_served t None flags has = ap count_of has
blocks_served t (Some p) flags has = by_flag (list_all (λ b. b) flags)
  where
    by_flag : (b : Bool) → blocks_of (if b then Whole t else Lacking t) ≡ count_of (Some p)
    by_flag true = ap count_of has
    by_flag false = ap count_of has

pub sound_served : (id size base : ℕ) (q : Option Parameters) (flags : List Bool) → AreSound q
    → IsSoundServing (serving_by (record { id = id; size = size; base = base; parameters = q }) q flags)
sound_served id size base None flags sound = tt
sound_served id size base (Some p) flags sound = by_flag (list_all (λ b. b) flags)
  where
    t : TransferLook
    t = record { id = id; size = size; base = base; parameters = Some p }

    by_flag : (b : Bool) → IsSoundServing (if b then Whole t else Lacking t)
    by_flag true = sound
    by_flag false = sound

-- the log of parameters that a bank goes with
logs_of : (r : Record) (p : Parameters) (e : BankState) → IsEntryInRange r e → TakesBy p e → (12 ≤ p.log) × (p.log ≤ 14)
logs_of r p Empty range takes = absurd takes
logs_of r p (Filling size log) range takes = subst (λ (n : ℕ). (12 ≤ n) × (n ≤ 14)) takes.1 (range.2, range.3)
logs_of r p (Sealed meta) range takes = (takes.1, takes.2)

sound_by : (r : Record) (bank size : ℕ) (octets : List ℕ) (q : Option Parameters) → IsRecord r → 1 ≤ size → size ≤ capacity_of r → bank < r.number
    → HasParameters size q octets → BankGoesWith r bank q → AreSound q
sound_by r bank size octets None is least most there has goes = tt
sound_by r bank size octets (Some p) is least most there has goes = record {
  mode_most = has.mode_most;
  mtu_least = has.mtu_least;
  size_least = omega (arith, least, has.same_size);
  size_most = omega (arith, most, has.same_size, is.pages_most);
  log_least = logs.0;
  log_most = logs.1;
}
  where
    logs : (12 ≤ p.log) × (p.log ≤ 14)
    logs = logs_of r p (entry_of r bank) (is.entries bank there) goes

pub sound_is : (r : Record) (j : BlobJob) → IsRecord r → IsBlobRecord r (Some (part_job j)) → AreSound j.parameters
sound_is r j is blob =
    sound_by r j.bank j.size (blob_part r.tag) j.parameters is blob.rules.size_least blob.rules.size_most blob.rules.bank blob.octets.parameters blob.rules.goes_with
