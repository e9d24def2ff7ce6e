-- What a call asks of the job.
use Rattle.std.proofs.Common.{◌≡◌, ◌∙◌, ℕ, ◌<◌, ◌≤◌, Bool, true, false, Option, Some, None, List, [], refl, sym, ap, subst}
use Rattle.std.specs.Prelude.{is_some, IfSome, if◌then◌else◌}
use Rattle.std.specs.List.{list_all}
use Rattle.mu_model_image.specs.Pieces.{block_count, block_length}
use Rattle.mu_model_node.specs.declared.Parameters.{Parameters}
use Rattle.mu_note.specs.declared.blob.BlobJob.{BlobJob}
use Rattle.mu_blob_rows.specs.declared.looks.TransferLook.{TransferLook}
use Rattle.mu_blob_rows.specs.declared.looks.Serving.{Serving}
use Rattle.mu_blob_rows.specs.declared.looks.Serving.TheVariants.{Lacking, Whole}
use Rattle.mu_blob_rows.specs.declared.table.TransferChange.TheVariants.{Begin, Drop}
use Rattle.mu_blob_rows.specs.Rows.{ChangeFits}
use Rattle.mu_kept.specs.Views.{transfer_look, serving_by, serving_of, is_whole}
use Rattle.mu_kept.specs.Calls.{IsBlockBy, IsBlockFor}

-- a job without parameters, whose transfer is begun with these
pub record Begun (j : BlobJob) (capacity : ℕ) (p : Parameters) : Type 0 where
  pub new : j.parameters ≡ None
  pub same_size : p.size ≡ j.size
  pub room : p.size ≤ capacity
  pub log_least : 12 ≤ p.log
  pub log_most : p.log ≤ 14

begun_by : (j : BlobJob) (q : Option Parameters) (flags : List Bool) (capacity : ℕ) (p : Parameters) → j.parameters ≡ q
    → ChangeFits (serving_by (transfer_look j) q flags) capacity p Begin → Begun j capacity p
begun_by j None flags capacity p has fits =
    record { new = fits.0; same_size = fits.1; room = fits.2; log_least = fits.3; log_most = fits.4 }
begun_by j (Some q) flags capacity p has fits = by_flag (list_all (λ b. b) flags) fits
  where
    by_flag : (b : Bool) → ChangeFits (if b then Whole (transfer_look j) else Lacking (transfer_look j)) capacity p Begin → Begun j capacity p
    by_flag true f = absurd f
    by_flag false f = absurd (cc (has, f.0))

pub begun_fits : (job : Option BlobJob) (j : BlobJob) (flags : List Bool) (capacity : ℕ) (p : Parameters) → job ≡ Some j → ChangeFits (serving_of job flags) capacity p Begin → Begun j capacity p
begun_fits job j flags capacity p is fits = begun_by j j.parameters flags capacity p refl (subst (λ (o : Option BlobJob). ChangeFits (serving_of o flags) capacity p Begin) is fits)

-- a job that lacks a block
pub record Lacks (job : Option BlobJob) (flags : List Bool) : Type 0 where
  pub j : BlobJob
  pub is : job ≡ Some j
  pub p : Parameters
  pub has : j.parameters ≡ Some p
  pub lacks : list_all (λ b. b) flags ≡ false

lacks_by : (j : BlobJob) (q : Option Parameters) (flags : List Bool) (capacity : ℕ) (p : Parameters) → j.parameters ≡ q
    → ChangeFits (serving_by (transfer_look j) q flags) capacity p Drop → Lacks (Some j) flags
lacks_by j None flags capacity p has fits = absurd (cc (has, fits))
lacks_by j (Some q) flags capacity p has fits = by_flag (list_all (λ b. b) flags) refl fits
  where
    by_flag : (b : Bool) → list_all (λ b. b) flags ≡ b → ChangeFits (if b then Whole (transfer_look j) else Lacking (transfer_look j)) capacity p Drop → Lacks (Some j) flags
    by_flag true e f = absurd f
    by_flag false e f = record { j = j; is = refl; p = q; has = has; lacks = e }

any_parameters : Parameters
any_parameters = record { mode = 0; size = 0; log = 0; mtu = 0 }

pub dropped_fits : (job : Option BlobJob) (flags : List Bool) (capacity : ℕ) → ((p : Parameters) → ChangeFits (serving_of job flags) capacity p Drop) → Lacks job flags
dropped_fits None flags capacity fits = absurd (fits any_parameters)
dropped_fits (Some j) flags capacity fits = lacks_by j j.parameters flags capacity any_parameters refl (fits any_parameters)

-- a block of a job that lacks it
pub record Wants (job : Option BlobJob) (flags : List Bool) (i size : ℕ) : Type 0 where
  pub j : BlobJob
  pub is : job ≡ Some j
  pub p : Parameters
  pub has : j.parameters ≡ Some p
  pub lacks : list_all (λ b. b) flags ≡ false
  pub within : i < block_count p.size p.log
  pub long : size ≡ block_length p.size p.log i

wants_by : (j : BlobJob) (q : Option Parameters) (flags : List Bool) (i size : ℕ) → j.parameters ≡ q
    → IsBlockFor (serving_by (transfer_look j) q flags) i size → Wants (Some j) flags i size
wants_by j None flags i size has fits = absurd (subst (λ (o : Option Parameters). IsBlockBy o i size) has fits)
wants_by j (Some q) flags i size has fits = by_flag (list_all (λ b. b) flags) refl fits
  where
    by_flag : (b : Bool) → list_all (λ b. b) flags ≡ b → IsBlockFor (if b then Whole (transfer_look j) else Lacking (transfer_look j)) i size → Wants (Some j) flags i size
    by_flag true e f = absurd f
    by_flag false e f = let block = subst (λ (o : Option Parameters). IsBlockBy o i size) has f
        in record { j = j; is = refl; p = q; has = has; lacks = e; within = block.0; long = block.1 }

pub wants_fits : (job : Option BlobJob) (flags : List Bool) (i size : ℕ) → IsBlockFor (serving_of job flags) i size → Wants job flags i size
wants_fits None flags i size fits = absurd fits
wants_fits (Some j) flags i size fits = wants_by j j.parameters flags i size refl fits

-- a job with parameters, all of whose blocks are held
pub record Holds (job : Option BlobJob) (flags : List Bool) : Type 0 where
  pub j : BlobJob
  pub is : job ≡ Some j
  pub p : Parameters
  pub has : j.parameters ≡ Some p
  pub all : list_all (λ b. b) flags ≡ true

holds_by : (j : BlobJob) (q : Option Parameters) (flags : List Bool) → j.parameters ≡ q → is_whole (serving_by (transfer_look j) q flags) ≡ true → Holds (Some j) flags
holds_by j None flags has whole = absurd (cc whole)
holds_by j (Some q) flags has whole = by_flag (list_all (λ b. b) flags) refl whole
  where
    by_flag : (b : Bool) → list_all (λ b. b) flags ≡ b → is_whole (if b then Whole (transfer_look j) else Lacking (transfer_look j)) ≡ true → Holds (Some j) flags
    by_flag true e f = record { j = j; is = refl; p = q; has = has; all = e }
    by_flag false e f = absurd (cc f)

pub holds_all : (job : Option BlobJob) (flags : List Bool) → is_whole (serving_of job flags) ≡ true → Holds job flags
holds_all None flags whole = absurd (cc whole)
holds_all (Some j) flags whole = holds_by j j.parameters flags refl whole

-- a job with parameters lacks a block where it isn't whole
pub lacking_by : (j : BlobJob) (q : Option Parameters) (flags : List Bool) → j.parameters ≡ q → is_some q ≡ true → is_whole (serving_by (transfer_look j) q flags) ≡ false → Lacks (Some j) flags
lacking_by j None flags has there whole = absurd (cc there)
lacking_by j (Some q) flags has there whole = by_flag (list_all (λ b. b) flags) refl whole
  where
    by_flag : (b : Bool) → list_all (λ b. b) flags ≡ b → is_whole (if b then Whole (transfer_look j) else Lacking (transfer_look j)) ≡ false → Lacks (Some j) flags
    by_flag true e f = absurd (cc f)
    by_flag false e f = record { j = j; is = refl; p = q; has = has; lacks = e }
