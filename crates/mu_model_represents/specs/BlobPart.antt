-- The BLOB part of a tag as a table: what a record keeps of a job of the BLOB server (this profile). Numbers are little-endian.
use Rattle.std.specs.Prelude.{◌≡◌, ◌++◌, ◌^◌, ℕ, ◌<◌, ◌≤◌, List, [], ◌∷◌, Option, Some, None, map, slice_index}
use Rattle.byteorder.specs.Endian.{little_bytes}
use Rattle.mu_model_image.specs.Pieces.{blocks_of}
use Rattle.mu_model_flash.specs.Bits.{part_of}
use Rattle.mu_model_record.specs.declared.Record.{Record}
use Rattle.mu_model_record.specs.declared.BankState.{BankState}
use Rattle.mu_model_record.specs.declared.BankState.TheVariants.{Empty, Filling, Sealed}
use Rattle.mu_model_record.specs.Record.{zeros, number_at, entry_of, capacity_of, IsFilling}
use Rattle.mu_model_record.specs.Store.{Content, nothing, held, whole, StoreState, content_of_bank}
use Rattle.mu_model_node.specs.declared.Parameters.{Parameters}
use Rattle.mu_model_node.specs.Slots.{Slots}
use Rattle.mu_model_node.specs.BlobServer.{Transfer}
pub use Rattle.mu_model_node.specs.BlobTable.{mode_of}

-- what the BLOB part keeps of a job
pub record BlobJob : Type 0 where
  -- the BLOB ID
  pub id : ℕ
  -- octets that are expected
  pub size : ℕ
  -- the Timeout Base
  pub base : ℕ
  -- the bank that they come into
  pub bank : ℕ
  -- none where no transfer was begun
  pub parameters : Option Parameters

-- the BLOB part of a tag, and its note
abbrev pub blob_part : List ℕ → List ℕ
blob_part tag = part_of tag 0 64

abbrev pub note_part : List ℕ → List ℕ
note_part tag = part_of tag 64 1728

-- ---- the octets

-- without parameters their places are 0
pub record LacksParameters (octets : List ℕ) : Type 0 where
  pub no_mode_at_1 : slice_index octets 1 ≡ 0
  pub no_mtu_at_2 : number_at 2 octets 2 ≡ 0
  pub no_log_at_19 : slice_index octets 19 ≡ 0

-- The mode is push or pull (MshMBT, Transfer Mode), and the MTU at least 20. The size is that of the job.
pub record SpellsParameters (size : ℕ) (p : Parameters) (octets : List ℕ) : Type 0 where
  pub mode_at_1 : slice_index octets 1 ≡ p.mode
  pub mode_least : 1 ≤ p.mode
  pub mode_most : p.mode ≤ 2
  pub mtu_at_2 : number_at 2 octets 2 ≡ p.mtu
  pub mtu_least : 20 ≤ p.mtu
  pub log_at_19 : slice_index octets 19 ≡ p.log
  pub same_size : p.size ≡ size

abbrev pub HasParameters : ℕ → Option Parameters → List ℕ → Type 0
HasParameters size None octets = LacksParameters octets
HasParameters size (Some p) octets = SpellsParameters size p octets

-- a job, by place and width
pub record SpellsJob (j : BlobJob) (octets : List ℕ) : Type 0 where
  pub there_at_0 : slice_index octets 0 ≡ 1
  pub parameters : HasParameters j.size j.parameters octets
  pub id_at_4 : number_at 8 octets 4 ≡ j.id
  pub size_at_12 : number_at 4 octets 12 ≡ j.size
  pub base_at_16 : number_at 2 octets 16 ≡ j.base
  pub bank_at_18 : slice_index octets 18 ≡ j.bank
  pub zero_at_20 : part_of octets 20 44 ≡ zeros 44

-- The 64 octets of the part. Without a job they are 0.
abbrev pub IsBlobPart : Option BlobJob → List ℕ → Type 0
IsBlobPart None octets = octets ≡ zeros 64
IsBlobPart (Some j) octets = SpellsJob j octets

-- ---- the rules against the record's banks

abbrev pub NoneFilling : Record → Type 0
NoneFilling r = (b : ℕ) → ¬ IsFilling (entry_of r b)

-- With parameters the bank is Filling with that size and log, or it is Sealed with metadata of that size, and the log is 12 to 14.
abbrev pub TakesBy : Parameters → BankState → Type 0
TakesBy p Empty = ⊥
TakesBy p (Filling size log) = (size ≡ p.size) × (log ≡ p.log)
TakesBy p (Sealed meta) = (meta.size ≡ p.size) × (12 ≤ p.log) × (p.log ≤ 14)

-- Without parameters no bank is Filling.
abbrev pub BankGoesWith : Record → ℕ → Option Parameters → Type 0
BankGoesWith r bank None = NoneFilling r
BankGoesWith r bank (Some p) = TakesBy p (entry_of r bank)

pub record IsJobOf (r : Record) (j : BlobJob) : Type 0 where
  pub size_least : 1 ≤ j.size
  pub size_most : j.size ≤ capacity_of r
  pub bank : j.bank < r.number
  pub goes_with : BankGoesWith r j.bank j.parameters

-- So it is without a job.
abbrev pub HasBlobRules : Record → Option BlobJob → Type 0
HasBlobRules r None = NoneFilling r
HasBlobRules r (Some j) = IsJobOf r j

-- a record whose BLOB part is of this job, or of none
pub record IsBlobRecord (r : Record) (part : Option BlobJob) : Type 0 where
  pub octets : IsBlobPart part (blob_part r.tag)
  pub rules : HasBlobRules r part

-- a record whose BLOB part is of none
abbrev pub IsNoBlobRecord : Record → Type 0
IsNoBlobRecord r = (part : Option BlobJob) → ¬ IsBlobRecord r part

-- ---- the job's blocks

-- those that are held where the bank is Filling; where it is Sealed, the image cut in blocks
abbrev pub blocks_by : ℕ → Content → Slots
blocks_by log nothing = []
blocks_by log (held blocks) = blocks
blocks_by log (whole octets) = map Some (blocks_of octets log)

-- none without parameters
abbrev pub held_by : Option Parameters → Content → Slots
held_by None content = []
held_by (Some p) content = blocks_by p.log content

abbrev pub transfer_in : StoreState → BlobJob → Transfer
transfer_in s j = record {
  id = j.id;
  size = j.size;
  base = j.base;
  parameters = j.parameters;
  held = held_by j.parameters (content_of_bank s j.bank);
}

-- ---- what is written

-- parameters and a job that have their places
pub record FitParameters (size : ℕ) (p : Parameters) : Type 0 where
  pub mode_least : 1 ≤ p.mode
  pub mode_most : p.mode ≤ 2
  pub mtu_least : 20 ≤ p.mtu
  pub mtu_most : p.mtu < 2 ^ 16
  pub log_most : p.log < 256
  pub same_size : p.size ≡ size

abbrev pub ParametersFit : ℕ → Option Parameters → Type 0
ParametersFit size None = Unit {0}
ParametersFit size (Some p) = FitParameters size p

pub record FitsPart (j : BlobJob) : Type 0 where
  pub id : j.id < 2 ^ 64
  pub size : j.size < 2 ^ 32
  pub base : j.base < 2 ^ 16
  pub bank : j.bank < 256
  pub parameters : ParametersFit j.size j.parameters

abbrev pub PartFits : Option BlobJob → Type 0
PartFits None = Unit {0}
PartFits (Some j) = FitsPart j

abbrev pub mtu_of : Option Parameters → ℕ
mtu_of None = 0
mtu_of (Some p) = p.mtu

abbrev pub log_of : Option Parameters → ℕ
log_of None = 0
log_of (Some p) = p.log

abbrev pub blob_octets : Option BlobJob → List ℕ
blob_octets None = zeros 64
blob_octets (Some j) =
    1 ∷ mode_of j.parameters ∷ (little_bytes 2 (mtu_of j.parameters)
    ++ (little_bytes 8 j.id ++ (little_bytes 4 j.size ++ (little_bytes 2 j.base ++ (j.bank ∷ log_of j.parameters ∷ zeros 44)))))
