-- The note of a distributor as a table (this profile). Numbers are little-endian.
use Rattle.std.specs.Prelude.{◌≡◌, ◌++◌, ◌+◌, ◌-◌, ◌*◌, ◌/◌, ◌%◌, ℕ, ◌<◌, ◌≤◌, List, [], ◌∷◌, Option, Some, None, length, slice_get, slice_index, slice_index_or}
use Rattle.std.specs.List.{flat_map}
use Rattle.byteorder.specs.Endian.{little_bytes}
pub use Rattle.mu_model_distributor.specs.DistState.{receiver_octets}
use Rattle.mu_model_wire.specs.Limits.{most_receivers}
use Rattle.mu_model_image.specs.declared.Meta.{Meta}
use Rattle.mu_model_image.specs.Meta.{meta_of, meta_octets}
use Rattle.mu_model_flash.specs.Bits.{part_of}
use Rattle.mu_model_record.specs.Record.{zeros, number_at}
use Rattle.mu_model_distributor.specs.declared.Settings.{Settings}
use Rattle.mu_model_distributor.specs.declared.DistPhase.{DistPhase}
use Rattle.mu_model_distributor.specs.DistState.{Receiver, dist_number}

-- the phase of an upload in a record (MshDFU, Upload Phase)
pub data UploadPhase : Type 0 where
  UploadIdle : UploadPhase
  UploadActive : UploadPhase
  UploadError : UploadPhase
  UploadSuccess : UploadPhase

abbrev pub upload_phase_number : UploadPhase → ℕ
upload_phase_number UploadIdle = 0
upload_phase_number UploadActive = 1
upload_phase_number UploadError = 2
upload_phase_number UploadSuccess = 3

pub record DistributorNote : Type 0 where
  pub phase : DistPhase
  pub upload : UploadPhase
  -- the images' banks, in the order in which they were stored
  pub banks : List ℕ
  -- how many distributions were started
  pub counter : ℕ
  -- those of the last one
  pub settings : Settings
  pub receivers : List Receiver
  pub upload_ttl : ℕ
  pub upload_meta : Meta

-- ---- the octets

-- Mode and policy share an octet, as on the wire: the mode in its two lowest bits (MshDFU, Firmware Distribution Start).
pub record SpellsSettings (s : Settings) (octets : List ℕ) : Type 0 where
  pub ttl_at_16 : slice_index octets 16 ≡ s.ttl
  pub base_at_17 : number_at 2 octets 17 ≡ s.base
  pub mode_at_19 : slice_index octets 19 % 4 ≡ s.mode
  pub policy_at_19 : slice_index octets 19 / 4 ≡ s.policy
  pub image_at_20 : number_at 2 octets 20 ≡ s.image
  pub group_at_22 : number_at 2 octets 22 ≡ s.group
  pub appkey_at_24 : number_at 2 octets 24 ≡ s.appkey

pub record SpellsReceiver (r : Receiver) (octets : List ℕ) : Type 0 where
  pub address_at_0 : number_at 2 octets 0 ≡ r.address
  pub index_at_2 : slice_index octets 2 ≡ r.index
  pub phase_at_3 : slice_index octets 3 ≡ r.phase
  pub update_status_at_4 : slice_index octets 4 ≡ r.update_status
  pub transfer_status_at_5 : slice_index octets 5 ≡ r.transfer_status

-- a row; past the number of receivers it is 0
abbrev pub IsRow : Option Receiver → List ℕ → Type 0
IsRow None octets = octets ≡ zeros 6
IsRow (Some r) octets = SpellsReceiver r octets

-- the 1,728 octets of the note, by place and width
pub record SpellsDistributor (n : DistributorNote) (octets : List ℕ) : Type 0 where
  pub kind_at_0 : slice_index octets 0 ≡ 2
  pub phase_at_1 : slice_index octets 1 ≡ dist_number n.phase
  pub upload_at_2 : slice_index octets 2 ≡ upload_phase_number n.upload
  pub images_at_3 : slice_index octets 3 ≡ length n.banks
  pub few_images : length n.banks ≤ 4
  -- 0 where there is none
  pub banks_at_4 : (k : ℕ) → k < 4 → slice_index octets (4 + k) ≡ slice_index_or n.banks k 0
  pub counter_at_8 : number_at 8 octets 8 ≡ n.counter
  pub settings_at_16 : SpellsSettings n.settings octets
  pub receivers_at_26 : slice_index octets 26 ≡ length n.receivers
  pub few_receivers : length n.receivers ≤ most_receivers
  pub upload_ttl_at_27 : slice_index octets 27 ≡ n.upload_ttl
  pub upload_metadata_at_28 : meta_of (part_of octets 28 40) ≡ n.upload_meta
  pub zero_at_68 : part_of octets 68 60 ≡ zeros 60
  pub rows_at_128 : (k : ℕ) → k < most_receivers → IsRow (slice_get n.receivers k) (part_of octets (128 + 6 * k) 6)
  pub zero_at_896 : part_of octets 896 832 ≡ zeros 832

-- ---- what is written

abbrev pub settings_octets : Settings → List ℕ
settings_octets s =
    s.ttl ∷ (little_bytes 2 s.base ++ ((s.mode + 4 * s.policy) ∷ (little_bytes 2 s.image ++ (little_bytes 2 s.group ++ little_bytes 2 s.appkey))))

abbrev pub bank_octets : List ℕ → List ℕ
bank_octets banks = slice_index_or banks 0 0 ∷ slice_index_or banks 1 0 ∷ slice_index_or banks 2 0 ∷ slice_index_or banks 3 0 ∷ []

-- up to the upload's metadata, these, and the rows
abbrev pub head_octets : DistributorNote → List ℕ
head_octets n =
    2 ∷ dist_number n.phase ∷ upload_phase_number n.upload ∷ length n.banks ∷ (bank_octets n.banks
    ++ (little_bytes 8 n.counter ++ (settings_octets n.settings ++ (length n.receivers ∷ n.upload_ttl ∷ []))))

abbrev pub distributor_octets : DistributorNote → List ℕ
distributor_octets n =
    head_octets n ++ (meta_octets n.upload_meta ++ (zeros 60 ++ (flat_map receiver_octets n.receivers ++ zeros (1600 - 6 * length n.receivers))))
