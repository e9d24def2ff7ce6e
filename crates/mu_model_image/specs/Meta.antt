-- Metadata, Firmware IDs and images. Numbers are little-endian. The layouts of metadata and Firmware ID are this
-- profile's: MshDFU leaves the metadata, and what follows the company in a Firmware ID, to the vendor.
use Rattle.std.specs.Prelude.{ℕ, ◌≡◌, ◌<◌, ◌^◌, ◌==◌, ◌&&◌, Bool, List, ◌++◌, Option, Some, None, length, drop, bytes_eq, nat_lt, if◌then◌else◌}
use Rattle.std.specs.List.{All}
use Rattle.byteorder.specs.Endian.{little_bytes, little_number}
use Rattle.sha2.specs.Sha256.{sha256}
use Rattle.mu_model_image.specs.declared.Meta.{Meta}

-- the octets of metadata: the size in 4 octets, the version in 4, the digest in 32 (this profile)
abbrev pub meta_octets : Meta → List ℕ
meta_octets meta = little_bytes 4 meta.size ++ little_bytes 4 meta.version ++ meta.digest

-- what 40 octets say as metadata
abbrev pub meta_of : List ℕ → Meta
meta_of octets = record {
  size = little_number 4 octets;
  version = little_number 4 (drop 4 octets);
  digest = drop 8 octets;
}

-- the metadata that octets are: none where there aren't 40 octets or the size is 0 (this profile)
abbrev pub meta_from : List ℕ → Option Meta
meta_from octets =
    if length octets == 40 && nat_lt 0 (meta_of octets).size then Some (meta_of octets) else None

-- the Firmware ID: the company in 2 octets (MshDFU: Company ID), the version in 4, the digest in 32 (this profile)
abbrev pub firmware_id : ℕ → Meta → List ℕ
firmware_id company meta = little_bytes 2 company ++ little_bytes 4 meta.version ++ meta.digest

-- the company of all that this product makes (this profile)
abbrev pub own_company : ℕ
own_company = 0xFFFF

-- the fields are in the ranges of their types, and the size isn't 0
pub record IsMeta (meta : Meta) : Type 0 where
  pub some : 0 < meta.size
  pub size : meta.size < 2 ^ 32
  pub version : meta.version < 2 ^ 32
  pub digest_length : length meta.digest ≡ 32
  pub digest_octets : All (λ octet. octet < 256) meta.digest

-- an image fits metadata: the octets have its size and its digest (this profile's metadata check)
pub record IsFit (octets : List ℕ) (meta : Meta) : Type 0 where
  pub size : length octets ≡ meta.size
  pub digest : sha256 octets ≡ meta.digest

-- whether an image fits metadata
abbrev pub is_fit : List ℕ → Meta → Bool
is_fit octets meta = length octets == meta.size && bytes_eq (sha256 octets) meta.digest

-- a firmware image with its metadata
pub record Image : Type 0 where
  pub octets : List ℕ
  pub meta : Meta

-- the image of a version that these octets are
abbrev pub image_of : ℕ → List ℕ → Image
image_of version octets = record {
  octets = octets;
  meta = record { size = length octets; version = version; digest = sha256 octets };
}
