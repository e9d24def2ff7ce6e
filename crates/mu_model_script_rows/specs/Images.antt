-- Metadata, Firmware IDs, made octets, blocks and chunks.
use Rattle.std.specs.Prelude.{ℕ, ◌≡◌, ◌++◌, true, false, List, [], ◌∷◌, map, replicate, Some, None}
use Rattle.mu_model_image.specs.declared.Meta.{Meta}
use Rattle.mu_model_image.specs.Meta.{meta_octets, meta_from, firmware_id, own_company, is_fit}
use Rattle.mu_model_image.specs.Made.{made_octet, made_image}
use Rattle.mu_model_image.specs.Pieces.{block_count, block_length, block_of, chunk_count, chunk_length, chunk_of}

-- size 10_20_30_40, version 50_60_70_80, a digest of 01 to 20
abbrev pub digest : List ℕ
digest =
    1 ∷ 2 ∷ 3 ∷ 4 ∷ 5 ∷ 6 ∷ 7 ∷ 8 ∷ 9 ∷ 10 ∷ 11 ∷ 12 ∷ 13 ∷ 14 ∷ 15 ∷ 16 ∷ 17 ∷ 18 ∷ 19 ∷ 20 ∷ 21 ∷ 22 ∷ 23 ∷ 24 ∷ 25 ∷ 26 ∷ 27 ∷ 28 ∷ 29 ∷ 30 ∷ 31 ∷ 32 ∷ []

abbrev pub meta : Meta
meta = record { size = 0x40302010; version = 0x80706050; digest = digest }

abbrev pub octets : List ℕ
octets = (0x10 ∷ 0x20 ∷ 0x30 ∷ 0x40 ∷ 0x50 ∷ 0x60 ∷ 0x70 ∷ 0x80 ∷ []) ++ digest

pub record EachImage : Type 0 where
  pub written : meta_octets meta ≡ octets
  pub read : meta_from octets ≡ Some meta
  -- 40 octets, and a size that isn't 0
  pub short : meta_from (replicate 39 1) ≡ None
  pub long : meta_from (replicate 41 1) ≡ None
  pub no_octets : meta_from [] ≡ None
  pub no_size : meta_from ((0 ∷ 0 ∷ 0 ∷ 0 ∷ 1 ∷ 0 ∷ 0 ∷ 0 ∷ []) ++ digest) ≡ None
  pub size_1 : meta_from ((1 ∷ 0 ∷ 0 ∷ 0 ∷ 0 ∷ 0 ∷ 0 ∷ 0 ∷ []) ++ digest) ≡ Some (record { size = 1; version = 0; digest = digest })
  -- company, version, digest: 38 octets
  pub id : firmware_id 0x0201 meta ≡ (1 ∷ 2 ∷ 0x50 ∷ 0x60 ∷ 0x70 ∷ 0x80 ∷ []) ++ digest
  pub company : own_company ≡ 0xFFFF
  -- 61 62 63 and its digest (FIPS 180-2, its first example)
  pub fit : is_fit (0x61 ∷ 0x62 ∷ 0x63 ∷ []) (record { size = 3; version = 9; digest = 0xba ∷ 0x78 ∷ 0x16 ∷ 0xbf ∷ 0x8f ∷ 0x01 ∷ 0xcf ∷ 0xea ∷ 0x41 ∷ 0x41 ∷ 0x40 ∷ 0xde ∷ 0x5d ∷ 0xae ∷ 0x22 ∷ 0x23 ∷ 0xb0 ∷ 0x03 ∷ 0x61 ∷ 0xa3 ∷ 0x96 ∷ 0x17 ∷ 0x7a ∷ 0x9c ∷ 0xb4 ∷ 0x10 ∷ 0xff ∷ 0x61 ∷ 0xf2 ∷ 0x00 ∷ 0x15 ∷ 0xad ∷ [] }) ≡ true
  pub other_size : is_fit (0x61 ∷ 0x62 ∷ 0x63 ∷ []) (record { size = 4; version = 9; digest = 0xba ∷ 0x78 ∷ 0x16 ∷ 0xbf ∷ 0x8f ∷ 0x01 ∷ 0xcf ∷ 0xea ∷ 0x41 ∷ 0x41 ∷ 0x40 ∷ 0xde ∷ 0x5d ∷ 0xae ∷ 0x22 ∷ 0x23 ∷ 0xb0 ∷ 0x03 ∷ 0x61 ∷ 0xa3 ∷ 0x96 ∷ 0x17 ∷ 0x7a ∷ 0x9c ∷ 0xb4 ∷ 0x10 ∷ 0xff ∷ 0x61 ∷ 0xf2 ∷ 0x00 ∷ 0x15 ∷ 0xad ∷ [] }) ≡ false
  pub other_digest : is_fit (0x61 ∷ 0x62 ∷ 0x63 ∷ []) (record { size = 3; version = 9; digest = digest }) ≡ false
  -- (seed + 7 i + i / 256) mod 256
  pub made : map (made_octet 0) (0 ∷ 1 ∷ 2 ∷ 36 ∷ 37 ∷ 255 ∷ 256 ∷ 257 ∷ 511 ∷ 512 ∷ 65536 ∷ []) ≡ 0 ∷ 7 ∷ 14 ∷ 252 ∷ 3 ∷ 249 ∷ 1 ∷ 8 ∷ 250 ∷ 2 ∷ 0 ∷ []
  pub made_9 : map (made_octet 9) (0 ∷ 1 ∷ 256 ∷ []) ≡ 9 ∷ 16 ∷ 10 ∷ []
  pub made_past : map (made_octet 65535) (0 ∷ 1 ∷ 256 ∷ []) ≡ 255 ∷ 6 ∷ 0 ∷ []
  pub made_4 : made_image 1 4 ≡ 1 ∷ 8 ∷ 15 ∷ 22 ∷ []
  -- 10,000 octets in blocks of 4,096 and chunks of 200
  pub blocks : block_count 10000 12 ≡ 3
  pub block_lengths : map (block_length 10000 12) (0 ∷ 1 ∷ 2 ∷ []) ≡ 4096 ∷ 4096 ∷ 1808 ∷ []
  pub chunks : map (λ length. chunk_count length 200) (4096 ∷ 1808 ∷ []) ≡ 21 ∷ 10 ∷ []
  pub chunk_lengths : map (chunk_length 4096 200) (0 ∷ 19 ∷ 20 ∷ []) ≡ 200 ∷ 200 ∷ 96 ∷ []
  pub last_chunk : chunk_length 1808 200 9 ≡ 8
  -- exactly one block or chunk, and one octet more
  pub one_block : map (λ size. block_count size 12) (1 ∷ 4096 ∷ 4097 ∷ 8192 ∷ 1048576 ∷ []) ≡ 1 ∷ 1 ∷ 2 ∷ 2 ∷ 256 ∷ []
  pub other_logs : map (λ log. block_count 16385 log) (12 ∷ 13 ∷ 14 ∷ []) ≡ 5 ∷ 3 ∷ 2 ∷ []
  pub one_chunk : map (λ length. chunk_count length 8) (1 ∷ 8 ∷ 9 ∷ 16384 ∷ []) ≡ 1 ∷ 1 ∷ 2 ∷ 2048 ∷ []
  pub last_block : block_of (replicate 4096 1 ++ (2 ∷ 3 ∷ [])) 12 1 ≡ 2 ∷ 3 ∷ []
  pub second_chunk : chunk_of (1 ∷ 2 ∷ 3 ∷ 4 ∷ 5 ∷ 6 ∷ 7 ∷ 8 ∷ 9 ∷ 10 ∷ []) 8 1 ≡ 9 ∷ 10 ∷ []
  pub first_chunk : chunk_of (1 ∷ 2 ∷ 3 ∷ 4 ∷ 5 ∷ 6 ∷ 7 ∷ 8 ∷ 9 ∷ 10 ∷ []) 8 0 ≡ 1 ∷ 2 ∷ 3 ∷ 4 ∷ 5 ∷ 6 ∷ 7 ∷ 8 ∷ []
