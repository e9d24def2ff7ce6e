-- Which states a node can be in: what a boot may find, and what a run may have beside it. The ranges of numbers are those of the
-- messages and of the records that have them.
use Rattle.std.specs.Prelude.{ℕ, ◌≡◌, ◌<◌, ◌≤◌, ◌*◌, List, [], length, Option, Some, None, slice_get, is_some, true}
use Rattle.mu_model_image.specs.Sizes.{most_image}
use Rattle.mu_model_image.specs.Meta.{Image, IsFit}
use Rattle.mu_model_image.specs.Pieces.{block_count, block_length, chunk_count, chunk_length}
use Rattle.mu_model_node.specs.Slots.{Slots, at, is_full, joined}
use Rattle.mu_model_node.specs.BlobMessages.{Parameters, BlobRequest, TransferStart, least_log, most_log, least_chunk, most_chunk, most_chunks}
use Rattle.mu_model_node.specs.NodeMessages.{Request, OfUpdate, OfBlob}
use Rattle.mu_model_node.specs.BlobServer.{Transfer, CurrentBlock, BlobPhase, NextBlock, NextChunk, Complete, Suspended}
use Rattle.mu_model_node.specs.FlashWork.{page_octets}
use Rattle.mu_model_node.specs.NodeState.{Stored, Filling, Verified, Refused, Applied, Job, NodeDurable, NodeState}

-- what is there has the length of its place
abbrev pub HaveLengths : (ℕ → ℕ) → Slots → Type 0
HaveLengths length_of slots = (i : ℕ) (octets : List ℕ) → at slots i ≡ Some octets → length octets ≡ length_of i

-- ---- what a boot may find

-- an active image fits its metadata and a bank
pub record IsActiveImage (capacity : ℕ) (image : Image) : Type 0 where
  pub some : 0 < image.meta.size
  pub room : image.meta.size ≤ capacity
  pub fit : IsFit image.octets image.meta

-- the parameters of a transfer that was begun, and its blocks: a place for each, and what is held has the block's length
pub record AreBlocks (expected : ℕ) (p : Parameters) (held : Slots) : Type 0 where
  pub mode_above : 1 ≤ p.mode
  pub mode_below : p.mode ≤ 2
  pub mtu_above : 20 ≤ p.mtu
  pub size : p.size ≡ expected
  pub log_above : least_log ≤ p.log
  pub log_below : p.log ≤ most_log
  pub count : length held ≡ block_count p.size p.log
  pub lengths : HaveLengths (block_length p.size p.log) held

-- without parameters there are no blocks
abbrev pub HasBlocks : ℕ → Option Parameters → Slots → Type 0
HasBlocks expected None held = held ≡ []
HasBlocks expected (Some p) held = AreBlocks expected p held

-- all blocks are there, and are the image that was offered
pub record IsWhole (j : Job) : Type 0 where
  pub parameters : is_some j.parameters ≡ true
  pub full : is_full j.held ≡ true
  pub fit : IsFit (joined j.held) j.meta

-- what the stored phase says of the blocks
abbrev pub StoredIs : Job → Stored → Type 0
StoredIs j Filling = Unit {0}
StoredIs j Verified = IsWhole j
StoredIs j Refused = j.parameters ≡ None
StoredIs j Applied = IsWhole j

-- the version is greater than that of an active image
abbrev pub IsNewer : ℕ → Option Image → Type 0
IsNewer version None = ⊥
IsNewer version (Some active) = active.meta.version < version

-- a job that the node took
pub record IsJob (capacity : ℕ) (images : List Image) (j : Job) : Type 0 where
  pub some : 0 < j.meta.size
  pub room : j.meta.size ≤ capacity
  -- its index is one of an image, and its version is greater than that image's
  pub newer : IsNewer j.meta.version (slice_get images j.index)
  pub blocks : HasBlocks j.meta.size j.parameters j.held
  pub stored : StoredIs j j.stored

abbrev pub HasJob : ℕ → List Image → Option Job → Type 0
HasJob capacity images None = Unit {0}
HasJob capacity images (Some j) = IsJob capacity images j

-- a durable state that a boot may find
pub record IsNodeDurable (d : NodeDurable) : Type 0 where
  pub capacity : (pages : ℕ) × (1 ≤ pages) × (pages ≤ 256) × (d.capacity ≡ page_octets * pages)
  pub some_image : 1 ≤ length d.images
  pub two_images : length d.images ≤ 2
  pub images : (index : ℕ) (image : Image) → slice_get d.images index ≡ Some image → IsActiveImage d.capacity image
  pub job : HasJob d.capacity d.images d.job

-- ---- what a run may have

-- the parameters of a Transfer Start are in the ranges of the grammar
pub record AreInRange (p : Parameters) : Type 0 where
  pub some : 1 ≤ p.size
  pub mode_above : 1 ≤ p.mode
  pub mode_below : p.mode ≤ 2
  pub mtu_above : 20 ≤ p.mtu

abbrev pub BlobRequestFits : BlobRequest → Type 0
BlobRequestFits (TransferStart id p) = AreInRange p
BlobRequestFits _ = Unit {0}

abbrev pub RequestFits : Request → Type 0
RequestFits (OfBlob request) = BlobRequestFits request
RequestFits (OfUpdate request) = Unit {0}

-- a block that isn't held, and what is received of its chunks has each chunk's length
pub record IsCurrent (p : Parameters) (held : Slots) (c : CurrentBlock) : Type 0 where
  pub number : c.number < length held
  pub unheld : at held c.number ≡ None
  pub size_above : least_chunk ≤ c.chunk_size
  pub size_below : c.chunk_size ≤ most_chunk
  pub count : length c.chunks ≡ chunk_count (block_length p.size p.log c.number) c.chunk_size
  pub lengths : HaveLengths (chunk_length (block_length p.size p.log c.number) c.chunk_size) c.chunks

-- a current block is one of a job whose blocks come
pub record IsCurrentOf (job : Option Job) (c : CurrentBlock) : Type 0 where
  pub of : Job
  pub is : job ≡ Some of
  pub filling : of.stored ≡ Filling
  pub parameters : Parameters
  pub has : of.parameters ≡ Some parameters
  pub current : IsCurrent parameters of.held c

abbrev pub HasCurrent : Option Job → Option CurrentBlock → Type 0
HasCurrent job None = Unit {0}
HasCurrent job (Some c) = IsCurrentOf job c

-- a state that a run may be in
pub record IsNodeState (s : NodeState) : Type 0 where
  pub durable : IsNodeDurable s.durable
  pub fresh : s.fresh ≤ 3
  pub current : HasCurrent s.durable.job s.session.current

-- a transfer that was begun, within 256 pages
pub record IsTransfer (t : Transfer) (p : Parameters) : Type 0 where
  pub some : 1 ≤ p.size
  pub few_octets : p.size ≤ most_image
  pub few_blocks : length t.held ≤ 256
  pub blocks : AreBlocks t.size p t.held

-- a current block has at least one chunk and at most 2048
pub record IsComing (t : Transfer) (p : Parameters) (c : CurrentBlock) : Type 0 where
  pub transfer : IsTransfer t p
  pub current : IsCurrent p t.held c
  pub some_chunk : 1 ≤ length c.chunks
  pub few_chunks : length c.chunks ≤ most_chunks

-- what a phase has is sound
abbrev pub IsPhase : BlobPhase → Type 0
IsPhase (NextBlock t p) = IsTransfer t p
IsPhase (NextChunk t p c) = IsComing t p c
IsPhase (Suspended t p) = IsTransfer t p
IsPhase (Complete t) = length t.held ≤ 256
IsPhase _ = Unit {0}
