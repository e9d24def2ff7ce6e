-- A BLOB Transfer Server: what is kept of a transfer, what a run has beside it, and its phases (MshMBT, BLOB Transfer
-- Server states).
use Rattle.std.specs.Prelude.{ℕ, List, [], Option, Some, None, if◌then◌else◌}
use Rattle.mu_model_image.specs.Pieces.{block_count}
use Rattle.mu_model_node.specs.BlobMessages.{Parameters}
pub use Rattle.mu_model_node.specs.declared.Link.{Link}
pub use Rattle.mu_model_node.specs.declared.Link.TheVariants.{Cut, Ready, Running}
pub use Rattle.mu_model_node.specs.declared.LastBlock.{LastBlock}
use Rattle.mu_model_node.specs.Slots.{Slots, empty, put, is_full}

-- what a record keeps of a job's transfer
pub record Transfer : Type 0 where
  pub id : ℕ
  -- octets that are expected
  pub size : ℕ
  -- the Timeout Base
  pub base : ℕ
  pub parameters : Option Parameters
  -- a place for each block; none without parameters
  pub held : Slots

-- ---- what isn't kept

pub record CurrentBlock : Type 0 where
  pub number : ℕ
  pub chunk_size : ℕ
  -- a place for each chunk
  pub chunks : Slots

-- the last Partial Block Report of the current block, and when it was sent
pub record PullReport : Type 0 where
  pub moment : ℕ
  pub chunks : List ℕ

pub record Session : Type 0 where
  pub link : Link
  pub current : Option CurrentBlock
  pub last : Option LastBlock
  -- the address of the client
  pub client : Option ℕ
  -- the moment last heard, in milliseconds
  pub heard : ℕ
  pub report : Option PullReport

-- after a boot
abbrev pub asleep : Session
asleep = record { link = Cut; current = None; last = None; client = None; heard = 0; report = None }

-- wherever the link becomes Cut
abbrev pub unlinked : Session → Session
unlinked l = record l { link = Cut; current = None; last = None; client = None; report = None }

abbrev pub heard_at : ℕ → Session → Session
heard_at now l = record l { heard = now }

-- a job is written, or taken up again
abbrev pub made_ready : ℕ → Session → Session
made_ready now l = record l { link = Ready; heard = now }

-- a transfer starts or goes on with this client
abbrev pub linked : ℕ → ℕ → Session → Session
linked now client l = record l { link = Running; client = Some client; heard = now }

-- ---- what the rows see

-- what the owner says of its job: that there is none, that blocks are missing, or that all are held
pub data Serving : Type 0 where
  NoJob : Serving
  Lacking : Transfer → Serving
  Whole : Transfer → Serving

abbrev pub serving_by : Transfer → Option Parameters → Serving
serving_by t None = Lacking t
serving_by t (Some p) = if is_full t.held then Whole t else Lacking t

-- by the blocks alone
abbrev pub serving_of : Transfer → Serving
serving_of t = serving_by t t.parameters

pub record Server : Type 0 where
  -- octets of a bank
  pub capacity : ℕ
  pub serving : Serving
  pub session : Session
  -- the present moment
  pub now : ℕ

-- ---- phases

-- each with what it has (MshMBT, Transfer Phase)
pub data BlobPhase : Type 0 where
  Inactive : BlobPhase
  WaitingForStart : Transfer → BlobPhase
  NextBlock : Transfer → Parameters → BlobPhase
  NextChunk : Transfer → Parameters → CurrentBlock → BlobPhase
  Complete : Transfer → BlobPhase
  Suspended : Transfer → Parameters → BlobPhase

-- the phase on the wire
abbrev pub blob_number : BlobPhase → ℕ
blob_number Inactive = 0
blob_number (WaitingForStart t) = 1
blob_number (NextBlock t p) = 2
blob_number (NextChunk t p c) = 3
blob_number (Complete t) = 4
blob_number (Suspended t p) = 5

abbrev pub running_phase : Transfer → Parameters → Option CurrentBlock → BlobPhase
running_phase t p None = NextBlock t p
running_phase t p (Some c) = NextChunk t p c

-- while blocks are missing
abbrev pub transfer_phase : Transfer → Option Parameters → Link → Option CurrentBlock → BlobPhase
transfer_phase t None Cut c = Inactive
transfer_phase t None _ c = WaitingForStart t
transfer_phase t (Some p) Running c = running_phase t p c
transfer_phase t (Some p) _ c = Suspended t p

abbrev pub serving_phase : Session → Serving → BlobPhase
serving_phase l NoJob = Inactive
serving_phase l (Lacking t) = transfer_phase t t.parameters l.link l.current
serving_phase l (Whole t) = Complete t

abbrev pub server_phase : Server → BlobPhase
server_phase v = serving_phase v.session v.serving

-- ---- what a row does to what is kept

pub data Change : Type 0 where
  Same : Change
  -- the parameters are there, and no block is held
  Begins : Parameters → Change
  -- the parameters and the held blocks are gone
  Drops : Change
  -- a block is held
  Puts : (block : ℕ) (octets : List ℕ) → Change

abbrev pub changed : Change → Transfer → Transfer
changed Same t = t
changed (Begins p) t = record t { parameters = Some p; held = empty (block_count p.size p.log) }
changed Drops t = record t { parameters = None; held = [] }
changed (Puts block octets) t = record t { held = put t.held block octets }

abbrev pub serving_after : Change → Serving → Serving
serving_after c NoJob = NoJob
serving_after Same v = v
serving_after c (Lacking t) = serving_of (changed c t)
serving_after c (Whole t) = Whole t
