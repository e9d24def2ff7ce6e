-- What the functions of the BLOB table return, as the model's outcomes.
use Rattle.std.specs.Prelude.{ℕ, ◌≡◌, ◌<◌, ◌≤◌, true, false, List, [], length, Option, None, Some, if◌then◌else◌}
use Rattle.mu_model_node.specs.declared.Parameters.{Parameters}
use Rattle.mu_model_node.specs.BlobServer.{CurrentBlock, Session, unlinked, heard_at, Serving, NoJob, Lacking, Whole, Server, BlobPhase, NextChunk, Same, Puts}
use Rattle.mu_model_node.specs.BlobTable.{Served, silently, receives, is_pull, to_client}
use Rattle.mu_model_node.specs.NodeState.{Job, NodeState, server_of as node_server}
use Rattle.mu_model_node.specs.NodeOutcome.{with_session}
use Rattle.mu_model_node.specs.Slots.{Slots, at, put, is_full, joined}
use Rattle.mu_reference.specs.View.{session_of, serving_of}
use Rattle.mu_reference.specs.declared.blob_table.Server.{Server as ServerHere}
use Rattle.mu_blob_rows.specs.declared.session.SessionChange.{SessionChange}
use Rattle.mu_blob_rows.specs.declared.session.SessionChange.TheVariants.{Opens}
use Rattle.mu_model_image.specs.Pieces.{block_count}
use Rattle.mu_model_node.specs.BlobMessages.{least_log, most_log, least_chunk, most_chunk}
use Rattle.mu_reference.specs.declared.timing.TimeStep.{TimeStep}
use Rattle.mu_reference.specs.declared.timing.TimeStep.TheVariants.{Wait, Unlink, Ask}
use Rattle.mu_reference.specs.declared.blob_table.ChunkStep.{ChunkStep}
use Rattle.mu_reference.specs.declared.blob_table.ChunkStep.TheVariants.{PassOver, Hear, Receive}

-- ---- what a look leaves out: the octets of the held blocks and of the chunks

abbrev pub held_in : Serving → Slots
held_in NoJob = []
held_in (Lacking t) = t.held
held_in (Whole t) = t.held

abbrev pub chunks_in : Option CurrentBlock → Slots
chunks_in None = []
chunks_in (Some c) = c.chunks

abbrev pub held_by : NodeState → Slots
held_by s = held_in (node_server s).serving

abbrev pub chunks_by : NodeState → Slots
chunks_by s = chunks_in s.session.current

abbrev pub server_of : ServerHere → Server
server_of v = record { capacity = v.capacity; serving = serving_of v.serving; session = session_of v.session.now; now = v.now }

-- a block that is opened is one of a transfer within 256 pages
abbrev pub OpensWithin : SessionChange → Type 0
OpensWithin (Opens p block size) =
    (p.size ≤ 1048576) × (least_log ≤ p.log) × (p.log ≤ most_log) × (block < block_count p.size p.log) × (least_chunk ≤ size) × (size ≤ most_chunk)
OpensWithin _ = Unit {0}

abbrev pub chunk_stepped : Server → ℕ → List ℕ → BlobPhase → ChunkStep → Served
chunk_stepped v chunk octets phase PassOver = silently v.session
chunk_stepped v chunk octets phase Hear = silently (heard_at v.now v.session)
chunk_stepped v chunk octets (NextChunk t p c) (Receive q) = receives (heard_at v.now v.session) q c (put c.chunks chunk octets)
chunk_stepped v chunk octets _ (Receive q) = silently v.session

-- a chunk is received only where one is waited for, with these parameters, of such a number, and none is there yet
abbrev pub ReceivesWithin : ℕ → BlobPhase → ChunkStep → Type 0
ReceivesWithin chunk (NextChunk t p c) (Receive q) = (p ≡ q) × (chunk < length c.chunks) × (at c.chunks chunk ≡ None)
ReceivesWithin chunk _ (Receive q) = ⊥
ReceivesWithin chunk _ _ = Unit {0}

-- what comes of a chunk that is received
abbrev pub received_with : NodeState → Parameters → ℕ → List ℕ → Option CurrentBlock → Served
received_with s p chunk octets None = silently s.session
received_with s p chunk octets (Some c) = receives (heard_at s.moment s.session) p c (put c.chunks chunk octets)

abbrev pub received_by : NodeState → Parameters → ℕ → List ℕ → Served
received_by s p chunk octets = received_with s p chunk octets s.session.current

-- there is the block, which lacks such a chunk, and the job, which lacks such a block
abbrev pub HasPlace : ℕ → Option CurrentBlock → Option Job → Type 0
HasPlace chunk (Some c) (Some j) = (chunk < length c.chunks) × (at c.chunks chunk ≡ None) × (c.number < length j.held) × (at j.held c.number ≡ None)
HasPlace chunk _ _ = ⊥

-- with this chunk the block is whole, and these are its octets; or it isn't
abbrev pub IsLastChunk : ℕ → List ℕ → Option CurrentBlock → Option (List ℕ) → Type 0
IsLastChunk chunk octets None block = ⊥
IsLastChunk chunk octets (Some c) None = is_full (put c.chunks chunk octets) ≡ false
IsLastChunk chunk octets (Some c) (Some block) = (is_full (put c.chunks chunk octets) ≡ true) × (block ≡ joined (put c.chunks chunk octets))

-- one more chunk is there
abbrev pub kept_with : NodeState → ℕ → List ℕ → Option CurrentBlock → NodeState
kept_with s chunk octets None = s
kept_with s chunk octets (Some c) = with_session s (record (s.session) { current = Some (record c { chunks = put c.chunks chunk octets }) })

abbrev pub kept_by : NodeState → ℕ → List ℕ → NodeState
kept_by s chunk octets = kept_with s chunk octets s.session.current

-- what is done as time passes
abbrev pub time_stepped : Server → TimeStep → Served
time_stepped v Wait = silently v.session
time_stepped v Unlink = silently (unlinked v.session)
time_stepped v (Ask chunks) = record {
  session = record (v.session) { report = Some (record { moment = v.now; chunks = chunks.items }) };
  change = Same;
  replies = to_client v.session.client chunks.items;
}

-- what comes of a block that is whole
abbrev pub block_put : Session → Parameters → CurrentBlock → List ℕ → Served
block_put l p c block = record {
  session = record l { current = None; last = Some (record { number = c.number; chunk_size = c.chunk_size }); report = None };
  change = Puts c.number block;
  replies = if is_pull p then to_client l.client [] else [];
}

abbrev pub completed_with : NodeState → Parameters → List ℕ → Option CurrentBlock → Served
completed_with s p block None = silently s.session
completed_with s p block (Some c) = block_put s.session p c block

abbrev pub completed_by : NodeState → Parameters → List ℕ → Served
completed_by s p block = completed_with s p block s.session.current

abbrev pub HasBlock : Option CurrentBlock → Option Job → Type 0
HasBlock (Some c) (Some j) = (c.number < length j.held) × (at j.held c.number ≡ None)
HasBlock _ _ = ⊥
