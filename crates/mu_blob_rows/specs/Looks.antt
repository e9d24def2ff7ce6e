-- The model servers that look so: the octets of the held blocks and of the chunks that were received are handed in, and all else
-- is what the rows look at.
use Rattle.std.specs.Prelude.{◌≡◌, Option, Some, None}
use Rattle.mu_model_node.specs.Slots.{Slots}
use Rattle.mu_model_node.specs.declared.Link.{Link}
use Rattle.mu_model_node.specs.declared.Link.TheVariants.{Running}
use Rattle.mu_model_node.specs.BlobServer.{Transfer, CurrentBlock, Session, Serving, NoJob, Lacking, Whole, Server, BlobPhase, Inactive, WaitingForStart, NextBlock, NextChunk, Complete, Suspended}
use Rattle.mu_blob_rows.specs.declared.session.Session.{Session as SessionHere}
use Rattle.mu_blob_rows.specs.declared.looks.TransferLook.{TransferLook}
use Rattle.mu_blob_rows.specs.declared.looks.BlockLook.{BlockLook}
use Rattle.mu_blob_rows.specs.declared.looks.Look.{Look}
use Rattle.mu_blob_rows.specs.declared.looks.Serving.{Serving as ServingHere}
use Rattle.mu_blob_rows.specs.declared.looks.Serving.TheVariants.{NoJob as NoJobHere, Lacking as LackingHere, Whole as WholeHere}
use Rattle.mu_blob_rows.specs.declared.looks.BlobPhase.{BlobPhase as BlobPhaseHere}
use Rattle.mu_blob_rows.specs.declared.looks.BlobPhase.TheVariants.{Inactive as InactiveHere, WaitingForStart as WaitingForStartHere, NextBlock as NextBlockHere, NextChunk as NextChunkHere, Complete as CompleteHere, Suspended as SuspendedHere}
use Rattle.mu_blob_rows.specs.Sessions.{session_of}

-- a transfer with these blocks
abbrev pub transfer_with : TransferLook → Slots → Transfer
transfer_with t held = record { id = t.id; size = t.size; base = t.base; parameters = t.parameters; held = held }

abbrev pub serving_with : ServingHere → Slots → Serving
serving_with NoJobHere held = NoJob
serving_with (LackingHere t) held = Lacking (transfer_with t held)
serving_with (WholeHere t) held = Whole (transfer_with t held)

-- a block with these chunks
abbrev pub block_with : BlockLook → Slots → CurrentBlock
block_with b chunks = record { number = b.number; chunk_size = b.chunk_size; chunks = chunks }

abbrev pub current_with : Option BlockLook → Slots → Option CurrentBlock
current_with None chunks = None
current_with (Some b) chunks = Some (block_with b chunks)

abbrev pub session_with : SessionHere → Option BlockLook → Slots → Session
session_with l current chunks = session_of l (current_with current chunks)

abbrev pub phase_with : BlobPhaseHere → Slots → Slots → BlobPhase
phase_with InactiveHere held chunks = Inactive
phase_with (WaitingForStartHere t) held chunks = WaitingForStart (transfer_with t held)
phase_with (NextBlockHere t p) held chunks = NextBlock (transfer_with t held) p
phase_with (NextChunkHere t p b) held chunks = NextChunk (transfer_with t held) p (block_with b chunks)
phase_with (CompleteHere t) held chunks = Complete (transfer_with t held)
phase_with (SuspendedHere t p) held chunks = Suspended (transfer_with t held) p

abbrev pub server_with : Look → Slots → Slots → Server
server_with v held chunks = record {
  capacity = v.capacity;
  serving = serving_with v.serving held;
  session = session_with v.session.now v.current chunks;
  now = v.now;
}

-- ---- what a phase says of the look that it was found in

abbrev pub TransferPhaseOf : TransferLook → Link → Option BlockLook → BlobPhaseHere → Type 0
TransferPhaseOf t link current (WaitingForStartHere u) = (t ≡ u) × (t.parameters ≡ None)
TransferPhaseOf t link current (NextBlockHere u p) = (t ≡ u) × (t.parameters ≡ Some p) × (link ≡ Running) × (current ≡ None)
TransferPhaseOf t link current (NextChunkHere u p b) = (t ≡ u) × (t.parameters ≡ Some p) × (link ≡ Running) × (current ≡ Some b)
TransferPhaseOf t link current (SuspendedHere u p) = (t ≡ u) × (t.parameters ≡ Some p)
TransferPhaseOf t link current (CompleteHere u) = ⊥
TransferPhaseOf t link current InactiveHere = Unit {0}

abbrev pub PhaseIn : ServingHere → Link → Option BlockLook → BlobPhaseHere → Type 0
PhaseIn NoJobHere link current phase = phase ≡ InactiveHere
PhaseIn (LackingHere t) link current phase = TransferPhaseOf t link current phase
PhaseIn (WholeHere t) link current phase = phase ≡ CompleteHere t

abbrev pub PhaseOf : Look → BlobPhaseHere → Type 0
PhaseOf v phase = PhaseIn v.serving v.session.now.link v.current phase
