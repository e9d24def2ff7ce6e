-- The node in memory as the model's node.
use Rattle.std.specs.Prelude.{map}
use Rattle.mu_blob_rows.specs.Sessions.{session_of as session_with}
use Rattle.mu_model_node.specs.There.{there}
use Rattle.mu_model_image.specs.Meta.{Image}
use Rattle.mu_model_node.specs.BlobServer.{CurrentBlock, Session, BlobPhase, Inactive, WaitingForStart, NextBlock, NextChunk, Complete, Suspended, Serving, NoJob, Lacking, Whole}
use Rattle.mu_model_node.specs.NodeState.{Job, NodeState, UpdatePhase, Idle, TransferError, TransferActive, Verifying, Succeeded, Failed, Applying, transfer_of}
use Rattle.mu_reference.specs.declared.values.Job.{Job as JobHere}
use Rattle.mu_reference.specs.declared.values.CurrentBlock.{CurrentBlock as CurrentBlockHere}
use Rattle.mu_reference.specs.declared.values.Session.{Session as SessionHere}
use Rattle.mu_reference.specs.declared.values.Image.{Image as ImageHere}
use Rattle.mu_reference.specs.declared.values.State.{State}
use Rattle.mu_reference.specs.declared.phases.UpdatePhase.{UpdatePhase as UpdatePhaseHere}
use Rattle.mu_reference.specs.declared.phases.UpdatePhase.TheVariants.{Idle as IdleHere, TransferError as TransferErrorHere, TransferActive as TransferActiveHere, Verifying as VerifyingHere, Succeeded as SucceededHere, Failed as FailedHere, Applying as ApplyingHere}
use Rattle.mu_reference.specs.declared.phases.Serving.{Serving as ServingHere}
use Rattle.mu_reference.specs.declared.phases.Serving.TheVariants.{NoJob as NoJobHere, Lacking as LackingHere, Whole as WholeHere}
use Rattle.mu_reference.specs.declared.phases.BlobPhase.{BlobPhase as BlobPhaseHere}
use Rattle.mu_reference.specs.declared.phases.BlobPhase.TheVariants.{Inactive as InactiveHere, WaitingForStart as WaitingForStartHere, NextBlock as NextBlockHere, NextChunk as NextChunkHere, Complete as CompleteHere, Suspended as SuspendedHere}

abbrev pub job_of : JobHere → Job
job_of j = record { id = j.id; index = j.index; meta = j.meta; ttl = j.ttl; base = j.base; stored = j.stored; parameters = j.parameters; held = j.held }

abbrev pub current_of : CurrentBlockHere → CurrentBlock
current_of c = record { number = c.number; chunk_size = c.chunk_size; chunks = c.chunks }

abbrev pub session_of : SessionHere → Session
session_of l = session_with l.rest (there current_of l.current)

abbrev pub image_of : ImageHere → Image
image_of i = record { octets = i.octets.items; meta = i.meta }

abbrev pub state_of : State → NodeState
state_of s = record {
  durable = record { count = s.count; capacity = s.capacity; images = map image_of s.images.items; job = there job_of s.job };
  fresh = s.fresh;
  session = session_of s.session;
  moment = s.moment;
}

-- ---- phases

abbrev pub update_phase_of : UpdatePhaseHere → UpdatePhase
update_phase_of IdleHere = Idle
update_phase_of (TransferErrorHere j) = TransferError (job_of j.now)
update_phase_of (TransferActiveHere j) = TransferActive (job_of j.now)
update_phase_of (VerifyingHere j) = Verifying (job_of j.now)
update_phase_of (SucceededHere j) = Succeeded (job_of j.now)
update_phase_of (FailedHere j) = Failed (job_of j.now)
update_phase_of (ApplyingHere j) = Applying (job_of j.now)

abbrev pub serving_of : ServingHere → Serving
serving_of NoJobHere = NoJob
serving_of (LackingHere j) = Lacking (transfer_of (job_of j.now))
serving_of (WholeHere j) = Whole (transfer_of (job_of j.now))

abbrev pub blob_phase_of : BlobPhaseHere → BlobPhase
blob_phase_of InactiveHere = Inactive
blob_phase_of (WaitingForStartHere j) = WaitingForStart (transfer_of (job_of j.now))
blob_phase_of (NextBlockHere j p) = NextBlock (transfer_of (job_of j.now)) p
blob_phase_of (NextChunkHere j p c) = NextChunk (transfer_of (job_of j.now)) p (current_of c.now)
blob_phase_of (CompleteHere j) = Complete (transfer_of (job_of j.now))
blob_phase_of (SuspendedHere j p) = Suspended (transfer_of (job_of j.now)) p
