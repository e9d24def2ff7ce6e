-- What an event comes to at a node, and the changes of a node's state that several rows share.
use Rattle.std.specs.Prelude.{ℕ, ◌+◌, false, List, length, map, Option, Some, None}
use Rattle.mu_model_image.specs.Meta.{Image}
use Rattle.mu_model_image.specs.Pieces.{piece_count}
use Rattle.mu_model_node.specs.BlobMessages.{BlobReply}
use Rattle.mu_model_node.specs.NodeMessages.{Reply, ByBlob}
use Rattle.mu_model_node.specs.BlobServer.{Session, Change, Same, Begins, Drops, Puts, changed}
use Rattle.mu_model_node.specs.BlobTable.{Served}
use Rattle.mu_model_node.specs.FlashWork.{FlashWork, Untouched, Recorded, Begun, PutBlock, fresh_after, page_octets}
use Rattle.mu_model_node.specs.NodeState.{Job, NodeState, transfer_of}

-- the state after an event, its replies, each with its destination, and what it does to the flash
pub record Outcome : Type 0 where
  pub next : NodeState
  pub replies : List (ℕ × Reply)
  pub work : FlashWork

abbrev pub with_session : NodeState → Session → NodeState
with_session s l = record s { session = l }

-- one record, with these images and this job; a node's records are short
abbrev pub recorded : NodeState → List Image → Option Job → NodeState
recorded s images job = record s {
  durable = record { count = s.durable.count + 1; capacity = s.durable.capacity; images = images; job = job };
  fresh = fresh_after false s.fresh;
}

-- one record, in which the job is j
abbrev pub with_job : NodeState → Job → NodeState
with_job s j = recorded s s.durable.images (Some j)

-- ---- what the BLOB server did

abbrev pub job_changed : Change → Job → Job
job_changed c j = record j { parameters = (changed c (transfer_of j)).parameters; held = (changed c (transfer_of j)).held }

-- a mark, and no record, says that a block is held
abbrev pub marked : NodeState → Job → NodeState
marked s j = record s { durable = record (s.durable) { job = Some j } }

abbrev pub job_after : NodeState → Change → Option Job → NodeState
job_after s c None = s
job_after s Same (Some j) = s
job_after s (Puts block octets) (Some j) = marked s (job_changed (Puts block octets) j)
job_after s c (Some j) = with_job s (job_changed c j)

abbrev pub work_of : Change → FlashWork
work_of Same = Untouched
work_of (Begins p) = Begun false
work_of Drops = Recorded false
work_of (Puts block octets) = PutBlock (piece_count (length octets) page_octets)

abbrev pub by_blob : ℕ × BlobReply → ℕ × Reply
by_blob reply = (reply.0, ByBlob reply.1)

abbrev pub served : NodeState → Served → Outcome
served s o = record {
  next = with_session (job_after s o.change s.durable.job) o.session;
  replies = map by_blob o.replies;
  work = work_of o.change;
}
