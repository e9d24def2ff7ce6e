-- What an event came to at the node here, as the model's outcome.
use Rattle.std.specs.Prelude.{ℕ, ◌≡◌, ◌==◌, ◌&&◌, Bool, true, false, List, [], ◌∷◌, Option, Some, None, Result, Ok, Err, set}
use Rattle.mu_model_image.specs.Meta.{is_fit}
use Rattle.mu_model_node.specs.declared.FlashWork.TheVariants.{Untouched, Recorded}
use Rattle.mu_model_node.specs.Slots.{joined}
use Rattle.mu_model_node.specs.NodeMessages.{Reply, ByUpdate, ByBlob}
use Rattle.mu_model_node.specs.BlobTable.{on_server_time}
use Rattle.mu_model_node.specs.NodeState.{Job, NodeState, server_of}
use Rattle.mu_model_node.specs.BlobServer.{unlinked}
use Rattle.mu_model_node.specs.NodeOutcome.{Outcome, with_session, recorded, served}
use Rattle.mu_model_node.specs.TimeTable.{activated, verified}
use Rattle.mu_model_node.specs.Events.{has_record, last_count}
use Rattle.mu_reference.specs.declared.recording.Stop.{Stop}
use Rattle.mu_reference.specs.declared.recording.Stop.TheVariants.{NoMemory, Worn}
use Rattle.mu_reference.specs.declared.node.Reply.{Reply as ReplyHere}
use Rattle.mu_reference.specs.declared.node.Reply.TheVariants.{Updating, Serving}
use Rattle.mu_reference.specs.declared.node.Done.{Done}
use Rattle.mu_reference.specs.declared.node_time.TimeKind.{TimeKind}
use Rattle.mu_reference.specs.declared.node_time.TimeKind.TheVariants.{Activate, Verify, Serve}

abbrev pub reply_of : ReplyHere → Reply
reply_of (Updating reply) = ByUpdate reply
reply_of (Serving reply) = ByBlob reply

abbrev pub replies_of : Option (ℕ × ReplyHere) → List (ℕ × Reply)
replies_of None = []
replies_of (Some reply) = (reply.0, reply_of reply.1) ∷ []

-- the node has done what the model says: its next state, its replies and its flash work; or it has stopped and is as it was, worn
-- only where a record is due and the last was written
abbrev pub DoneAs : NodeState → Outcome → Result Done Stop → NodeState → Type 0
DoneAs s o (Ok here) new =
    (new ≡ o.next) × (replies_of here.reply ≡ o.replies) × (here.work ≡ o.work) × ((has_record o.work && (s.durable.count == last_count)) ≡ false)
DoneAs s o (Err Worn) new = ((has_record o.work && (s.durable.count == last_count)) ≡ true) × (new ≡ s)
DoneAs s o (Err NoMemory) new = new ≡ s

-- ---- time

abbrev pub quiet : NodeState → Outcome
quiet s = record { next = s; replies = []; work = Untouched }

abbrev pub activated_with : NodeState → Option Job → Outcome
activated_with s None = quiet s
activated_with s (Some j) = record { next = activated s j; replies = []; work = Recorded false }

-- the job's image, which has these octets, is the active one
abbrev pub switched_to : NodeState → List ℕ → Option Job → NodeState
switched_to s octets None = s
switched_to s octets (Some j) = with_session (recorded s (set s.durable.images j.index (record { octets = octets; meta = j.meta })) None) (unlinked s.session)

abbrev pub verified_with : NodeState → Option Job → Outcome
verified_with s None = quiet s
verified_with s (Some j) = record { next = verified s j (is_fit (joined j.held) j.meta); replies = []; work = Recorded false }

abbrev pub judged_with : NodeState → Bool → Option Job → NodeState
judged_with s whole None = s
judged_with s whole (Some j) = verified s j whole

abbrev pub time_done : NodeState → TimeKind → Outcome
time_done s Activate = activated_with s s.durable.job
time_done s Verify = verified_with s s.durable.job
time_done s Serve = served s (on_server_time (server_of s) (server_of s).serving)
