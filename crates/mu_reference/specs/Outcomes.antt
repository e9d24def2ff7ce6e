-- What an event came to here, as the model's outcome.
use Rattle.std.specs.Prelude.{ℕ, ◌≡◌, ◌≤◌, ◌==◌, ◌&&◌, Bool, true, false, List, [], ◌∷◌, Option, Some, None, Result, Ok, Err}
use Rattle.mu_model_node.specs.declared.Parameters.{Parameters}
use Rattle.mu_model_node.specs.BlobMessages.{BlobReply, least_log, most_log}
use Rattle.mu_model_node.specs.declared.FlashWork.{FlashWork}
use Rattle.mu_model_node.specs.BlobServer.{Change}
use Rattle.mu_model_node.specs.BlobTable.{Served}
use Rattle.mu_model_node.specs.NodeState.{NodeState}
use Rattle.mu_model_node.specs.NodeOutcome.{work_of, served}
use Rattle.mu_model_node.specs.Events.{has_record, last_count}
use Rattle.mu_reference.specs.declared.recording.Stop.{Stop}
use Rattle.mu_reference.specs.declared.recording.Stop.TheVariants.{NoMemory, Worn}
use Rattle.mu_blob_rows.specs.declared.table.TransferChange.{TransferChange}
use Rattle.mu_blob_rows.specs.declared.table.TransferChange.TheVariants.{Begin}
use Rattle.mu_reference.specs.declared.blob_events.Served.{Served as ServedHere}

abbrev pub blob_replies_of : Option (ℕ × BlobReply) → List (ℕ × BlobReply)
blob_replies_of None = []
blob_replies_of (Some reply) = reply ∷ []

-- a record is due, and the last was written
abbrev pub is_spent : NodeState → Served → Bool
is_spent s o = has_record (work_of o.change) && (s.durable.count == last_count)

-- the kept state is changed so, or the node has stopped and is as it was
abbrev pub ChangedAs : NodeState → NodeState → Change → Result FlashWork Stop → NodeState → Type 0
ChangedAs s next c (Ok work) new = (new ≡ next) × (work ≡ work_of c) × ((has_record (work_of c) && (s.durable.count == last_count)) ≡ false)
ChangedAs s next c (Err Worn) new = ((has_record (work_of c) && (s.durable.count == last_count)) ≡ true) × (new ≡ s)
ChangedAs s next c (Err NoMemory) new = new ≡ s

-- the node has done what the BLOB server does, or has stopped and is as it was
abbrev pub ServedAs : NodeState → Served → Result ServedHere Stop → NodeState → Type 0
ServedAs s o (Ok here) new =
    (new ≡ (served s o).next) × (blob_replies_of here.reply ≡ o.replies) × (here.work ≡ work_of o.change) × (is_spent s o ≡ false)
ServedAs s o (Err Worn) new = (is_spent s o ≡ true) × (new ≡ s)
ServedAs s o (Err NoMemory) new = new ≡ s

-- a transfer is begun with these parameters in a bank of so many octets
abbrev pub BeginsWithin : ℕ → Parameters → TransferChange → Type 0
BeginsWithin capacity p Begin = (p.size ≤ capacity) × (least_log ≤ p.log) × (p.log ≤ most_log)
BeginsWithin capacity p _ = Unit {0}
