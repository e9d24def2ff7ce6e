-- What a time event does at a node, by the update phase (this profile).
use Rattle.std.specs.Prelude.{Bool, true, false, [], None, set}
use Rattle.mu_model_image.specs.Meta.{Image, is_fit}
use Rattle.mu_model_node.specs.Slots.{joined}
use Rattle.mu_model_node.specs.BlobServer.{unlinked}
use Rattle.mu_model_node.specs.BlobTable.{on_server_time}
use Rattle.mu_model_node.specs.FlashWork.{Recorded}
use Rattle.mu_model_node.specs.NodeState.{Verified, Refused, Job, NodeState, UpdatePhase, Applying, Verifying, serving_in, server_of}
use Rattle.mu_model_node.specs.NodeOutcome.{Outcome, with_session, recorded, with_job, served}

-- Applying Update: one record makes the job's image the active one of its index, and drops the job
abbrev pub image_of_job : Job → Image
image_of_job j = record { octets = joined j.held; meta = j.meta }

abbrev pub activated : NodeState → Job → NodeState
activated s j = with_session (recorded s (set s.durable.images j.index (image_of_job j)) None) (unlinked s.session)

-- Verifying Update: one record says whether the blocks joined fit the job's metadata; else blocks and parameters go
abbrev pub verified : NodeState → Job → Bool → NodeState
verified s j true = with_job s (record j { stored = Verified })
verified s j false = with_session (with_job s (record j { stored = Refused; parameters = None; held = [] })) (unlinked s.session)

-- else what the BLOB server does
abbrev pub on_time : NodeState → UpdatePhase → Outcome
on_time s (Applying j) = record { next = activated s j; replies = []; work = Recorded false }
on_time s (Verifying j) = record { next = verified s j (is_fit (joined j.held) j.meta); replies = []; work = Recorded false }
on_time s phase = served s (on_server_time (server_of s) (serving_in phase))
