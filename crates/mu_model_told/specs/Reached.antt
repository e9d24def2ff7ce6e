-- What a client reads of a node over whole runs was reached, by the node's log.
use Rattle.std.specs.Prelude.{ℕ, ◌≡◌, ◌⊎◌, ◌+◌, List, [], ◌∷◌, ◌++◌, Option, Some}
use Rattle.std.specs.List.{AllByRecursion}
use Rattle.mu_model_image.specs.Meta.{Image, firmware_id, own_company}
use Rattle.mu_model_wire.specs.Packet.{Packet}
use Rattle.mu_model_node.specs.declared.NodeConfig.{NodeConfig}
use Rattle.mu_model_node.specs.Events.{NodeEvent, node_step}
use Rattle.mu_model_node.specs.Laws.{EventFits}
use Rattle.mu_model_node.specs.Log.{LogEntry, Reached}
use Rattle.mu_model_node.specs.NodeState.{Job, NodeDurable, NodeState, update_number, update_phase, restarted}
use Rattle.mu_model_node.specs.Safe.{Happening, Done, CutPower, Torn, InOrder, ImageIsSafe, found, happened, state_after, log_after}
use Rattle.mu_model_node.specs.Sound.{IsNodeDurable}
use Rattle.mu_model_node.specs.UpdateMessages.{UpdateReply, InformationStatus, UpdateStatus}
use Rattle.mu_model_client.specs.Answers.{Answer, FromUpdate, answer_at}
use Rattle.mu_model_told.specs.Laws.{AreNumbers, HasNumbers}

-- what comes is in the ranges of the grammar
abbrev pub HappeningFits : Happening → Type 0
HappeningFits (Done event now) = EventFits event × AreNumbers event
HappeningFits (Torn event now operations) = EventFits event × AreNumbers event
HappeningFits CutPower = Unit {0}

-- the boot found a job with this BLOB ID in this phase
abbrev pub FoundIn : NodeDurable → ℕ → ℕ → Type 0
FoundIn d id phase = (j : Job) × (d.job ≡ Some j) × (j.id ≡ id) × (update_number (update_phase (restarted d)) ≡ phase)

-- the phase was reached with the BLOB ID, or was found
abbrev pub WasReached : NodeDurable → List LogEntry → ℕ → ℕ → Type 0
WasReached d log id phase = InOrder (Reached id phase ∷ []) log ⊎ FoundIn d id phase

-- the Firmware ID is that of an image that was found, or came whole by an update that was taken, verified, asked for and made active
abbrev pub IdIsSafe : NodeDurable → List LogEntry → ℕ → List ℕ → Type 0
IdIsSafe d log index fwid = (image : Image) × (fwid ≡ firmware_id own_company image.meta) × ImageIsSafe d.images (found d.job ++ log) index image

-- each of the Firmware IDs is, the first for the image of this index, and each other for the next
abbrev pub IdsAreSafe : NodeDurable → List LogEntry → ℕ → List (List ℕ) → Type 0
IdsAreSafe d log index [] = Unit {0}
IdsAreSafe d log index (fwid ∷ more) = IdIsSafe d log index fwid × IdsAreSafe d log (index + 1) more

abbrev pub ReplyIsReached : NodeDurable → List LogEntry → UpdateReply → Type 0
ReplyIsReached d log (UpdateStatus status phase (Some job)) = WasReached d log job.id phase
ReplyIsReached d log (InformationStatus count first ids) = IdsAreSafe d log first ids
ReplyIsReached d log _ = Unit {0}

abbrev pub IsReached : NodeDurable → List LogEntry → Option Answer → Type 0
IsReached d log (Some (FromUpdate reply)) = ReplyIsReached d log reply
IsReached d log _ = Unit {0}

-- each packet that a node ever sends, read as a client reads it, tells a phase that the log has reached by then, or Firmware IDs of
-- images that are safe
abbrev pub ToldIsReached : Type 0
ToldIsReached =
    (config : NodeConfig) (d : NodeDurable) (hs : List Happening) (event : NodeEvent) (now : ℕ)
    → IsNodeDurable d → HasNumbers d.job → AllByRecursion HappeningFits hs → HappeningFits (Done event now)
    → AllByRecursion (λ (p : Packet). IsReached d (log_after config (restarted d) (hs ++ Done event now ∷ [])) (answer_at p.payload))
    (node_step config (state_after config (restarted d) hs) event now).sent

-- ---- all that is sent

-- a torn event would have sent what is lost
abbrev pub sent_by : NodeConfig → NodeState → Happening → List Packet
sent_by config s (Done event now) = (node_step config s event now).sent
sent_by config s _ = []

abbrev pub sent_in : NodeConfig → NodeState → List Happening → List Packet
sent_in config s [] = []
sent_in config s (h ∷ hs) = sent_by config s h ++ sent_in config (happened config s h) hs

abbrev pub SentIsReached : Type 0
SentIsReached =
    (config : NodeConfig) (d : NodeDurable) (hs : List Happening) → IsNodeDurable d → HasNumbers d.job → AllByRecursion HappeningFits hs
    → AllByRecursion (λ (p : Packet). IsReached d (log_after config (restarted d) hs) (answer_at p.payload)) (sent_in config (restarted d) hs)
