-- A client with one receiver that answers as the model's node does, turn by turn. What others say, and when, is any.
use Rattle.std.specs.Prelude.{ℕ, ◌≡◌, ◌⊎◌, ◌<◌, ◌==◌, ◌&&◌, ◌||◌, not, Bool, true, false, List, [], ◌∷◌, map, nat_eq}
use Rattle.std.specs.List.{AllByRecursion, list_any}
use Rattle.mu_model_node.specs.declared.NodeConfig.{NodeConfig}
use Rattle.mu_model_node.specs.NodeMessages.{Request, Reply}
use Rattle.mu_model_node.specs.NodeState.{NodeState, update_phase, update_number}
use Rattle.mu_model_node.specs.NodeOutcome.{Outcome}
use Rattle.mu_model_node.specs.Events.{at_moment, on_request}
use Rattle.mu_model_node.specs.TimeTable.{on_time}
use Rattle.mu_model_client.specs.Answers.{Answer, heard}
use Rattle.mu_model_client.specs.declared.Plan.{Plan}
use Rattle.mu_model_client.specs.Client.{Active, Receiver, Client}
use Rattle.mu_model_client.specs.Begin.{start}
use Rattle.mu_model_client.specs.Told.{told}
use Rattle.mu_model_client.specs.Due.{Due, due}
use Rattle.mu_model_completion.specs.Completion.{IsUpdate, CanTake, NoneTwice}

-- the client, and the node at one receiver's address
pub record Answering : Type 0 where
  pub client : Client
  pub node : NodeState

-- a turn: its moment, and what others say in it
pub record Turn : Type 0 where
  pub now : ℕ
  pub others : List (ℕ × Answer)

-- ---- what the node says

-- the client is told a reply that goes to it
abbrev pub told_if_its : (from now : ℕ) → Client → Reply → Bool → Client
told_if_its from now c reply true = told c from (heard reply) now
told_if_its from now c reply false = c

abbrev pub told_replies : (from now : ℕ) → Client → List (ℕ × Reply) → Client
told_replies from now c [] = c
told_replies from now c (reply ∷ replies) = told_replies from now (told_if_its from now c reply.1 (reply.0 == c.sending.from)) replies

-- an event at the node, and its replies at the client
abbrev pub said_by : NodeConfig → ℕ → Client → Outcome → Answering
said_by config now c o = record { client = told_replies config.address now c o.replies; node = o.next }

-- a packet reaches the node by its address or by its group
abbrev pub reaches : ℕ → NodeConfig → Bool
reaches to config = (to == config.address) || (not (config.group == 0) && (to == config.group))

abbrev pub asked_if : NodeConfig → ℕ → Answering → Request → Bool → Answering
asked_if config now x request true = said_by config now x.client (on_request (at_moment x.node now) x.client.sending.from request)
asked_if config now x request false = x

-- each packet of the client, in order, answered at once
abbrev pub asked : NodeConfig → ℕ → Answering → List (ℕ × Request) → Answering
asked config now x [] = x
asked config now x (packet ∷ packets) = asked config now (asked_if config now x packet.1 (reaches packet.0 config)) packets

-- ---- what others say

abbrev pub others_say : ℕ → Client → List (ℕ × Answer) → Client
others_say now c [] = c
others_say now c (said ∷ more) = others_say now (told c said.0 said.1 now) more

abbrev pub with_others : Turn → Answering → Answering
with_others t x = record x { client = others_say t.now x.client t.others }

-- ---- turns

abbrev pub node_timed : ℕ → NodeState → Outcome
node_timed now n = on_time (at_moment n now) (update_phase (at_moment n now))

abbrev pub client_timed : NodeConfig → ℕ → Outcome → Due → Answering
client_timed config now o d = asked config now (said_by config now d.next o) d.packets

-- both time events; then each packet that is due to the node reaches it, and each reply the client; then others speak
abbrev pub turn : NodeConfig → List ℕ → Answering → Turn → Answering
turn config image x t = with_others t (client_timed config t.now (node_timed t.now x.node) (due x.client image t.now))

abbrev pub turns : NodeConfig → List ℕ → Answering → List Turn → Answering
turns config image x [] = x
turns config image x (t ∷ ts) = turns config image (turn config image x t) ts

-- others speak from other addresses
abbrev pub FromOthers : ℕ → Turn → Type 0
FromOthers a t = AllByRecursion (λ (said : ℕ × Answer). (a == said.0) ≡ false) t.others

-- the node is asked often enough: its server timeout doesn't end, so that it is never in Transfer Error
abbrev pub InTime : NodeConfig → List ℕ → Answering → List Turn → Type 0
InTime config image x [] = Unit {0}
InTime config image x (t ∷ ts) =
    ((update_number (update_phase (node_timed t.now x.node).next) == 1) ≡ false) × InTime config image (turn config image x t) ts

-- each receiver of this address is active: none was dropped
abbrev pub IsActiveAt : ℕ → Receiver → Type 0
IsActiveAt a r = (r.row.address == a) ≡ true → r.standing ≡ Active

abbrev pub StaysActive : ℕ → Client → Type 0
StaysActive a c = AllByRecursion (IsActiveAt a) c.receivers

-- ---- the law

abbrev pub IsUnicast : ℕ → Type 0
IsUnicast a = a < 0x8000

abbrev pub with_index : ℕ → ℕ × ℕ
with_index a = (a, 0)

-- a receiver whose node takes the update, and answers all that reaches it in time, is never dropped: whoever else the client has, whatever
-- they say, and whatever they lose
abbrev pub AnsweringStays : Type 0
AnsweringStays =
    (plan : Plan) (image : List ℕ) (to : List ℕ) (config : NodeConfig) (node : NodeState) (ts : List Turn)
    → IsUpdate plan image → (plan.sending.mode ≡ 1) ⊎ (plan.sending.mode ≡ 2) → CanTake plan config node
    → list_any (nat_eq config.address) to ≡ true → NoneTwice to → AllByRecursion IsUnicast to
    → AllByRecursion (FromOthers config.address) ts
    → InTime config image (record { client = start plan (map with_index to); node = node }) ts
    → StaysActive config.address (turns config image (record { client = start plan (map with_index to); node = node }) ts).client
