-- Nodes and updaters together, and the turns of a settle: all members' time events first, then each packet that was sent once to
-- each of its addressees, in the order of sending, answers included. Nothing is lost, and no power is cut.
use Rattle.std.specs.Prelude.{ℕ, zero, suc, ◌+◌, ◌==◌, ◌&&◌, ◌||◌, not, Bool, true, false, List, [], ◌∷◌, ◌++◌, map}
use Rattle.std.specs.List.{flat_map}
use Rattle.mu_model_node.specs.declared.NodeConfig.{NodeConfig}
use Rattle.mu_model_node.specs.NodeMessages.{Request, Reply}
use Rattle.mu_model_node.specs.NodeState.{NodeState, update_phase}
use Rattle.mu_model_node.specs.NodeOutcome.{Outcome}
use Rattle.mu_model_node.specs.Events.{at_moment, on_request}
use Rattle.mu_model_node.specs.TimeTable.{on_time}
use Rattle.mu_model_client.specs.Answers.{heard}
use Rattle.mu_model_client.specs.Client.{Client}
use Rattle.mu_model_client.specs.Told.{told}
use Rattle.mu_model_client.specs.Due.{Due, due}

-- ---- members

pub data Part : Type 0 where
  IsNode : NodeState → Part
  IsUpdater : Client → (image : List ℕ) → Part

-- where a member stands, its present moment in milliseconds, and what it is; an updater is in no group
pub record Member : Type 0 where
  pub config : NodeConfig
  pub moment : ℕ
  pub part : Part

-- a client asks, a node replies
pub data Body : Type 0 where
  Asks : Request → Body
  Replies : Reply → Body

pub record Sent : Type 0 where
  pub from : ℕ
  pub to : ℕ
  pub body : Body

-- a member after an event, and what it sent
pub record Moved : Type 0 where
  pub member : Member
  pub sent : List Sent

abbrev pub asked_by : ℕ → ℕ × Request → Sent
asked_by from packet = record { from = from; to = packet.0; body = Asks packet.1 }

abbrev pub replied_by : ℕ → ℕ × Reply → Sent
replied_by from packet = record { from = from; to = packet.0; body = Replies packet.1 }

abbrev pub stands : Member → Moved
stands x = record { member = x; sent = [] }

abbrev pub node_moved : Member → Outcome → Moved
node_moved x o = record { member = record x { part = IsNode o.next }; sent = map (replied_by x.config.address) o.replies }

abbrev pub updater_moved : Member → List ℕ → Due → Moved
updater_moved x image d = record { member = record x { part = IsUpdater d.next image }; sent = map (asked_by x.config.address) d.packets }

-- ---- time

abbrev pub later : Member → Member
later x = record x { moment = x.moment + 100 }

abbrev pub part_timed : Member → Part → Moved
part_timed x (IsNode s) = node_moved x (on_time (at_moment s x.moment) (update_phase (at_moment s x.moment)))
part_timed x (IsUpdater c image) = updater_moved x image (due c image x.moment)

-- a member's time event, 100 ms after the last
abbrev pub timed : Member → Moved
timed x = part_timed (later x) x.part

-- ---- packets

-- requests are for nodes, replies for updaters
abbrev pub node_given : Member → NodeState → ℕ → Body → Moved
node_given x s from (Asks request) = node_moved x (on_request (at_moment s x.moment) from request)
node_given x s from (Replies reply) = stands x

abbrev pub updater_given : Member → Client → List ℕ → ℕ → Body → Moved
updater_given x c image from (Replies reply) = record { member = record x { part = IsUpdater (told c from (heard reply) x.moment) image }; sent = [] }
updater_given x c image from (Asks request) = stands x

abbrev pub part_given : Member → Sent → Part → Moved
part_given x p (IsNode s) = node_given x s p.from p.body
part_given x p (IsUpdater c image) = updater_given x c image p.from p.body

abbrev pub group_of : NodeConfig → Part → ℕ
group_of config (IsNode s) = config.group
group_of config (IsUpdater c image) = 0

abbrev pub is_for : Member → Sent → Bool
is_for x p = (p.to == x.config.address) || (not (group_of x.config x.part == 0) && (p.to == group_of x.config x.part))

abbrev pub given_if : Sent → Member → Bool → Moved
given_if p x true = part_given x p x.part
given_if p x false = stands x

-- a packet at a member
abbrev pub given : Sent → Member → Moved
given p x = given_if p x (is_for x p)

abbrev pub after_packet : Sent → Member → Member
after_packet p x = (given p x).member

abbrev pub answers_to : Sent → Member → List Sent
answers_to p x = (given p x).sent

-- each packet of a list, in order, once to each of its addressees; and what they answer, in order
abbrev pub delivered : List Sent → List Member → List Member
delivered [] members = members
delivered (p ∷ ps) members = delivered ps (map (after_packet p) members)

abbrev pub answers : List Sent → List Member → List Sent
answers [] members = []
answers (p ∷ ps) members = flat_map (answers_to p) members ++ answers ps (map (after_packet p) members)

-- ---- turns

abbrev pub after_time : Member → Member
after_time x = (timed x).member

abbrev pub sent_in_time : Member → List Sent
sent_in_time x = (timed x).sent

-- what the time events sent, and then the answers to it; nobody answers an answer
abbrev pub deliveries : List Sent → List Member → List Member
deliveries sent members = delivered (answers sent members) (delivered sent members)

abbrev pub turn : List Member → List Member
turn members = deliveries (flat_map sent_in_time members) (map after_time members)

abbrev pub settle : ℕ → List Member → List Member
settle zero members = members
settle (suc n) members = settle n (turn members)
