-- What is sent on a packet is answered by nothing. Opcodes alone decide, so no number has to be in a range.
use Rattle.std.specs.Prelude.{ℕ, ◌≡◌, List, [], Option, Some, None}
use Rattle.std.specs.List.{AllByRecursion}
use Rattle.mu_model_wire.specs.Packet.{Packet}
use Rattle.mu_model_node.specs.declared.NodeConfig.{NodeConfig}
use Rattle.mu_model_node.specs.NodeState.{NodeState}
use Rattle.mu_model_node.specs.NodeMessages.{Reply, request_at, reply_octets}
use Rattle.mu_model_node.specs.Events.{PacketComes, node_step}
use Rattle.mu_model_distributor.specs.Replies.{DistReply}
use Rattle.mu_model_distributor.specs.DistMessages.{Taken, OfReceiver, taken_at, ByDistribution, sent_octets}
use Rattle.mu_model_distributor.specs.DistState.{DistState}
use Rattle.mu_model_distributor.specs.DistEvents.{dist_step}
use Rattle.mu_model_updater.specs.Updater.{Updater, updater_step}

-- ---- octets

-- it asks a distributor for nothing: it is taken as what a receiver says, or not at all
abbrev pub AsksNothing : Option Taken → Type 0
AsksNothing None = Unit {0}
AsksNothing (Some (OfReceiver answer)) = Unit {0}
AsksNothing (Some taken) = ⊥

-- these octets are no request of a node, and ask a distributor for nothing
pub record AreNoRequest (payload : List ℕ) : Type 0 where
  pub of_node : request_at payload ≡ None
  pub of_distributor : AsksNothing (taken_at payload)

-- the octets of a node's reply, and of a distributor's, whatever their numbers are
pub record AsksOfNobody : Type 0 where
  pub replies : (reply : Reply) → AreNoRequest (reply_octets reply)
  pub statuses : (reply : DistReply) → AreNoRequest (sent_octets (ByDistribution reply))

abbrev pub AnswersAskNothing : Type 0
AnswersAskNothing = AsksOfNobody

-- ---- packets

-- nobody sends anything on this packet, whoever it comes to, in whatever state, at whatever moment
pub record IsUnanswered (p : Packet) : Type 0 where
  pub by_node : (config : NodeConfig) (s : NodeState) (now : ℕ) → (node_step config s (PacketComes p) now).sent ≡ []
  pub by_distributor : (address : ℕ) (s : DistState) (now : ℕ) → (dist_step address s (PacketComes p) now).sent ≡ []
  pub by_updater : (u : Updater) (now : ℕ) → (updater_step u (PacketComes p) now).sent ≡ []

abbrev pub NodeAnswersAreUnanswered : Type 0
NodeAnswersAreUnanswered = (config : NodeConfig) (s : NodeState) (p : Packet) (now : ℕ) → AllByRecursion IsUnanswered (node_step config s (PacketComes p) now).sent

abbrev pub DistributorAnswersAreUnanswered : Type 0
DistributorAnswersAreUnanswered = (address : ℕ) (s : DistState) (p : Packet) (now : ℕ) → AllByRecursion IsUnanswered (dist_step address s (PacketComes p) now).sent

abbrev pub UpdatersAnswerNothing : Type 0
UpdatersAnswerNothing = (u : Updater) (p : Packet) (now : ℕ) → (updater_step u (PacketComes p) now).sent ≡ []
