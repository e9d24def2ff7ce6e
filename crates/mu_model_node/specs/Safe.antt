-- One node among strangers: whatever packets come, from whatever sources, whatever time passes, and whenever the power goes.
use Rattle.std.specs.Prelude.{ℕ, ◌≡◌, ◌⊎◌, List, [], ◌∷◌, ◌++◌, Option, Some, None, slice_get, slice_index_or}
use Rattle.mu_model_wire.specs.Packet.{Packet}
use Rattle.mu_model_image.specs.Meta.{Image, IsFit}
use Rattle.mu_model_node.specs.NodeState.{Stored, Filling, Verified, Refused, Applied, Job, NodeDurable, NodeState, restarted}
use Rattle.mu_model_node.specs.Events.{NodeEvent, PacketComes, node_step, node_work}
use Rattle.mu_model_node.specs.Log.{LogEntry, Took, Asked, Active, Reached, logged}
use Rattle.mu_model_node.specs.Sound.{IsNodeDurable}
use Rattle.mu_model_node.specs.declared.NodeConfig.{NodeConfig}

-- ---- runs

pub data Happening : Type 0 where
  -- an event at a moment
  Done : NodeEvent → ℕ → Happening
  -- the power goes between events
  CutPower : Happening
  -- the power goes in an event at a moment, and so many of its flash operations were done
  Torn : NodeEvent → ℕ → ℕ → Happening

-- what stands after so many flash operations of an event
abbrev pub left_after : NodeConfig → NodeState → NodeEvent → ℕ → ℕ → NodeDurable
left_after config s event now operations = slice_index_or (s.durable ∷ node_work config s event now) operations s.durable

abbrev pub happened : NodeConfig → NodeState → Happening → NodeState
happened config s (Done event now) = (node_step config s event now).next
happened config s CutPower = restarted s.durable
happened config s (Torn event now operations) = restarted (left_after config s event now operations)

abbrev pub state_after : NodeConfig → NodeState → List Happening → NodeState
state_after config s [] = s
state_after config s (h ∷ hs) = state_after config (happened config s h) hs

abbrev pub log_after : NodeConfig → NodeState → List Happening → List LogEntry
log_after config s [] = []
log_after config s (h ∷ hs) = logged s (happened config s h) ++ log_after config (happened config s h) hs

-- the packets that come, those of torn events too
abbrev pub come_by : Happening → List Packet
come_by (Done (PacketComes packet) now) = packet ∷ []
come_by (Torn (PacketComes packet) now operations) = packet ∷ []
come_by _ = []

abbrev pub come_in : List Happening → List Packet
come_in [] = []
come_in (h ∷ hs) = come_by h ++ come_in hs

-- ---- what is safe

-- the first list stands in the second, in order, perhaps with others between
pub data InOrder {A : Type 0} : List A → List A → Type 0 where
  none : {all : List A} → InOrder [] all
  here : {x : A} {xs all : List A} → InOrder xs all → InOrder (x ∷ xs) (x ∷ all)
  later : {y : A} {xs all : List A} → InOrder xs all → InOrder xs (y ∷ all)

-- an image came whole, by an update that was taken, verified, asked for and made active, in this order
pub record IsUpdated (log : List LogEntry) (index : ℕ) (image : Image) : Type 0 where
  pub id : ℕ
  pub in_order : InOrder (Took id index image.meta ∷ Reached id 4 ∷ Asked id ∷ Active index image.meta ∷ []) log
  pub whole : IsFit image.octets image.meta

-- the active image of an index is its first one, or came by an update
abbrev pub ImageIsSafe : List Image → List LogEntry → ℕ → Image → Type 0
ImageIsSafe first log index image = (slice_get first index ≡ Some image) ⊎ IsUpdated log index image

abbrev pub ImagesAreSafe : List Image → List LogEntry → List Image → Type 0
ImagesAreSafe first log images = (index : ℕ) (image : Image) → slice_get images index ≡ Some image → ImageIsSafe first log index image

-- what a boot finds of a job counts as logged before it: that it was taken, verified, and asked for
abbrev pub found_stored : Job → Stored → List LogEntry
found_stored j Filling = []
found_stored j Refused = []
found_stored j Verified = Reached j.id 4 ∷ []
found_stored j Applied = Reached j.id 4 ∷ Asked j.id ∷ []

abbrev pub found : Option Job → List LogEntry
found None = []
found (Some j) = Took j.id j.index j.meta ∷ found_stored j j.stored

-- THE LAW. Each active image is the one that the boot found, or has the size and the digest of metadata that the node took, of a
-- job that it found verified and that an Update Apply then reached.
abbrev pub OneNodeIsSafe : Type 0
OneNodeIsSafe =
    (config : NodeConfig) (d : NodeDurable) (hs : List Happening) → IsNodeDurable d
    → ImagesAreSafe d.images (found d.job ++ log_after config (restarted d) hs) (state_after config (restarted d) hs).durable.images
