-- Worked rows, octet by octet: what an updater at 0001 sends, and how its rows go, for receivers at 0002 and 0003, and with a node at
-- 0002. The image is 61 62 63 as version 2.
use Rattle.std.specs.Prelude.{ℕ, zero, suc, ◌≡◌, ◌+◌, ◌*◌, ◌++◌, Bool, true, false, List, [], ◌∷◌, map}
pub use Rattle.mu_model_scenes.specs.Octets.{metadata_status}
use Rattle.mu_model_wire.specs.Packet.{Packet}
use Rattle.mu_model_node.specs.Events.{NodeEvent, PacketComes, TimeComes, node_step}
use Rattle.mu_model_node.specs.NodeState.{NodeState}
use Rattle.mu_model_node.specs.UpdateMessages.{UpdateStart}
use Rattle.mu_model_node.specs.Worked.{digest_abc, image_abc, node_two, one_image, metadata_at, update_start, update_status}
use Rattle.mu_model_client.specs.Begin.{is_ended}
use Rattle.mu_model_client.specs.Client.{rows}
use Rattle.mu_model_client.specs.Rows.{Row}
use Rattle.mu_model_updater.specs.Updater.{UpdaterLine, Updater, updater_of, UpdaterStep, updater_step, updater_after, starts_in}

-- `updater 0001 0000 7 5 0 push 12 8 2 hex:616263 ..`
abbrev pub line : List ℕ → UpdaterLine
line receivers = record {
  address = 1;
  group = 0;
  id = 7;
  ttl = 5;
  base = 0;
  mode = 1;
  log = 12;
  chunk = 8;
  version = 2;
  content = 0x61 ∷ 0x62 ∷ 0x63 ∷ [];
  receivers = receivers;
}

abbrev pub updater : Updater
updater = updater_of (line (2 ∷ 3 ∷ []))

-- ---- events

abbrev pub comes : (from to : ℕ) → List ℕ → NodeEvent × ℕ
comes from to payload = (PacketComes (record { from = from; to = to; payload = payload }), 0)

abbrev pub time : ℕ → NodeEvent × ℕ
time now = (TimeComes, now)

abbrev pub packet : ℕ → List ℕ → Packet
packet to payload = record { from = 1; to = to; payload = payload }

abbrev pub sends : List (NodeEvent × ℕ) → NodeEvent × ℕ → List Packet
sends run e = (updater_step (updater_after updater run) e.0 e.1).sent

abbrev pub handles : List (NodeEvent × ℕ) → NodeEvent × ℕ → Bool
handles run e = (updater_step (updater_after updater run) e.0 e.1).handled

-- the Information Status of the new image
abbrev pub information_status : List ℕ
information_status = (0x83 ∷ 0x09 ∷ 1 ∷ 0 ∷ 0x26 ∷ 0xff ∷ 0xff ∷ 2 ∷ 0 ∷ 0 ∷ 0 ∷ []) ++ (digest_abc ++ (0 ∷ []))

abbrev pub checked : List (NodeEvent × ℕ)
checked = time 0 ∷ comes 2 1 metadata_status ∷ comes 3 1 metadata_status ∷ []

-- ---- rows

-- address, phase and progress
abbrev pub shown : Row → List ℕ
shown row = row.address ∷ row.phase ∷ row.progress ∷ []

abbrev pub shown_after : List (NodeEvent × ℕ) → List (List ℕ)
shown_after run = map shown (rows (updater_after updater run).client)

-- the start that is sent to both
abbrev pub start : UpdateStart
start = record { ttl = 5; base = 0; id = 0x0001_0000_0000_0007; index = 0; metadata = metadata_at 2 }

-- rounds of 4100 ms in which nobody answers
abbrev pub rounds : ℕ → List (NodeEvent × ℕ)
rounds zero = []
rounds (suc n) = rounds n ++ time (4100 * (n + 1)) ∷ []

pub record TwoReceivers : Type 0 where
  pub checks : sends [] (time 0) ≡ packet 2 ((0x83 ∷ 0x0a ∷ 0 ∷ []) ++ metadata_at 2) ∷ packet 3 ((0x83 ∷ 0x0a ∷ 0 ∷ []) ++ metadata_at 2) ∷ []
  pub starts : sends checked (time 0) ≡ packet 2 (update_start 0 2) ∷ packet 3 (update_start 0 2) ∷ []
  pub started : starts_in updater (checked ++ time 0 ∷ []) ≡ (2, start) ∷ (3, start) ∷ []
  -- a packet for another address, and a request, aren't handled
  pub answer : handles (time 0 ∷ []) (comes 2 1 metadata_status) ≡ true
  pub elsewhere : handles (time 0 ∷ []) (comes 2 9 metadata_status) ≡ false
  pub request : handles (time 0 ∷ []) (comes 2 1 (update_start 0 2)) ≡ false
  -- a status with another BLOB ID, and an image that is shown before a phase was told, say nothing
  pub unknown : shown_after (checked ++ time 0 ∷ comes 2 1 ((0x83 ∷ 0x10 ∷ 0x40 ∷ 5 ∷ 0 ∷ 0 ∷ 0 ∷ []) ++ (8 ∷ 0 ∷ 0 ∷ 0 ∷ 0 ∷ 0 ∷ 1 ∷ 0 ∷ 0 ∷ [])) ∷ comes 2 1 information_status ∷ []) ≡ (2 ∷ 10 ∷ 0 ∷ []) ∷ (3 ∷ 10 ∷ 0 ∷ []) ∷ []
  pub phase : shown_after (checked ++ time 0 ∷ comes 2 1 (update_status 0x40 0) ∷ []) ≡ (2 ∷ 2 ∷ 0 ∷ []) ∷ (3 ∷ 10 ∷ 0 ∷ []) ∷ []
  pub success : shown_after (checked ++ time 0 ∷ comes 2 1 (update_status 0x40 0) ∷ comes 2 1 information_status ∷ []) ≡ (2 ∷ 8 ∷ 0 ∷ []) ∷ (3 ∷ 10 ∷ 0 ∷ []) ∷ []
  -- nobody answers: it ends with the fifth round, and not before
  pub fourth : is_ended (updater_after updater (time 0 ∷ rounds 4)).client.place ≡ false
  pub fifth : is_ended (updater_after updater (time 0 ∷ rounds 5)).client.place ≡ true

-- ---- with a node

pub record Two : Type 0 where
  pub updater : Updater
  pub node : NodeState

pub record NodeTurn : Type 0 where
  pub node : NodeState
  pub replies : List Packet

abbrev pub with_replies : List Packet → NodeTurn → NodeTurn
with_replies replies turn = record { node = turn.node; replies = replies ++ turn.replies }

abbrev pub node_takes : NodeState → List Packet → ℕ → NodeTurn
node_takes s [] now = record { node = s; replies = [] }
node_takes s (p ∷ packets) now = with_replies (node_step node_two s (PacketComes p) now).sent (node_takes (node_step node_two s (PacketComes p) now).next packets now)

abbrev pub updater_takes : Updater → List Packet → ℕ → Updater
updater_takes u [] now = u
updater_takes u (p ∷ packets) now = updater_takes (updater_step u (PacketComes p) now).next packets now

-- both get a time event, and then each packet that the updater sent goes to the node, and each reply back
abbrev pub answered : Updater → NodeTurn → ℕ → Two
answered u turn now = record { updater = updater_takes u turn.replies now; node = turn.node }

abbrev pub delivered : UpdaterStep → NodeState → ℕ → Two
delivered step s now = answered step.next (node_takes s step.sent now) now

abbrev pub turn : Two → ℕ → Two
turn two now = delivered (updater_step two.updater TimeComes now) (node_step node_two two.node TimeComes now).next now

-- so many turns, a tenth of a second apart
abbrev pub turns : ℕ → Two
turns zero = record { updater = updater_of (line (2 ∷ [])); node = one_image }
turns (suc n) = turn (turns n) (100 * (n + 1))

pub record AWholeUpdate : Type 0 where
  pub row : map shown (rows (turns 11).updater.client) ≡ (2 ∷ 8 ∷ 100 ∷ []) ∷ []
  pub tenth : is_ended (turns 10).updater.client.place ≡ false
  pub ended : is_ended (turns 11).updater.client.place ≡ true
  pub image : (turns 11).node.durable.images ≡ image_abc ∷ []
