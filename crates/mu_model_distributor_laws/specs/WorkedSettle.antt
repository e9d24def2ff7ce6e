-- Worked rows: a distributor at 0001 with its image, and a node at 0002 in the group C000 with the image 61, with nothing lost. In a
-- turn each has a time event, 100 ms after the last, and then each packet comes to its addressee, answers too.
use Rattle.std.specs.Prelude.{ℕ, zero, suc, ◌+◌, ◌≡◌, ◌++◌, List, [], ◌∷◌, map}
use Rattle.mu_model_wire.specs.Packet.{Packet}
use Rattle.mu_model_node.specs.declared.NodeConfig.{NodeConfig}
use Rattle.mu_model_node.specs.NodeState.{NodeState, new_node, restarted as node_restarted}
use Rattle.mu_model_node.specs.Events.{NodeEvent, PacketComes, TimeComes, node_step}
use Rattle.mu_model_node.specs.Worked.{image_a, image_abc}
use Rattle.mu_model_distributor.specs.DistState.{Receiver, DistState, dist_number}
use Rattle.mu_model_distributor.specs.DistEvents.{dist_step}
use Rattle.mu_model_distributor_laws.specs.Scenes.{stocked_one, heard, said, after, receivers_add, receivers_get, distribution_start_of, distribution_apply}

pub record Two : Type 0 where
  pub distributor : DistState
  pub node : NodeState
  pub moment : ℕ

abbrev pub node_two : NodeConfig
node_two = record { address = 2; group = 0xc000 }

-- an event at both, and what both send
abbrev pub at_both : Two → NodeEvent → Two × List Packet
at_both w event = (
  record w { distributor = (dist_step 1 w.distributor event w.moment).next; node = (node_step node_two w.node event w.moment).next },
  (dist_step 1 w.distributor event w.moment).sent ++ (node_step node_two w.node event w.moment).sent,
)

-- so many packets at most
abbrev pub delivered : ℕ → Two → List Packet → Two
delivered zero w packets = w
delivered (suc n) w [] = w
delivered (suc n) w (packet ∷ packets) = delivered n (at_both w (PacketComes packet)).0 (packets ++ (at_both w (PacketComes packet)).1)

abbrev pub turned : Two → Two × List Packet → Two
turned w sent = delivered 64 sent.0 sent.1

abbrev pub turn : Two → Two
turn w = turned w (at_both (record w { moment = w.moment + 100 }) TimeComes)

abbrev pub turns : ℕ → Two → Two
turns zero w = w
turns (suc n) w = turns n (turn w)

-- a Distribution Start with this octet of mode and policy, and this group
abbrev pub begun : ℕ → ℕ → Two
begun means group = record {
  distributor = after stocked_one (said (receivers_add 0) ∷ said (distribution_start_of 5 means 0 group) ∷ []);
  node = node_restarted (new_node 1 image_a);
  moment = 0;
}

-- address, phase, statuses and progress of each row
abbrev pub rows_seen : Two → List (List ℕ)
rows_seen w = map (λ (r : Receiver). r.address ∷ r.phase ∷ r.update_status ∷ r.transfer_status ∷ []) w.distributor.durable.receivers

abbrev pub phases_seen : List ℕ → Two → List ℕ
phases_seen [] w = []
phases_seen (n ∷ more) w = dist_number (turns n w).distributor.durable.phase ∷ phases_seen more (turns n w)

-- the distributor hears this from a stranger
abbrev pub asked : List ℕ → Two → Two
asked payload w = record w { distributor = (dist_step 1 w.distributor (heard payload) w.moment).next }

-- the address, the update phase and the progress of each row, as a Receivers List tells them
abbrev pub listed : Two → List (List ℕ)
listed w = map (λ (p : Packet). p.payload) (dist_step 1 w.distributor (heard receivers_get) w.moment).sent

pub record NothingIsLost : Type 0 where
  -- push to the group, Verify And Apply
  pub applied : rows_seen (turns 14 (begun 5 0xc0)) ≡ (2 ∷ 8 ∷ 0 ∷ 0 ∷ []) ∷ []
  pub progress : (turns 14 (begun 5 0xc0)).distributor.progress ≡ 100 ∷ []
  pub image : (turns 14 (begun 5 0xc0)).node.durable.images ≡ image_abc ∷ []
  pub list_says : listed (turns 14 (begun 5 0xc0)) ≡ (0x83 ∷ 0x15 ∷ 1 ∷ 0 ∷ 0 ∷ 0 ∷ 2 ∷ 0 ∷ 4 ∷ 0xc8 ∷ 0 ∷ []) ∷ []
  -- the phases after 8 turns, and one by one from there
  pub phases : phases_seen (8 ∷ 1 ∷ 1 ∷ 1 ∷ 1 ∷ []) (begun 5 0xc0) ≡ 1 ∷ 3 ∷ 3 ∷ 4 ∷ 4 ∷ []
  -- to each receiver by itself
  pub without_group : rows_seen (turns 14 (begun 5 0)) ≡ (2 ∷ 8 ∷ 0 ∷ 0 ∷ []) ∷ []
  -- pull
  pub pull : rows_seen (turns 14 (begun 6 0xc0)) ≡ (2 ∷ 8 ∷ 0 ∷ 0 ∷ []) ∷ []
  -- Verify Only: nothing is applied until that is asked for
  pub verified : phases_seen (14 ∷ []) (begun 1 0xc0) ≡ 2 ∷ []
  pub verified_row : rows_seen (turns 14 (begun 1 0xc0)) ≡ (2 ∷ 4 ∷ 0 ∷ 0 ∷ []) ∷ []
  pub then_applied : rows_seen (turns 4 (asked distribution_apply (turns 14 (begun 1 0xc0)))) ≡ (2 ∷ 8 ∷ 0 ∷ 0 ∷ []) ∷ []
  pub then_completed : phases_seen (4 ∷ []) (asked distribution_apply (turns 14 (begun 1 0xc0))) ≡ 4 ∷ []
