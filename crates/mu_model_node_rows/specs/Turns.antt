-- Of worked rows: runs of a node, each turn with what is sent and what is seen after it.
use Rattle.std.specs.Prelude.{ℕ, ◌≡◌, ◌++◌, List, [], ◌∷◌, map, replicate}
use Rattle.mu_model_wire.specs.Packet.{Packet}
use Rattle.mu_model_node.specs.NodeState.{NodeState, new_node, restarted, update_phase, update_number, blob_phase}
use Rattle.mu_model_node.specs.BlobServer.{blob_number}
use Rattle.mu_model_node.specs.Events.{PacketComes, TimeComes, node_step}
use Rattle.mu_model_node.specs.Safe.{Happening, Done, CutPower, Torn, happened}
use Rattle.mu_model_node.specs.Worked.{node_two, image_a}

-- what happens; what is sent, each with its destination; and then the record count, the update phase and the BLOB phase
abbrev pub Turn : Type 0
Turn = Happening × List (ℕ × List ℕ) × List ℕ

abbrev pub seen : NodeState → List ℕ
seen s = s.durable.count ∷ update_number (update_phase s) ∷ blob_number (blob_phase s) ∷ []

-- where the power goes nothing is sent
abbrev pub sent_by : NodeState → Happening → List (ℕ × List ℕ)
sent_by s (Done event now) = map (λ (p : Packet). (p.to, p.payload)) (node_step node_two s event now).sent
sent_by s CutPower = []
sent_by s (Torn event now operations) = []

abbrev pub turn_of : NodeState → Happening → Turn
turn_of s happening = (happening, sent_by s happening, seen (happened node_two s happening))

abbrev pub turns_of : NodeState → List Turn → List Turn
turns_of s [] = []
turns_of s (turn ∷ turns) = turn_of s turn.0 ∷ turns_of (happened node_two s turn.0) turns

-- each turn is what the node does, from this state on
abbrev pub Goes : NodeState → List Turn → Type 0
Goes s turns = turns_of s turns ≡ turns

-- a node with banks of so many pages, after its first boot
abbrev pub of_pages : ℕ → NodeState
of_pages pages = restarted (new_node pages image_a)

-- ---- turns

abbrev pub comes : (now from : ℕ) → List ℕ → Happening
comes now from payload = Done (PacketComes (record { from = from; to = 2; payload = payload })) now

-- a payload from 0001 and its answer, or none
abbrev pub answers : (now : ℕ) → (payload reply after : List ℕ) → Turn
answers now payload reply after = (comes now 1 payload, (1, reply) ∷ [], after)

abbrev pub takes : (now : ℕ) → (payload after : List ℕ) → Turn
takes now payload after = (comes now 1 payload, [], after)

-- from another source, or to another destination
abbrev pub sends : (now from : ℕ) → List ℕ → ℕ → List ℕ → List ℕ → Turn
sends now from payload to reply after = (comes now from payload, (to, reply) ∷ [], after)

-- time, with a report or without
abbrev pub reports : (now to : ℕ) → (report after : List ℕ) → Turn
reports now to report after = (Done TimeComes now, (to, report) ∷ [], after)

abbrev pub waits : (now : ℕ) → (after : List ℕ) → Turn
waits now after = (Done TimeComes now, [], after)

abbrev pub booted : List ℕ → Turn
booted after = (CutPower, [], after)

-- ---- an image of another size: its metadata, and an Update Start of BLOB ID 1_0000_0000_00xx

abbrev pub sized : (size_low size_high version : ℕ) → List ℕ
sized size_low size_high version = (size_low ∷ size_high ∷ 0 ∷ 0 ∷ version ∷ 0 ∷ 0 ∷ 0 ∷ []) ++ replicate 32 0x11

abbrev pub start_of : (ttl base id : ℕ) → List ℕ → List ℕ
start_of ttl base id metadata =
    (0x83 ∷ 0x0d ∷ ttl ∷ base ∷ 0 ∷ []) ++ ((id ∷ 0 ∷ 0 ∷ 0 ∷ 0 ∷ 0 ∷ 1 ∷ 0 ∷ []) ++ (0 ∷ metadata))
