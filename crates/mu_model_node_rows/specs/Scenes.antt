-- Of worked rows: what comes to a node, octet by octet, and what is seen of it. The node is at 0002 and has the octet 61 as its
-- image of version 1; a stranger at 0001 offers 61 62 63 as version 2.
use Rattle.std.specs.Prelude.{ℕ, ◌≡◌, ◌++◌, List, [], ◌∷◌, map}
pub use Rattle.mu_model_node.specs.Worked.{heard, said, update_apply, update_get}
pub use Rattle.mu_model_scenes.specs.Octets.{blob_information_get, block_get, id_of, transfer_get, update_cancel}
use Rattle.mu_model_wire.specs.Packet.{Packet}
use Rattle.mu_model_node.specs.NodeState.{NodeState, update_phase, update_number, blob_phase}
use Rattle.mu_model_node.specs.BlobServer.{blob_number}
use Rattle.mu_model_node.specs.Events.{NodeEvent, PacketComes, TimeComes, node_step}
use Rattle.mu_model_node.specs.Safe.{Happening, Done, CutPower, state_after}
use Rattle.mu_model_node.specs.Worked.{node_two, one_image, digest_a, digest_abc}

-- ---- a row of a table

-- what comes at moment 7; the octets of each reply; and then the record count, the update phase, the BLOB phase and the moment
-- last heard
abbrev pub Row : Type 0
Row = NodeEvent × List (List ℕ) × List ℕ

abbrev pub seen : NodeState → List ℕ
seen s = s.durable.count ∷ update_number (update_phase s) ∷ blob_number (blob_phase s) ∷ s.session.heard ∷ []

abbrev pub row_of : NodeState → NodeEvent → Row
row_of s event = (event, map (λ (p : Packet). p.payload) (node_step node_two s event 7).sent, seen (node_step node_two s event 7).next)

-- each row of the table is what the node does in this state
abbrev pub Answers : NodeState → List Row → Type 0
Answers s rows = map (λ (row : Row). row_of s row.0) rows ≡ rows

-- a payload and its one answer, or none
abbrev pub row : List ℕ → List ℕ → List ℕ → Row
row payload reply after = (heard payload, reply ∷ [], after)

abbrev pub unanswered : List ℕ → List ℕ → Row
unanswered payload after = (heard payload, [], after)

abbrev pub time : List ℕ → Row
time after = (TimeComes, [], after)

-- ---- what comes

-- size and version in four octets each, and the digest of 61 62 63
abbrev pub metadata : (size_low size_high version : ℕ) → List ℕ
metadata size_low size_high version = (size_low ∷ size_high ∷ 0 ∷ 0 ∷ version ∷ 0 ∷ 0 ∷ 0 ∷ []) ++ digest_abc

abbrev pub information_get : (first limit : ℕ) → List ℕ
information_get first limit = 0x83 ∷ 0x08 ∷ first ∷ limit ∷ []

abbrev pub metadata_check : (index : ℕ) → List ℕ → List ℕ
metadata_check index offered = 0x83 ∷ 0x0a ∷ index ∷ offered

abbrev pub start : (ttl base id index : ℕ) → List ℕ → List ℕ
start ttl base id index offered = (0x83 ∷ 0x0d ∷ ttl ∷ base ∷ 0 ∷ []) ++ (id_of id ++ (index ∷ offered))

-- the job of these rows
abbrev pub update_start : List ℕ
update_start = start 5 0 7 0 (metadata 3 0 2)

-- a mode in its two upper bits; size and MTU in their lower two octets
abbrev pub start_transfer : (mode id size_low size_high log mtu_low mtu_high : ℕ) → List ℕ
start_transfer mode id size_low size_high log mtu_low mtu_high =
    (0x83 ∷ 0x01 ∷ mode ∷ []) ++ (id_of id ++ (size_low ∷ size_high ∷ 0 ∷ 0 ∷ log ∷ mtu_low ∷ mtu_high ∷ []))

-- push, of three octets, Block Size Log 12, MTU 380
abbrev pub transfer_start : List ℕ
transfer_start = start_transfer 0x40 7 3 0 12 0x7c 1

abbrev pub transfer_cancel : (id : ℕ) → List ℕ
transfer_cancel id = (0x83 ∷ 0x02 ∷ []) ++ id_of id

abbrev pub block_start : (block size_low size_high : ℕ) → List ℕ
block_start block size_low size_high = 0x83 ∷ 0x04 ∷ block ∷ 0 ∷ size_low ∷ size_high ∷ []

abbrev pub chunk : (number : ℕ) → List ℕ → List ℕ
chunk number octets = 0x66 ∷ number ∷ 0 ∷ octets

abbrev pub abc : List ℕ
abc = 0x61 ∷ 0x62 ∷ 0x63 ∷ []

-- ---- what is answered

-- an empty URI
abbrev pub information_status : List ℕ
information_status = (0x83 ∷ 0x09 ∷ 1 ∷ 0 ∷ 0x26 ∷ 0xff ∷ 0xff ∷ 1 ∷ 0 ∷ 0 ∷ 0 ∷ []) ++ (digest_a ++ (0 ∷ []))

-- logs 12 to 14, 2048 chunks of at most 376 octets, a bank of a page, MTU 380, push and pull
abbrev pub blob_information_status : List ℕ
blob_information_status = 0x83 ∷ 0x07 ∷ 12 ∷ 14 ∷ 0 ∷ 8 ∷ 0x78 ∷ 1 ∷ 0 ∷ 0x10 ∷ 0 ∷ 0 ∷ 0x7c ∷ 1 ∷ 3 ∷ []

abbrev pub metadata_status : (status index : ℕ) → List ℕ
metadata_status status index = 0x83 ∷ 0x0b ∷ status ∷ index ∷ []

-- an Update Status without a job, and one with this job: status and phase are in its first octet
abbrev pub idle_status : ℕ → List ℕ
idle_status status = 0x83 ∷ 0x10 ∷ status ∷ []

abbrev pub status_of_job : (first ttl base id : ℕ) → List ℕ
status_of_job first ttl base id = (0x83 ∷ 0x10 ∷ first ∷ ttl ∷ 0 ∷ base ∷ 0 ∷ []) ++ (id_of id ++ (0 ∷ []))

abbrev pub update_status : ℕ → List ℕ
update_status first = status_of_job first 5 0 7

-- a Transfer Status without a job, without parameters, and with the parameters of transfer_start: status and mode are in its
-- first octet, the blocks not held in its last
abbrev pub inactive_status : ℕ → List ℕ
inactive_status status = 0x83 ∷ 0x03 ∷ status ∷ 0 ∷ []

abbrev pub waiting_status : ℕ → List ℕ
waiting_status status = (0x83 ∷ 0x03 ∷ status ∷ 1 ∷ []) ++ id_of 7

abbrev pub transfer_status : (first phase blocks : ℕ) → List ℕ
transfer_status first phase blocks =
    (0x83 ∷ 0x03 ∷ first ∷ phase ∷ []) ++ (id_of 7 ++ (3 ∷ 0 ∷ 0 ∷ 0 ∷ 12 ∷ 0x7c ∷ 1 ∷ blocks ∷ []))

-- the same with a size, a log and an MTU
abbrev pub transfer_status_of : (first phase : ℕ) → List ℕ → (blocks : ℕ) → List ℕ
transfer_status_of first phase parameters blocks = (0x83 ∷ 0x03 ∷ first ∷ phase ∷ []) ++ (id_of 7 ++ (parameters ++ (blocks ∷ [])))

-- status and format are in its first octet
abbrev pub block_status : (first block size_low size_high : ℕ) → List ℕ
block_status first block size_low size_high = 0x67 ∷ first ∷ block ∷ 0 ∷ size_low ∷ size_high ∷ []

-- ---- where the node is

abbrev pub at : List Happening → NodeState
at happenings = state_after node_two one_image happenings

abbrev pub to_start : List Happening
to_start = said update_start ∷ []

abbrev pub to_transfer : List Happening
to_transfer = to_start ++ said transfer_start ∷ []

abbrev pub to_block : List Happening
to_block = to_transfer ++ said (block_start 0 8 0) ∷ []

abbrev pub to_whole : List Happening
to_whole = to_block ++ said (chunk 0 abc) ∷ []

abbrev pub to_verified : List Happening
to_verified = to_whole ++ Done TimeComes 0 ∷ []

abbrev pub to_applying : List Happening
to_applying = to_verified ++ said update_apply ∷ []

-- the block that came is another one
abbrev pub to_failed : List Happening
to_failed = to_block ++ said (chunk 0 (0x61 ∷ 0x62 ∷ 0x64 ∷ [])) ∷ Done TimeComes 0 ∷ []

-- the power goes without parameters, and with them; and after the latter the update is started again
abbrev pub to_cut : List Happening
to_cut = to_start ++ CutPower ∷ []

abbrev pub to_suspended : List Happening
to_suspended = to_transfer ++ CutPower ∷ []

abbrev pub to_resumed : List Happening
to_resumed = to_suspended ++ said update_start ∷ []
