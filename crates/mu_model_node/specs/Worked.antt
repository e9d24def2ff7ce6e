-- Worked rows: what a node with one image, or with two, answers and is left with, octet by octet. The images are the octet 61, and
-- 61 62 63 as the new one; the stranger is at 0001 and the node at 0002.
use Rattle.std.specs.Prelude.{ℕ, ◌≡◌, ◌++◌, true, List, [], ◌∷◌, length, map}
use Rattle.mu_model_wire.specs.Packet.{Packet}
use Rattle.mu_model_image.specs.Meta.{Image}
use Rattle.mu_model_node.specs.NodeState.{NodeState, new_node, new_pair, restarted, update_phase, update_number, blob_phase}
use Rattle.mu_model_node.specs.BlobServer.{blob_number}
use Rattle.mu_model_node.specs.Events.{NodeEvent, PacketComes, TimeComes, node_step, node_work, is_worn}
use Rattle.mu_model_node.specs.Safe.{Happening, Done, Torn, state_after, log_after}
use Rattle.mu_model_node.specs.Log.{Took, Asked, Active, Reached}
use Rattle.mu_model_node.specs.declared.NodeConfig.{NodeConfig}

-- SHA-256 of 61, and of 61 62 63 (FIPS 180-2, its first example)
abbrev pub digest_a : List ℕ
digest_a = 0xca ∷ 0x97 ∷ 0x81 ∷ 0x12 ∷ 0xca ∷ 0x1b ∷ 0xbd ∷ 0xca ∷ 0xfa ∷ 0xc2 ∷ 0x31 ∷ 0xb3 ∷ 0x9a ∷ 0x23 ∷ 0xdc ∷ 0x4d ∷ 0xa7 ∷ 0x86 ∷ 0xef ∷ 0xf8 ∷ 0x14 ∷ 0x7c ∷ 0x4e ∷ 0x72 ∷ 0xb9 ∷ 0x80 ∷ 0x77 ∷ 0x85 ∷ 0xaf ∷ 0xee ∷ 0x48 ∷ 0xbb ∷ []

abbrev pub digest_abc : List ℕ
digest_abc = 0xba ∷ 0x78 ∷ 0x16 ∷ 0xbf ∷ 0x8f ∷ 0x01 ∷ 0xcf ∷ 0xea ∷ 0x41 ∷ 0x41 ∷ 0x40 ∷ 0xde ∷ 0x5d ∷ 0xae ∷ 0x22 ∷ 0x23 ∷ 0xb0 ∷ 0x03 ∷ 0x61 ∷ 0xa3 ∷ 0x96 ∷ 0x17 ∷ 0x7a ∷ 0x9c ∷ 0xb4 ∷ 0x10 ∷ 0xff ∷ 0x61 ∷ 0xf2 ∷ 0x00 ∷ 0x15 ∷ 0xad ∷ []

abbrev pub image_a : Image
image_a = record { octets = 0x61 ∷ []; meta = record { size = 1; version = 1; digest = digest_a } }

abbrev pub image_abc : Image
image_abc = record { octets = 0x61 ∷ 0x62 ∷ 0x63 ∷ []; meta = record { size = 3; version = 2; digest = digest_abc } }

abbrev pub node_two : NodeConfig
node_two = record { address = 2; group = 0 }

abbrev pub one_image : NodeState
one_image = restarted (new_node 1 image_a)

abbrev pub two_images : NodeState
two_images = restarted (new_pair 1 image_a image_a)

-- ---- what comes

abbrev pub heard : List ℕ → NodeEvent
heard payload = PacketComes (record { from = 1; to = 2; payload = payload })

abbrev pub said : List ℕ → Happening
said payload = Done (heard payload) 0

-- a BLOB ID in 8 octets, and metadata of the new image at a version
abbrev pub id7 : List ℕ
id7 = 7 ∷ 0 ∷ 0 ∷ 0 ∷ 0 ∷ 0 ∷ 1 ∷ 0 ∷ []

abbrev pub metadata_at : ℕ → List ℕ
metadata_at version = (3 ∷ 0 ∷ 0 ∷ 0 ∷ version ∷ 0 ∷ 0 ∷ 0 ∷ []) ++ digest_abc

abbrev pub update_start : ℕ → ℕ → List ℕ
update_start index version = (0x83 ∷ 0x0d ∷ 5 ∷ 0 ∷ 0 ∷ []) ++ (id7 ++ (index ∷ metadata_at version))

abbrev pub transfer_start : List ℕ
transfer_start = (0x83 ∷ 0x01 ∷ 0x40 ∷ []) ++ (id7 ++ (3 ∷ 0 ∷ 0 ∷ 0 ∷ 0x0c ∷ 0x7c ∷ 1 ∷ []))

abbrev pub block_start : List ℕ
block_start = 0x83 ∷ 0x04 ∷ 0 ∷ 0 ∷ 8 ∷ 0 ∷ []

abbrev pub chunk : List ℕ
chunk = 0x66 ∷ 0 ∷ 0 ∷ 0x61 ∷ 0x62 ∷ 0x63 ∷ []

abbrev pub update_get : List ℕ
update_get = 0x83 ∷ 0x0c ∷ []

abbrev pub update_apply : List ℕ
update_apply = 0x83 ∷ 0x0f ∷ []

abbrev pub up_to_block : ℕ → List Happening
up_to_block index = said (update_start index 2) ∷ said transfer_start ∷ said block_start ∷ []

abbrev pub up_to_chunk : ℕ → List Happening
up_to_chunk index = up_to_block index ++ said chunk ∷ []

abbrev pub whole_update : ℕ → List Happening
whole_update index = up_to_chunk index ++ Done TimeComes 1 ∷ said update_apply ∷ Done TimeComes 2 ∷ []

-- ---- what is seen

abbrev pub after : NodeState → List Happening → NodeState
after s hs = state_after node_two s hs

-- what is sent where these octets come after these happenings
abbrev pub answers : NodeState → List Happening → List ℕ → List (List ℕ)
answers s hs payload = map (λ (p : Packet). p.payload) (node_step node_two (after s hs) (heard payload) 0).sent

-- the record count, the update phase, the BLOB phase, and how many active images
abbrev pub seen : NodeState → List ℕ
seen s = s.durable.count ∷ update_number (update_phase s) ∷ blob_number (blob_phase s) ∷ length s.durable.images ∷ []

-- an Update Status of the job with ID7
abbrev pub update_status : ℕ → ℕ → List ℕ
update_status first index = (0x83 ∷ 0x10 ∷ first ∷ 5 ∷ 0 ∷ 0 ∷ 0 ∷ []) ++ (id7 ++ (index ∷ []))

-- ---- rows

-- a whole update: each message and its answer, and the image at the end
pub record AWholeUpdate : Type 0 where
  pub information : answers one_image [] (0x83 ∷ 0x08 ∷ 0 ∷ 1 ∷ []) ≡ ((0x83 ∷ 0x09 ∷ 1 ∷ 0 ∷ 0x26 ∷ 0xff ∷ 0xff ∷ 1 ∷ 0 ∷ 0 ∷ 0 ∷ []) ++ (digest_a ++ (0 ∷ []))) ∷ []
  pub started : answers one_image [] (update_start 0 2) ≡ update_status 0x40 0 ∷ []
  pub transfer : answers one_image (said (update_start 0 2) ∷ []) transfer_start ≡ ((0x83 ∷ 0x03 ∷ 0x40 ∷ 2 ∷ []) ++ (id7 ++ (3 ∷ 0 ∷ 0 ∷ 0 ∷ 0x0c ∷ 0x7c ∷ 1 ∷ 1 ∷ []))) ∷ []
  pub block : answers one_image (said (update_start 0 2) ∷ said transfer_start ∷ []) block_start ≡ (0x67 ∷ 0 ∷ 0 ∷ 0 ∷ 8 ∷ 0 ∷ []) ∷ []
  pub chunk : answers one_image (up_to_block 0) chunk ≡ []
  pub verified : answers one_image (up_to_chunk 0 ++ Done TimeComes 1 ∷ []) update_get ≡ update_status 0x80 0 ∷ []
  pub applied : answers one_image (up_to_chunk 0 ++ Done TimeComes 1 ∷ []) update_apply ≡ update_status 0xc0 0 ∷ []
  pub active : (after one_image (whole_update 0)).durable.images ≡ image_abc ∷ []
  pub log : log_after node_two one_image (whole_update 0) ≡ Took 0x0001_0000_0000_0007 0 image_abc.meta ∷ Reached 0x0001_0000_0000_0007 2 ∷ Reached 0x0001_0000_0000_0007 3 ∷ Reached 0x0001_0000_0000_0007 4 ∷ Asked 0x0001_0000_0000_0007 ∷ Reached 0x0001_0000_0000_0007 6 ∷ Active 0 image_abc.meta ∷ []

-- the power goes at an operation of an event: none of them, or this many, were done
pub record PowerCuts : Type 0 where
  -- the first record after a boot erases, so its first operation leaves the old state
  pub start_erased : seen (after one_image (Torn (heard (update_start 0 2)) 0 1 ∷ [])) ≡ 2 ∷ 0 ∷ 0 ∷ 1 ∷ []
  pub start_written : seen (after one_image (Torn (heard (update_start 0 2)) 0 2 ∷ [])) ≡ 3 ∷ 1 ∷ 0 ∷ 1 ∷ []
  -- a bank is begun by two operations, since a slot is fresh
  pub bank_begun : seen (after one_image (said (update_start 0 2) ∷ Torn (heard transfer_start) 0 2 ∷ [])) ≡ 4 ∷ 1 ∷ 5 ∷ 1 ∷ []
  pub bank_unbegun : seen (after one_image (said (update_start 0 2) ∷ Torn (heard transfer_start) 0 1 ∷ [])) ≡ 3 ∷ 1 ∷ 0 ∷ 1 ∷ []
  -- a block of one page is put by three
  pub block_work : length (node_work node_two (after one_image (up_to_block 0)) (heard chunk) 0) ≡ 3
  pub block_unmarked : seen (after one_image (up_to_block 0 ++ Torn (heard chunk) 0 2 ∷ [])) ≡ 4 ∷ 1 ∷ 5 ∷ 1 ∷ []
  pub block_marked : seen (after one_image (up_to_block 0 ++ Torn (heard chunk) 0 3 ∷ [])) ≡ 4 ∷ 3 ∷ 4 ∷ 1 ∷ []
  -- between seal and record
  pub unsealed : seen (after one_image (up_to_chunk 0 ++ Torn TimeComes 1 0 ∷ [])) ≡ 4 ∷ 3 ∷ 4 ∷ 1 ∷ []
  pub sealed : seen (after one_image (up_to_chunk 0 ++ Torn TimeComes 1 1 ∷ [])) ≡ 5 ∷ 4 ∷ 4 ∷ 1 ∷ []
  pub sealed_again : seen (after one_image (up_to_chunk 0 ++ Torn TimeComes 1 0 ∷ Done TimeComes 1 ∷ [])) ≡ 5 ∷ 4 ∷ 4 ∷ 1 ∷ []

-- what is refused, and what is told of a node
pub record Refusals : Type 0 where
  -- an equal version
  pub equal_version : answers one_image [] (update_start 0 1) ≡ (0x83 ∷ 0x10 ∷ 5 ∷ []) ∷ []
  -- an index without an image
  pub no_image : answers one_image [] (update_start 1 2) ≡ (0x83 ∷ 0x10 ∷ 4 ∷ []) ∷ []
  pub idle : answers one_image [] update_get ≡ (0x83 ∷ 0x10 ∷ 0 ∷ []) ∷ []
  pub apply_idle : answers one_image [] update_apply ≡ (0x83 ∷ 0x10 ∷ 2 ∷ []) ∷ []
  pub apply_verifying : answers one_image (up_to_chunk 0) update_apply ≡ update_status 0x62 0 ∷ []
  -- a bank of one page
  pub blob_information : answers one_image [] (0x83 ∷ 0x06 ∷ []) ≡ (0x83 ∷ 0x07 ∷ 0x0c ∷ 0x0e ∷ 0 ∷ 8 ∷ 0x78 ∷ 1 ∷ 0 ∷ 0x10 ∷ 0 ∷ 0 ∷ 0x7c ∷ 1 ∷ 3 ∷ []) ∷ []
  -- the last record was written
  pub worn : is_worn node_two (record one_image { durable = record (one_image.durable) { count = 4294967295 } }) (heard (update_start 0 2)) 0 ≡ true

-- a node with two images
pub record TwoImages : Type 0 where
  pub information : answers two_images [] (0x83 ∷ 0x08 ∷ 0 ∷ 2 ∷ []) ≡ ((0x83 ∷ 0x09 ∷ 2 ∷ 0 ∷ 0x26 ∷ 0xff ∷ 0xff ∷ 1 ∷ 0 ∷ 0 ∷ 0 ∷ []) ++ (digest_a ++ ((0 ∷ 0x26 ∷ 0xff ∷ 0xff ∷ 1 ∷ 0 ∷ 0 ∷ 0 ∷ []) ++ (digest_a ++ (0 ∷ []))))) ∷ []
  pub started : answers two_images [] (update_start 1 2) ≡ update_status 0x40 1 ∷ []
  pub active : (after two_images (whole_update 1)).durable.images ≡ image_a ∷ image_abc ∷ []
