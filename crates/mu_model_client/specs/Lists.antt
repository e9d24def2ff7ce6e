-- The message of each step, and the list of a round: what is sent to whom, in order (MshMBT, BLOB Transfer Client; MshDFU,
-- Firmware Update Client).
use Rattle.std.specs.Prelude.{ℕ, ◌==◌, ◌&&◌, Bool, true, false, List, [], ◌∷◌, map, Option, Some, None, if◌then◌else◌}
use Rattle.std.specs.List.{flat_map}
use Rattle.mu_model_image.specs.Meta.{meta_octets}
use Rattle.mu_model_image.specs.Pieces.{block_of, chunk_of}
use Rattle.mu_model_wire.specs.Reports.{has}
use Rattle.mu_model_node.specs.BlobMessages.{BlobInformationGet, TransferStart, BlockStart, BlockGet, ChunkTransfer, own_mtu}
use Rattle.mu_model_node.specs.UpdateMessages.{InformationGet, MetadataCheck, StartUpdate, UpdateGet, UpdateApply, UpdateCancel}
use Rattle.mu_model_node.specs.NodeMessages.{Request, OfUpdate, OfBlob}
use Rattle.mu_model_client.specs.Sets.{below}
use Rattle.mu_model_client.specs.Client.{Sending, Purpose, Blob, Update, Step, Check, Start, Information, Transfer, Block, Chunks, Pull, Get, Verify, Apply, Confirm, Cancel, Receiver, is_active, is_pending, Item, Says, Sends, chunk_total}

-- ---- the message of each step

-- a BLOB alone has no metadata
abbrev pub metadata_of : Purpose → List ℕ
metadata_of Blob = []
metadata_of (Update offered apply) = meta_octets offered

abbrev pub check_message : Purpose → Receiver → Request
check_message purpose r = OfUpdate (MetadataCheck r.row.index (metadata_of purpose))

abbrev pub start_message : Sending → Purpose → Receiver → Request
start_message p purpose r =
    OfUpdate (StartUpdate (record { ttl = p.ttl; base = p.base; id = p.id; index = r.row.index; metadata = metadata_of purpose }))

abbrev pub transfer_message : Sending → Request
transfer_message p = OfBlob (TransferStart p.id (record { mode = p.mode; size = p.size; log = p.log; mtu = own_mtu }))

-- none for chunks: they have a list of their own
abbrev pub step_message : Sending → Purpose → Step → Receiver → Option Request
step_message p purpose Check r = Some (check_message purpose r)
step_message p purpose Start r = Some (start_message p purpose r)
step_message p purpose Information r = Some (OfBlob BlobInformationGet)
step_message p purpose Transfer r = Some (transfer_message p)
step_message p purpose (Block b) r = Some (OfBlob (BlockStart b p.chunk))
step_message p purpose (Chunks b) r = None
step_message p purpose (Pull b) r = None
step_message p purpose (Get b) r = Some (OfBlob BlockGet)
step_message p purpose Verify r = Some (OfUpdate UpdateGet)
step_message p purpose Apply r = Some (OfUpdate UpdateApply)
step_message p purpose Confirm r = Some (OfUpdate (InformationGet r.row.index 1))
step_message p purpose Cancel r = Some (OfUpdate UpdateCancel)

-- the message of a later round: in pull a Block Get to those that weren't heard
abbrev pub pull_again : Bool → Option Request
pull_again true = None
pull_again false = Some (OfBlob BlockGet)

abbrev pub again_message : Sending → Purpose → Step → Receiver → Option Request
again_message p purpose (Pull b) r = pull_again r.heard
again_message p purpose step r = step_message p purpose step r

abbrev pub said_to : ℕ → Option Request → List Item
said_to to None = []
said_to to (Some request) = Says to request ∷ []

abbrev pub said_if : Receiver → Option Request → Bool → List Item
said_if r request true = said_to r.row.address request
said_if r request false = []

-- the message to each pending receiver, in order
abbrev pub messages : (Receiver → Option Request) → List Receiver → List Item
messages message receivers = flat_map (λ r. said_if r (message r) (is_pending r)) receivers

-- ---- chunks

-- the active receivers that miss a chunk, in order; what each misses is given
abbrev pub lacking_if : ℕ → Bool → List ℕ
lacking_if address true = address ∷ []
lacking_if address false = []

abbrev pub lacks_chunk : (Receiver → List Bool) → ℕ → Receiver → Bool
lacks_chunk missing k r = is_active r && has (missing r) k

abbrev pub lacking : (Receiver → List Bool) → List Receiver → ℕ → List ℕ
lacking missing receivers k = flat_map (λ r. lacking_if r.row.address (lacks_chunk missing k r)) receivers

-- with a group one packet to it, where a receiver misses the chunk; without one a packet to each that misses it
abbrev pub to_group : ℕ → List ℕ → List ℕ
to_group group [] = []
to_group group (receiver ∷ more) = group ∷ []

abbrev pub destinations : Sending → List ℕ → List ℕ
destinations p receivers = if p.group == 0 then receivers else to_group p.group receivers

-- the missing chunks of a block, rising
abbrev pub chunk_items : Sending → ℕ → (Receiver → List Bool) → List Receiver → List Item
chunk_items p b missing receivers =
    flat_map (λ k. map (λ to. Sends to b k) (destinations p (lacking missing receivers k))) (below (chunk_total p b))

abbrev pub missing_of : Receiver → List Bool
missing_of r = r.chunks

abbrev pub wanted_of : Receiver → List Bool
wanted_of r = r.wanted

-- ---- the list with which a step begins

abbrev pub first_list : Sending → Purpose → List Receiver → Step → List Item
first_list p purpose receivers (Chunks b) = chunk_items p b missing_of receivers
first_list p purpose receivers step = messages (step_message p purpose step) receivers

-- ---- packets

-- chunk k of block b of the image
abbrev pub chunk_octets : Sending → List ℕ → ℕ → ℕ → List ℕ
chunk_octets p image b k = chunk_of (block_of image p.log b) p.chunk k

-- what is sent for an item, with its destination
abbrev pub sent_for : Sending → List ℕ → Item → ℕ × Request
sent_for p image (Says to request) = (to, request)
sent_for p image (Sends to b k) = (to, OfBlob (ChunkTransfer k (chunk_octets p image b k)))
