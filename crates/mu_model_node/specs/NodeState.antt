-- A node: what it keeps over a power cut, what it has while it runs, and its phases (MshDFU, Firmware Update Server states).
use Rattle.std.specs.Prelude.{ℕ, ◌*◌, ◌==◌, ◌&&◌, ◌||◌, not, Bool, List, [], ◌∷◌, Option, Some, None, if◌then◌else◌}
use Rattle.mu_model_wire.specs.Packet.{Packet}
use Rattle.mu_model_image.specs.declared.Meta.{Meta}
use Rattle.mu_model_image.specs.Meta.{Image}
use Rattle.mu_model_node.specs.BlobMessages.{Parameters}
use Rattle.mu_model_node.specs.Slots.{Slots, is_full, held_count}
use Rattle.mu_model_node.specs.BlobServer.{Transfer, Link, Cut, Session, asleep, Serving, NoJob, Lacking, Whole, Server, BlobPhase, server_phase}
use Rattle.mu_model_node.specs.FlashWork.{page_octets}
use Rattle.mu_model_node.specs.declared.NodeConfig.{NodeConfig}
pub use Rattle.mu_model_node.specs.declared.Stored.{Stored}
pub use Rattle.mu_model_node.specs.declared.Stored.TheVariants.{Filling, Verified, Refused, Applied}

-- an update that was taken
pub record Job : Type 0 where
  -- the BLOB ID
  pub id : ℕ
  -- the index of the image
  pub index : ℕ
  pub meta : Meta
  pub ttl : ℕ
  -- the Update Timeout Base
  pub base : ℕ
  pub stored : Stored
  pub parameters : Option Parameters
  -- a place for each block; none without parameters
  pub held : Slots

pub record NodeDurable : Type 0 where
  -- how many records were written
  pub count : ℕ
  -- octets of a bank
  pub capacity : ℕ
  -- the active images by index
  pub images : List Image
  pub job : Option Job

pub record NodeState : Type 0 where
  pub durable : NodeDurable
  -- slots after the present record that this run may still use, 0 to 3
  pub fresh : ℕ
  pub session : Session
  -- the greatest moment that it was handed, in milliseconds
  pub moment : ℕ

-- a new node with one image: its first record has its banks, its second the image
abbrev pub new_node : (pages : ℕ) → Image → NodeDurable
new_node pages image = record { count = 2; capacity = page_octets * pages; images = image ∷ []; job = None }

-- with two images: a further record has the second
abbrev pub new_pair : (pages : ℕ) → Image → Image → NodeDurable
new_pair pages image second = record { count = 3; capacity = page_octets * pages; images = image ∷ second ∷ []; job = None }

-- after a boot from what was kept
abbrev pub restarted : NodeDurable → NodeState
restarted durable = record { durable = durable; fresh = 0; session = asleep; moment = 0 }

-- a packet is addressed to a node by its address or its group
abbrev pub is_addressee : NodeConfig → Packet → Bool
is_addressee config packet = packet.to == config.address || (not (config.group == 0) && packet.to == config.group)

-- ---- the update phase

-- each with its job (MshDFU, Update Phase)
pub data UpdatePhase : Type 0 where
  Idle : UpdatePhase
  TransferError : Job → UpdatePhase
  TransferActive : Job → UpdatePhase
  Verifying : Job → UpdatePhase
  Succeeded : Job → UpdatePhase
  Failed : Job → UpdatePhase
  Applying : Job → UpdatePhase

-- the phase on the wire
abbrev pub update_number : UpdatePhase → ℕ
update_number Idle = 0
update_number (TransferError j) = 1
update_number (TransferActive j) = 2
update_number (Verifying j) = 3
update_number (Succeeded j) = 4
update_number (Failed j) = 5
update_number (Applying j) = 6

abbrev pub link_phase : Job → Link → UpdatePhase
link_phase j Cut = TransferError j
link_phase j _ = TransferActive j

-- while blocks come, and once all are held
abbrev pub filling_phase : Job → Link → Option Parameters → UpdatePhase
filling_phase j link None = link_phase j link
filling_phase j link (Some p) = if is_full j.held then Verifying j else link_phase j link

abbrev pub stored_phase : Job → Link → Stored → UpdatePhase
stored_phase j link Filling = filling_phase j link j.parameters
stored_phase j link Verified = Succeeded j
stored_phase j link Refused = Failed j
stored_phase j link Applied = Applying j

abbrev pub job_phase : Link → Option Job → UpdatePhase
job_phase link None = Idle
job_phase link (Some j) = stored_phase j link j.stored

abbrev pub update_phase : NodeState → UpdatePhase
update_phase s = job_phase s.session.link s.durable.job

-- ---- the node's BLOB server

abbrev pub transfer_of : Job → Transfer
transfer_of j = record { id = j.id; size = j.meta.size; base = j.base; parameters = j.parameters; held = j.held }

-- what the node says of its job
abbrev pub serving_in : UpdatePhase → Serving
serving_in Idle = NoJob
serving_in (TransferError j) = Lacking (transfer_of j)
serving_in (TransferActive j) = Lacking (transfer_of j)
serving_in (Verifying j) = Whole (transfer_of j)
serving_in (Succeeded j) = Whole (transfer_of j)
serving_in (Failed j) = NoJob
serving_in (Applying j) = Whole (transfer_of j)

abbrev pub server_of : NodeState → Server
server_of s = record { capacity = s.durable.capacity; serving = serving_in (update_phase s); session = s.session; now = s.moment }

abbrev pub blob_phase : NodeState → BlobPhase
blob_phase s = server_phase (server_of s)

-- ---- what is read of a job

abbrev pub filling_blocks : Slots → Stored → ℕ
filling_blocks held Filling = held_count held
filling_blocks held _ = 0

-- how many blocks of a bank in filling are held; 0 where none is in filling
abbrev pub filling_count : Option Job → ℕ
filling_count None = 0
filling_count (Some j) = filling_blocks j.held j.stored
