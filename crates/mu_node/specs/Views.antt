-- What callers see of a node over flash: which states of the model's node it shows, and which its flash represents (this profile).
use Rattle.std.specs.Prelude.{◌≡◌, ℕ, Option}
use Rattle.mu_model_flash.specs.Flash.{Seen}
use Rattle.mu_model_record.specs.Store.{StoreState}
use Rattle.mu_model_node.specs.declared.NodeConfig.{NodeConfig}
use Rattle.mu_model_node.specs.NodeState.{NodeState}
use Rattle.mu_model_node.specs.Sound.{IsNodeState}
use Rattle.mu_model_serving.specs.Laws.{IsLinked}
use Rattle.mu_model_represents.specs.RepresentsNode.{IsNodeOf}
use Rattle.mu_model_shown_node.specs.Shown.{InMemory, IsShown}
use Rattle.mu_store.specs.declared.faults.StoreFault.{StoreFault}
use Rattle.mu_place.specs.declared.place.Place.{Place}
use Rattle.mu_place.specs.Place.{place_flash, place_seen, place_fresh, PlaceHolds}
use Rattle.mu_blobsrv.specs.declared.server.BlobServer.{BlobServer}
use Rattle.mu_blobsrv.specs.Views.{place_of as place_of_server, fault_of as fault_of_server, session_of}
use Rattle.mu_note.specs.declared.node.NodeNote.{NodeNote as NoteHere}
use Rattle.mu_node.specs.declared.node.Node.{Node}
use Rattle.mu_node.specs.Memory.{memory_with}

-- the BLOB server that it owns, and its note
abbrev pub server_in : {F : Type 0} {g : _} → Node F g → BlobServer F g
server_in node = node.server

abbrev pub note_in : {F : Type 0} {g : _} → Node F g → NoteHere
note_in node = node.note

abbrev pub place_in : {F : Type 0} {g : _} → Node F g → Place F g
place_in node = place_of_server (server_in node)

-- the flash that it owns, as it is seen
abbrev pub flash_of : {F : Type 0} {g : _} → Node F g → F
flash_of node = place_flash (place_in node)

abbrev pub seen_of : {F : Type 0} {g : _} → (F → Seen) → Node F g → Seen
seen_of seen node = place_seen seen (place_in node)

-- the fault that it keeps
abbrev pub fault_in : {F : Type 0} {g : _} → Node F g → Option StoreFault
fault_in node = fault_of_server (server_in node)

-- where it stands in the mesh
abbrev pub config_of : {F : Type 0} {g : _} → Node F g → NodeConfig
config_of node = node.config

abbrev pub moment_of : {F : Type 0} {g : _} → Node F g → ℕ
moment_of node = node.moment

abbrev pub memory_of : {F : Type 0} {g : _} → Node F g → InMemory
memory_of node = memory_with (server_in node) (note_in node)

-- It is in this state, as far as its memory tells: all but the octets of images and of held blocks.
pub record Shows {F : Type 0} {g : _} (node : Node F g) (n : NodeState) : Type 0 where
  pub kept : IsShown (memory_of node) n.durable
  pub fresh : n.fresh ≡ place_fresh (place_in node)
  pub session : n.session ≡ session_of (server_in node)
  pub moment : n.moment ≡ moment_of node
  -- a state that a node can be in
  pub sound : IsNodeState n
  pub linked : IsLinked n

-- It is in this state, and its flash represents what is kept, told and with the power on.
pub record Holds {F : Type 0} {g : _} (seen : F → Seen) (node : Node F g) (n : NodeState) : Type 0 where
  pub shows : Shows node n
  pub store : StoreState
  pub holds : PlaceHolds seen (place_in node) store
  pub represents : IsNodeOf store (memory_of node).part (memory_of node).note n.durable
