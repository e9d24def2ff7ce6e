-- Worked rows: the flash operations of an event, whole and torn, and of one that would wear a flash out.
use Rattle.std.specs.Prelude.{ℕ, ◌≡◌, Bool, true, false, List, [], ◌∷◌, ◌++◌, map}
use Rattle.mu_model_flash.specs.declared.Pattern.TheVariants.{Old as OldBits, New as NewBits, Made as MadeBits}
use Rattle.mu_model_node.specs.Events.{last_count}
use Rattle.mu_model_node.specs.Worked.{id7, metadata_at}
use Rattle.mu_model_script.specs.Event.{Event, Node, Distributor, Say, Deliver, Time, Tear}
use Rattle.mu_model_script.specs.Tokens.{Hex}
use Rattle.mu_model_world.specs.World.{Member, World}
use Rattle.mu_model_mesh.specs.Mesh.{Mesh, new_mesh}
use Rattle.mu_model_mesh.specs.MeshJudged.{is_past}
use Rattle.mu_model_mesh.specs.MeshWorked.{after, image_61}
use Rattle.mu_model_mesh_runs.specs.Goes.{ByTime, ByPacket}
use Rattle.mu_model_mesh_runs.specs.Stops.{would_wear}
use Rattle.mu_model_mesh_runs.specs.Work.{Spent, spent_at, operations_of}

-- an Update Start of version 2 to the node at 0002, from a stranger, and a Firmware Update Information Get
abbrev pub update_start : List ℕ
update_start = 0x83 ∷ 0x0D ∷ 5 ∷ 0 ∷ 0 ∷ id7 ++ 0 ∷ metadata_at 2

abbrev pub scene : Mesh
scene = after new_mesh (Node 2 0 1 1 (Hex image_61) ∷ Distributor 3 1 ∷ Say 9 2 update_start ∷ Say 9 2 (0x83 ∷ 0x08 ∷ 0 ∷ 1 ∷ []) ∷ [])

-- with a power cut at this operation that leaves the new bits
abbrev pub torn_scene : ℕ → Mesh
torn_scene n = after scene (Tear 2 n NewBits ∷ [])

-- each node has written its last record
abbrev pub worn_member : ℕ × Member → ℕ × Member
worn_member entry = (entry.0, record (entry.1) { state = record (entry.1.state) { durable = record (entry.1.state.durable) { count = last_count } } })

abbrev pub worn_scene : Mesh
worn_scene = record scene { nodes = record (scene.nodes) { members = map worn_member scene.nodes.members } }

pub record FlashOperations : Type 0 where
  -- the Update Start writes a record, after a boot in two operations
  pub whole : operations_of scene (ByPacket 0 2) ≡ 2
  pub read_only : operations_of scene (ByPacket 1 2) ≡ 0
  pub time : operations_of scene (ByTime 2 100) ≡ 0
  pub distributor : operations_of scene (ByTime 3 100) ≡ 0
  -- a torn event counts the number of the operation at which the power goes; one with fewer runs whole
  pub torn : operations_of (torn_scene 1) (ByPacket 0 2) ≡ 1
  pub at_last : operations_of (torn_scene 2) (ByPacket 0 2) ≡ 2
  pub not_torn : operations_of (torn_scene 3) (ByPacket 0 2) ≡ 2
  -- all at one address are counted
  pub joined : map (λ address. spent_at address (record { address = 2; operations = 3 } ∷ record { address = 3; operations = 1 } ∷ record { address = 2; operations = 2 } ∷ [])) (2 ∷ 3 ∷ 4 ∷ []) ≡ 5 ∷ 1 ∷ 0 ∷ []

pub record WornOut : Type 0 where
  pub writes : would_wear worn_scene (ByPacket 0 2) ≡ true
  pub reads : would_wear worn_scene (ByPacket 1 2) ≡ false
  pub before : would_wear scene (ByPacket 0 2) ≡ false
