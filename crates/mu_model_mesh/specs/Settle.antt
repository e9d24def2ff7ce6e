-- The line `settle`: turns in which nothing is lost. In a turn first each member, in the script's order, has its moment grow by 100
-- milliseconds and gets a time event. When all have had theirs, each packet that was sent in the turn comes once to each of its
-- addressees, in the order of the bag, answers included; packets to no member are passed over (this profile).
use Rattle.std.specs.Prelude.{ℕ, zero, suc, ◌≡◌, ◌≤◌, ◌+◌, List, [], ◌∷◌, ◌++◌, length, slice_get, Contains, Some}
use Rattle.mu_model_wire.specs.Packet.{Packet}
use Rattle.mu_model_mesh.specs.Mesh.{Mesh, addressees, moment_at}
use Rattle.mu_model_mesh.specs.MeshOutcomes.{MeshOutcome, given, time_comes}

-- milliseconds of a turn
abbrev pub turn_time : ℕ
turn_time = 100

abbrev pub turn_comes : Mesh → (address : ℕ) → List MeshOutcome
turn_comes m address = time_comes m address (moment_at m address + turn_time)

-- one after the other each of these addresses comes to one of its outcomes
abbrev pub EachComes : (Mesh → ℕ → List MeshOutcome) → List ℕ → Mesh → (text : List ℕ) → (next : Mesh) → Type 0
EachComes comes [] m text next = (text ≡ []) × (next ≡ m)
EachComes comes (address ∷ others) m text next =
    (mid : Mesh) × (first : List ℕ) × (rest : List ℕ) × Contains (comes m address) (record { mesh = mid; text = first })
    × EachComes comes others mid rest next × (text ≡ first ++ rest)

abbrev pub given_to : ℕ → Mesh → ℕ → List MeshOutcome
given_to number m address = given m number address

-- from packet `number` on all that the bag has, and what is sent meanwhile, comes to its addressees
pub data AllComes : (number : ℕ) → Mesh → (text : List ℕ) → (next : Mesh) → Type 0 where
  none_left : {number : ℕ} {m : Mesh} → length m.nodes.bag ≤ number → AllComes number m [] m
  comes :
      {number : ℕ} {m mid next : Mesh} (first rest : List ℕ) (packet : Packet) → slice_get m.nodes.bag number ≡ Some packet
      → EachComes (given_to number) (addressees m packet) m first mid → AllComes (number + 1) mid rest next
      → AllComes number m (first ++ rest) next

-- a turn
pub record Turns (m : Mesh) (text : List ℕ) (next : Mesh) : Type 0 where
  pub mid : Mesh
  pub last : Mesh
  pub first : List ℕ
  pub rest : List ℕ
  pub time : EachComes turn_comes m.order m first mid
  pub packets : AllComes (length m.nodes.bag) mid rest last
  pub counted : next ≡ record last { turns = last.turns + 1 }
  pub printed : text ≡ first ++ rest

abbrev pub Settles : (turns : ℕ) → Mesh → (text : List ℕ) → (next : Mesh) → Type 0
Settles zero m text next = (text ≡ []) × (next ≡ m)
Settles (suc turns) m text next =
    (mid : Mesh) × (first : List ℕ) × (rest : List ℕ) × Turns m first mid × Settles turns mid rest next × (text ≡ first ++ rest)
