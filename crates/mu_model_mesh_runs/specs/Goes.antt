-- What a `settle` goes through: in which worlds, and what comes to whom next.
use Rattle.std.specs.Prelude.{ℕ, suc, ◌≡◌, ◌⊎◌, ◌+◌, List, ◌∷◌, length, slice_get, Contains, Some}
use Rattle.mu_model_wire.specs.Packet.{Packet}
use Rattle.mu_model_mesh.specs.Mesh.{Mesh, addressees, moment_at}
use Rattle.mu_model_mesh.specs.MeshOutcomes.{MeshOutcome, mesh_begun}
use Rattle.mu_model_mesh.specs.Settle.{turn_time, turn_comes, EachComes, given_to, Turns}

-- what comes to the member of an address
pub data Coming : Type 0 where
  -- a time event, at a moment
  ByTime : (address ms : ℕ) → Coming
  -- a packet of the bag, by its number
  ByPacket : (number address : ℕ) → Coming

-- one after the other these addresses come to one of their outcomes; in the world x the next is that of this address
pub data NextOfEach (comes : Mesh → ℕ → List MeshOutcome) : List ℕ → Mesh → (address : ℕ) → (x : Mesh) → Type 0 where
  first : {address : ℕ} {others : List ℕ} {m : Mesh} → NextOfEach comes (address ∷ others) m address m
  later :
      {own address : ℕ} {others : List ℕ} {m mid x : Mesh} (text : List ℕ) → Contains (comes m own) (record { mesh = mid; text = text })
      → NextOfEach comes others mid address x → NextOfEach comes (own ∷ others) m address x

-- from packet `number` on all comes to its addressees; in the world x the next is packet `k`, at this address
pub data NextOfAll : (number : ℕ) → Mesh → (k address : ℕ) → (x : Mesh) → Type 0 where
  this :
      {number address : ℕ} {m x : Mesh} (packet : Packet) → slice_get m.nodes.bag number ≡ Some packet
      → NextOfEach (given_to number) (addressees m packet) m address x → NextOfAll number m number address x
  after :
      {number k address : ℕ} {m mid x : Mesh} (text : List ℕ) (packet : Packet) → slice_get m.nodes.bag number ≡ Some packet
      → EachComes (given_to number) (addressees m packet) m text mid → NextOfAll (number + 1) mid k address x → NextOfAll number m k address x

-- in a turn
pub data NextOfTurn (m : Mesh) : Coming → (x : Mesh) → Type 0 where
  in_time : {address : ℕ} {x : Mesh} → NextOfEach turn_comes m.order m address x → NextOfTurn m (ByTime address (moment_at x address + turn_time)) x
  in_packets :
      {k address : ℕ} {mid x : Mesh} (text : List ℕ) → EachComes turn_comes m.order m text mid → NextOfAll (length m.nodes.bag) mid k address x
      → NextOfTurn m (ByPacket k address) x

-- in a `settle` of so many turns: in the world x, which it comes to, this comes next
pub data GoesThrough : (turns : ℕ) → Mesh → Coming → (x : Mesh) → Type 0 where
  in_turn : {turns : ℕ} {m x : Mesh} {coming : Coming} → NextOfTurn m coming x → GoesThrough (suc turns) m coming x
  in_later : {turns : ℕ} {m mid x : Mesh} {coming : Coming} (text : List ℕ) → Turns m text mid → GoesThrough turns mid coming x → GoesThrough (suc turns) m coming x

-- a `settle` of some turns goes through this world, whether it is carried through or not
pub record InSettle (m mid : Mesh) : Type 0 where
  pub turns : ℕ
  pub coming : Coming
  pub through : GoesThrough turns m coming mid

-- a world after a line, or within the next
abbrev pub Within : Mesh → Mesh → Type 0
Within m mid = (mid ≡ m) ⊎ InSettle (mesh_begun m) mid
