-- What a client sends is its plan: each Update Start has the plan's numbers and metadata, and goes to a receiver with the index of its
-- image.
use Rattle.std.specs.Prelude.{ℕ, ◌≡◌, ◌⊎◌, List, [], ◌∷◌, map}
use Rattle.std.specs.List.{AllByRecursion}
use Rattle.mu_model_node.specs.UpdateMessages.{UpdateStart, StartUpdate}
use Rattle.mu_model_node.specs.NodeMessages.{Request, OfUpdate}
use Rattle.mu_model_client.specs.declared.Sending.{Sending}
use Rattle.mu_model_client.specs.Rows.{Row}
use Rattle.mu_model_client.specs.Client.{Purpose, Item, Says, Client, rows}
use Rattle.mu_model_client.specs.Lists.{metadata_of}
use Rattle.mu_model_client.specs.Due.{Due, due}

-- the addresses of the rows, each with the index of its image
abbrev pub address_and_index : Row → ℕ × ℕ
address_and_index row = (row.address, row.index)

abbrev pub receivers_of : Client → List (ℕ × ℕ)
receivers_of c = map address_and_index (rows c)

-- a receiver with this index
abbrev pub HasReceiver : List (ℕ × ℕ) → (address index : ℕ) → Type 0
HasReceiver [] address index = ⊥
HasReceiver (receiver ∷ more) address index = ((receiver.0 ≡ address) × (receiver.1 ≡ index)) ⊎ HasReceiver more address index

-- an Update Start of a plan
pub record IsStart (p : Sending) (purpose : Purpose) (receivers : List (ℕ × ℕ)) (to : ℕ) (u : UpdateStart) : Type 0 where
  pub ttl : u.ttl ≡ p.ttl
  pub base : u.base ≡ p.base
  pub id : u.id ≡ p.id
  pub metadata : u.metadata ≡ metadata_of purpose
  pub receiver : HasReceiver receivers to u.index

abbrev pub IsOfPlan : Sending → Purpose → List (ℕ × ℕ) → (to : ℕ) → Request → Type 0
IsOfPlan p purpose receivers to (OfUpdate (StartUpdate u)) = IsStart p purpose receivers to u
IsOfPlan p purpose receivers to _ = Unit {0}

abbrev pub IsItemOfPlan : Sending → Purpose → List (ℕ × ℕ) → Item → Type 0
IsItemOfPlan p purpose receivers (Says to request) = IsOfPlan p purpose receivers to request
IsItemOfPlan p purpose receivers _ = Unit {0}

abbrev pub QueueIsOfPlan : Client → Type 0
QueueIsOfPlan c = AllByRecursion (IsItemOfPlan c.sending c.purpose (receivers_of c)) c.queue

-- what a time event sends, and what it leaves to be sent
pub record SendsPlan (c : Client) (d : Due) : Type 0 where
  pub packets : AllByRecursion (λ (x : ℕ × Request). IsOfPlan c.sending c.purpose (receivers_of c) x.0 x.1) d.packets
  pub queue : AllByRecursion (IsItemOfPlan c.sending c.purpose (receivers_of c)) d.next.queue

abbrev pub ClientsSendTheirPlans : Type 0
ClientsSendTheirPlans = (c : Client) (image : List ℕ) (now : ℕ) → QueueIsOfPlan c → SendsPlan c (due c image now)
