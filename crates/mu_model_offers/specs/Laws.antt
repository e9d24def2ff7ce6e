-- What a distributor offers over a whole run: under one BLOB ID one image's metadata, and to each receiver one index.
use Rattle.std.specs.Prelude.{ℕ, ◌≡◌, ◌<◌, ◌≤◌, ◌+◌, ◌*◌, ◌^◌, ◌⊎◌, List, [], ◌∷◌, length, Option, Some, None}
use Rattle.std.specs.List.{AllByRecursion}
use Rattle.mu_model_image.specs.declared.Meta.{Meta}
use Rattle.mu_model_image.specs.Meta.{IsMeta, meta_octets, meta_from}
use Rattle.mu_model_wire.specs.Packet.{Packet}
use Rattle.mu_model_node.specs.Events.{NodeEvent}
use Rattle.mu_model_node.specs.UpdateMessages.{UpdateStart, StartUpdate}
use Rattle.mu_model_node.specs.NodeMessages.{OfUpdate}
use Rattle.mu_model_node.specs.Safe.{Happening}
use Rattle.mu_model_client.specs.Rows.{Row, phase_unknown}
use Rattle.mu_model_distributor.specs.DistMessages.{Sent, ByClient}
use Rattle.mu_model_distributor.specs.declared.DistPhase.TheVariants.{Idle}
use Rattle.mu_model_distributor.specs.DistState.{Receiver, DistDurable, DistState, transfer_id, receiver_of}
use Rattle.mu_model_distributor.specs.DistEvents.{dist_step, live}
use Rattle.mu_model_distributor.specs.Runs.{state_after}
use Rattle.mu_model_distributor.specs.Sound.{AreReceivers, AddressesDiffer, IsDistDurable}
use Rattle.mu_model_distributor_laws.specs.Laws.{EventFits}
use Rattle.mu_model_distributor_laws.specs.Lists.{list_at}
use Rattle.mu_model_distributor_laws.specs.RunLaws.{HappeningFits, sent_in}
use Rattle.mu_model_distributor_laws.specs.RowsTold.{Heard, heard_in, InOrder}

-- ---- a run

-- what a distributor had when it began, and what happened to it since
pub record Run : Type 0 where
  pub address : ℕ
  pub durable : DistDurable
  -- slots after its record that it could still use
  pub fresh : ℕ
  pub happenings : List Happening

pub record IsRun (r : Run) : Type 0 where
  pub durable : IsDistDurable r.durable
  pub fresh : r.fresh ≤ 3
  pub happenings : AllByRecursion HappeningFits r.happenings

abbrev pub begin_of : Run → DistState
begin_of r = live r.address r.durable r.fresh

abbrev pub end_of : Run → DistState
end_of r = state_after r.address (begin_of r) r.happenings

-- what it keeps at the end
abbrev pub kept_of : Run → DistDurable
kept_of r = (end_of r).durable

-- what it sent, each with its destination
abbrev pub sent_of : Run → List (ℕ × Sent)
sent_of r = sent_in r.address (begin_of r) r.happenings

abbrev pub heard_of : Run → List Heard
heard_of r = heard_in r.address (begin_of r) r.happenings

-- this Update Start was sent to this address
abbrev pub HasStart : List (ℕ × Sent) → ℕ → UpdateStart → Type 0
HasStart [] to u = ⊥
HasStart ((at, sent) ∷ sends) to u = ((at ≡ to) × (sent ≡ ByClient (OfUpdate (StartUpdate u)))) ⊎ HasStart sends to u

-- this was heard
abbrev pub HasHeard : List Heard → Heard → Type 0
HasHeard heard h = InOrder (h ∷ []) heard

-- ---- one BLOB ID, one offer

-- under one BLOB ID all receivers are offered one image, and each one index
abbrev pub StartsAgree : Type 0
StartsAgree =
    (r : Run) (to other : ℕ) (u v : UpdateStart) → IsRun r → HasStart (sent_of r) to u → HasStart (sent_of r) other v → u.id ≡ v.id
    → (u.metadata ≡ v.metadata) × (to ≡ other → u.index ≡ v.index)

-- it is the one that answers were heard for
abbrev pub HeardAgrees : Type 0
HeardAgrees =
    (r : Run) (to : ℕ) (u : UpdateStart) (h : Heard) → IsRun r → HasStart (sent_of r) to u → HasHeard (heard_of r) h → h.id ≡ u.id
    → u.metadata ≡ meta_octets h.offer

-- also where no Update Start went out since the run began
abbrev pub HeardAgree : Type 0
HeardAgree = (r : Run) (g h : Heard) → IsRun r → HasHeard (heard_of r) g → HasHeard (heard_of r) h → g.id ≡ h.id → g.offer ≡ h.offer

-- a receiver that was added after the distribution was over
abbrev pub IsUnheard : DistDurable → Receiver → Type 0
IsUnheard d row = (d.phase ≡ Idle) × (row.phase ≡ phase_unknown)

-- a row of the present distribution has the index that its receiver was asked to update
abbrev pub RowsAgree : Type 0
RowsAgree =
    (r : Run) (to : ℕ) (u : UpdateStart) → IsRun r → HasStart (sent_of r) to u → u.id ≡ transfer_id r.address (kept_of r)
    → AllByRecursion (λ (row : Receiver). row.address ≡ to → (row.index ≡ u.index) ⊎ IsUnheard (kept_of r) row) (kept_of r).receivers

-- each receiver has an address of one node, and stands once
abbrev pub RowsStandOnce : Type 0
RowsStandOnce = (r : Run) → IsRun r → AreReceivers (kept_of r).receivers × AddressesDiffer (kept_of r).receivers

-- and so have the rows of each Receivers List that is sent then
abbrev pub ListAgrees : DistDurable → ℕ → UpdateStart → Option (List Row) → Type 0
ListAgrees d to u None = Unit {0}
ListAgrees d to u (Some shown) = AllByRecursion (λ (row : Row). row.address ≡ to → (row.index ≡ u.index) ⊎ IsUnheard d (receiver_of row)) shown

abbrev pub ListsAgree : Type 0
ListsAgree =
    (r : Run) (event : NodeEvent) (now to : ℕ) (u : UpdateStart) → IsRun r → EventFits event → HasStart (sent_of r) to u
    → u.id ≡ transfer_id r.address (kept_of r)
    → AllByRecursion (λ (p : Packet). ListAgrees (kept_of r) to u (list_at p.payload)) (dist_step r.address (end_of r) event now).sent

-- ---- each of its own

-- an Update Start of a distributor with this address
pub record IsOwnStart (address to : ℕ) (u : UpdateStart) : Type 0 where
  pub own : ℕ
  pub id : u.id ≡ address * 2 ^ 48 + own
  pub own_above : 1 ≤ own
  pub own_below : own < 2 ^ 48
  -- a unicast address
  pub to_above : 1 ≤ to
  pub to_below : to ≤ 0x7FFF
  pub index : u.index < 256
  pub ttl : u.ttl < 256
  pub base : u.base < 65536
  -- the image that is offered
  pub meta : Meta
  pub is_meta : IsMeta meta
  pub metadata : u.metadata ≡ meta_octets meta
  pub metadata_length : length u.metadata ≡ 40
  pub read : meta_from u.metadata ≡ Some meta

abbrev pub StartsAreOwn : Type 0
StartsAreOwn = (r : Run) (to : ℕ) (u : UpdateStart) → IsRun r → HasStart (sent_of r) to u → IsOwnStart r.address to u

-- an answer that it heard: it was heard for an image that was offered then
pub record IsOwnHeard (address : ℕ) (h : Heard) : Type 0 where
  pub own : ℕ
  pub id : h.id ≡ address * 2 ^ 48 + own
  pub own_above : 1 ≤ own
  pub own_below : own < 2 ^ 48
  pub is_meta : IsMeta h.offer

abbrev pub HeardIsOwn : Type 0
HeardIsOwn = (r : Run) (h : Heard) → IsRun r → HasHeard (heard_of r) h → IsOwnHeard r.address h
