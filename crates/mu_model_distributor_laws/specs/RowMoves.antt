-- How the rows of a distributor change: what the cause of each change is.
use Rattle.std.specs.Prelude.{ℕ, ◌≡◌, ◌<◌, ◌+◌, true, false, List, [], ◌∷◌, map, Some, ⊤}
pub use Rattle.mu_model_client.specs.Places.{Each}
use Rattle.mu_model_node.specs.Events.{NodeEvent, PacketComes, TimeComes}
use Rattle.mu_model_client.specs.Answers.{Answer}
use Rattle.mu_model_client.specs.Rows.{Row, row_after, rank, transfer_canceled, apply_success, apply_failed}
use Rattle.mu_model_distributor.specs.declared.Settings.{Settings}
use Rattle.mu_model_distributor.specs.Requests.{Entry, ReceiversAdd, ReceiversDeleteAll, DistributionStart, DistributionCancel}
use Rattle.mu_model_distributor.specs.DistMessages.{Taken, OfDistribution, OfReceiver, taken_at}
use Rattle.mu_model_distributor.specs.declared.DistPhase.TheVariants.{Idle}
use Rattle.mu_model_distributor.specs.DistState.{Receiver, DistDurable, DistState, transfer_id, offered, is_at_rest, receiver_of}
use Rattle.mu_model_distributor.specs.Receivers.{added}
use Rattle.mu_model_distributor.specs.Distribution.{meta_of, renewed}
use Rattle.mu_model_distributor.specs.DistEvents.{dist_step}
use Rattle.mu_model_distributor.specs.Sound.{IsDistState}
use Rattle.mu_model_distributor_laws.specs.Planned.{has_transfer, IsPlanned}
use Rattle.mu_model_distributor_laws.specs.Laws.{EventFits}

-- an event is a packet to the distributor that is this to it
abbrev pub Says : ℕ → NodeEvent → ℕ → Taken → Type 0
Says address (PacketComes packet) from taken = (packet.to ≡ address) × (packet.from ≡ from) × (taken_at packet.payload ≡ Some taken)
Says address TimeComes from taken = ⊥

-- how a row's phase changes within a distribution
pub data RowChange (address : ℕ) (d : DistDurable) (event : NodeEvent) (old new : Receiver) : Type 0 where
  stands : new.phase ≡ old.phase → RowChange address d event old new
  -- an answer of the receiver itself, while the transfer is present, by what it says of its transfer and image
  told :
      (row : Row) (answer : Answer) → has_transfer d.phase ≡ true → receiver_of row ≡ old → Says address event old.address (OfReceiver answer)
      → new.phase ≡ (row_after (transfer_id address d) (meta_of (offered d)) row answer).phase → RowChange address d event old new
  -- canceled while it wasn't final
  canceled : (from : ℕ) → Says address event from (OfDistribution DistributionCancel) → rank old.phase < 5 → new.phase ≡ transfer_canceled → RowChange address d event old new
  -- asked to confirm in vain
  unconfirmed : event ≡ TimeComes → (old.phase ≡ apply_success → ⊥) → new.phase ≡ apply_failed → RowChange address d event old new

-- a row within a distribution
pub record RowMoves (address : ℕ) (d : DistDurable) (event : NodeEvent) (old new : Receiver) : Type 0 where
  pub address_same : new.address ≡ old.address
  pub index_same : new.index ≡ old.index
  pub phase_change : RowChange address d event old new

-- what an event may do to the receivers
pub data ReceiversMove (address : ℕ) (d : DistDurable) (event : NodeEvent) (e : DistDurable) : Type 0 where
  -- a distribution begins under the next number, and nothing is known of its receivers
  begins : (from : ℕ) (ask : Settings) → Says address event from (OfDistribution (DistributionStart (Some ask))) → is_at_rest d.phase ≡ true
      → e.counter ≡ d.counter + 1 → e.settings ≡ ask → e.receivers ≡ map renewed d.receivers → ReceiversMove address d event e
  -- receivers are added or go while there is no distribution
  adds : (from : ℕ) (entries : List Entry) → Says address event from (OfDistribution (ReceiversAdd entries)) → d.phase ≡ Idle
      → e.counter ≡ d.counter → e.receivers ≡ added d.receivers entries → ReceiversMove address d event e
  empties : (from : ℕ) → Says address event from (OfDistribution ReceiversDeleteAll) → d.phase ≡ Idle
      → e.counter ≡ d.counter → e.receivers ≡ [] → ReceiversMove address d event e
  -- or each row stands or changes by its cause
  moves : e.counter ≡ d.counter → Each (RowMoves address d event) d.receivers e.receivers → ReceiversMove address d event e

abbrev pub RowsMoveByCause : Type 0
RowsMoveByCause =
    (address : ℕ) (s : DistState) (event : NodeEvent) (now : ℕ) → EventFits event → IsDistState s → IsPlanned address s
    → ReceiversMove address s.durable event (dist_step address s event now).next.durable
