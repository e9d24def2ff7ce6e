-- What a distributor's client sends is what the distribution offers: its Update Starts have the distribution's BLOB ID, whose number is
-- the counter in each record that a cut may leave, its TTL and timeout, the offered image's metadata, and each receiver's index.
use Rattle.std.specs.Prelude.{ℕ, ◌≡◌, ◌⊎◌, ◌≤◌, Bool, true, false, List, [], ◌∷◌, MatchOption}
use Rattle.std.specs.List.{AllByRecursion}
use Rattle.mu_model_image.specs.Meta.{meta_octets}
use Rattle.mu_model_node.specs.UpdateMessages.{UpdateStart, StartUpdate}
use Rattle.mu_model_node.specs.NodeMessages.{Request, OfUpdate}
use Rattle.mu_model_node.specs.Events.{NodeEvent}
use Rattle.mu_model_client.specs.declared.Sending.{Sending}
use Rattle.mu_model_client.specs.Rows.{Row}
use Rattle.mu_model_client.specs.Client.{Purpose, Item, Says, Client, rows}
use Rattle.mu_model_client.specs.Lists.{metadata_of}
use Rattle.mu_model_client.specs.Told.{is_present}
use Rattle.mu_model_client.specs.Begin.{purpose_of}
use Rattle.mu_model_distributor.specs.DistMessages.{Sent, ByClient}
use Rattle.mu_model_distributor.specs.declared.DistPhase.{DistPhase}
use Rattle.mu_model_distributor.specs.declared.DistPhase.TheVariants.{TransferActive, TransferSuccess, ApplyingUpdate, TransferSuspended}
use Rattle.mu_model_distributor.specs.DistState.{Receiver, DistDurable, DistState, transfer_id, offered}
use Rattle.mu_model_distributor.specs.Distribution.{meta_of, plan_of}
use Rattle.mu_model_distributor.specs.DistEvents.{dist_step, dist_passed, restarted}
use Rattle.mu_model_distributor.specs.Sound.{IsDistState}
use Rattle.mu_model_distributor_laws.specs.Laws.{EventFits}

-- ---- a client that does what the distribution asks

-- a row has this address and this index
abbrev pub HasRow : List Row → ℕ → ℕ → Type 0
HasRow [] to index = ⊥
HasRow (row ∷ more) to index = ((row.address ≡ to) × (row.index ≡ index)) ⊎ HasRow more to index

-- an Update Start of a client
pub record IsStart (p : Sending) (purpose : Purpose) (given : List Row) (to : ℕ) (u : UpdateStart) : Type 0 where
  pub ttl : u.ttl ≡ p.ttl
  pub base : u.base ≡ p.base
  pub id : u.id ≡ p.id
  pub metadata : u.metadata ≡ metadata_of purpose
  pub receiver : HasRow given to u.index

abbrev pub IsAsked : Sending → Purpose → List Row → ℕ → Request → Type 0
IsAsked p purpose given to (OfUpdate (StartUpdate u)) = IsStart p purpose given to u
IsAsked p purpose given to _ = Unit {0}

abbrev pub IsItem : Sending → Purpose → List Row → Item → Type 0
IsItem p purpose given (Says to request) = IsAsked p purpose given to request
IsItem p purpose given _ = Unit {0}

pub record DoesPlan (address : ℕ) (d : DistDurable) (c : Client) : Type 0 where
  pub sending : c.sending ≡ (plan_of address d).sending
  pub purpose : c.purpose ≡ purpose_of (plan_of address d)
  pub queue : AllByRecursion (IsItem c.sending c.purpose (rows c)) c.queue

-- whether the transfer is present: not at rest, and not once it is being canceled (this profile)
abbrev pub has_transfer : DistPhase → Bool
has_transfer TransferActive = true
has_transfer TransferSuccess = true
has_transfer ApplyingUpdate = true
has_transfer TransferSuspended = true
has_transfer _ = false

-- so it is for the client
abbrev pub StandsIn : DistPhase → Client → Type 0
StandsIn phase c = is_present c.place ≡ has_transfer phase

pub record IsPlanned (address : ℕ) (s : DistState) : Type 0 where
  pub plan : MatchOption s.client (Unit {0}) (DoesPlan address s.durable)
  pub place : MatchOption s.client (Unit {0}) (StandsIn s.durable.phase)

-- the client does so from each boot on, in every event
abbrev pub EventsKeepPlanned : Type 0
EventsKeepPlanned =
    (address : ℕ) (s : DistState) (event : NodeEvent) (now : ℕ) → EventFits event → IsDistState s → IsPlanned address s
    → IsPlanned address (dist_step address s event now).next

abbrev pub BootsArePlanned : Type 0
BootsArePlanned = (address : ℕ) (d : DistDurable) → IsPlanned address (restarted address d)

-- ---- what is offered

abbrev pub HasReceiver : List Receiver → ℕ → ℕ → Type 0
HasReceiver [] to index = ⊥
HasReceiver (r ∷ more) to index = ((r.address ≡ to) × (r.index ≡ index)) ⊎ HasReceiver more to index

pub record IsOffered (address : ℕ) (d : DistDurable) (to : ℕ) (u : UpdateStart) : Type 0 where
  pub ttl : u.ttl ≡ d.settings.ttl
  pub base : u.base ≡ d.settings.base
  pub id : u.id ≡ transfer_id address d
  pub metadata : u.metadata ≡ meta_octets (meta_of (offered d))
  pub receiver : HasReceiver d.receivers to u.index

abbrev pub IsSentAs : ℕ → DistDurable → ℕ × Sent → Type 0
IsSentAs address d (to, ByClient (OfUpdate (StartUpdate u))) = IsOffered address d to u
IsSentAs address d _ = Unit {0}

-- each Update Start is what each durable state that the event goes through offers: so its number is the counter in each record that a
-- cut may leave
abbrev pub StartsAreOffered : Type 0
StartsAreOffered =
    (address : ℕ) (s : DistState) (event : NodeEvent) (now : ℕ) → EventFits event → IsDistState s → IsPlanned address s
    → AllByRecursion (λ d. AllByRecursion (IsSentAs address d) (dist_step address s event now).sends) (dist_passed address s event now)

-- and the counter never falls
abbrev pub CountersRise : Type 0
CountersRise = (address : ℕ) (s : DistState) (event : NodeEvent) (now : ℕ) → s.durable.counter ≤ (dist_step address s event now).next.durable.counter
