-- A distributor's rows say what its receivers told it of the present distribution, over whole runs.
use Rattle.std.specs.Prelude.{ℕ, ◌≡◌, ◌==◌, ◌≤◌, ◌⊎◌, true, false, List, [], ◌∷◌, ◌++◌, Option, Some, if◌then◌else◌}
use Rattle.std.specs.List.{AllByRecursion}
pub use Rattle.mu_model_node.specs.Safe.{InOrder, none, here, later}
use Rattle.mu_model_image.specs.declared.Meta.{Meta}
use Rattle.mu_model_image.specs.Meta.{firmware_id, own_company}
use Rattle.mu_model_node.specs.UpdateMessages.{ShownJob, InformationStatus, UpdateStatus}
use Rattle.mu_model_node.specs.Events.{NodeEvent, PacketComes, TimeComes}
use Rattle.mu_model_node.specs.Safe.{Happening, Done, CutPower, Torn}
use Rattle.mu_model_client.specs.Answers.{Answer, FromUpdate}
use Rattle.mu_model_client.specs.Rows.{is_reported, transfer_canceled, apply_success, apply_failed, phase_unknown}
use Rattle.mu_model_distributor.specs.DistMessages.{Taken, OfReceiver, taken_at}
use Rattle.mu_model_distributor.specs.DistState.{Receiver, DistDurable, DistState, transfer_id, offered, is_at_rest}
use Rattle.mu_model_distributor.specs.Distribution.{meta_of}
use Rattle.mu_model_distributor.specs.DistEvents.{dist_step, live}
use Rattle.mu_model_distributor.specs.Runs.{happened, state_after}
use Rattle.mu_model_distributor.specs.Sound.{IsDistDurable, IsDistState}
use Rattle.mu_model_distributor_laws.specs.Planned.{has_transfer}
use Rattle.mu_model_distributor_laws.specs.RunLaws.{HappeningFits}

-- ---- what is offered stands

-- while a distribution goes on, its number, its settings and the images stay
abbrev pub OffersStand : Type 0
OffersStand =
    (address : ℕ) (s : DistState) (event : NodeEvent) (now : ℕ) → IsDistState s → is_at_rest s.durable.phase ≡ false
    → ((dist_step address s event now).next.durable.counter ≡ s.durable.counter)
    × ((dist_step address s event now).next.durable.settings ≡ s.durable.settings)
    × ((dist_step address s event now).next.durable.images ≡ s.durable.images)

-- ---- what was heard

-- an answer, its source, and what was offered under which BLOB ID when it came
pub record Heard : Type 0 where
  pub from : ℕ
  pub answer : Answer
  pub id : ℕ
  pub offer : Meta

-- an answer counts while the transfer is present; at rest there is no client to hear it, and in Canceling Update the round alone is told
abbrev pub heard_as : ℕ → DistDurable → ℕ → Option Taken → List Heard
heard_as address d from (Some (OfReceiver answer)) = if has_transfer d.phase then record { from = from; answer = answer; id = transfer_id address d; offer = meta_of (offered d) } ∷ [] else []
heard_as address d from _ = []

abbrev pub heard_event : ℕ → DistDurable → NodeEvent → List Heard
heard_event address d (PacketComes packet) = if packet.to == address then heard_as address d packet.from (taken_at packet.payload) else []
heard_event address d TimeComes = []

-- a torn event may have been heard, or not
abbrev pub heard_by : ℕ → DistDurable → Happening → List Heard
heard_by address d (Done event now) = heard_event address d event
heard_by address d (Torn event now operations) = heard_event address d event
heard_by address d CutPower = []

abbrev pub heard_in : ℕ → DistState → List Happening → List Heard
heard_in address s [] = []
heard_in address s (h ∷ hs) = heard_by address s.durable h ++ heard_in address (happened address s h) hs

-- ---- what a row says

-- the start found a row of this receiver in this phase
abbrev pub HasFound : List Receiver → ℕ → ℕ → ℕ → Type 0
HasFound [] address index phase = ⊥
HasFound (r ∷ more) address index phase = ((r.address ≡ address) × (r.index ≡ index) × (r.phase ≡ phase)) ⊎ HasFound more address index phase

-- the receiver told this phase of the transfer
pub record ToldPhase (id address phase : ℕ) (heard : List Heard) : Type 0 where
  pub status : ℕ
  pub job : ShownJob
  pub of : job.id ≡ id
  pub offer : Meta
  pub heard_it : InOrder (record { from = address; answer = FromUpdate (UpdateStatus status phase (Some job)); id = id; offer = offer } ∷ []) heard

-- the receiver told a phase of the transfer, and then showed the image that the transfer offers, at its index
pub record ToldSuccess (id address index : ℕ) (heard : List Heard) : Type 0 where
  pub phase : ℕ
  pub reported : is_reported phase ≡ true
  pub status : ℕ
  pub job : ShownJob
  pub of : job.id ≡ id
  pub earlier : Meta
  pub offer : Meta
  pub count : ℕ
  pub more : List (List ℕ)
  pub heard_both : InOrder
      (record { from = address; answer = FromUpdate (UpdateStatus status phase (Some job)); id = id; offer = earlier }
      ∷ record { from = address; answer = FromUpdate (InformationStatus count index (firmware_id own_company offer ∷ more)); id = id; offer = offer }
      ∷ []) heard

-- the start found a phase that the receiver had told, and then it showed the image
pub record ShownSince (id address index : ℕ) (rows : List Receiver) (heard : List Heard) : Type 0 where
  pub phase : ℕ
  pub reported : is_reported phase ≡ true
  pub was : HasFound rows address index phase
  pub offer : Meta
  pub count : ℕ
  pub more : List (List ℕ)
  pub heard_it : InOrder (record { from = address; answer = FromUpdate (InformationStatus count index (firmware_id own_company offer ∷ more)); id = id; offer = offer } ∷ []) heard

-- why a row is in its phase, since the run began with d: `found` and `shown_since` only where the distribution is the one that the
-- start found
pub data Told (d : DistDurable) (id number : ℕ) (heard : List Heard) (r : Receiver) : Type 0 where
  -- a verdict of the distributor's own
  verdict : ((r.phase ≡ transfer_canceled) ⊎ ((r.phase ≡ apply_failed) ⊎ (r.phase ≡ phase_unknown))) → Told d id number heard r
  found : number ≡ d.counter → HasFound d.receivers r.address r.index r.phase → Told d id number heard r
  told : is_reported r.phase ≡ true → ToldPhase id r.address r.phase heard → Told d id number heard r
  shown : r.phase ≡ apply_success → ToldSuccess id r.address r.index heard → Told d id number heard r
  shown_since : r.phase ≡ apply_success → number ≡ d.counter → ShownSince id r.address r.index d.receivers heard → Told d id number heard r

abbrev pub RowsAreToldIn : ℕ → DistDurable → List Heard → DistDurable → Type 0
RowsAreToldIn address d heard e = AllByRecursion (Told d (transfer_id address e) e.counter heard) e.receivers

abbrev pub RowsAreTold : Type 0
RowsAreTold =
    (address : ℕ) (d : DistDurable) (fresh : ℕ) (hs : List Happening) → IsDistDurable d → fresh ≤ 3 → AllByRecursion HappeningFits hs
    → RowsAreToldIn address d (heard_in address (live address d fresh) hs) (state_after address (live address d fresh) hs).durable
