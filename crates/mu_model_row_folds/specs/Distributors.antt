-- What counts for the rows of a distributor.
use Rattle.std.specs.Prelude.{ℕ, ◌≡◌, ◌+◌, ◌==◌, ◌&&◌, max, List, [], ◌∷◌, length, map, Option, Some, None, if◌then◌else◌, ⊤}
use Rattle.std.specs.List.{AllByRecursion}
use Rattle.mu_model_node.specs.Events.{NodeEvent, PacketComes, TimeComes}
use Rattle.mu_model_node.specs.Safe.{Happening, Done, CutPower, Torn}
use Rattle.mu_model_client.specs.Client.{Client}
use Rattle.mu_model_client.specs.Rows.{Row, phase_unknown}
use Rattle.mu_model_distributor.specs.Requests.{DistributionCancel}
use Rattle.mu_model_distributor.specs.DistMessages.{Taken, OfDistribution, OfReceiver, taken_at}
use Rattle.mu_model_distributor.specs.declared.DistPhase.TheVariants.{Idle}
use Rattle.mu_model_distributor.specs.DistState.{Receiver, DistDurable, DistState, transfer_id, offered, row_of}
use Rattle.mu_model_distributor.specs.Distribution.{meta_of}
use Rattle.mu_model_distributor.specs.DistTime.{has_turns}
use Rattle.mu_model_distributor.specs.DistEvents.{dist_step, dist_work}
use Rattle.mu_model_distributor.specs.Runs.{happened, state_after}
use Rattle.mu_model_distributor_laws.specs.Laws.{EventFits}
use Rattle.mu_model_distributor_laws.specs.Planned.{has_transfer}
use Rattle.mu_model_distributor_laws.specs.RunLaws.{HappeningFits, IsInOrder}
use Rattle.mu_model_rows.specs.Distributors.{may_cancel}
use Rattle.mu_model_row_folds.specs.Folds.{Counted, Told, Canceled, Folds, joined}
use Rattle.mu_model_row_folds.specs.Updaters.{none_counted, counted_in_time}

-- the rows that are kept, without progress
abbrev pub shown : Receiver → Row
shown r = row_of r 0

abbrev pub rows_kept : DistState → List Row
rows_kept s = map shown s.durable.receivers

-- ---- an event

-- what a receiver says counts for its row while the transfer is present, and a Distribution Cancel where it cancels
abbrev pub counted_said : DistDurable → (from : ℕ) → Option Taken → Receiver → List Counted
counted_said d from (Some (OfReceiver answer)) r = if has_transfer d.phase && (r.address == from) then Told answer ∷ [] else []
counted_said d from (Some (OfDistribution DistributionCancel)) r = if may_cancel d.phase then Canceled ∷ [] else []
counted_said d from taken r = []

-- a fifth silent round of Confirm, in the phases in which the client has time events
abbrev pub counted_waited : DistState → (now : ℕ) → Option Client → List (List Counted)
counted_waited s now None = map none_counted s.durable.receivers
counted_waited s now (Some c) = if has_turns s.durable.phase then map (counted_in_time c now) c.receivers else map none_counted s.durable.receivers

-- of an event, for each row
abbrev pub counted_by : (address : ℕ) → DistState → NodeEvent → (now : ℕ) → List (List Counted)
counted_by address s (PacketComes packet) now =
    if packet.to == address then map (counted_said s.durable packet.from (taken_at packet.payload)) s.durable.receivers
    else map none_counted s.durable.receivers
counted_by address s TimeComes now = counted_waited s (max s.moment now) s.client

-- ---- a run

-- an event that the power goes in counts where all its flash operations were done
abbrev pub counted_happening : (address : ℕ) → DistState → Happening → List (List Counted)
counted_happening address s (Done event now) = counted_by address s event now
counted_happening address s CutPower = map none_counted s.durable.receivers
counted_happening address s (Torn event now operations) =
    if operations == length (dist_work address s event now) then counted_by address s event now else map none_counted s.durable.receivers

abbrev pub counted_in : (address : ℕ) → DistState → List Happening → List (List Counted)
counted_in address s [] = map none_counted s.durable.receivers
counted_in address s (h ∷ hs) = joined (counted_happening address s h) (counted_in address (happened address s h) hs)

-- no other distribution begins, and the receivers of this one stay
abbrev pub IsOne : (address : ℕ) → DistState → List Happening → Type 0
IsOne address s [] = ⊤
IsOne address s (h ∷ hs) =
    (s.durable.phase ≡ Idle → ⊥) × ((happened address s h).durable.counter ≡ s.durable.counter) × IsOne address (happened address s h) hs

-- the rows of a distribution are the fold of what counted for them, whatever comes and whenever the power goes
abbrev pub DistributorRowsAreFolds : Type 0
DistributorRowsAreFolds =
    (address : ℕ) (s : DistState) (hs : List Happening) → IsInOrder address s → AllByRecursion HappeningFits hs → IsOne address s hs
    → Folds (transfer_id address s.durable) (meta_of (offered s.durable)) (rows_kept s) (counted_in address s hs) (rows_kept (state_after address s hs))

-- a row about whose receiver nothing is known
pub record IsNew (r : Receiver) : Type 0 where
  pub phase : r.phase ≡ phase_unknown
  pub update_status : r.update_status ≡ 0
  pub transfer_status : r.transfer_status ≡ 0

-- they are so where a distribution begins
abbrev pub RowsBeginUnknown : Type 0
RowsBeginUnknown =
    (address : ℕ) (s : DistState) (event : NodeEvent) (now : ℕ) → EventFits event → IsInOrder address s
    → (dist_step address s event now).next.durable.counter ≡ s.durable.counter + 1
    → AllByRecursion IsNew (dist_step address s event now).next.durable.receivers
