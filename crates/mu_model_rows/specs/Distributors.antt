-- What each event makes of the rows of a distributor, exactly, while a distribution goes on.
use Rattle.std.specs.Prelude.{ℕ, ◌≡◌, ◌==◌, ◌&&◌, max, Bool, true, false, List, map, Option, Some, None, if◌then◌else◌}
use Rattle.mu_model_node.specs.Events.{NodeEvent, PacketComes, TimeComes}
use Rattle.mu_model_client.specs.Answers.{Answer}
use Rattle.mu_model_client.specs.Rows.{row_after, row_canceled}
use Rattle.mu_model_client.specs.Client.{Client, Receiver as ClientReceiver}
use Rattle.mu_model_distributor.specs.Requests.{DistributionCancel}
use Rattle.mu_model_distributor.specs.DistMessages.{Taken, OfDistribution, OfReceiver, taken_at}
use Rattle.mu_model_distributor.specs.declared.DistPhase.{DistPhase}
use Rattle.mu_model_distributor.specs.declared.DistPhase.TheVariants.{TransferActive, TransferSuccess, TransferSuspended}
use Rattle.mu_model_distributor.specs.DistState.{Receiver, DistDurable, DistState, transfer_id, offered, is_at_rest, row_of}
use Rattle.mu_model_distributor.specs.Distribution.{meta_of}
use Rattle.mu_model_distributor.specs.DistTime.{has_turns}
use Rattle.mu_model_distributor.specs.DistEvents.{dist_step}
use Rattle.mu_model_distributor.specs.Sound.{IsDistState}
use Rattle.mu_model_distributor_laws.specs.Laws.{EventFits}
use Rattle.mu_model_distributor_laws.specs.Planned.{has_transfer, IsPlanned}
use Rattle.mu_model_rows.specs.Clients.{phase_in_time}

-- ---- a packet

-- what its receiver says counts while the transfer is present
abbrev pub phase_heard : (address : ℕ) → DistDurable → (from : ℕ) → Answer → Receiver → ℕ
phase_heard address d from answer r =
    if has_transfer d.phase && (r.address == from) then (row_after (transfer_id address d) (meta_of (offered d)) (row_of r 0) answer).phase else r.phase

-- the phases in which a Distribution Cancel cancels
abbrev pub may_cancel : DistPhase → Bool
may_cancel TransferActive = true
may_cancel TransferSuccess = true
may_cancel TransferSuspended = true
may_cancel _ = false

abbrev pub phase_said : (address : ℕ) → DistDurable → (from : ℕ) → Option Taken → Receiver → ℕ
phase_said address d from (Some (OfReceiver answer)) r = phase_heard address d from answer r
phase_said address d from (Some (OfDistribution DistributionCancel)) r = if may_cancel d.phase then (row_canceled (row_of r 0)).phase else r.phase
phase_said address d from taken r = r.phase

-- ---- time

abbrev pub phase_kept : Receiver → ℕ
phase_kept r = r.phase

-- the client's, in the phases in which it has time events
abbrev pub phases_waited : DistState → (now : ℕ) → Option Client → List ℕ
phases_waited s now None = map phase_kept s.durable.receivers
phases_waited s now (Some c) = if has_turns s.durable.phase then map (phase_in_time c now) c.receivers else map phase_kept s.durable.receivers

-- ---- any event

abbrev pub phases_after : (address : ℕ) → DistState → NodeEvent → (now : ℕ) → List ℕ
phases_after address s (PacketComes packet) now =
    if packet.to == address then map (phase_said address s.durable packet.from (taken_at packet.payload)) s.durable.receivers
    else map phase_kept s.durable.receivers
phases_after address s TimeComes now = phases_waited s (max s.moment now) s.client

-- the phases of the rows after an event, in their order: at rest a distribution may begin, with all rows in Phase Unknown, and receivers be
-- added or deleted, as other laws say
abbrev pub RowsAreExact : Type 0
RowsAreExact =
    (address : ℕ) (s : DistState) (event : NodeEvent) (now : ℕ) → EventFits event → IsDistState s → IsPlanned address s → is_at_rest s.durable.phase ≡ false
    → map phase_kept (dist_step address s event now).next.durable.receivers ≡ phases_after address s event now
