-- What the Receivers Lists of a distributor say, read from their octets: rows as they stand.
use Rattle.std.specs.Prelude.{ℕ, ◌≡◌, ◌≤◌, ◌*◌, ◌==◌, List, map, take, drop, Option, Some, None, Result, Ok, Err, if◌then◌else◌}
use Rattle.std.specs.List.{AllByRecursion}
use Rattle.mu_model_wire.specs.Fields.{Shown, Message}
use Rattle.mu_model_wire.specs.Names.{address, index, phase, update_status, transfer_status, progress}
use Rattle.mu_model_wire.specs.Packet.{Packet}
use Rattle.mu_model_wire.specs.Reading.{value_of, message_at}
use Rattle.mu_model_wire.specs.Table.{rows}
use Rattle.mu_model_wire.specs.declared.Refusal.{Refusal}
use Rattle.mu_model_node.specs.Events.{NodeEvent}
use Rattle.mu_model_node.specs.Safe.{Happening}
use Rattle.mu_model_client.specs.Rows.{Row}
use Rattle.mu_model_distributor.specs.DistState.{DistDurable, DistState, transfer_id, rows_of, receiver_of}
use Rattle.mu_model_distributor.specs.Receivers.{rounded}
use Rattle.mu_model_distributor.specs.DistEvents.{dist_step, live}
use Rattle.mu_model_distributor.specs.Runs.{state_after}
use Rattle.mu_model_distributor.specs.Sound.{IsDistDurable, IsDistState}
use Rattle.mu_model_distributor_laws.specs.Laws.{EventFits}
use Rattle.mu_model_distributor_laws.specs.RunLaws.{HappeningFits}
use Rattle.mu_model_distributor_laws.specs.RowsTold.{Told, heard_in}

-- ---- what a reader reads

-- progress is told in halves of a per cent
abbrev pub row_told : List Shown → Row
row_told entry = record {
  address = value_of address entry;
  index = value_of index entry;
  phase = value_of phase entry;
  update_status = value_of update_status entry;
  transfer_status = value_of transfer_status entry;
  progress = 2 * value_of progress entry;
}

-- the rows that a message tells of, where it is a Receivers List
abbrev pub list_of : Message → Option (List Row)
list_of m = if m.opcode == 0x8315 then Some (map row_told m.entries) else None

abbrev pub list_in : Result Message Refusal → Option (List Row)
list_in (Ok m) = list_of m
list_in (Err e) = None

abbrev pub list_at : List ℕ → Option (List Row)
list_at payload = list_in (message_at rows payload)

-- ---- what a distributor tells

-- rows of the state, from one on, as many as are asked for and fit
abbrev pub ShowsRows : DistState → Option (List Row) → Type 0
ShowsRows s None = Unit {0}
ShowsRows s (Some shown) = (first : ℕ) × (limit : ℕ) × (shown ≡ take limit (drop first (map rounded (rows_of s))))

abbrev pub ListsShowRows : Type 0
ListsShowRows =
    (from : ℕ) (s : DistState) (event : NodeEvent) (now : ℕ) → EventFits event → IsDistState s
    → AllByRecursion (λ (p : Packet). ShowsRows s (list_at p.payload)) (dist_step from s event now).sent

-- each row of a list is as its receiver told it of the present distribution
abbrev pub TellsRows : ℕ → DistDurable → (fresh : ℕ) → List Happening → Option (List Row) → Type 0
TellsRows from d fresh hs None = Unit {0}
TellsRows from d fresh hs (Some shown) =
    AllByRecursion (λ row. Told d
    (transfer_id from (state_after from (live from d fresh) hs).durable)
    (state_after from (live from d fresh) hs).durable.counter
    (heard_in from (live from d fresh) hs)
    (receiver_of row)) shown

abbrev pub ListsAreTold : Type 0
ListsAreTold =
    (from : ℕ) (d : DistDurable) (fresh : ℕ) (hs : List Happening) (event : NodeEvent) (now : ℕ)
    → IsDistDurable d → fresh ≤ 3 → AllByRecursion HappeningFits hs → EventFits event
    → AllByRecursion (λ (p : Packet). TellsRows from d fresh hs (list_at p.payload)) (dist_step from (state_after from (live from d fresh) hs) event now).sent
