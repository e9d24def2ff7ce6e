-- Where the statuses stand by which the receivers of a distributor are dropped.
use Rattle.std.specs.Prelude.{ℕ, ◌≡◌, ◌==◌, ◌≤◌, ◌||◌, Bool, List, [], ◌∷◌, length, map, Option, Some, None, MatchOption, if◌then◌else◌}
use Rattle.std.specs.List.{AllByRecursion}
use Rattle.mu_model_node.specs.Safe.{Happening, Done, CutPower, Torn}
use Rattle.mu_model_client.specs.declared.Dropped.TheVariants.{Status}
use Rattle.mu_model_client.specs.Rows.{Row}
use Rattle.mu_model_client.specs.Client.{Standing, Gone, Receiver as ClientReceiver, Client}
use Rattle.mu_model_distributor.specs.DistState.{Receiver, DistDurable, DistState}
use Rattle.mu_model_distributor.specs.DistEvents.{dist_step, dist_work, live}
use Rattle.mu_model_distributor.specs.Runs.{happened, state_after}
use Rattle.mu_model_distributor.specs.Sound.{IsDistDurable}
use Rattle.mu_model_distributor_laws.specs.RunLaws.{HappeningFits}
use Rattle.mu_model_row_folds.specs.Distributors.{IsOne}

-- ---- a drop's status in its place

-- update status and transfer status
abbrev pub both_in : Row → ℕ × ℕ
both_in row = (row.update_status, row.transfer_status)

abbrev pub both_kept : Receiver → ℕ × ℕ
both_kept r = (r.update_status, r.transfer_status)

-- check, start and apply, whose messages are an update's: the other steps that drop by a status have a BLOB's
abbrev pub is_of_update : (step : ℕ) → Bool
is_of_update step = (step == 1) || ((step == 2) || (step == 9))

-- a receiver that stands dropped by a status has it as update status or as transfer status, by the step; else both stay
abbrev pub placed : Standing → ℕ × ℕ → ℕ × ℕ
placed (Gone (Status step status)) both = if is_of_update step then (status, both.1) else (both.0, status)
placed _ both = both

-- so it is in the receiver's own row
pub record StandsInPlace (r : ClientReceiver) : Type 0 where
  pub stands : placed r.standing (both_in r.row) ≡ both_in r.row

abbrev pub AllStandInPlace : Client → Type 0
AllStandInPlace c = AllByRecursion StandsInPlace c.receivers

abbrev pub DropsStandIn : Option Client → Type 0
DropsStandIn client = MatchOption client (Unit {0}) AllStandInPlace

-- in each run, over every cut, statuses that stood in rows before included
abbrev pub DistributorDropsStand : Type 0
DistributorDropsStand =
    (address : ℕ) (d : DistDurable) (fresh : ℕ) (hs : List Happening) → DropsStandIn (state_after address (live address d fresh) hs).client

-- ---- runs of one distribution

-- at each place, by the receiver that stands there
abbrev pub placed_each : List ClientReceiver → List (ℕ × ℕ) → List (ℕ × ℕ)
placed_each [] both = both
placed_each (r ∷ rs) [] = []
placed_each (r ∷ rs) (both ∷ more) = placed r.standing both ∷ placed_each rs more

abbrev pub placed_by : Option Client → List (ℕ × ℕ) → List (ℕ × ℕ)
placed_by None both = both
placed_by (Some c) both = placed_each c.receivers both

-- the client that an event leads to: none is left of an event that the power goes in, but where all its flash operations were done
abbrev pub client_by : (address : ℕ) → DistState → Happening → Option Client
client_by address s (Done event now) = (dist_step address s event now).next.client
client_by address s CutPower = None
client_by address s (Torn event now operations) =
    if operations == length (dist_work address s event now) then (dist_step address s event now).next.client else None

-- the statuses of each row, each with those of its receiver's drops put in their places one after the other
abbrev pub placed_in : (address : ℕ) → DistState → List Happening → List (ℕ × ℕ) → List (ℕ × ℕ)
placed_in address s [] both = both
placed_in address s (h ∷ hs) both = placed_in address (happened address s h) hs (placed_by (client_by address s h) both)

-- so are the kept statuses of a distribution, from any moment of a run on: they change by drops alone, each in its place, over every cut
abbrev pub DistributorStatusesAreFolds : Type 0
DistributorStatusesAreFolds =
    (address : ℕ) (d : DistDurable) (fresh : ℕ) (before hs : List Happening) → IsDistDurable d → fresh ≤ 3
    → AllByRecursion HappeningFits before → AllByRecursion HappeningFits hs → IsOne address (state_after address (live address d fresh) before) hs
    → map both_kept (state_after address (state_after address (live address d fresh) before) hs).durable.receivers
    ≡ placed_in address (state_after address (live address d fresh) before) hs
    (map both_kept (state_after address (live address d fresh) before).durable.receivers)
