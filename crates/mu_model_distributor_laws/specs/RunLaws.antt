-- What holds of a distributor over whole runs: whatever comes, in whatever order, and whenever the power goes.
use Rattle.std.specs.Prelude.{ℕ, ◌≡◌, ◌≤◌, ◌+◌, ◌*◌, ◌^◌, List, [], ◌∷◌, ◌++◌}
use Rattle.std.specs.List.{AllByRecursion}
use Rattle.mu_model_node.specs.UpdateMessages.{StartUpdate}
use Rattle.mu_model_node.specs.NodeMessages.{OfUpdate}
use Rattle.mu_model_node.specs.Safe.{Happening, Done, CutPower, Torn}
use Rattle.mu_model_distributor.specs.DistMessages.{Sent, ByClient}
use Rattle.mu_model_distributor.specs.DistState.{DistDurable, DistState}
use Rattle.mu_model_distributor.specs.DistEvents.{dist_step, live}
use Rattle.mu_model_distributor.specs.Runs.{happened, state_after}
use Rattle.mu_model_distributor.specs.Sound.{IsDistDurable, IsDistState}
use Rattle.mu_model_distributor_laws.specs.Laws.{EventFits}
use Rattle.mu_model_distributor_laws.specs.Planned.{IsPlanned}

-- what comes is in the ranges of the grammar
abbrev pub HappeningFits : Happening → Type 0
HappeningFits (Done event now) = EventFits event
HappeningFits (Torn event now operations) = EventFits event
HappeningFits CutPower = Unit {0}

-- the rules on a distributor's record hold from the start on, and its client does what the distribution asks
pub record IsInOrder (address : ℕ) (s : DistState) : Type 0 where
  pub sound : IsDistState s
  pub planned : IsPlanned address s

abbrev pub RunsAreInOrder : Type 0
RunsAreInOrder =
    (address : ℕ) (d : DistDurable) (fresh : ℕ) (hs : List Happening) → IsDistDurable d → fresh ≤ 3 → AllByRecursion HappeningFits hs
    → IsInOrder address (state_after address (live address d fresh) hs)

-- what is sent in a run; what a torn event would have sent is lost
abbrev pub sent_by : ℕ → DistState → Happening → List (ℕ × Sent)
sent_by address s (Done event now) = (dist_step address s event now).sends
sent_by address s _ = []

abbrev pub sent_in : ℕ → DistState → List Happening → List (ℕ × Sent)
sent_in address s [] = []
sent_in address s (h ∷ hs) = sent_by address s h ++ sent_in address (happened address s h) hs

-- the number of an Update Start's distribution is at most this
pub record IsBehind (address number id : ℕ) : Type 0 where
  pub own : ℕ
  pub is : id ≡ address * 2 ^ 48 + own
  pub below : own ≤ number

abbrev pub StartIsBehind : ℕ → ℕ → ℕ × Sent → Type 0
StartIsBehind address number (to, ByClient (OfUpdate (StartUpdate u))) = IsBehind address number u.id
StartIsBehind address number _ = Unit {0}

-- each Update Start that was sent has the number of a distribution that stands in the present record, or an earlier one: so no later
-- distribution has its BLOB ID, whenever the power goes
abbrev pub NoNumberIsLost : Type 0
NoNumberIsLost =
    (address : ℕ) (d : DistDurable) (fresh : ℕ) (hs : List Happening) → IsDistDurable d → fresh ≤ 3 → AllByRecursion HappeningFits hs
    → AllByRecursion (StartIsBehind address (state_after address (live address d fresh) hs).durable.counter) (sent_in address (live address d fresh) hs)
