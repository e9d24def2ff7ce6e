-- Runs of a distributor: events, boots, and events that the power goes in.
use Rattle.std.specs.Prelude.{ℕ, List, [], ◌∷◌, slice_index_or}
use Rattle.mu_model_node.specs.Events.{NodeEvent}
use Rattle.mu_model_node.specs.Safe.{Happening, Done, CutPower, Torn}
use Rattle.mu_model_distributor.specs.DistState.{DistDurable, DistState}
use Rattle.mu_model_distributor.specs.DistEvents.{dist_step, dist_work, restarted}

-- what stands after so many flash operations of an event
abbrev pub left_after : ℕ → DistState → NodeEvent → ℕ → ℕ → DistDurable
left_after address s event now operations = slice_index_or (s.durable ∷ dist_work address s event now) operations s.durable

abbrev pub happened : ℕ → DistState → Happening → DistState
happened address s (Done event now) = (dist_step address s event now).next
happened address s CutPower = restarted address s.durable
happened address s (Torn event now operations) = restarted address (left_after address s event now operations)

abbrev pub state_after : ℕ → DistState → List Happening → DistState
state_after address s [] = s
state_after address s (h ∷ hs) = state_after address (happened address s h) hs
