-- A distributor at rest, while no distribution goes on: it asks nobody to update, and no row changes.
use Rattle.std.specs.Prelude.{ℕ, ◌≡◌, ◌+◌, ◌⊎◌, true, List, []}
use Rattle.std.specs.List.{AllByRecursion}
use Rattle.mu_model_node.specs.UpdateMessages.{StartUpdate}
use Rattle.mu_model_node.specs.NodeMessages.{OfUpdate}
use Rattle.mu_model_node.specs.Events.{NodeEvent}
use Rattle.mu_model_distributor.specs.Requests.{Entry}
use Rattle.mu_model_distributor.specs.DistMessages.{Sent, ByClient}
use Rattle.mu_model_distributor.specs.declared.DistPhase.TheVariants.{Idle}
use Rattle.mu_model_distributor.specs.DistState.{DistDurable, DistState, is_at_rest}
use Rattle.mu_model_distributor.specs.Receivers.{added}
use Rattle.mu_model_distributor.specs.DistEvents.{dist_step}
use Rattle.mu_model_distributor.specs.Sound.{IsDistState}

-- what an event may do at rest
pub data RestMoves (d e : DistDurable) : Type 0 where
  -- a distribution begins, under the next number
  begins : e.counter ≡ d.counter + 1 → RestMoves d e
  -- receivers are added or go while it is idle
  adds : (entries : List Entry) → d.phase ≡ Idle → e.phase ≡ Idle → e.counter ≡ d.counter → e.receivers ≡ added d.receivers entries → RestMoves d e
  empties : d.phase ≡ Idle → e.phase ≡ Idle → e.counter ≡ d.counter → e.receivers ≡ [] → RestMoves d e
  -- or they stand, and it stays at rest
  stands : (e.phase ≡ d.phase) ⊎ (e.phase ≡ Idle) → e.counter ≡ d.counter → e.receivers ≡ d.receivers → RestMoves d e

-- so a distribution begins with a new number, and no other way
abbrev pub RestsMove : Type 0
RestsMove =
    (address : ℕ) (s : DistState) (event : NodeEvent) (now : ℕ) → IsDistState s → is_at_rest s.durable.phase ≡ true
    → RestMoves s.durable (dist_step address s event now).next.durable

abbrev pub IsNoStart : ℕ × Sent → Type 0
IsNoStart (to, ByClient (OfUpdate (StartUpdate u))) = ⊥
IsNoStart _ = Unit {0}

abbrev pub RestsStartNothing : Type 0
RestsStartNothing =
    (address : ℕ) (s : DistState) (event : NodeEvent) (now : ℕ) → IsDistState s → is_at_rest s.durable.phase ≡ true
    → AllByRecursion IsNoStart (dist_step address s event now).sends
