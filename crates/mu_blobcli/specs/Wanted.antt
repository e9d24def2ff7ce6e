-- The chunks that a list has from a place on.
use Rattle.std.specs.Prelude.{ℕ, Bool, List, drop}
use Rattle.std.specs.List.{list_any}
use Rattle.mu_model_wire.specs.Reports.{has}
use Rattle.mu_receivers.specs.declared.slot.Slot.{Slot}

-- the list has chunk k for one of the receivers from this one on
abbrev pub is_asked : List Slot → ℕ → ℕ → Bool
is_asked slots from k = list_any (λ (s : Slot). has s.asked k) (drop from slots)
