-- What comes after a step, by what is seen of the receivers.
use Rattle.std.proofs.Common.{◌≡◌, ◌∙◌, sym, ap, true, false, Bool, List}
use Rattle.std.specs.Prelude.{if◌then◌else◌}
use Rattle.std.specs.List.{list_any}
use Rattle.mu_model_client.specs.Client.{Step, misses_chunks}
use Rattle.mu_model_client.specs.Going.{Next, Go, chunks_or}
use Rattle.mu_receivers.specs.declared.slot.Slot.{Slot}
use Rattle.mu_receivers.specs.Receivers.{receiver_of, receivers_of}
use Rattle.mu_rounds.proofs.Lists.{any_map}

pub chunks_missed : (step : Step) (next : Next) (slots : List Slot) (x : Bool) → x ≡ list_any (λ s. misses_chunks (receiver_of s)) slots → x ≡ true → Go step ≡ chunks_or step next (receivers_of slots)
chunks_missed step next slots x is some = sym (ap (λ y. if y then Go step else next) (any_map misses_chunks slots ∙ sym is ∙ some))

pub chunks_not_missed : (step : Step) (next other : Next) (slots : List Slot) (x : Bool) → x ≡ list_any (λ s. misses_chunks (receiver_of s)) slots → x ≡ false → other ≡ next
    → other ≡ chunks_or step next (receivers_of slots)
chunks_not_missed step next other slots x is none e = e ∙ sym (ap (λ y. if y then Go step else next) (any_map misses_chunks slots ∙ sym is ∙ none))
