-- Lines of a script in a world that may keep a fault.
use Rattle.std.specs.Prelude.{ℕ, ◌≡◌, ◌≤◌, List, None}
use Rattle.mu_model_world.specs.Run.{Step, Bars, Wears}
use Rattle.mu_world.specs.Moved.{Held}

abbrev pub HeldStep : Held → List ℕ → List ℕ → Held → Type 0
HeldStep old line text new = Step old.world line text new.world

abbrev pub HeldBars : Held → List ℕ → ℕ → List ℕ → Type 0
HeldBars old line place word = Bars old.world line place word

abbrev pub HeldWears : Held → List ℕ → Type 0
HeldWears old line = Wears old.world line

-- it keeps no fault, and has done at most an event for each line
pub record GoesOn (held : Held) (count : ℕ) : Type 0 where
  pub going : held.fault ≡ None
  pub few : held.world.events ≤ count
