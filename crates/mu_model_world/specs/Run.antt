-- Whole runs: one world after each line, each got from the last by a move, and the texts joined.
use Rattle.std.specs.Prelude.{ℕ, ◌≡◌, List, [], Some}
use Rattle.mu_model_script.specs.Runs as runs
use Rattle.mu_model_script.specs.Event.{Event}
use Rattle.mu_model_world.specs.World.{World, new_world}
use Rattle.mu_model_world.specs.Outcomes.{Moves, worn}
use Rattle.mu_model_world.specs.Judged.{Judged, Silent, Refused, Sound, judged}

-- what was judged is done, with this text, and leads to the next world
abbrev pub IsDone : World → Judged → List ℕ → World → Type 0
IsDone w Silent text next = (text ≡ []) × (next ≡ w)
IsDone w (Refused place word) text next = ⊥
IsDone w (Sound event) text next = Moves w event text next

-- one line
pub record Step (w : World) (line text : List ℕ) (next : World) : Type 0 where
  pub done : IsDone w (judged w line) text next

-- it is refused at this place, with this word for why
abbrev pub Bars : World → List ℕ → ℕ → List ℕ → Type 0
Bars w line place word = judged w line ≡ Refused place word

-- it would wear out the flash of a node
pub record Wears (w : World) (line : List ℕ) : Type 0 where
  pub event : Event
  pub sound : judged w line ≡ Sound event
  pub address : ℕ
  pub worn_is : worn w event ≡ Some address

-- all these lines, one after the other, and all that they print
abbrev pub Run : World → List (List ℕ) → List ℕ → World → Type 0
Run = runs.Run Step

-- these lines are all done, in a new world, and this is what they print
abbrev pub Prints : List (List ℕ) → List ℕ → Type 0
Prints = runs.Prints Step new_world

-- the lines before one of them are done in a new world and print a text, and that line is refused
abbrev pub Refuses : List (List ℕ) → (text : List ℕ) (number place : ℕ) (word : List ℕ) → Type 0
Refuses = runs.Refuses Step Bars new_world
