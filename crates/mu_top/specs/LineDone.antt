-- What a command does with a line.
use Rattle.std.specs.Prelude.{◌≡◌, ℕ, List, ◌++◌, Option}
use Rattle.mu_model_script.specs.Texts.{refused_text}
use Rattle.mu_model_world.specs.World.{World}
use Rattle.mu_model_world.specs.Run.{Step, Bars, Wears}
use Rattle.mu_top.specs.Ends.{Doing, Barring, Wearing, Told}
use Rattle.mu_command_line.specs.Writing.{Wrote, WroteSome}
use Rattle.mu_command_line.specs.declared.status.Status.{Status}
use Rattle.mu_command_line.specs.declared.status.Status.TheVariants.{NoMemory, SinkFault, Worn as WornOut}
use Rattle.mu_top.specs.declared.work.LineStop.{LineStop}
use Rattle.mu_top.specs.declared.work.LineStop.TheVariants.{Memory, Worn, Sink, Refused}

-- a line was done, and all that it prints was written
pub record DidLine {W : Type 0} (Does : Doing W) (old : W) (line : List ℕ) (new : W) (sink sink' : Option (List ℕ)) : Type 0 where
  pub text : List ℕ
  pub does : Does old line text new
  pub wrote : Wrote sink sink' text

-- a line was done, and a beginning of what it prints was written
pub record CutLine {W : Type 0} (Does : Doing W) (old : W) (line : List ℕ) (sink sink' : Option (List ℕ)) : Type 0 where
  pub next : W
  pub text : List ℕ
  pub does : Does old line text next
  pub wrote : WroteSome sink sink' text

-- why a line wasn't done
abbrev pub StopsLine : {W : Type 0} → Doing W → Barring W → Wearing W → (old : W) (line : List ℕ) (sink sink' : Option (List ℕ)) → LineStop → Type 0
StopsLine Does Bars Wears old line sink sink' Memory = sink' ≡ sink
StopsLine Does Bars Wears old line sink sink' Worn = Wears old line × (sink' ≡ sink)
StopsLine Does Bars Wears old line sink sink' Sink = CutLine Does old line sink sink'
StopsLine Does Bars Wears old line sink sink' (Refused place word) = Bars old line place word.now × (sink' ≡ sink)

-- what is written behind a line that wasn't done, by the status
abbrev pub EndsAt : (sink sink' : Option (List ℕ)) (number : ℕ) → LineStop → Status → Type 0
EndsAt sink sink' number Memory status = (status ≡ NoMemory) × (sink' ≡ sink)
EndsAt sink sink' number Worn status = (status ≡ WornOut) × (sink' ≡ sink)
EndsAt sink sink' number Sink status = (status ≡ SinkFault) × (sink' ≡ sink)
EndsAt sink sink' number (Refused place word) status = Told sink sink' (refused_text number place word.now) status

-- a line of a script was done, and its text stands behind what stood there
pub record Does (old : World) (line before after : List ℕ) (new : World) : Type 0 where
  pub text : List ℕ
  pub step : Step old line text new
  pub printed : after ≡ before ++ text

-- why a line of a script wasn't done
abbrev pub Stops : World → List ℕ → LineStop → Type 0
Stops old line Memory = Unit {0}
Stops old line Worn = Wears old line
Stops old line Sink = ⊥
Stops old line (Refused place word) = Bars old line place word.now
