-- Safety of whole runs.
use Rattle.std.specs.Prelude.{ℕ, ◌≡◌, List, Some}
use Rattle.mu_model_node.specs.Events.{NodeEvent}
use Rattle.mu_model_world.specs.World.{Member, World, new_world, member_at}
use Rattle.mu_model_world.specs.Run.{Run}
use Rattle.mu_model_safety.specs.Safe.{IsSafe, cut_in}

-- after each line of each script, whatever outcomes its tears have
abbrev pub EveryWorldIsSafe : Type 0
EveryWorldIsSafe = (lines : List (List ℕ)) (text : List ℕ) (w : World) → Run new_world lines text w → IsSafe w

-- and wherever the power of a node may go, in any event that may come to it
abbrev pub EveryCutIsSafe : Type 0
EveryCutIsSafe =
    (lines : List (List ℕ)) (text : List ℕ) (w : World) → Run new_world lines text w
    → (address : ℕ) (m : Member) → member_at w address ≡ Some m → (event : NodeEvent) (now operations : ℕ) → IsSafe (cut_in w address m event now operations)
