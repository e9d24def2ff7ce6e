use Rattle.std.proofs.Common.{◌≡◌, ◌++◌, ℕ, List, length}
use Rattle.hex.specs.Hex.{encode_lower}
use Rattle.mu_shown.specs.Written.{Adds}
use Rattle.mu_shown.proofs.writing.put_hex.Given as goal

-- what is written so far are the octets before those that are left
abbrev pub invariant-loop-left : goal.invariant-loop-left
invariant-loop-left g l =
    (before : List ℕ) × (l.octets ≡ before ++ l.left)
    × Adds (g.K.Sink.written l.fn.sink) (g.K.Sink.written l.sink) (g.K.Sink.faults l.fn.sink) (g.K.Sink.faults l.sink) l.fn.so_far l.done (encode_lower before)

abbrev pub decreases-loop-left : goal.decreases-loop-left
decreases-loop-left g l = length l.left
