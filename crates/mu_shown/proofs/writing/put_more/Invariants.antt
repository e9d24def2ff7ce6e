use Rattle.std.proofs.Common.{take, drop, ◌∷◌, ◌-◌}
use Rattle.std.specs.List.{flat_map}
use Rattle.mu_shown.specs.Lines.{entry_text}
use Rattle.mu_shown.specs.Seen.{list_shown}
use Rattle.mu_shown.specs.Written.{Adds}
use Rattle.mu_shown.proofs.writing.put_more.Given as goal

abbrev pub invariant-loop-place : goal.invariant-loop-place
invariant-loop-place g l =
    Adds (g.K.Sink.written l.fn.sink) (g.K.Sink.written l.sink) (g.K.Sink.faults l.fn.sink) (g.K.Sink.faults l.sink) l.fn.so_far l.done (flat_map (λ e. 44 ∷ entry_text e) (take (l.place - 1) (drop 1 (list_shown l.list))))
