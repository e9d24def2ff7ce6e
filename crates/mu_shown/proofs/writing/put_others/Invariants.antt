use Rattle.std.proofs.Common.{take, ◌∷◌}
use Rattle.std.specs.List.{flat_map}
use Rattle.mu_shown.specs.Seen.{value_seen}
use Rattle.mu_shown.specs.Written.{Adds}
use Rattle.mu_shown.proofs.writing.put_others.Given as goal

abbrev pub invariant-loop-field : goal.invariant-loop-field
invariant-loop-field g l =
    Adds (g.K.Sink.written l.fn.sink) (g.K.Sink.written l.sink) (g.K.Sink.faults l.fn.sink) (g.K.Sink.faults l.sink) l.fn.so_far l.done (flat_map (λ v. 58 ∷ value_seen v) (take l.field-index l.fields))
