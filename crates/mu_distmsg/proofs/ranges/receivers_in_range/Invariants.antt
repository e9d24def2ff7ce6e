use Rattle.std.proofs.Common.{map, drop}
use Rattle.std.specs.Prelude.{◌↔◌}
use Rattle.mu_model_wire.specs.Spelling.{EntriesFit}
use Rattle.mu_model_wire.specs.Distribution.{receiver_fields}
use Rattle.mu_distmsg.specs.View.{pair_shown}
use Rattle.mu_distmsg.proofs.ranges.receivers_in_range.Given as goal

abbrev pub invariant-loop-receiver : goal.invariant-loop-receiver
invariant-loop-receiver l =
    EntriesFit receiver_fields (map pair_shown l.receivers) ↔ EntriesFit receiver_fields (map pair_shown (drop l.receiver-index l.receivers))
