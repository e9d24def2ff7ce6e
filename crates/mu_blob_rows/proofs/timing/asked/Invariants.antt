use Rattle.std.proofs.Common.{◌≡◌}
use Rattle.mu_blob_rows.proofs.Asked.{first_asked}
use Rattle.mu_blob_rows.proofs.timing.asked.Given as goal

abbrev pub invariant-loop-chunk : goal.invariant-loop-chunk
invariant-loop-chunk l = l.chunks.items ≡ first_asked l.missing l.chunk
