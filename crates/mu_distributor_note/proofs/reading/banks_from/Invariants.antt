use Rattle.std.proofs.Common.{◌≡◌, map, length}
use Rattle.std.specs.List.{range_with_len}
use Rattle.mu_model_stored_distributor.specs.DistributorIn.{bank_in}
use Rattle.mu_distributor_note.proofs.reading.banks_from.Given as goal

abbrev pub invariant-loop-k : goal.invariant-loop-k
invariant-loop-k l = (length l.banks.items ≡ l.k) × (l.banks.items ≡ map (bank_in l.octets) (range_with_len 0 l.k))
