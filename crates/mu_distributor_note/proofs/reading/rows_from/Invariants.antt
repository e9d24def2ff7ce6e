use Rattle.std.proofs.Common.{◌≡◌, map, length}
use Rattle.std.specs.List.{range_with_len}
use Rattle.mu_distmsg.specs.declared.message.ReceiverRow.{ReceiverRow}
use Rattle.mu_model_stored_distributor.specs.DistributorIn.{row_in}
use Rattle.mu_distributor_kept.specs.Views.{row_receivers}
use Rattle.mu_distributor_note.proofs.reading.rows_from.Given as goal

abbrev pub invariant-loop-k : goal.invariant-loop-k
invariant-loop-k l =
    (length l.rows.items ≡ l.k) × (row_receivers l.rows.items ≡ map (row_in l.octets) (range_with_len 0 l.k))
    × (map (λ (row : ReceiverRow). row.progress) l.rows.items ≡ map (λ (row : ReceiverRow). 0) l.rows.items)
