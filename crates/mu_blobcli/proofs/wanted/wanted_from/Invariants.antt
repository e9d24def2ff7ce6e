use Rattle.std.proofs.Common.{◌≡◌, ◌≤◌, ◌-◌, ℕ, length}
use Rattle.std.specs.Prelude.{◌||◌}
use Rattle.std.specs.List.{list_any}
use Rattle.mu_model_wire.specs.Reports.{has}
use Rattle.mu_model_client.specs.declared.Sending.{Sending}
use Rattle.mu_model_client.specs.Begin.{is_chunk}
use Rattle.mu_receivers.specs.Chunks.{rest}
use Rattle.mu_rounds.specs.Rounds.{rest_of}
use Rattle.mu_blobcli.proofs.wanted.wanted_from.Given as goal

abbrev pub invariant-loop-k : goal.invariant-loop-k
invariant-loop-k l = record {
  long : length l.set ≡ l.left.chunks;
  within : l.from ≤ length l.slots;
  so : (p : Sending) (j : ℕ) → list_any (is_chunk j) (rest_of p l.slots l.left) ≡ (has l.set j || list_any (is_chunk j) (rest p.group l.left.block l.left.chunks l.slots l.k l.from));
}

abbrev pub decreases-loop-k : goal.decreases-loop-k
decreases-loop-k l = l.left.chunks - l.k
