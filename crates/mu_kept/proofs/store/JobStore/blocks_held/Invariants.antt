use Rattle.std.proofs.Common.{◌≡◌, ℕ, ◌<◌, ◌≤◌, false, length, get_or}
use Rattle.mu_kept.specs.Views.{flags_in}
use Rattle.mu_kept.proofs.store.JobStore.blocks_held.Given as goal

abbrev pub invariant-loop-block : goal.invariant-loop-block
invariant-loop-block g l = record {
  long : length l.blocks ≡ l.count;
  below : (k : ℕ) → k < l.block → get_or l.blocks k false ≡ get_or (flags_in l.self) k false;
  past : (k : ℕ) → l.block ≤ k → get_or l.blocks k false ≡ false;
}
