use Rattle.std.proofs.Common.{◌≡◌, ℕ, ◌<◌, ◌≤◌, false, length}
use Rattle.std.specs.Prelude.{slice_index, slice_index_or}
use Rattle.mu_store.specs.Marks.{MarkIs}
use Rattle.mu_store.proofs.marks.flags_of.Given as goal

abbrev pub invariant-loop-i : goal.invariant-loop-i
invariant-loop-i l = record {
  size : length l.held ≡ 256;
  marks : (k : ℕ) → k < l.i → MarkIs (slice_index_or l.held k false) (slice_index l.marks k);
  past : (k : ℕ) → l.i ≤ k → slice_index_or l.held k false ≡ false;
}
