use Rattle.std.proofs.Common.{◌≡◌, ◌+◌, ◌*◌, ◌<◌, ℕ, get_or}
use Rattle.mu_cells.proofs.code.decode.Given as goal

abbrev pub invariant-loop-i : goal.invariant-loop-i
invariant-loop-i l = record {
  pairs : (k : ℕ) → k < l.i → get_or l.word (2 * k) 0 + get_or l.word (2 * k + 1) 0 ≡ 255;
  octets : (k : ℕ) → k < l.i → get_or l.octets k 0 ≡ get_or l.word (2 * k) 0;
}
