use Rattle.std.proofs.Common.{◌+◌, ◌-◌, ◌≡◌, ◌≤◌, ◌++◌, List, ℕ, length}
use Rattle.mu_image.specs.Digests.{HasTaken}
use Rattle.mu_input.specs.Reading.{WhereTold}
use Rattle.mu_top.proofs.image.read_image.Given as goal

abbrev pub invariant-loop-size : goal.invariant-loop-size
invariant-loop-size g l = record {
  taken : (octets : List ℕ) × HasTaken l.digesting octets × (length octets ≡ l.size) × WhereTold (g.S.Source.left l.fn.source) (g.S.Source.left l.source) (λ held left. held ≡ octets ++ left);
  small : l.size ≤ 1048576 + 4096;
  room : length l.piece ≡ 4096;
  later : g.S.Source.faults l.fn.source ≤ g.S.Source.faults l.source;
}

abbrev pub decreases-loop-size : goal.decreases-loop-size
decreases-loop-size g l = 1048576 + 1 - l.size
