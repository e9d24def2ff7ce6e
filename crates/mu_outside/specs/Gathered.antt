-- What an output that gathers shows of itself.
use Rattle.std.specs.Prelude.{ℕ, List}
use Rattle.mu_outside.specs.declared.gathered.Gathered.{Gathered}

-- the output below
abbrev pub below_of : {K N : Type 0} {k : _} {n : _} → Gathered K N k n → K
below_of g = g.below.now

-- the octets that are gathered and not yet handed on
abbrev pub held_of : {K N : Type 0} {k : _} {n : _} → Gathered K N k n → List ℕ
held_of g = g.held.items
