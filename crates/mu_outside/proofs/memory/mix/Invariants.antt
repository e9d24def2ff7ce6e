use Rattle.mu_outside.proofs.TearLemmas.{MadeSoFar}
use Rattle.mu_outside.proofs.memory.mix.Given as goal

abbrev pub invariant-loop-j : goal.invariant-loop-j
invariant-loop-j l = MadeSoFar l.seed l.fn.octets.items l.at l.bytes l.octets.items l.j
