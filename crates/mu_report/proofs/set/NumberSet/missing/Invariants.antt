use Rattle.std.proofs.Common.{◌≡◌, ◌*◌, ◌<◌, ℕ, List, length}
use Rattle.mu_report.specs.Words.{word_bit}
use Rattle.mu_report.proofs.Masks.{out}
use Rattle.mu_report.proofs.set.NumberSet.missing.Given as goal

pub record Missing (words made : List ℕ) (bound index : ℕ) : Type 0 where
  pub count : length made ≡ 32
  pub bits : (k : ℕ) → k < 64 * index → word_bit made k ≡ out words bound k

abbrev pub invariant-loop-index : goal.invariant-loop-index
invariant-loop-index l = Missing l.self-inside.words l.words l.self-inside.bound l.index
