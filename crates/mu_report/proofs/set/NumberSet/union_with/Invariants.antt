use Rattle.std.proofs.Common.{◌≡◌, ℕ, List, length}
use Rattle.mu_report.proofs.Masks.{United}
use Rattle.mu_report.proofs.set.NumberSet.union_with.Given as goal

pub record Uniting (old new other : List ℕ) (bound now index : ℕ) : Type 0 where
  pub united : United old new other index
  pub count : length new ≡ 32
  pub same : now ≡ bound

abbrev pub invariant-loop-index : goal.invariant-loop-index
invariant-loop-index l = Uniting l.initial.self-inside.words l.self-inside.words l.other-inside.words l.initial.self-inside.bound l.self-inside.bound l.index
