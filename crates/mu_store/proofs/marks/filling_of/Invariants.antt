use Rattle.std.proofs.Common.{ℕ, ◌<◌}
use Rattle.mu_model_record.specs.Record.{IsFilling, entry_of}
use Rattle.mu_store.proofs.marks.filling_of.Given as goal

abbrev pub invariant-loop-b : goal.invariant-loop-b
invariant-loop-b l = (k : ℕ) → k < l.b → ¬ IsFilling (entry_of l.fields k)
