use Rattle.std.proofs.Common.{◌≡◌, ℕ, ◌<◌, true, false}
use Rattle.mu_model_record.specs.Record.{IsFilling, entry_of}
use Rattle.mu_record.proofs.ranges.has_one_filling.Given as goal

abbrev pub invariant-loop-b : goal.invariant-loop-b
invariant-loop-b l = record {
  one : (a b : ℕ) → a < l.b → b < l.b → IsFilling (entry_of l.fields a) → IsFilling (entry_of l.fields b) → a ≡ b;
  none : l.found ≡ false → (a : ℕ) → a < l.b → ¬ IsFilling (entry_of l.fields a);
  some : l.found ≡ true → (a : ℕ) × (a < l.b) × IsFilling (entry_of l.fields a);
}
