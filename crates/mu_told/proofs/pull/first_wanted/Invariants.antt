use Rattle.std.proofs.Common.{◌≡◌, ◌≤◌, ◌-◌, length}
use Rattle.mu_model_client.specs.Sets.{set_of}
use Rattle.mu_told.proofs.Wanted.{front}
use Rattle.mu_told.proofs.pull.first_wanted.Given as goal

abbrev pub invariant-loop-count : goal.invariant-loop-count
invariant-loop-count l = record {
  within : l.at ≤ length l.set;
  firsts : l.firsts ≡ set_of (length l.set) (front l.set l.at);
  long : length (front l.set l.at) ≡ l.count;
  few : l.count ≤ 16;
}

abbrev pub decreases-loop-count : goal.decreases-loop-count
decreases-loop-count l = 16 - l.count
