use Rattle.std.proofs.Common.{◌≡◌, true, take}
use Rattle.mu_model_client.specs.Sets.{set_of, all_below}
use Rattle.mu_told.proofs.pull.set_of.Given as goal

abbrev pub invariant-loop-number : goal.invariant-loop-number
invariant-loop-number l = record {
  set : l.set ≡ set_of l.n (take l.number-index l.numbers);
  below : all_below l.n (take l.number-index l.numbers) ≡ true;
}
