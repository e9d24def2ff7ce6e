use Rattle.std.proofs.Common.{◌≡◌, ◌≤◌, drop}
use Rattle.mu_model_script.specs.Tokens.{digits_value}
use Rattle.mu_script.proofs.octets.digits_value.Given as goal

abbrev pub invariant-loop-digit : goal.invariant-loop-digit
invariant-loop-digit l = record {
  so_far : digits_value 0 l.digits ≡ digits_value l.number (drop l.digit-index l.digits);
  small : l.number ≤ l.most;
}
