use Rattle.std.proofs.Common.{◌≡◌, drop}
use Rattle.mu_top.specs.Payloads.{first_bad_digit}
use Rattle.mu_top.proofs.payload.bad_place.Given as goal

abbrev pub invariant-loop-place : goal.invariant-loop-place
invariant-loop-place l = first_bad_digit l.place (drop l.place l.text) ≡ first_bad_digit 0 l.text
