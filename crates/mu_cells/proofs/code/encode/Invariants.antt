use Rattle.std.proofs.Common.{◌≡◌, ◌*◌, take}
use Rattle.mu_model_record.specs.Code.{coded}
use Rattle.mu_cells.proofs.code.encode.Given as goal

abbrev pub invariant-loop-i : goal.invariant-loop-i
invariant-loop-i l = take (2 * l.i) l.word ≡ coded (take l.i l.octets)
