use Rattle.std.proofs.Common.{arith, ◌+◌, ◌-◌, ◌*◌, get_or, drop}
use Rattle.mu_script.proofs.Numbers.{digits_value-ge, digits_value-drop}
use Rattle.mu_script.proofs.octets.digits_value.Goals as goal

pub returns-then-number-most : goal.returns-then-number-most
returns-then-number-most c =
    let step = digits_value-drop c.loop-digit.number c.args.digits.now c.loop-digit.digit-index c.loop-digit-test.true in
    let more = digits_value-ge (10 * c.loop-digit.number + (get_or c.args.digits.now c.loop-digit.digit-index 0 - 48)) (drop (c.loop-digit.digit-index + 1) c.args.digits.now) in
    grind (arith, c.loop-digit.invariant.so_far)
