use Rattle.std.proofs.Common.{arith, ◌≡◌, ap, ◌∙◌, sym, length, length-drop, ◌≤◌, ◌<◌, ◌+◌, take, drop, Some, ℕ, List}
use Rattle.mu_model_wire.specs.Patterns.{pattern_number}
use Rattle.mu_report.proofs.Lists.{more, some_read}
use Rattle.mu_report.proofs.list.decode_list.Goals as goal

pub loop-at-preserved : goal.loop-at-preserved
loop-at-preserved c =
    let inv = c.loop-at.invariant in
    let octets = c.args.bytes.now in
    let at = c.loop-at.at in
    let k = c.pattern_length-length.result in
    let left : c.split_at.result.1.now ≡ drop at octets = c.split_at.ensures.back in
    let enough : k ≤ length (drop at octets) = omega (arith, c.if-left-length.false, ap (length {A = ℕ}) left) in
    let pattern : c.split_at-in-loop-at.result.0.now ≡ take k (drop at octets) = c.split_at-in-loop-at.ensures.front ∙ ap (λ (xs : List ℕ). take k xs) left in
    let number : pattern_number (take k (drop at octets)) ≡ Some c.in-Some.number = ap pattern_number (sym pattern) ∙ sym c.pattern_number.ensures ∙ c.in-Some.is in
    let list = more c.number_patterns.ensures.shortest c.number_patterns.ensures.read octets c.loop-at.numbers.items at k c.in-Some.number inv.list enough c.pattern_length-length.ensures number in
    let some : 0 < k = some_read (drop at octets) k number in
    let room : length c.push.new.self.items ≤ at + k = omega (arith, c.push.ensures.len, inv.room) in
    record { inside = omega (arith, length-drop at octets); room = room; list = rw c.push.ensures.items list }
