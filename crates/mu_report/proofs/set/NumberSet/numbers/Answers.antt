use Rattle.std.proofs.Common.{◌<◌, ◌+◌, ◌∷◌, ◌++◌, ◌∙◌, ℕ, List, [], length, length-append, lit<, ap, sym, arith}
use Rattle.std.specs.List.{filter, range_with_len}
use Rattle.mu_model_wire.specs.Reports.{has}
use Rattle.mu_report.proofs.Listing.{next_is, skip_to, front_le}
use Rattle.mu_report.proofs.set.NumberSet.numbers.Goals as goal

pub push-requires : goal.push-requires
push-requires c =
    let so_far = c.loop-number.invariant in
    let first = c.in-Some.ensures.first in
    let next = next_is (has c.args.self.now) c.loop-number.at c.in-Some.number first.0 first.2 first.1 in
    let more = ap (length {A = ℕ}) next in
    let least = front_le c.args.self.now (c.in-Some.number + 1) (omega (arith, c.in-Some.ensures.within)) in
    let count = ap (length {A = ℕ}) so_far.before in
    let total = length-append (filter (has c.args.self.now) (range_with_len 0 c.loop-number.at)) (c.in-Some.number ∷ []) in
    let room : length c.loop-number.numbers.items < 374 = omega (arith, c.requires) in
    (lit< tt, room)

pub loop-number-preserved : goal.loop-number-preserved
loop-number-preserved c =
    let so_far = c.loop-number.invariant in
    let first = c.in-Some.ensures.first in
    record {
      within = omega (arith, c.in-Some.ensures.within);
      before = c.push.ensures.items ∙ ap (λ (xs : List ℕ). xs ++ c.in-Some.number ∷ []) so_far.before ∙ sym (next_is (has c.args.self.now) c.loop-number.at c.in-Some.number first.0 first.2 first.1);
    }

pub returns : goal.returns
returns c =
    let so_far = c.loop-number.invariant in
    so_far.before ∙ sym (skip_to (has c.args.self.now) c.loop-number.at (length c.args.self.now) so_far.within (λ i low high. c.in_default.ensures.first i low))
