use Rattle.std.proofs.Common.{◌≡◌, ◌≤◌, length, leb, false, arith, ap}
use Rattle.std.specs.Prelude.{IsTrue, ◌↔◌}
use Rattle.std.proofs.lemmas.Bool.{leb-true, le-leb}
use Rattle.mu_model_wire.specs.Patterns.{list_spelling}
use Rattle.mu_blobmsg.proofs.Fit.{list_in_range}
use Rattle.mu_blobmsg.proofs.ranges.list_has_at_most.Goals as goal

pub returns-in-Some : goal.returns-in-Some
returns-in-Some c =
    let len : length c.in-Some.octets.items ≡ length (list_spelling c.args.numbers.now) = ap length c.in-Some.ensures.spelled in
    let is : IsTrue (leb c.len.result c.args.most) ↔ (length (list_spelling c.args.numbers.now) ≤ c.args.most) =
    ((λ t. omega (arith, leb-true _ _ t, c.len.ensures.value, len)), (λ le. le-leb _ _ (omega (arith, le, c.len.ensures.value, len)))) in
    list_in_range c.lists.ensures.fits c.lists.ensures.spells c.args.numbers.now c.args.most (leb c.len.result c.args.most) (λ i. omega (arith, c.type_inv.numbers i)) is

pub returns-in-None : goal.returns-in-None
returns-in-None c =
    list_in_range c.lists.ensures.fits c.lists.ensures.spells c.args.numbers.now c.args.most false (λ i. omega (arith, c.type_inv.numbers i))
    ((λ t. absurd cc), (λ le. c.in-None.ensures.some.1 (omega (arith, le, c.requires))))
