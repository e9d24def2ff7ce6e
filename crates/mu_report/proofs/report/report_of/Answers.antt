use Rattle.std.proofs.Common.{arith}
use Rattle.mu_model_wire.specs.Reports.{members}
use Rattle.mu_report.proofs.report.report_of.Goals as goal

pub numbers-requires : goal.numbers-requires
numbers-requires c = omega (arith, c.lists.ensures.count (members c.args.set.now), c.spelled_length.ensures, c.field_length.ensures, c.bound-bound.ensures.most, c.if-spelled_length-field_length.true)
