use Rattle.std.proofs.Common.{sym, ◌∙◌}
use Rattle.mu_script.proofs.Cuts.{made_of-cut}
use Rattle.mu_script.proofs.octets.made.Goals as goal

pub returns-then-is_some : goal.returns-then-is_some
returns-then-is_some c =
    sym (made_of-cut c.args.text.now c.cut.result.0.now c.in_ok-behind.field-0.now c.cut-2.result.0.now c.cut-2.result.1 (rw c.in_ok-behind.was at c.cut.ensures.pieces) c.cut-2.ensures.pieces (sym c.is_some.ensures ∙ c.if-is_some.true))
