use Rattle.std.proofs.Common.{arith}
use Rattle.mu_model_client.specs.Lists.{missing_of}
use Rattle.mu_receivers.proofs.Asked.{asked_list}
use Rattle.mu_receivers.proofs.each.ask_missing.Goals as goal

pub returns-clause-list : goal.returns-clause-list
returns-clause-list c =
    asked_list missing_of c.args.slots.now c.loop-i.slots (record { long = c.loop-i.invariant.long; each = λ k d lt. c.loop-i.invariant.done k d (omega (arith, c.loop-i-test.false, lt)) })
