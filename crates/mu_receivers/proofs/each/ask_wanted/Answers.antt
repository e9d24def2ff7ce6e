use Rattle.std.proofs.Common.{arith}
use Rattle.mu_model_client.specs.Lists.{wanted_of}
use Rattle.mu_receivers.proofs.Asked.{asked_list}
use Rattle.mu_receivers.proofs.each.ask_wanted.Goals as goal

pub returns-clause-list : goal.returns-clause-list
returns-clause-list c =
    asked_list wanted_of c.args.slots.now c.loop-i.slots (record { long = c.loop-i.invariant.long; each = λ k d lt. c.loop-i.invariant.done k d (omega (arith, c.loop-i-test.false, lt)) })
