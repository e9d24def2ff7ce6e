use Rattle.std.proofs.Common.{refl}
use Rattle.mu_receivers.specs.Slots.{IsTakenBack}
use Rattle.mu_rounds.proofs.Lists.{each_written}
use Rattle.mu_rounds.proofs.rounds.Rounds.go_back.Goals as goal

pub returns : goal.returns
returns c = record {
  each = each_written IsTakenBack c.args.self.now.slots.items c.deref_mut.result.now c.take_back.new.slots c.deref_mut.ensures.value c.take_back.ensures.each;
  sending = refl;
  purpose = refl;
  stood = record { place = refl; left = refl; began = refl; moment = refl };
}
