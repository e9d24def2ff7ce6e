use Rattle.std.proofs.Common.{[], ◌∙◌, ap, sym, subst, arith, map, take}
use Rattle.std.proofs.lemmas.Grind.{common_steps}
use Rattle.std.proofs.lemmas.List.{take_all}
use Rattle.mu_model_client.specs.Lists.{sent_for}
use Rattle.mu_receivers.specs.Messages.{messages_left}
use Rattle.mu_receivers.specs.declared.slot.Slot.{Slot}
use Rattle.mu_rounds.specs.Rounds.{SaysOne}
use Rattle.mu_rounds.proofs.Saying.{says_more, leaves_more}
use Rattle.mu_rounds.proofs.sending.send_messages.Goals as goal

pub loop-i-preserved : goal.loop-i-preserved
loop-i-preserved c =
    let is = c.index-slots-i.is ∙ c.loop-i.invariant.rest c.loop-i.i c.index-slots-i.result (omega arith) in
    record {
      sent = λ p purpose image.
          says_more p purpose c.args.step image c.args.slots.now c.loop-i.i c.index-slots-i.result c.send_message.new.slot c.loop-i.out.items c.send_message.new.out.items
          (omega (arith, c.loop-i-test.true, c.loop-i.invariant.long)) is (subst (λ (s : Slot). SaysOne p purpose c.args.step s c.send_message.new.slot c.loop-i.out.items c.send_message.new.out.items) (sym c.index-slots-i.is) (c.send_message.ensures.says p purpose)) (c.loop-i.invariant.sent p purpose image);
      left = λ p purpose.
          leaves_more p purpose c.args.step c.args.slots.now c.loop-i.slots c.loop-i.i c.index-slots-i.result c.send_message.new.slot c.loop-i.out.items c.send_message.new.out.items
          (omega (arith, c.loop-i-test.true, c.loop-i.invariant.long)) (omega (arith, c.loop-i-test.true, c.loop-i.invariant.long)) is (subst (λ (s : Slot). SaysOne p purpose c.args.step s c.send_message.new.slot c.loop-i.out.items c.send_message.new.out.items) (sym c.index-slots-i.is) (c.send_message.ensures.says p purpose))
          (c.loop-i.invariant.sent p purpose []) (c.loop-i.invariant.left p purpose);
      long = grind (arith, common_steps, c.loop-i.invariant.long);
      done = λ k d lt. grind (arith, common_steps, c.loop-i.invariant.done k d, c.loop-i.invariant.rest k d, c.send_message.ensures.said, c.index-slots-i.is);
      rest = λ k d le. grind (arith, common_steps, c.loop-i.invariant.rest k d);
      octets = c.send_message.ensures.octets c.loop-i.invariant.octets;
      few = λ all k d lt. grind (arith, common_steps, c.loop-i.invariant.few all k d, c.send_message.ensures.few);
    }

pub returns-clause-sent : goal.returns-clause-sent
returns-clause-sent c =
    λ p purpose image.
    c.loop-i.invariant.sent p purpose image
    ∙ ap (λ s. map (sent_for p image) (take 16 (messages_left p purpose c.args.step s))) (take_all c.loop-i.i c.args.slots.now (omega (arith, c.loop-i-test.false, c.loop-i.invariant.long)))
