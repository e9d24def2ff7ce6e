use Rattle.std.proofs.Common.{◌∙◌, sym, arith}
use Rattle.mu_world.proofs.Sent.{bag_on, text_on, bag_done, text_done}
use Rattle.mu_world.proofs.state.State.send_all.Goals as goal

pub loop-packet-preserved : goal.loop-packet-preserved
loop-packet-preserved c = record {
  bag = bag_on c.loop-packet.self c.send.new.self c.args.packets.now c.loop-packet.packet-index _ c.packet-item.result c.packet-item.is c.loop-packet-test.true c.in_ok-send.ensures.bag ∙ c.loop-packet.invariant.bag;
  printed = text_on c.loop-packet.self c.send.new.self c.loop-packet.lines c.send.new.lines c.args.packets.now c.loop-packet.packet-index _ c.packet-item.result c.packet-item.is c.loop-packet-test.true c.in_ok-send.ensures.bag c.in_ok-send.ensures.printed
      ∙ c.loop-packet.invariant.printed;
}

pub returns-clause-bag : goal.returns-clause-bag
returns-clause-bag c = sym (bag_done c.loop-packet.self c.args.packets.now c.loop-packet.packet-index (omega (arith, c.loop-packet-test.false))) ∙ c.loop-packet.invariant.bag

pub returns-clause-printed : goal.returns-clause-printed
returns-clause-printed c =
    sym (text_done c.loop-packet.self c.loop-packet.lines c.args.packets.now c.loop-packet.packet-index (omega (arith, c.loop-packet-test.false))) ∙ c.loop-packet.invariant.printed
