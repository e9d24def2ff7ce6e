use Rattle.std.proofs.Common.{arith}
use Rattle.mu_distmsg.proofs.Entries.{room}
use Rattle.mu_model_wire.specs.Distribution.{receiver_fields}
use Rattle.mu_distmsg.specs.View.{pair_shown}
use Rattle.mu_distmsg.proofs.writing.put_receivers.Goals as goal

pub put_u16-requires : goal.put_u16-requires
put_u16-requires c =
    let r = room receiver_fields pair_shown c.args.receivers.now c.loop-receiver.receiver-index (0, 0) c.args.out.now.items c.loop-receiver.out.items c.loop-receiver-test.true c.loop-receiver.invariant c.requires in
    omega arith

pub put_u8-requires : goal.put_u8-requires
put_u8-requires c =
    let r = room receiver_fields pair_shown c.args.receivers.now c.loop-receiver.receiver-index (0, 0) c.args.out.now.items c.loop-receiver.out.items c.loop-receiver-test.true c.loop-receiver.invariant c.requires in
    omega (arith, c.put_u16.ensures.len)
