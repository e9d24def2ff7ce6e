use Rattle.std.proofs.Common.{◌≤◌, map, take, []}
use Rattle.mu_codec.specs.View.{packet_of}
use Rattle.mu_turns.specs.Turns.{Over}
use Rattle.mu_turns.proofs.sending.send_all.Given as goal

abbrev pub invariant-loop-packet : goal.invariant-loop-packet
invariant-loop-packet g l = record {
  over : Over l.fn.me (g.L.Link.seen l.fn.link) (g.L.Link.seen l.link) [] (take l.packet-index (map packet_of l.out.items));
  later : (g.L.Link.seen l.fn.link).faults ≤ (g.L.Link.seen l.link).faults;
}
