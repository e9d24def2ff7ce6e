use Rattle.std.proofs.Common.{◌≡◌, ◌++◌, map, length, drop}
use Rattle.mu_codec.specs.View.{packet_of}
use Rattle.mu_model_world.specs.Outcomes.{with_packets, sent_texts}
use Rattle.mu_world.proofs.state.State.send_all.Given as goal

abbrev pub invariant-loop-packet : goal.invariant-loop-packet
invariant-loop-packet l = record {
  bag : with_packets l.self (map packet_of (drop l.packet-index l.packets)) ≡ with_packets l.fn.self (map packet_of l.packets);
  printed : l.lines ++ sent_texts (length l.self.bag) (map packet_of (drop l.packet-index l.packets)) ≡ l.fn.lines ++ sent_texts (length l.fn.self.bag) (map packet_of l.packets);
}
