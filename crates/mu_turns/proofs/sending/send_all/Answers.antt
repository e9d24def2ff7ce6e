use Rattle.std.proofs.Common.{◌≡◌, ◌<◌, arith, map, get_or, length, sym, ◌∙◌, ap, subst}
use Rattle.std.proofs.lemmas.List.{length-map}
use Rattle.std.proofs.Math.ListN.{get_or-map}
use Rattle.mu_codec.specs.View.{packet_of}
use Rattle.mu_access.specs.Datagram.{CanTravel}
use Rattle.mu_turns.proofs.Turning.{all_at, cut_all, sent_more}
use Rattle.mu_turns.proofs.sending.send_all.Goals as goal

pub send_one-requires : goal.send_one-requires
send_one-requires g c =
    let is : c.packet-item.result ≡ get_or c.args.out.now.items c.loop-packet.packet-index c.packet-item.result = rw c.as_slice-packet-items.ensures.value at c.packet-item.is in
    let lt : c.loop-packet.packet-index < length c.args.out.now.items = omega (arith, c.loop-packet-test.true, ap length c.as_slice-packet-items.ensures.value) in
    subst (λ p. CanTravel (packet_of p)) (sym is) (all_at packet_of CanTravel c.args.out.now.items c.loop-packet.packet-index c.packet-item.result lt c.requires)

pub returns-in-Err-clause-err : goal.returns-in-Err-clause-err
returns-in-Err-clause-err g c = cut_all _ _ _ _ (map packet_of c.args.out.now.items) c.loop-packet.packet-index c.loop-packet.invariant.over c.in-Err.ensures.err

pub loop-packet-preserved : goal.loop-packet-preserved
loop-packet-preserved g c =
    let i = c.loop-packet.packet-index in
    let is : c.packet-item.result ≡ get_or c.args.out.now.items i c.packet-item.result = rw c.as_slice-packet-items.ensures.value at c.packet-item.is in
    let lt : i < length (map packet_of c.args.out.now.items) = omega (arith, c.loop-packet-test.true, ap length c.as_slice-packet-items.ensures.value, length-map c.args.out.now.items packet_of) in
    record {
      over = sent_more _ _ _ _ (map packet_of c.args.out.now.items) i (packet_of c.packet-item.result) lt (ap packet_of is ∙ sym (get_or-map packet_of c.args.out.now.items i c.packet-item.result)) c.loop-packet.invariant.over c.in_default.ensures.ok;
      later = omega (arith, c.loop-packet.invariant.later, c.send_one.ensures.cause.later);
    }
