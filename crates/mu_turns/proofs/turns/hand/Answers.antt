use Rattle.std.proofs.Common.{◌≡◌, ◌∷◌, [], List, sym, subst, arith}
use Rattle.mu_codec.specs.View.{packet_of}
use Rattle.mu_outside.specs.Link.{found_of}
use Rattle.mu_turns.specs.Turns.{Event, Came, Cut, read}
use Rattle.mu_turns.specs.declared.stop.Stop.TheVariants.{Link, Member}
use Rattle.mu_turns.proofs.Turning.{cut_link, cut_member}
use Rattle.mu_turns.proofs.turns.hand.Goals as goal

pub returns-in-Err-clause-broke : goal.returns-in-Err-clause-broke
returns-in-Err-clause-broke g c =
    let came : Came (packet_of c.in-Ok.packet) c.args.now ∷ [] ≡ read c.args.now (found_of c.args.found.now) = grind (arith, c.in-Datagram.is, c.as_slice.ensures.value, c.in-Ok.ensures) in
    subst (λ (es : List Event). Cut g.M.Member.step g.M.Member.fails c.args.me c.args.member.now c.on_packet.new.self (g.L.Link.seen c.args.link.now) (g.L.Link.seen c.args.link.now) es (Member c.in-Err.fault)) came
    (cut_member g.M.Member.step g.M.Member.fails g.M.Member.ended _ _ _ _ _ _ c.in-Err.ensures.fails)

pub returns-in-Err-send_all-clause-broke : goal.returns-in-Err-send_all-clause-broke
returns-in-Err-send_all-clause-broke g c =
    let came : Came (packet_of c.in-Ok.packet) c.args.now ∷ [] ≡ read c.args.now (found_of c.args.found.now) = grind (arith, c.in-Datagram.is, c.as_slice.ensures.value, c.in-Ok.ensures) in
    subst (λ (es : List Event). Cut g.M.Member.step g.M.Member.fails c.args.me c.args.member.now c.on_packet.new.self (g.L.Link.seen c.args.link.now) (g.L.Link.seen c.send_all.new.link) es Link) came
    (cut_link g.M.Member.step g.M.Member.fails g.M.Member.ended _ _ _ _ _ _ _ c.in_default-on_packet.ensures.step c.in-Err-send_all.ensures.err)
