use Rattle.std.proofs.Common.{sym, ℕ, arith, length-take, ◌∙◌}
use Rattle.mu_top.proofs.PayloadLines.{decoded}
use Rattle.mu_top.proofs.payload.octets_of.Goals as goal

pub prove-unreachable-requires : goal.prove-unreachable-requires
prove-unreachable-requires c =
    let ok = decoded c.args.text.now _ (omega (arith, length-take {A = ℕ}, c.fits-room, c.requires)) c.decode_to_slice.result c.decode_to_slice.new.out (sym c.bad_place.ensures ∙ c.in_default.is) c.decode_to_slice.ensures.value in
    absurd cc
