use Rattle.std.proofs.Common.{sym, ap, ◌∙◌, arith}
use Rattle.mu_top.proofs.Places.{place_in, first_place, place_found}
use Rattle.mu_top.proofs.line.place_of.Goals as goal

pub returns-then-token-eq0 : goal.returns-then-token-eq0
returns-then-token-eq0 c = sym (ap (λ n. place_in 0 n c.args.line.now) c.if-token-eq0.true ∙ first_place 0 c.args.line.now)

pub returns-then-left-eq0 : goal.returns-then-left-eq0
returns-then-left-eq0 c = place_found c.args.line.now c.loop-i.i c.args.token c.loop-i.left (omega (arith, c.if-left-eq0.true, c.loop-i.invariant.some)) c.loop-i-test.true c.if-octet-eq32.true c.loop-i.invariant.place
