use Rattle.std.proofs.Common.{inl, inr, sym}
use Rattle.mu_script.proofs.Cuts.{octets_of-outside}
use Rattle.mu_script.proofs.octets.octets.Goals as goal

pub returns-then-count-eq0 : goal.returns-then-count-eq0
returns-then-count-eq0 g c = sym (octets_of-outside g.row.N c.args.text.now (inl c.if-count-eq0.true))

pub returns-then-count : goal.returns-then-count
returns-then-count g c = sym (octets_of-outside g.row.N c.args.text.now (inr c.if-count.true))
