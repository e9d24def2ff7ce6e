use Rattle.std.proofs.Common.{◌≡◌, length, rules}
use Rattle.mu_updsrv.proofs.Openings.{rest_read, within_read}
use Rattle.mu_updsrv.proofs.opening.FirstOctetsSource.read.Goals as goal

pub invariant_of-self-clause-within : goal.invariant_of-self-clause-within
invariant_of-self-clause-within g c =
    within_read c.read_most.result c.args.self.now.counted.given c.read_most.new.self.given c.args.self.now.most c.args.self.now.within c.read_most.ensures.most c.read_most.ensures.given c.read_most.ensures.kept

pub invariant_of-self-clause-rest : goal.invariant_of-self-clause-rest
invariant_of-self-clause-rest g c =
    let size : length c.read_most.new.out ≡ length c.args.out.now = search rules in
    rest_read c.read_most.result c.args.self.now.counted.given c.read_most.new.self.given g.N.Opening.start (g.S.Source.left c.args.self.now.counted.source) (g.S.Source.left c.read_most.new.self.source)
    c.args.out.now c.read_most.new.out size c.args.self.now.rest c.read_most.ensures.within c.read_most.ensures.through c.read_most.ensures.given c.read_most.ensures.same c.read_most.ensures.kept
