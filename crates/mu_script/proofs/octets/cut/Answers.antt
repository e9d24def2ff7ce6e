use Rattle.mu_script.proofs.Cuts.{pieces-first, pieces-one}
use Rattle.mu_script.proofs.octets.cut.Goals as goal

pub returns-in-Some-clause-pieces : goal.returns-in-Some-clause-pieces
returns-in-Some-clause-pieces c = pieces-first c.args.separator c.args.octets.now c.in-Some.place c.in-Some.ensures

pub returns-in-None-clause-pieces : goal.returns-in-None-clause-pieces
returns-in-None-clause-pieces c = pieces-one c.args.separator c.args.octets.now c.in-None.ensures
