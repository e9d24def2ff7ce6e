use Rattle.mu_model_node.specs.There.{there}
use Rattle.mu_reference.specs.View.{current_of}
use Rattle.mu_reference.proofs.values.Session.make_ready.Goals as goal

pub returns : goal.returns
returns c = c.make_ready.ensures (there current_of c.args.self.now.current)
