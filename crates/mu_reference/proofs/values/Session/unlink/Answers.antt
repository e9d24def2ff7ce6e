use Rattle.mu_model_node.specs.There.{there}
use Rattle.mu_reference.specs.View.{current_of}
use Rattle.mu_reference.proofs.values.Session.unlink.Goals as goal

pub returns : goal.returns
returns c = c.unlink.ensures (there current_of c.args.self.now.current)
