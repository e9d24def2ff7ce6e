use Rattle.mu_model_node.specs.There.{there}
use Rattle.mu_reference.specs.View.{current_of}
use Rattle.mu_reference.proofs.values.Session.change.Goals as goal

pub returns-in_ok-open_block-in-Opens-clause-ok : goal.returns-in_ok-open_block-in-Opens-clause-ok
returns-in_ok-open_block-in-Opens-clause-ok c = rw (c.in_ok-open_block-in-Opens.ensures, c.in-Opens.is) (c.change-in-Opens.ensures (there current_of c.args.self.now.current))
