use Rattle.std.proofs.Common.{ap}
use Rattle.mu_model_node.specs.There.{there}
use Rattle.mu_reference.specs.View.{current_of, state_of}
use Rattle.mu_reference.proofs.Looked.{comes}
use Rattle.mu_reference.proofs.values.State.pull_step.Goals as goal

pub received-received-requires : goal.received-received-requires
received-received-requires c = (comes (state_of c.args.self.now) (current_of c.in-Some.current) c.states_are_sound.ensures.phases c.requires (ap (there current_of) c.in-Some.is)).1
