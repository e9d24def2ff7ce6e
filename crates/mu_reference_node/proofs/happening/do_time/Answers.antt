use Rattle.mu_reference.specs.View.{state_of}
use Rattle.mu_reference_node.proofs.Ran.{time_sound}
use Rattle.mu_reference_node.proofs.happening.do_time.Goals as goal

pub returns-clause-sound : goal.returns-clause-sound
returns-clause-sound c = time_sound (state_of c.args.state.now) (state_of c.pass_time.new.self) c.states_are_sound.ensures.time c.requires.sound c.in_ok-done.ensures.0
