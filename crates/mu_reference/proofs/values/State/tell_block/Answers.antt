use Rattle.mu_reference.specs.View.{state_of}
use Rattle.mu_reference.proofs.Looked.{few_chunks}
use Rattle.mu_reference.proofs.values.State.tell_block.Goals as goal

pub missing-missing-requires : goal.missing-missing-requires
missing-missing-requires c = few_chunks (state_of c.args.self.now) c.states_are_sound.ensures.phases c.requires.sound
