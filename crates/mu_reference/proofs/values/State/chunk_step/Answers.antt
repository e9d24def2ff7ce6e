use Rattle.mu_reference.specs.View.{state_of}
use Rattle.mu_reference.proofs.Answered.{phase_sound}
use Rattle.mu_reference.proofs.values.State.chunk_step.Goals as goal

pub on_chunk_transfer-requires : goal.on_chunk_transfer-requires
on_chunk_transfer-requires c = phase_sound (state_of c.args.self.now) _ c.states_are_sound.ensures.phases c.requires c.blob_phase.ensures
