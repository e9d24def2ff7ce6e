use Rattle.mu_model_node.specs.BlobMessages.{TransferCancel}
use Rattle.mu_reference.specs.View.{state_of}
use Rattle.mu_reference.proofs.Answered.{sound_after, done_so}
use Rattle.mu_reference.proofs.values.State.on_transfer_cancel.Goals as goal

pub transfer_answer-reply-requires-clause-sound : goal.transfer_answer-reply-requires-clause-sound
transfer_answer-reply-requires-clause-sound c =
    sound_after (state_of c.args.self.now) (state_of c.apply.new.self) c.args.from (TransferCancel c.args.id) _ c.states_are_sound.ensures.requests tt c.requires (c.cancel_told-told.ensures.told c.args.from) c.in_ok-work.ensures.0

pub returns : goal.returns
returns c =
    done_so (state_of c.args.self.now) (state_of c.apply.new.self) c.args.from (TransferCancel c.args.id) (record { mode = 1; size = 1; log = 12; mtu = 20 }) c.cancel_told-told.result _ _ c.told_phase.ensures (c.cancel_told-told.ensures.told c.args.from) c.in_ok-work.ensures.0 c.in_ok-work.ensures.1 c.in_ok-work.ensures.2 c.transfer_answer-reply.ensures
