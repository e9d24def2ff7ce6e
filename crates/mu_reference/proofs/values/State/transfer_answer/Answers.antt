use Rattle.std.proofs.Common.{◌∙◌, sym, ap, subst}
use Rattle.mu_model_node.specs.BlobServer.{server_phase}
use Rattle.mu_model_node.specs.BlobTable.{transfer_status}
use Rattle.mu_reference.specs.View.{state_of}
use Rattle.mu_reference.specs.Fits.{IsShown}
use Rattle.mu_reference.specs.BlobRows.{held_by, chunks_by}
use Rattle.mu_reference.proofs.Shown.{phase_is_shown, look_is_shown}
use Rattle.mu_reference.proofs.values.State.transfer_answer.Goals as goal

pub transfer_reply-requires-clause-shown : goal.transfer_reply-requires-clause-shown
transfer_reply-requires-clause-shown c =
    let s = state_of c.args.self.now in
    let e = c.phase.ensures.phase (held_by s) (chunks_by s) ∙ ap server_phase c.look.ensures.server in
    look_is_shown c.phase.result (held_by s) (chunks_by s) (subst IsShown (sym e) (phase_is_shown s c.requires.sound (c.states_are_sound.ensures.phases s c.requires.sound)))

pub returns : goal.returns
returns c =
    let s = state_of c.args.self.now in
    let e = c.phase.ensures.phase (held_by s) (chunks_by s) ∙ ap server_phase c.look.ensures.server in
    c.transfer_reply.ensures (held_by s) (chunks_by s) (sym c.blocks_missing-missing.ensures.missing) ∙ ap (transfer_status c.args.status) e
