use Rattle.std.proofs.Common.{refl, ◌∙◌}
use Rattle.mu_model_node.specs.BlobServer.{heard_at}
use Rattle.mu_reference.specs.View.{state_of, session_of}
use Rattle.mu_reference.proofs.Received.{placed, received_here, served_same, served_as}
use Rattle.mu_reference.proofs.values.State.on_chunk_transfer.Goals as goal

pub receive-requires : goal.receive-requires
receive-requires c =
    placed (state_of c.args.self.now) c.args.chunk c.in-Receive.parameters c.chunks_are_of_the_job.ensures c.states_are_sound.ensures.phases c.requires c.in-Receive.ensures.within

pub returns-in-PassOver : goal.returns-in-PassOver
returns-in-PassOver c = served_same (state_of c.args.self.now) (state_of c.args.self.now) (session_of c.args.self.now.session) _ _ (c.in-PassOver.ensures.stepped c.args.from) refl c.nothing.ensures

pub returns-in-Hear : goal.returns-in-Hear
returns-in-Hear c = served_same (state_of c.args.self.now) (state_of (record (c.args.self.now) { session = record (c.args.self.now.session) { rest = record (c.args.self.now.session.rest) { heard = c.args.self.now.moment } } })) (heard_at c.args.self.now.moment (session_of c.args.self.now.session)) _ _ (c.in-Hear.ensures.stepped c.args.from) refl c.nothing-in-Hear.ensures

pub returns-in-Receive : goal.returns-in-Receive
returns-in-Receive c =
    served_as (state_of c.args.self.now) _ _ _ _ (c.in-Receive.ensures.stepped c.args.from ∙ received_here (state_of c.args.self.now) c.args.chunk c.args.octets.now c.in-Receive.parameters c.chunks_are_of_the_job.ensures c.in-Receive.ensures.within) c.receive.ensures
