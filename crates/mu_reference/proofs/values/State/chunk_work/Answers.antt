use Rattle.std.proofs.Common.{sym, ap}
use Rattle.mu_model_node.specs.BlobTable.{Served}
use Rattle.mu_model_node.specs.NodeOutcome.{work_of}
use Rattle.mu_reference.specs.View.{state_of}
use Rattle.mu_reference.proofs.Received.{placed, received_work_is}
use Rattle.mu_reference.proofs.values.State.chunk_work.Goals as goal

pub received_work-requires : goal.received_work-requires
received_work-requires c =
    placed (state_of c.args.self.now) c.args.chunk c.in-Receive.field-0 c.chunks_are_of_the_job.ensures c.states_are_sound.ensures.phases c.requires c.in-Receive.ensures.within

pub returns-in-PassOver-clause-work : goal.returns-in-PassOver-clause-work
returns-in-PassOver-clause-work c = λ from. sym (ap (λ (o : Served). work_of o.change) (c.in-PassOver.ensures.stepped from))

pub returns-in-Hear-clause-work : goal.returns-in-Hear-clause-work
returns-in-Hear-clause-work c = λ from. sym (ap (λ (o : Served). work_of o.change) (c.in-Hear.ensures.stepped from))

pub returns-in-Receive-clause-work : goal.returns-in-Receive-clause-work
returns-in-Receive-clause-work c =
    received_work_is (state_of c.args.self.now) c.args.chunk c.args.octets.now c.in-Receive.field-0 c.received_work.result c.chunks_are_of_the_job.ensures c.in-Receive.ensures.within c.in-Receive.ensures.stepped c.received_work.ensures.work
