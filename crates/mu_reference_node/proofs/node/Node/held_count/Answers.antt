use Rattle.std.proofs.Common.{◌≤◌, ap, arith, ◌∙◌}
use Rattle.mu_model_node.specs.Slots.{held_count}
use Rattle.mu_reference.specs.View.{job_of, state_of}
use Rattle.mu_model_node.specs.There.{there}
use Rattle.mu_reference_node.proofs.Held.{few_held}
use Rattle.mu_reference_node.proofs.node.Node.held_count.Goals as goal

pub overflow_cast-result : goal.overflow_cast-result
overflow_cast-result c =
    let few : held_count c.in-Some.job.held ≤ 256 = few_held (state_of c.self.inside.state) (job_of c.in-Some.job) c.self.invariant (ap (there job_of) c.in-Some.is) in
    omega (arith, few, c.held.ensures)
