use Rattle.std.proofs.Common.{arith, ap, sym, ◌∙◌, length}
use Rattle.std.specs.Option.{option_map}
use Rattle.mu_model_node.specs.Events.{node_work}
use Rattle.mu_model_world.specs.World.{Member}
use Rattle.mu_reference_node.specs.Events.{event_of}
use Rattle.mu_world.specs.View.{tear_of}
use Rattle.mu_world.proofs.member.Member.operations_done.Goals as goal

pub returns-clause-done : goal.returns-clause-done
returns-clause-done c = record {
  tear = tear_of c.in-Some.tear;
  is = sym (ap (λ (m : Member). m.tear) c.self.view_is) ∙ ap (option_map tear_of) c.in-Some.is;
  within =
      let same = ap (λ (m : Member). length (node_work c.args.config.now m.state (event_of c.args.event) c.args.now)) c.self.view_is in
      omega (arith, c.if-branch.false, c.from.ensures, c.in_ok-operations.ensures.operations, same);
  one_of = c.operations_done.ensures;
}
