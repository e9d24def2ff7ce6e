use Rattle.std.proofs.Common.{ap, ◌+◌, ◌∙◌}
use Rattle.mu_script.specs.View.{event}
use Rattle.mu_world.specs.Moved.{Held}
use Rattle.mu_world.proofs.Counted.{counted_once}
use Rattle.mu_world.proofs.world.World.line.Goals as goal

pub returns-in-Ok-clause-counted : goal.returns-in-Ok-clause-counted
returns-in-Ok-clause-counted c =
    let did = c.in-Ok.ensures.ok in
    counted_once c.self.inside.state (event c.args.happening.now) did.text c.line.new.self did.moved ∙ ap (λ (held : Held). held.world.events + 1) c.self.view_is
