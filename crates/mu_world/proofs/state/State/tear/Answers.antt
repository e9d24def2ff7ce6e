use Rattle.std.proofs.Common.{List, ℕ, nat_eq, map, Some, ap, sym, ◌∙◌}
use Rattle.std.specs.Map.{lookup}
use Rattle.mu_model_world.specs.World.{World, Member}
use Rattle.mu_model_world.specs.Outcomes.{begun, with_changed}
use Rattle.mu_world.specs.View.{entry_of, tear_of}
use Rattle.mu_world.proofs.Events.{there, if_some_at, did_tear}
use Rattle.mu_world.proofs.state.State.tear.Goals as goal

pub returns-clause-ok : goal.returns-clause-ok
returns-clause-ok c =
    let here = there _ c.in_ok-arm.ensures.found in
    let old = here.one in
    let found = sym (ap (λ (w : World). lookup (nat_eq c.args.address) w.members) c.self.view_is) ∙ here.is in
    let armed = if_some_at _ old _ here.is c.in_ok-arm.ensures.ok in
    let inside = c.self.inside in
    let seen : List (ℕ × Member) → World = λ ms. record { members = ms; bag = inside.bag; log = map entry_of inside.log.items; events = inside.events; begun = inside.begun } in
    did_tear c.args.self.now c.args.address c.args.tear.operation c.args.tear.pattern old c.args.lines.now _ found
    (c.begin.ensures
    ∙ (ap (λ ms. begun (seen ms)) armed
    ∙ ap (λ (w : World). with_changed (begun w) c.args.address (record old { tear = Some (tear_of c.args.tear) })) c.self.view_is))
