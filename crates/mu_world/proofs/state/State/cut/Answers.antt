use Rattle.std.proofs.Common.{◌++◌, List, ℕ, nat_eq, map, ap, sym, ◌∙◌}
use Rattle.std.specs.Map.{lookup, set_value}
use Rattle.mu_model_world.specs.World.{World, Member, logged_at}
use Rattle.mu_model_world.specs.Outcomes.{begun}
use Rattle.mu_reference_node.specs.Logging.{what_of}
use Rattle.mu_world.specs.Outcome.{with_entries}
use Rattle.mu_world.specs.View.{entry_of}
use Rattle.mu_world.proofs.Events.{there, if_some_at, on_ok_both, did_cut}
use Rattle.mu_world.proofs.state.State.cut.Goals as goal

pub returns-clause-ok : goal.returns-clause-ok
returns-clause-ok c =
    let here = there _ c.in_ok-boot.ensures.found in
    let old = here.one in
    let found = sym (ap (λ (w : World). lookup (nat_eq c.args.address) w.members) c.self.view_is) ∙ here.is in
    let cut = if_some_at _ old _ here.is c.in_ok-boot.ensures.ok in
    let boot = c.in_ok-boot.boot in
    let entries = map what_of boot.entries.items in
    let inside = c.self.inside in
    let seen : List (ℕ × Member) → World = λ ms. record { members = ms; bag = inside.bag; log = map entry_of inside.log.items; events = inside.events; begun = inside.begun } in
    on_ok_both c.booted.result _ _ _ (λ world printed.
    did_cut c.args.self.now c.args.address old cut.new boot c.args.lines.now _ _ found cut.cut cut.of
    (world
    ∙ (ap (λ (s : World). with_entries s c.args.address entries) c.begin.ensures
    ∙ (ap (λ ms. with_entries (begun (seen ms)) c.args.address entries) cut.changed
    ∙ ap (λ (w : World). record (begun w) { members = set_value (nat_eq c.args.address) w.members cut.new; log = w.log ++ logged_at c.args.address entries }) c.self.view_is)))
    printed)
    c.booted.ensures.world c.booted.ensures.printed
