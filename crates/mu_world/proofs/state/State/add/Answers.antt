use Rattle.std.proofs.Common.{List, ℕ, ◌+◌, nat_eq, map, ap, ◌∙◌}
use Rattle.std.specs.Map.{lookup}
use Rattle.indexmap.proofs.CallerLemmas.{insert_entry-new}
use Rattle.mu_model_world.specs.World.{World, Member}
use Rattle.mu_model_world.specs.Outcomes.{with_member, counted}
use Rattle.mu_world.specs.View.{entry_of}
use Rattle.mu_world.proofs.Free.{free_at}
use Rattle.mu_world.proofs.state.State.add.Goals as goal

pub returns-clause-ok : goal.returns-clause-ok
returns-clause-ok c =
    let inside = c.self.inside in
    let absent = ap (λ (w : World). lookup (nat_eq c.args.address) w.members) c.self.view_is ∙ free_at c.args.self.now c.args.address c.requires.free in
    let entries = c.in_ok-insert.ensures.entries ∙ insert_entry-new nat_eq inside.members c.args.address c.args.member absent in
    ap (λ (ms : List (ℕ × Member)). record { members = ms; bag = inside.bag; log = map entry_of inside.log.items; events = inside.events + 1; begun = inside.begun }) entries
    ∙ ap (λ (w : World). with_member (counted w) c.args.address c.args.member) c.self.view_is
