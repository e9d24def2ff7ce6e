use Rattle.std.proofs.Common.{◌≡◌, ◌++◌, List, ℕ, nat_eq, length, map, ap, ◌∙◌, subst, max}
use Rattle.std.specs.Map.{lookup, set_value}
use Rattle.mu_model_node.specs.Events.{TimeComes}
use Rattle.mu_codec.specs.View.{packet_of}
use Rattle.mu_model_world.specs.World.{World, Member, logged_at}
use Rattle.mu_model_world.specs.Outcomes.{begun, sent_texts, with_packets}
use Rattle.mu_reference_node.specs.Logging.{what_of}
use Rattle.mu_world.specs.Outcome.{with_entries}
use Rattle.mu_world.specs.View.{entry_of}
use Rattle.mu_world.specs.Member.{CameOf}
use Rattle.mu_world.proofs.Events.{if_some_at, on_ok_both, did_time, did_time_torn}
use Rattle.mu_world.proofs.state.State.time.Goals as goal

pub returns-in-Whole-clause-ok : goal.returns-in-Whole-clause-ok
returns-in-Whole-clause-ok c =
    let w = c.args.self.now in
    let old = c.in_ok-member.field-0.now in
    let found = c.in_ok-member.ensures.ok in
    let at = ap (λ (w : World). lookup (nat_eq c.args.address) w.members) c.self.view_is ∙ found in
    let moment : c.max-moment.result ≡ max old.moment c.args.ms = c.max-moment.ensures ∙ ap (λ m. max m c.args.ms) c.moment.ensures in
    let handed = if_some_at _ old _ at c.in_ok-came.ensures.ok in
    let sent = map packet_of c.hand.new.out.items in
    let inside = c.self.inside in
    let seen : List (ℕ × Member) → World = λ ms. record { members = ms; bag = inside.bag; log = map entry_of inside.log.items; events = inside.events; begun = inside.begun } in
    let handled = c.in-Whole.handled in
    let entries = map what_of c.in-Whole.entries.items in
    let ran = subst (λ x. CameOf c.args.address old handed.new TimeComes c.max-moment.result sent x) c.in-Whole.is handed.of in
    on_ok_both c.ran.result _ _ _ (λ world printed.
    did_time w c.args.address c.args.ms c.max-moment.result old handed.new sent handled entries c.args.lines.now _ _ found moment ran
    (world
    ∙ (ap (λ (s : World). with_packets (with_entries s c.args.address entries) sent) c.begin.ensures
    ∙ (ap (λ ms. with_packets (with_entries (begun (seen ms)) c.args.address entries) sent) handed.changed
    ∙ ap (λ (w : World). with_packets (record (begun w) { members = set_value (nat_eq c.args.address) w.members handed.new; log = w.log ++ logged_at c.args.address entries }) sent) c.self.view_is)))
    (printed
    ∙ (ap (λ (s : World). c.args.lines.now ++ sent_texts (length s.bag) sent) c.begin.ensures
    ∙ ap (λ (w : World). c.args.lines.now ++ sent_texts (length w.bag) sent) c.self.view_is)))
    c.ran.ensures.world c.ran.ensures.printed

pub returns-in-Torn-clause-ok : goal.returns-in-Torn-clause-ok
returns-in-Torn-clause-ok c =
    let w = c.args.self.now in
    let old = c.in_ok-member.field-0.now in
    let found = c.in_ok-member.ensures.ok in
    let at = ap (λ (w : World). lookup (nat_eq c.args.address) w.members) c.self.view_is ∙ found in
    let moment : c.max-moment.result ≡ max old.moment c.args.ms = c.max-moment.ensures ∙ ap (λ m. max m c.args.ms) c.moment.ensures in
    let handed = if_some_at _ old _ at c.in_ok-came.ensures.ok in
    let sent = map packet_of c.hand.new.out.items in
    let inside = c.self.inside in
    let seen : List (ℕ × Member) → World = λ ms. record { members = ms; bag = inside.bag; log = map entry_of inside.log.items; events = inside.events; begun = inside.begun } in
    let boot = c.in-Torn.boot in
    let entries = map what_of boot.entries.items in
    let torn = subst (λ x. CameOf c.args.address old handed.new TimeComes c.max-moment.result sent x) c.in-Torn.is handed.of in
    on_ok_both c.booted.result _ _ _ (λ world printed.
    did_time_torn w c.args.address c.args.ms c.max-moment.result old handed.new sent boot c.args.lines.now _ _ found moment torn
    (world
    ∙ (ap (λ (s : World). with_entries s c.args.address entries) c.begin.ensures
    ∙ (ap (λ ms. with_entries (begun (seen ms)) c.args.address entries) handed.changed
    ∙ ap (λ (w : World). record (begun w) { members = set_value (nat_eq c.args.address) w.members handed.new; log = w.log ++ logged_at c.args.address entries }) c.self.view_is)))
    printed)
    c.booted.ensures.world c.booted.ensures.printed
