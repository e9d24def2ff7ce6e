use Rattle.std.proofs.Common.{◌≡◌, ◌++◌, List, ℕ, nat_eq, length, cond, [], map, true, ap, sym, ◌∙◌, slice_get, subst}
use Rattle.std.specs.Map.{lookup, set_value}
use Rattle.mu_model_node.specs.Events.{PacketComes}
use Rattle.mu_model_node.specs.NodeState.{is_addressee}
use Rattle.mu_model_script.specs.Texts.{unread_text}
use Rattle.mu_codec.specs.View.{packet_of}
use Rattle.mu_model_world.specs.World.{World, Member, config_of, logged_at}
use Rattle.mu_model_world.specs.Outcomes.{begun, sent_texts, with_packets}
use Rattle.mu_reference_node.specs.Logging.{what_of}
use Rattle.mu_world.specs.Outcome.{with_entries}
use Rattle.mu_world.specs.View.{entry_of}
use Rattle.mu_world.specs.Member.{CameOf, RanWhole, WasTorn}
use Rattle.mu_world.proofs.Events.{if_some_at, on_ok_both, did_deliver, did_deliver_torn}
use Rattle.mu_world.proofs.state.State.deliver.Goals as goal

pub returns-in_ok-print_unread-in-Whole-clause-ok : goal.returns-in_ok-print_unread-in-Whole-clause-ok
returns-in_ok-print_unread-in-Whole-clause-ok c =
    let w = c.args.self.now in
    let old = c.in-Some.member.now in
    let p = packet_of c.in-Some-get.packet in
    let at = sym c.in-Some.ensures.value in
    let found = sym (ap (λ (w : World). lookup (nat_eq c.args.address) w.members) c.self.view_is) ∙ at in
    let in_bag = sym (ap (λ (w : World). slice_get w.bag c.args.number) c.self.view_is) ∙ sym c.in-Some-get.ensures in
    let addressed : is_addressee (config_of c.args.address old) p ≡ true = ap (λ k. is_addressee k p) (sym c.config-config.ensures) ∙ (sym c.is_addressee.ensures ∙ c.if-not-is_addressee.false) in
    let handed = if_some_at _ old _ at c.in_ok-came.ensures.ok in
    let sent = map packet_of c.hand.new.out.items in
    let inside = c.self.inside in
    let seen : List (ℕ × Member) → World = λ ms. record { members = ms; bag = inside.bag; log = map entry_of inside.log.items; events = inside.events; begun = inside.begun } in
    let handled = c.in-Whole.handled in
    let entries = map what_of c.in-Whole.entries.items in
    let came = subst (λ x. CameOf c.args.address old handed.new (PacketComes p) c.moment-moment.result sent x) c.in-Whole.is handed.of in
    let ran = subst (λ now. RanWhole c.args.address old handed.new (PacketComes p) now sent handled entries) c.moment-moment.ensures came in
    let unread = cond handled [] (unread_text c.args.number c.args.address) in
    on_ok_both c.ran.result _ _ _ (λ world printed.
    did_deliver w c.args.number c.args.address p old handed.new sent handled entries c.args.lines.now _ _ found in_bag addressed ran
    (world
    ∙ (ap (λ (s : World). with_packets (with_entries s c.args.address entries) sent) c.begin.ensures
    ∙ (ap (λ ms. with_packets (with_entries (begun (seen ms)) c.args.address entries) sent) handed.changed
    ∙ ap (λ (w : World). with_packets (record (begun w) { members = set_value (nat_eq c.args.address) w.members handed.new; log = w.log ++ logged_at c.args.address entries }) sent) c.self.view_is)))
    (printed
    ∙ (ap (λ (s : World). c.print_unread.new.lines ++ sent_texts (length s.bag) sent) c.begin.ensures
    ∙ (ap (λ (t : List ℕ). t ++ sent_texts (length inside.bag) sent) c.in_ok-print_unread-in-Whole.ensures
    ∙ ap (λ (w : World). (c.args.lines.now ++ unread) ++ sent_texts (length w.bag) sent) c.self.view_is))))
    c.ran.ensures.world c.ran.ensures.printed

pub returns-in-Torn-clause-ok : goal.returns-in-Torn-clause-ok
returns-in-Torn-clause-ok c =
    let w = c.args.self.now in
    let old = c.in-Some.member.now in
    let p = packet_of c.in-Some-get.packet in
    let at = sym c.in-Some.ensures.value in
    let found = sym (ap (λ (w : World). lookup (nat_eq c.args.address) w.members) c.self.view_is) ∙ at in
    let in_bag = sym (ap (λ (w : World). slice_get w.bag c.args.number) c.self.view_is) ∙ sym c.in-Some-get.ensures in
    let addressed : is_addressee (config_of c.args.address old) p ≡ true = ap (λ k. is_addressee k p) (sym c.config-config.ensures) ∙ (sym c.is_addressee.ensures ∙ c.if-not-is_addressee.false) in
    let handed = if_some_at _ old _ at c.in_ok-came.ensures.ok in
    let sent = map packet_of c.hand.new.out.items in
    let inside = c.self.inside in
    let seen : List (ℕ × Member) → World = λ ms. record { members = ms; bag = inside.bag; log = map entry_of inside.log.items; events = inside.events; begun = inside.begun } in
    let boot = c.in-Torn.boot in
    let entries = map what_of boot.entries.items in
    let came = subst (λ x. CameOf c.args.address old handed.new (PacketComes p) c.moment-moment.result sent x) c.in-Torn.is handed.of in
    let torn = subst (λ now. WasTorn c.args.address old handed.new (PacketComes p) now sent boot) c.moment-moment.ensures came in
    on_ok_both c.booted.result _ _ _ (λ world printed.
    did_deliver_torn w c.args.number c.args.address p old handed.new sent boot c.args.lines.now _ _ found in_bag addressed torn
    (world
    ∙ (ap (λ (s : World). with_entries s c.args.address entries) c.begin.ensures
    ∙ (ap (λ ms. with_entries (begun (seen ms)) c.args.address entries) handed.changed
    ∙ ap (λ (w : World). record (begun w) { members = set_value (nat_eq c.args.address) w.members handed.new; log = w.log ++ logged_at c.args.address entries }) c.self.view_is)))
    printed)
    c.booted.ensures.world c.booted.ensures.printed
