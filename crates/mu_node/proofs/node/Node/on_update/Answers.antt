use Rattle.std.proofs.Common.{◌≡◌, map, refl, ap, subst}
use Rattle.std.specs.Prelude.{IfOk}
use Rattle.mu_codec.specs.View.{packet_of}
use Rattle.mu_model_node.specs.declared.NodeConfig.{NodeConfig}
use Rattle.mu_model_node.specs.NodeMessages.{OfUpdate, reply_packet}
use Rattle.mu_model_node.specs.Events.{at_moment}
use Rattle.mu_model_node.specs.UpdateTable.{on_update}
use Rattle.mu_update_rows.specs.Messages.{update_request_of}
use Rattle.mu_blobsrv.specs.Views.{place_of}
use Rattle.mu_node.proofs.Told.{all_show, all_run}
use Rattle.mu_node.proofs.node.Node.on_update.Goals as goal

pub returns-clause-state : goal.returns-clause-state
returns-clause-state g c n h =
    let at = c.hand_moment.ensures.shows n h in
    let m = at_moment n c.args.now in
    all_show _ (on_update m c.args.from (update_request_of c.args.request)).next c.update_row.result (c.update_row.ensures.remembers m at)
    (c.states_are_sound.ensures.requests m c.args.from (OfUpdate (update_request_of c.args.request)) tt at.sound) (c.nodes_serve_by_their_blocks.ensures.requests m c.args.from (OfUpdate (update_request_of c.args.request)) at.linked)

pub returns-clause-runs : goal.returns-clause-runs
returns-clause-runs g c n h =
    let at = c.hand_moment.ensures.holds n h in
    let m = at_moment n c.args.now in
    let o = on_update m c.args.from (update_request_of c.args.request) in
    let sound = c.states_are_sound.ensures.requests m c.args.from (OfUpdate (update_request_of c.args.request)) tt at.shows.sound in
    all_run g.F.Flash.seen c.args.self.now c.hand_moment.new.self _ n m o c.update_row.result (ap place_of c.hand_moment.ensures.server) refl refl (c.update_row.ensures.runs m at sound.durable)
    (all_show _ o.next c.update_row.result (c.update_row.ensures.remembers m at.shows) sound (c.nodes_serve_by_their_blocks.ensures.requests m c.args.from (OfUpdate (update_request_of c.args.request)) at.shows.linked))

pub returns-clause-sent : goal.returns-clause-sent
returns-clause-sent g c n h =
    let m = at_moment n c.args.now in
    subst (λ (k : NodeConfig). IfOk c.update_row.result (λ _. map packet_of c.update_row.new.out.items ≡ map (reply_packet k.address) (on_update m c.args.from (update_request_of c.args.request)).replies)) c.hand_moment.ensures.config
    (c.update_row.ensures.sent m (c.hand_moment.ensures.shows n h))
