use Rattle.std.proofs.Common.{◌∙◌, ◌≤◌, ℕ, [], ◌∷◌, ◌++◌, map, sym, ap, subst}
use Rattle.mu_model_node.specs.NodeMessages.{ByUpdate, reply_packet}
use Rattle.mu_codec.specs.View.{packet_of}
use Rattle.mu_model_node.specs.UpdateTable.{update_status}
use Rattle.mu_update_rows.specs.Rows.{update_stepped}
use Rattle.mu_node.proofs.Stepped.{known_status, step_replies}
use Rattle.mu_node.proofs.node.Node.answer_step.Goals as goal

pub update_answer-answer-requires : goal.update_answer-answer-requires
update_answer-answer-requires g c = subst (λ (k : ℕ). k ≤ 7) (sym c.status_of.ensures) (known_status c.args.step c.requires.known)

pub returns-in-Ok-clause-sent : goal.returns-in-Ok-clause-sent
returns-in-Ok-clause-sent g c n h =
    let s = (update_stepped n c.args.from c.args.step).next in
    let answer = c.update_answer-answer.ensures s (c.look.ensures.shown s (c.in-Ok.ensures.remembers c.args.from n h)) ∙ ap (λ (k : ℕ). update_status k s) c.status_of.ensures in
    c.send.ensures
    ∙ (λ i. map packet_of (c.requires.empty i) ++ reply_packet (c.in-Ok.ensures.config i).address (c.args.from, ByUpdate (answer i)) ∷ [])
    ∙ ap (map (reply_packet c.args.self.now.config.address)) (sym (step_replies n c.args.from c.args.step))
