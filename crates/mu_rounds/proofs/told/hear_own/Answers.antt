use Rattle.std.proofs.Common.{[]}
use Rattle.mu_model_client.specs.Told.{is_present, row_counted, place_told}
use Rattle.mu_rounds.specs.Told.{answer_of}
use Rattle.mu_rounds.proofs.Telling.{told_then, can_still}
use Rattle.mu_rounds.proofs.told.hear_own.Goals as goal

pub answer_at-requires-clause-can : goal.answer_at-requires-clause-can
answer_at-requires-clause-can c =
    can_still c.args.listener.now.sending c.args.listener.now.place c.args.listener.now.purpose (answer_of c.args.heard.now 0 []) (is_present c.args.listener.now.place) c.args.slot.now c.count_row.new.slot
    c.requires.can (c.count_row.ensures 0 [])

pub returns : goal.returns
returns c =
    λ count more.
    let l = c.args.listener.now in
    let answer = answer_of c.args.heard.now count more in
    told_then (λ r. row_counted l.sending answer r l.purpose (is_present l.place)) (λ r. place_told l.sending answer r l.place) c.args.slot.now c.count_row.new.slot c.answer_at.new.slot
    (c.count_row.ensures count more) (c.answer_at.ensures count more)
