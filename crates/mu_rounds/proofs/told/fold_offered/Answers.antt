use Rattle.std.proofs.Common.{◌∙◌}
use Rattle.mu_rounds.specs.Told.{update_reply_of}
use Rattle.mu_rounds.proofs.Telling.{offered_counts}
use Rattle.mu_rounds.proofs.told.fold_offered.Goals as goal

pub returns-in-Update : goal.returns-in-Update
returns-in-Update c =
    λ count more.
    offered_counts c.args.listener.now.sending c.args.listener.now.purpose _ _ c.args.listener.now.own.items (update_reply_of c.args.answer.now count more) c.args.slot.now c.fold_row.new.slot c.in-Update.is c.requires.own
    (λ offered own. c.fold_row.ensures offered count more (c.as_slice.ensures.value ∙ own))
