use Rattle.mu_rounds.specs.Told.{answer_of}
use Rattle.mu_rounds.proofs.Telling.{row_counts}
use Rattle.mu_rounds.proofs.told.count_row.Goals as goal

pub returns-then-is_present : goal.returns-then-is_present
returns-then-is_present c =
    λ count more.
    row_counts c.args.listener.now.sending c.args.listener.now.purpose (answer_of c.args.heard.now count more) c.args.slot.now c.fold_heard.new.slot _ _ c.is_present.ensures c.if-is_present.true
    (c.fold_heard.ensures count more)
