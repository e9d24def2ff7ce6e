use Rattle.std.proofs.Common.{sym, subst}
use Rattle.mu_model_client.specs.Told.{row_told}
use Rattle.mu_told.specs.Told.{IsTold}
use Rattle.mu_rounds.specs.Told.{answer_of}
use Rattle.mu_rounds.specs.declared.told.Heard.{Heard}
use Rattle.mu_rounds.proofs.Telling.{blob_counts_nothing}
use Rattle.mu_rounds.proofs.told.fold_heard.Goals as goal

pub returns-in-Update : goal.returns-in-Update
returns-in-Update c =
    λ count more.
    subst (λ (h : Heard). IsTold (λ r. row_told c.args.listener.now.sending (answer_of h count more) r c.args.listener.now.purpose) c.args.slot.now c.fold_offered.new.slot) (sym c.in-Update.is)
    (c.fold_offered.ensures count more)

pub returns-in-Blob : goal.returns-in-Blob
returns-in-Blob c = λ count more. blob_counts_nothing c.args.listener.now.sending c.args.listener.now.purpose c.args.heard.now _ count more c.args.slot.now c.in-Blob.is
