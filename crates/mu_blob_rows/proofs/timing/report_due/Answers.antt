use Rattle.std.proofs.Common.{◌∙◌, ap, sym, take, List, Bool}
use Rattle.mu_model_wire.specs.Reports.{members}
use Rattle.mu_blob_rows.proofs.Pulled.{asks}
use Rattle.mu_blob_rows.proofs.timing.report_due.Goals as goal

pub returns-then-is_due : goal.returns-then-is_due
returns-then-is_due c = record {
  due = λ v block. asks v block c.args.session.now c.args.received.now c.args.now _ (sym c.is_due.ensures ∙ c.if-is_due.true) (c.asked.ensures ∙ ap (λ (x : List Bool). take 16 (members x)) c.missing.ensures);
}
